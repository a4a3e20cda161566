-- Laws of cuts: a key is in the same spans as the first cut at or above it; and the cuts of one record after another.
use Prim.Native.Nat.{◌*◌, ◌+◌, ◌-◌, ◌<◌, ◌≤◌, ℕ}
use mathlib.Core.Bool.{Bool, ◌&&◌, cond, false, true}
use mathlib.Core.List.{List, [], ◌++◌, ◌∷◌}
use mathlib.Core.Logic.{⊎_elim}
use mathlib.Core.Path.{◌∙◌, ◌≡◌, refl}
use lib.Dec.{eqb, ltb}
use lib.ListN.{get_or, length, take}
use native.Mathlib.Omega.{arith}
use borrow.Author.Tests.{eqb-false, eqb-true, ne_eqb}
use Rattle.keys.proofs.Adding.{gathered_none, gathered_two}
use Rattle.keys.proofs.Order.{same_truth}
use Rattle.keys.proofs.Ranking.{nearest}
use Rattle.keys.specs.Keys.{Gathered, Holds, Ranked}
use Rattle.meaning.specs.Intervals.{is_within}
use Rattle.meaning.specs.Lists.{◌∈◌, here, there}
use Rattle.meaning.specs.Policy.{kind_of}
use Rattle.meaning.specs.Splitting.{Sorted}
use Rattle.spans.specs.Cuts.{AllCut, cuts_at, high_key, low_key}
use Rattle.theory.proofs.Links.{tests}
use Rattle.theory.proofs.Points.{inserts_here, inserts_sorted}
use Rattle.theory.proofs.Rules.{any_left, any_right, order}

-- ---- which spans hold a key

module _ {e : List ℕ} {n key r : ℕ} (low high : ℕ) (s : Sorted (take n e)) (b : n ≤ length e) (l : low - 1 ∈ take n e) (h : high ∈ take n e) (k : Ranked e n key r) where
  pub cut_within : ltb r n && is_within low high (get_or e r 0) ≡ is_within low high key
  cut_within = same_truth (ltb r n && is_within low high (get_or e r 0)) (is_within low high key) into out
    where
      into : ltb r n && is_within low high (get_or e r 0) ≡ true → is_within low high key ≡ true
      into t =
          let u = simp tests at t in
          let a = k.at u.0 in
          let c = u.1 in
          simp tests (⊎_elim (λ z. absurd (let q = nearest s b k l (omega arith) in omega (arith, q.1, c.0))) (λ z. z) (order key low), omega (arith, c.1))

      out : is_within low high key ≡ true → ltb r n && is_within low high (get_or e r 0) ≡ true
      out t =
          let u = simp tests at t in
          let q = nearest s b k h u.1 in
          let a = k.at q.0 in
          simp tests (q.0, (omega (arith, u.0), q.1))

-- ---- one record's cuts

module _ (p : List ℕ) (k : ℕ) {kind : ℕ} (ek : kind ≡ kind_of p k) where
  pub cuts_none : {n : ℕ} {e : List ℕ} → (kind ≡ 4 → ⊥) → Gathered (cuts_at p k) n e e n
  cuts_none {n} {e} h = rw (← ek, ne_eqb kind 4 h) (gathered_none n e)

  pub cuts_two : {a b c n m r : ℕ} {e e' e'' : List ℕ} → kind ≡ 4 → a ≡ low_key p k → b ≡ a - 1 → c ≡ high_key p k → Gathered (b ∷ []) n e e' m →
      Gathered (c ∷ []) m e' e'' r → Gathered (cuts_at p k) n e e'' r
  cuts_two h ea eb ec x y = rw (← ek, h) (gathered_two (eb ∙ rw ea) ec x y)

-- ---- one record after another

-- the cuts of the records after the first up to k
pub record Cutting (p : List ℕ) (first k : ℕ) (e : List ℕ) (n : ℕ) : Type 0 where
  pub order : first ≤ k
  pub few : n ≤ 2 * (k - first)
  pub keys : List ℕ
  pub holds : Holds keys n e
  pub low : (j : ℕ) → first < j → j ≤ k → kind_of p j ≡ 4 → low_key p j - 1 ∈ keys
  pub high : (j : ℕ) → first < j → j ≤ k → kind_of p j ≡ 4 → high_key p j ∈ keys

module _ {p : List ℕ} {first : ℕ} where
  pub cutting_starts : {e : List ℕ} → Cutting p first first e 0
  cutting_starts = record {
    order = omega arith;
    few = omega arith;
    keys = [];
    holds = refl;
    low = λ j a b. absurd (omega arith);
    high = λ j a b. absurd (omega arith);
  }

  module _ {k n : ℕ} {e : List ℕ} (t : Cutting p first k e n) where
    pub cutting_ends : {last : ℕ} → k ≡ last → AllCut p first last e n
    cutting_ends z = rw (← z) (record {
      few = t.few;
      rising = rw t.holds (inserts_sorted t.keys [] tt);
      low = λ j a b h. rw t.holds (inserts_here t.keys [] (t.low j a b h));
      high = λ j a b h. rw t.holds (inserts_here t.keys [] (t.high j a b h));
    })

    pub cutting_on : {e' : List ℕ} {r : ℕ} → Gathered (cuts_at p (k + 1)) n e e' r → Cutting p first (k + 1) e' r
    cutting_on {r = r} g = record {
      order = let o = t.order in omega arith;
      few = let o = t.order in let f = t.few in let l = g.long in omega (arith, two (eqb (kind_of p (k + 1)) 4));
      keys = t.keys ++ cuts_at p (k + 1);
      holds = g.keys t.keys t.holds;
      low = λ j a b h. go (λ j. low_key p j - 1) j (λ l. t.low j a l h) b (λ e. let q : kind_of p (k + 1) ≡ 4 = rw e at h in rw q (here refl)) (eqb j (k + 1)) refl;
      high = λ j a b h. go (high_key p) j (λ l. t.high j a l h) b (λ e. let q : kind_of p (k + 1) ≡ 4 = rw e at h in rw q (there (here refl))) (eqb j (k + 1)) refl;
    }
      where
        two : (b : Bool) → length (cond b ((low_key p (k + 1) - 1) ∷ (high_key p (k + 1) ∷ [])) []) ≤ 2
        two true = omega arith
        two false = omega arith

        go : (f : ℕ → ℕ) (j : ℕ) → (j ≤ k → f j ∈ t.keys) → j ≤ k + 1 → (j ≡ k + 1 → f (k + 1) ∈ cuts_at p (k + 1)) → (b : Bool) → eqb j (k + 1) ≡ b →
            f j ∈ t.keys ++ cuts_at p (k + 1)
        go f j old l new true d = let z = eqb-true j (k + 1) d in rw z (any_right t.keys (new z))
        go f j old l new false d = let z = eqb-false j (k + 1) d in any_left (cuts_at p (k + 1)) (old (omega arith))
