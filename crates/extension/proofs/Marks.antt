-- Laws of the records that are put into the individuals' sets first: those of classes, one individual after another.
use Prim.Native.Nat.{◌*◌, ◌+◌, ◌-◌, ◌<◌, ◌≤◌, suc, ℕ}
use mathlib.Core.Bool.{Bool, ◌&&◌, ◌||◌, and-false, cond, false, or-false, true}
use mathlib.Core.List.{List, [], ◌∷◌}
use mathlib.Core.Path.{◌∙◌, ◌≡◌, refl, subst, sym}
use lib.Dec.{T, eqb, eqb_refl, eqb→eq}
use lib.ListN.{length}
use native.Mathlib.Omega.{arith}
use borrow.Author.Tests.{eq-eqb, eqb-false, eqb-true, le-leb, lt-ltb, ne_eqb}
use Rattle.extension.specs.Sets.{ClassMarked, MarkedTo, MembersMarked, Sized, early, in_class, marked, marked_member}
use Rattle.frames.proofs.Frames.{only_none, only_span}
use Rattle.frames.specs.Frames.{Cleared, Only, Span}
use Rattle.meaning.specs.Limits.{most_individuals, most_records}
use Rattle.meaning.specs.Lists.{any, counting}
use Rattle.meaning.specs.Model.{individual_count}
use Rattle.meaning.specs.Policy.{kind_of, name_of}
use Rattle.meaning.specs.Records.{Name, last_of}
use Rattle.model.specs.Chain.{Readable}
use Rattle.satisfaction.proofs.Rows.{none_in}
use Rattle.satisfaction.specs.Classes.{Interpreted}
use Rattle.satisfaction.specs.Places.{heights_at, record_words, records_of, set_place, sets_at}
use Rattle.spans.proofs.Joining.{at_set}
use Rattle.spans.proofs.Rows.{row_inside, row_put, shuffle}
use Rattle.spans.specs.Values.{ValuesMarked, valued}
use Rattle.theory.proofs.Counting.{in_counting}
use Rattle.theory.proofs.Refusals.{cond_all}
use Rattle.theory.proofs.Rules.{T_and, and_T, any_at, any_in, any_out, at_any, same_test}
use Rattle.words.specs.Sets.{in_set}

-- ---- one number after another

-- a loop over 1 to n that comes to i: what holds of those that are left
pub record Counting (T : List ℕ → Type 0) (n i : ℕ) : Type 0 where
  pub bound : i ≤ n + 1
  pub holds : T (counting i (n + 1 - i))

module _ {T : List ℕ → Type 0} {n : ℕ} where
  pub counting_starts : T (counting 1 n) → Counting T n 1
  counting_starts h = let e : n + 1 - 1 ≡ n = omega arith in record { bound = omega arith; holds = rw e h }

  module _ {i : ℕ} (t : Counting T n i) where
    pub counting_ends : n < i → T []
    counting_ends h = let e : n + 1 - i ≡ 0 = omega arith in rw e at t.holds

    pub counting_on : {U : List ℕ → Type 0} → i ≤ n → ((l : List ℕ) → T (i ∷ l) → U l) → Counting U n (i + 1)
    counting_on h f =
        let e : n + 1 - i ≡ suc (n + 1 - suc i) = omega arith in
        let z : i + 1 ≡ suc i = omega arith in
        rw z (record { bound = omega arith; holds = f (counting (suc i) (n + 1 - suc i)) (rw e at t.holds) })

-- ---- the individuals, one after another

-- with the individuals l left, whose sets have the record or are still to get it are those that had it or are in its class
pub record Telling (p m : List ℕ) (k : ℕ) (w₀ w : List ℕ) (l : List ℕ) : Type 0 where
  pub only : Only (Span sets_at heights_at) w₀ w
  pub left : (d : ℕ) → Name (individual_count m) d →
      in_set (records_of w d) k || any (λ i. eqb d i && in_class p m k i) l ≡ in_set (records_of w₀ d) k || in_class p m k d
  pub others : (d j : ℕ) → Name most_individuals d → (j ≡ k → ⊥) → in_set (records_of w d) j ≡ in_set (records_of w₀ d) j

-- of all individuals, one is d
pub one_counted : (q : ℕ → Bool) (n d : ℕ) → Name n d → any (λ e. eqb d e && q e) (counting 1 n) ≡ q d
one_counted q n d h = same_test (any (λ e. eqb d e && q e) (counting 1 n)) (q d) out (λ t. any_in (λ e. eqb d e && q e) (at_any (in_counting 1 n d h.0 (omega arith)) (and_T (eqb d d) (q d) (eqb_refl d) t)))
  where
    out : T (any (λ e. eqb d e && q e) (counting 1 n)) → T (q d)
    out t =
        let x = any_at (any_out (λ e. eqb d e && q e) (counting 1 n) t) in
        let u = T_and (eqb d x.0) (q x.0) x.2 in
        subst (λ (i : ℕ). T (q i)) (sym (eqb→eq d x.0 u.0)) u.1

module _ (p m : List ℕ) (k : ℕ) where
  pub telling_starts : {w : List ℕ} {n : ℕ} → n ≡ individual_count m → Telling p m k w w (counting 1 n)
  telling_starts {n = n} e = record { only = only_none; left = λ d h. rw (one_counted (in_class p m k) n d (omega arith)); others = λ d j h z. refl }

  pub telling_ends : {w₀ w : List ℕ} → Telling p m k w₀ w [] → MembersMarked p m k w₀ w
  telling_ends {w = w} t = record { only = t.only; marks = λ d n. sym (or-false (in_set (records_of w d) k)) ∙ t.left d n; others = t.others }

  pub telling_on : {w₀ w w' : List ℕ} {i : ℕ} → Name most_records k → Interpreted m w → Name (individual_count m) i → w' ≡ marked_member p k w i →
      (l : List ℕ) → Telling p m k w₀ w (i ∷ l) → Telling p m k w₀ w' l
  telling_on {w₀} {w} {i = i} n r h e l t =
      subst (λ (y : List ℕ). Telling p m k w₀ y l) (sym (e ∙ rw (r.classed.rows i (name_of p k) h))) (record {
        only = cond_all (Only (Span sets_at heights_at) w₀) (in_class p m k i) (row_inside w k (at_set i few) n long (omega arith) (omega arith) refl t.only) t.only;
        left = λ d nd. go d nd (in_class p m k i) (t.left d nd);
        others = λ d j nd h. off d j nd h (in_class p m k i) ∙ t.others d j nd h;
      })
    where
      few : Name most_individuals i
      few = let q = r.readable.individuals in omega arith

      long : sets_at + most_individuals * record_words ≤ length w
      long = let q = r.long in omega arith

      rest : ℕ → Bool
      rest d = any (λ y. eqb d y && in_class p m k y) l

      put : (d j : ℕ) → Name most_individuals d → in_set (records_of (marked w k i) d) j ≡ (eqb d i && eqb j k) || in_set (records_of w d) j
      put d j nd = row_put w k (at_set i few) n long (at_set d nd) j

      go : (d : ℕ) → Name (individual_count m) d → (b : Bool) → in_set (records_of w d) k || ((eqb d i && b) || rest d) ≡ in_set (records_of w₀ d) k || in_class p m k d →
          in_set (records_of (cond b (marked w k i) w) d) k || rest d ≡ in_set (records_of w₀ d) k || in_class p m k d
      go d nd true f =
          let q = r.readable.individuals in
          rw (put d k (omega arith), eq-eqb k k refl) (shuffle (eqb d i && true) (in_set (records_of w d) k) (rest d) ∙ f)
      go d nd false f = rw (and-false (eqb d i)) at f

      off : (d j : ℕ) → Name most_individuals d → (j ≡ k → ⊥) → (b : Bool) → in_set (records_of (cond b (marked w k i) w) d) j ≡ in_set (records_of w d) j
      off d j nd h true = put d j nd ∙ rw (ne_eqb j k h, and-false (eqb d i))
      off d j nd h false = refl

-- ---- all records

-- the sets of the model's n individuals are cleared
pub cleared_sets : {m w w₁ : List ℕ} {n : ℕ} → Readable m → n ≡ individual_count m → Cleared sets_at (n * record_words) w w₁ → Only (Span sets_at heights_at) w w₁
cleared_sets r e c = let i = r.individuals in only_span c.only (omega arith) (omega arith)

-- then those of features are put in
pub marked_starts : {p m w w₁ w₂ : List ℕ} {n last : ℕ} → Sized p → Readable m → n ≡ individual_count m → last ≡ last_of 6 p → Cleared sets_at (n * record_words) w w₁ →
    ValuesMarked p m 0 last w₁ w₂ → MarkedTo p m 0 w₂
marked_starts {p} {m} {w₁ = w₁} {last = last} s r e el c v = record {
  tells = λ k i n h. absurd (omega arith);
  rest = λ k i n l h.
      let f = s.few in
      let j = r.individuals in
      v.bits i k (omega arith) (omega arith) ∙ rw (empty k i h, lt-ltb 0 k n, le-leb k last (omega arith));
}
  where
    empty : (k i : ℕ) → Name (individual_count m) i → in_set (records_of w₁ i) k ≡ false
    empty k i h = none_in record_words w₁ (set_place i) (λ j a b. c.zeros j (omega arith) (omega arith)) k

pub marked_on : {p m w w' : List ℕ} {n : ℕ} → Readable m → n < last_of 6 p → ClassMarked p m (n + 1) w w' → MarkedTo p m n w → MarkedTo p m (n + 1) w'
marked_on {p} {m} {w} {w'} {n} r l e t = record {
  tells = λ k i a h. go k i a h (eqb k (n + 1)) refl;
  rest = λ k i a b h. let j = r.individuals in e.others i k (omega arith) (λ d. omega arith) ∙ t.rest k i (omega arith) b h;
}
  where
    both : (i : ℕ) (a : Bool) → eqb (kind_of p (n + 1)) 1 ≡ a →
        (eqb (kind_of p (n + 1)) 4 && valued p m (n + 1) i) || (a && in_class p m (n + 1) i) ≡ cond a (in_class p m (n + 1) i) (cond (eqb (kind_of p (n + 1)) 4) (valued p m (n + 1) i) false)
    both i true f = rw (eqb-true (kind_of p (n + 1)) 1 f)
    both i false f = or-false (eqb (kind_of p (n + 1)) 4 && valued p m (n + 1) i) ∙ flat (eqb (kind_of p (n + 1)) 4) (valued p m (n + 1) i)
      where
        flat : (b v : Bool) → b && v ≡ cond b v false
        flat true v = refl
        flat false v = refl

    go : (k i : ℕ) → Name (n + 1) k → Name (individual_count m) i → (b : Bool) → eqb k (n + 1) ≡ b → in_set (records_of w' i) k ≡ early p m k i
    go k i a h true d =
        let z = eqb-true k (n + 1) d in
        rw z (e.marks i h ∙ rw (t.rest (n + 1) i (omega arith) (omega arith) h) (both i (eqb (kind_of p (n + 1)) 1) refl))
    go k i a h false d =
        let j = r.individuals in
        let z = eqb-false k (n + 1) d in
        e.others i k (omega arith) z ∙ t.tells k i (omega arith) h
