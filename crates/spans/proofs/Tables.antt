-- Laws of the cuts' rows: a record in the rows of its span's cuts, one record after another, and what the rows tell of a key.
use Prim.Native.Nat.{◌*◌, ◌+◌, ◌<◌, ◌≤◌, ℕ}
use mathlib.Core.Bool.{Bool, ◌&&◌, ◌||◌, and-false, cond, false, or_comm, or-false, true}
use mathlib.Core.List.{List}
use mathlib.Core.Logic.{◌⊎◌, inl, inr}
use mathlib.Core.Path.{◌∙◌, ◌≡◌, ap, refl, sym}
use lib.Dec.{eqb, ltb}
use lib.ListN.{get_or, length}
use native.Mathlib.Omega.{arith}
use borrow.Author.Tests.{eq-eqb, eqb-false, eqb-true, le-leb, le-ltb, lt-leb, lt-ltb, ltb-true, ne_eqb}
use Rattle.frames.specs.Frames.{Cleared}
use Rattle.keys.specs.Keys.{Ranked}
use Rattle.meaning.specs.Intervals.{is_within}
use Rattle.meaning.specs.Policy.{kind_of}
use Rattle.satisfaction.proofs.Rows.{none_in, put_size}
use Rattle.satisfaction.specs.Places.{put_in, record_words}
use Rattle.spans.proofs.Cuts.{cut_within}
use Rattle.spans.proofs.Rows.{Row, row_put}
use Rattle.spans.specs.Cuts.{AllCut, Rowed, SpanMarkable, SpanMarked, Tabled, high_key, is_among, low_key, row_marked, row_of, row_place}
use Rattle.spans.specs.Cuts.{spans_among}
use Rattle.theory.proofs.Links.{tests}
use Rattle.theory.proofs.Rules.{order}
use Rattle.words.specs.Sets.{in_set}

-- ---- one row

module _ (c : List ℕ) (r cut low high k : ℕ) {b : Bool} (e : b ≡ is_within low high cut) where
  pub row_marked_lem : {c' : List ℕ} → b ≡ true → c' ≡ put_in record_words c (row_place r) k → c' ≡ row_marked c r cut low high k
  row_marked_lem h d = d ∙ rw (← e, h)

  pub row_left : b ≡ false → c ≡ row_marked c r cut low high k
  row_left h = rw (← e, h)

-- ---- one record, in the rows of the first i cuts

pub record Spanning (e : List ℕ) (n low high k : ℕ) (c₀ c : List ℕ) (i : ℕ) : Type 0 where
  pub size : length c ≡ length c₀
  pub tells : (r : ℕ) → r < n → in_set (row_of c r) k ≡ in_set (row_of c₀ r) k || (ltb r i && is_within low high (get_or e r 0))
  pub others : (r d : ℕ) → r < n → (d ≡ k → ⊥) → in_set (row_of c r) d ≡ in_set (row_of c₀ r) d

at_row : (n r : ℕ) → r < n → Row 0 n (r + 1) (row_place r)
at_row n r h = record { named = (omega arith, omega arith); place = omega arith }

module _ {e : List ℕ} {n low high k : ℕ} {c₀ : List ℕ} where
  pub spanning_starts : Spanning e n low high k c₀ c₀ 0
  spanning_starts = record { size = refl; tells = λ r h. rw (le-ltb r 0 (omega arith)) (sym (or-false (in_set (row_of c₀ r) k))); others = λ r d h n. refl }

  module _ {c : List ℕ} {i : ℕ} (m : SpanMarkable e c₀ n k) (t : Spanning e n low high k c₀ c i) where
    pub spanning_on : {c' : List ℕ} → i < n → c' ≡ row_marked c i (get_or e i 0) low high k → Spanning e n low high k c₀ c' (i + 1)
    spanning_on {c'} l g = record {
      size = ap length g ∙ long (is_within low high (get_or e i 0)) ∙ t.size;
      tells = λ r h. put r k h ∙ rw (eq-eqb k k refl, t.tells r h) (go r (order r i) (order i r));
      others = λ r d h z. put r d h ∙ rw (ne_eqb d k z, and-false (eqb (r + 1) (i + 1)), and-false (is_within low high (get_or e i 0))) (t.others r d h z);
    }
      where
        room : row_place n ≤ length c
        room = let a = m.room in let b = t.size in omega arith

        long : (b : Bool) → length (cond b (put_in record_words c (row_place i) k) c) ≡ length c
        long true = put_size record_words c (row_place i) k (omega (arith, room)) refl
        long false = refl

        put : (r j : ℕ) → r < n → in_set (row_of c' r) j ≡ (is_within low high (get_or e i 0) && (eqb (r + 1) (i + 1) && eqb j k)) || in_set (row_of c r) j
        put r j h = rw g (one (is_within low high (get_or e i 0)))
          where
            one : (b : Bool) → in_set (row_of (cond b (put_in record_words c (row_place i) k) c) r) j ≡ (b && (eqb (r + 1) (i + 1) && eqb j k)) || in_set (row_of c r) j
            one true = row_put c k (at_row n i l) m.named (omega (arith, room)) (at_row n r h) j
            one false = refl

        go : (r : ℕ) → (r < i) ⊎ (i ≤ r) → (i < r) ⊎ (r ≤ i) →
            (is_within low high (get_or e i 0) && (eqb (r + 1) (i + 1) && true)) || (in_set (row_of c₀ r) k || (ltb r i && is_within low high (get_or e r 0)))
            ≡ in_set (row_of c₀ r) k || (ltb r (i + 1) && is_within low high (get_or e r 0))
        go r (inl a) b = rw (ne_eqb (r + 1) (i + 1) (λ z. omega arith), and-false (is_within low high (get_or e i 0)), lt-ltb r i a, lt-ltb r (i + 1) (omega arith))
        go r (inr a) (inl b) =
            rw (ne_eqb (r + 1) (i + 1) (λ z. omega arith), and-false (is_within low high (get_or e i 0)), le-ltb r i a, le-ltb r (i + 1) (omega arith))
        go r (inr a) (inr b) =
            let z : r ≡ i = omega arith in
            rw (z, eq-eqb (i + 1) (i + 1) refl, le-ltb i i (omega arith), lt-ltb i (i + 1) (omega arith))
            (both (is_within low high (get_or e i 0)) (in_set (row_of c₀ i) k))
          where
            both : (a b : Bool) → (a && true) || (b || false) ≡ b || (true && a)
            both true b = sym (or_comm b true)
            both false b = refl

module _ (p e : List ℕ) {n k kind : ℕ} {c : List ℕ} (ek : kind ≡ kind_of p k) where
  pub span_none : (kind ≡ 4 → ⊥) → SpanMarked p e n k c c
  span_none h = record { tells = λ r l. rw (← ek, ne_eqb kind 4 h) (sym (or-false (in_set (row_of c r) k))); others = λ r d l z. refl }

  pub spanning_ends : {low high i : ℕ} {c' : List ℕ} → kind ≡ 4 → low ≡ low_key p k → high ≡ high_key p k → Spanning e n low high k c c' i → n ≤ i →
      SpanMarked p e n k c c'
  spanning_ends {i = i} h el eh t l = record {
    tells = λ r a. t.tells r a ∙ rw (lt-ltb r i (omega arith), el, eh, ← ek, h);
    others = t.others;
  }

-- ---- one record after another

module _ (first : ℕ) where
  pub among_out : (last k : ℕ) → last < k → is_among first last k ≡ false
  among_out last k h = rw (lt-leb k last h) (and-false (ltb first k))

  pub among_none : (last k : ℕ) → last ≤ first → is_among first last k ≡ false
  among_none last k h = go (order first k)
    where
      go : (first < k) ⊎ (k ≤ first) → is_among first last k ≡ false
      go (inl a) = among_out last k (omega arith)
      go (inr a) = rw (le-ltb first k a)

  among_next : (last k : ℕ) → (k ≡ last + 1 → ⊥) → is_among first (last + 1) k ≡ is_among first last k
  among_next last k h = go (order last k)
    where
      go : (last < k) ⊎ (k ≤ last) → is_among first (last + 1) k ≡ is_among first last k
      go (inl a) = among_out (last + 1) k (omega arith) ∙ sym (among_out last k a)
      go (inr a) = rw (le-leb k last a, le-leb k (last + 1) (omega arith))

pub rowed_starts : {p e c c₁ : List ℕ} {n first : ℕ} → Cleared 0 (n * record_words) c c₁ → Rowed p first first e c₁ n
rowed_starts {p} {e} {c₁ = c₁} {n} {first} x = record {
  rows = λ r k h. none_in record_words c₁ (row_place r) (λ i a b. x.zeros i (omega arith) (omega arith)) k ∙ rw (among_none first first k (omega arith));
}

pub rowed_on : {p e c c' : List ℕ} {n first k : ℕ} → first ≤ k → Rowed p first k e c n → SpanMarked p e n (k + 1) c c' → Rowed p first (k + 1) e c' n
rowed_on {p} {e} {c} {c'} {n} {first} {k} o t x = record { rows = λ r j h. go r j h (eqb j (k + 1)) refl }
  where
    go : (r j : ℕ) → r < n → (b : Bool) → eqb j (k + 1) ≡ b → in_set (row_of c' r) j ≡ spans_among p first (k + 1) j (get_or e r 0)
    go r j h true d =
        let z = eqb-true j (k + 1) d in
        rw z (x.tells r h ∙ rw (t.rows r (k + 1) h, among_out first k (k + 1) (omega arith), lt-ltb first (k + 1) (omega arith), le-leb (k + 1) (k + 1) (omega arith)))
    go r j h false d =
        let z = eqb-false j (k + 1) d in
        x.others r j h z ∙ t.rows r j h ∙ rw (among_next first k j z)

-- ---- what the rows tell of a key

pub tabled : {p e c : List ℕ} {n first last : ℕ} → n ≤ length e → AllCut p first last e n → Rowed p first last e c n →
    Tabled (spans_among p first last) e c n
tabled {p} {e} {c} {n} {first} {last} b a t = record { tells = λ key r k x. row r k (ltb r n) refl ∙ same key r k x (is_among first last k) (eqb (kind_of p k) 4) refl refl }
  where
    row : (r k : ℕ) (l : Bool) → ltb r n ≡ l → l && in_set (row_of c r) k ≡ l && spans_among p first last k (get_or e r 0)
    row r k true h = t.rows r k (ltb-true r n h)
    row r k false h = refl

    same : (key r k : ℕ) → Ranked e n key r → (i j : Bool) → is_among first last k ≡ i → eqb (kind_of p k) 4 ≡ j →
        ltb r n && (i && (j && is_within (low_key p k) (high_key p k) (get_or e r 0))) ≡ i && (j && is_within (low_key p k) (high_key p k) key)
    same key r k x false j f g = and-false (ltb r n)
    same key r k x true false f g = and-false (ltb r n)
    same key r k x true true f g =
        let u = simp tests at f in
        let v = eqb-true (kind_of p k) 4 g in
        cut_within (low_key p k) (high_key p k) a.rising b (a.low k u.0 u.1 v) (a.high k u.0 u.1 v) x
