-- The tables of a form are in order: rows below one another nest, and constraints go by individual.
use Prim.Native.Nat.{◌+◌, ◌<◌, ◌≤◌, suc, ℕ}
use mathlib.Core.List.{List, ◌++◌, append-nil}
use mathlib.Core.Logic.{◌⊎◌, inl, inr}
use mathlib.Core.Path.{◌∙◌, ◌≡◌, ap, subst, sym}
use lib.ListN.{length, length-append}
use native.Mathlib.Omega.{arith}
use Rattle.frames.specs.Frames.{Only}
use Rattle.layout.proofs.Filling.{held_range, own_held, parts}
use Rattle.layout.specs.Nesting.{Nested}
use Rattle.layout.specs.Places.{constraint_place, individual_place}
use Rattle.layout.specs.Tables.{ConstraintsStand, Pieces, RowsStand, Tabled, held_below, holder_at, parent_at}
use Rattle.layout.specs.declared.Tables.{Tables}
use Rattle.meaning.specs.Countermodel.{size}
use Rattle.meaning.specs.Limits.{most_records}
use Rattle.meaning.specs.NormalForm.{Form, Successors, none, successor}
use Rattle.meaning.specs.Splitting.{constraints_below}
use Rattle.meaning.specs.Vocabulary.{Vocabulary}
use Rattle.theory.proofs.Rules.{order}

-- ---- rows

module _ (K : Vocabulary) (w : List ℕ) where
  -- the rows below individual i, from n on: each has i or a later one for a parent, which stands before it
  pub rows_from : (ks : Successors) (i n : ℕ) → i ≤ n → RowsStand K w ks i n → (j : ℕ) → n ≤ j → j < n + size ks → (i ≤ parent_at w j) × (parent_at w j ≤ j)
  rows_from none i n h s j p q = absurd (omega arith)
  rows_from (successor r m under next) i n h s j p q =
      go (order n j) (order j (suc n + size under)) (λ c d. rows_from under (suc n) (suc n) (omega arith) s.1 j c d)
      (λ c. rows_from next i (suc n + size under) (omega arith) s.2 j c (omega arith))
    where
      go : (n < j) ⊎ (j ≤ n) → (j < suc n + size under) ⊎ (suc n + size under ≤ j) →
          (suc n ≤ j → j < suc n + size under → (suc n ≤ parent_at w j) × (parent_at w j ≤ j)) →
          (suc n + size under ≤ j → (i ≤ parent_at w j) × (parent_at w j ≤ j)) → (i ≤ parent_at w j) × (parent_at w j ≤ j)
      go (inr a) d f g =
          let e : n ≡ j = omega arith in
          subst (λ (k : ℕ). (i ≤ parent_at w k) × (parent_at w k ≤ k)) e (omega (arith, s.0.parent), omega (arith, s.0.parent))
      go (inl a) (inl d) f g = let u = f (omega arith) d in (omega arith, u.1)
      go (inl a) (inr d) f g = g d

  -- and those between its parent and it are below the parent
  rows_between : (ks : Successors) (i n : ℕ) → i ≤ n → ((l : ℕ) → i ≤ l → l < n → i ≤ parent_at w l) → RowsStand K w ks i n →
      (j : ℕ) → n ≤ j → j < n + size ks → (l : ℕ) → parent_at w j ≤ l → l < j → parent_at w j ≤ parent_at w l
  rows_between none i n h b s j p q l u v = absurd (omega arith)
  rows_between (successor r m under next) i n h b s j p q l u v =
      go (order n j) (order j (suc n + size under))
      (λ c d. rows_between under (suc n) (suc n) (omega arith) (λ l e f. absurd (omega arith)) s.1 j c d l u v)
      (λ c. rows_between next i (suc n + size under) (omega arith) wider s.2 j c (omega arith) l u v)
    where
      wider : (l : ℕ) → i ≤ l → l < suc n + size under → i ≤ parent_at w l
      wider l e f = step (order l n) (order n l)
        where
          step : (l < n) ⊎ (n ≤ l) → (n < l) ⊎ (l ≤ n) → i ≤ parent_at w l
          step (inl a) c = b l e a
          step (inr a) (inl c) = let x = rows_from under (suc n) (suc n) (omega arith) s.1 l c f in omega arith
          step (inr a) (inr c) = let z : n ≡ l = omega arith in subst (λ (k : ℕ). i ≤ parent_at w k) z (omega (arith, s.0.parent))

      go : (n < j) ⊎ (j ≤ n) → (j < suc n + size under) ⊎ (suc n + size under ≤ j) →
          (suc n ≤ j → j < suc n + size under → parent_at w j ≤ parent_at w l) → (suc n + size under ≤ j → parent_at w j ≤ parent_at w l) →
          parent_at w j ≤ parent_at w l
      go (inr a) d f g =
          let e : n ≡ j = omega arith in
          let z : parent_at w j ≡ i = ap (parent_at w) (sym e) ∙ s.0.parent in
          let x = b l (omega arith) (omega arith) in
          omega arith
      go (inl a) (inl d) f g = f (omega arith) d
      go (inl a) (inr d) f g = g d

-- ---- constraints

-- three ranges: an individual's own, those below it, those of the next
rise : (g : ℕ → ℕ) (o x y z k e i j : ℕ) → k < e → o ≤ i → i ≤ j → j < z → ((l : ℕ) → o ≤ l → l < x → g l ≡ k) →
    ((l : ℕ) → x ≤ l → l < y → (suc k ≤ g l) × (g l < e)) → ((l : ℕ) → y ≤ l → l < z → e ≤ g l) →
    (x ≤ i → j < y → g i ≤ g j) → (y ≤ i → g i ≤ g j) → g i ≤ g j
rise g o x y z k e i j f p q r own under next u v = go (order i x) (order j x) (order i y) (order j y)
  where
    go : (i < x) ⊎ (x ≤ i) → (j < x) ⊎ (x ≤ j) → (i < y) ⊎ (y ≤ i) → (j < y) ⊎ (y ≤ j) → g i ≤ g j
    go (inl a) (inl b) c d = omega (arith, own i p a, own j (omega arith) b)
    go (inl a) (inr b) c (inl d) = omega (arith, own i p a, (under j b d).0)
    go (inl a) (inr b) c (inr d) = omega (arith, own i p a, next j d r)
    go (inr a) b (inl c) (inl d) = u a d
    go (inr a) b (inl c) (inr d) = omega (arith, (under i a c).1, next j d r)
    go (inr a) b (inr c) d = v c

module _ (w : List ℕ) where
  held_rising : (ks : Successors) (k o : ℕ) → ConstraintsStand w o (held_below ks k) → (i j : ℕ) → o ≤ i → i ≤ j → j < o + length (constraints_below ks) →
      holder_at w i ≤ holder_at w j
  held_rising none k o s i j p q r = absurd (omega arith)
  held_rising (successor x m under next) k o s i j p q r =
      let a = parts w o m.constraints under next k s in
      let c = length-append m.constraints (constraints_below under ++ constraints_below next) in
      let d = length-append (constraints_below under) (constraints_below next) in
      let b = o + length m.constraints + length (constraints_below under) in
      rise (holder_at w) o (o + length m.constraints) b (b + length (constraints_below next)) k (suc k + size under) i j (omega arith) p q (omega arith)
      (λ l e f. own_held w k m.constraints o a.0 l e f) (λ l e f. held_range w under (suc k) (o + length m.constraints) a.1 l e f)
      (λ l e f. (held_range w next (suc k + size under) b a.2 l e f).0)
      (λ e f. held_rising under (suc k) (o + length m.constraints) a.1 i j e q f)
      (λ e. held_rising next (suc k + size under) b a.2 i j e q (omega arith))

-- ---- the tables of a form

pub tabled_nested : {K : Vocabulary} {F : Form} {w : List ℕ} {t : Tables} → Tabled K F w t → Nested w t
tabled_nested {K} {F} {w} {t} s = record {
  before = λ j h. (rows_from K w (successor 0 F.node F.successors none) 0 0 (omega arith) s.rows j (omega arith) (omega (arith, s.count))).1;
  between = λ i j h l e. rows_between K w (successor 0 F.node F.successors none) 0 0 (omega arith) (λ l a b. absurd (omega arith)) s.rows j (omega arith) (omega (arith, s.count)) i e h;
  rising = λ i j h l.
      held_rising w (successor 0 F.node F.successors none) 1 0 (rw append-nil s.held) i j (omega arith) h
      (omega (
        arith,
        s.top,
        length-append F.node.constraints (constraints_below F.successors ++ constraints_below none),
        length-append (constraints_below F.successors) (constraints_below none),
        length-append F.node.constraints (constraints_below F.successors),
      ));
}

-- no piece changes the order
module _ {w w' : List ℕ} {n : ℕ} (k : Only (Pieces n) w w') where
  pub holder_kept : (j : ℕ) → holder_at w' j ≡ holder_at w j
  holder_kept j = k.others (constraint_place j) (λ s. omega (arith, s.span.low, s.span.high))

  pub parent_kept : (j : ℕ) → j < most_records → parent_at w' j ≡ parent_at w j
  parent_kept j h = k.others (individual_place j) (λ s. omega (arith, s.span.low))

  pub nested_kept : {t : Tables} → t.individuals ≤ most_records → Nested w t → Nested w' t
  nested_kept few s = record {
    before = λ j h. rw (parent_kept j (omega arith)) (s.before j h);
    between = λ i j h l e.
        rw (parent_kept i (omega arith), parent_kept j (omega arith)) (s.between i j h l (rw (parent_kept j (omega arith)) at e));
    rising = λ i j h l. rw (holder_kept i, holder_kept j) (s.rising i j h l);
  }
