-- A normal form's tables hold the form with whatever is chosen for its constraints; with their pieces, the combination that these make.
use Prim.Native.Nat.{◌+◌, ◌-◌, ◌<◌, ◌≤◌, suc, zero, ℕ}
use mathlib.Core.Bool.{Bool, cond, false, true}
use mathlib.Core.List.{List, [], ◌++◌, ◌∷◌, append-nil}
use mathlib.Core.Logic.{◌⊎◌, inl, inr}
use mathlib.Core.Path.{◌∙◌, ◌≡◌, ap, refl, subst, sym}
use lib.Dec.{eqb}
use lib.ListN.{length, length-append}
use native.Mathlib.Nat.{zero-add}
use native.Mathlib.Omega.{arith}
use borrow.Author.Tests.{eq-eqb, ne_eqb}
use Rattle.layout.proofs.Entries.{held_below_length, held_length}
use Rattle.layout.specs.Combination.{BelowBy, Combined, CombinedBy, chosen_from}
use Rattle.layout.specs.Tables.{ConstraintsStand, Held, RowsStand, Tabled, held_below, held_by, holder_at, piece_at}
use Rattle.layout.specs.declared.Tables.{Tables}
use Rattle.meaning.specs.Countermodel.{size}
use Rattle.meaning.specs.Intervals.{Constraint}
use Rattle.meaning.specs.NormalForm.{Form, Successors, none, successor}
use Rattle.meaning.specs.Splitting.{constraints_below}
use Rattle.meaning.specs.Vocabulary.{Vocabulary}
use Rattle.theory.proofs.Digits.{fill, fill_constraints, fill_successors}
use Rattle.theory.proofs.Rules.{order}

pub intervals_split : (w : List ℕ) (m : ℕ) (l k : List Held) → ConstraintsStand w m (l ++ k) → ConstraintsStand w m l × ConstraintsStand w (m + length l) k
intervals_split w m [] k s = (tt, subst (λ (i : ℕ). ConstraintsStand w i k) (omega arith) s)
intervals_split w m (h ∷ l) k s =
    let r = intervals_split w (suc m) l k s.1 in
    ((s.0, r.0), subst (λ (i : ℕ). ConstraintsStand w i k) (omega arith) r.1)

-- pieces for constraints leave the individuals
size_filled : (v : ℕ → Constraint) (ks : Successors) (o : ℕ) → size (fill_successors v o ks) ≡ size ks
size_filled v none o = refl
size_filled v (successor r m under next) o =
    let a = size_filled v under (o + length m.constraints) in
    let b = size_filled v next (o + length m.constraints + length (constraints_below under)) in
    omega arith

module _ (w : List ℕ) where
  -- ---- whose constraints they are

  pub own_held : (x : ℕ) (l : List Constraint) (m : ℕ) → ConstraintsStand w m (held_by x l) → (j : ℕ) → m ≤ j → j < m + length l → holder_at w j ≡ x
  own_held x [] m s j p q = absurd (omega arith)
  own_held x (i ∷ l) m s j p q = go (order m j) (λ h. own_held x l (suc m) s.1 j h (omega arith))
    where
      go : (m < j) ⊎ (j ≤ m) → (suc m ≤ j → holder_at w j ≡ x) → holder_at w j ≡ x
      go (inl h) f = f h
      go (inr h) f = let e : m ≡ j = omega arith in subst (λ (k : ℕ). holder_at w k ≡ x) e (ap (λ (h : Held). h.individual) s.0)

  -- three parts: an individual's own, those below it, those of the next
  pub parts : (o : ℕ) (m : List Constraint) (under next : Successors) (k : ℕ) →
      ConstraintsStand w o (held_by k m ++ (held_below under (suc k) ++ held_below next (suc k + size under))) →
      ConstraintsStand w o (held_by k m) × ConstraintsStand w (o + length m) (held_below under (suc k)) ×
      ConstraintsStand w (o + length m + length (constraints_below under)) (held_below next (suc k + size under))
  parts o m under next k s =
      let a = intervals_split w o (held_by k m) (held_below under (suc k) ++ held_below next (suc k + size under)) s in
      let b = intervals_split w (o + length (held_by k m)) (held_below under (suc k)) (held_below next (suc k + size under)) a.1 in
      let c = held_length k m in
      let d = held_below_length under (suc k) in (
        a.0,
        subst (λ (i : ℕ). ConstraintsStand w i (held_below under (suc k))) (omega arith) b.0,
        subst (λ (i : ℕ). ConstraintsStand w i (held_below next (suc k + size under))) (omega arith) b.1,
      )

  pub held_range : (ks : Successors) (k o : ℕ) → ConstraintsStand w o (held_below ks k) → (j : ℕ) → o ≤ j → j < o + length (constraints_below ks) →
      (k ≤ holder_at w j) × (holder_at w j < k + size ks)
  held_range none k o s j p q = absurd (omega arith)
  held_range (successor r m under next) k o s j p q =
      let a = parts o m.constraints under next k s in
      let c = length-append m.constraints (constraints_below under ++ constraints_below next) in
      let d = length-append (constraints_below under) (constraints_below next) in
      go (order j (o + length m.constraints)) (order j (o + length m.constraints + length (constraints_below under)))
      (λ h. own_held k m.constraints o a.0 j p h)
      (λ h i. held_range under (suc k) (o + length m.constraints) a.1 j h i)
      (λ h. held_range next (suc k + size under) (o + length m.constraints + length (constraints_below under)) a.2 j h (omega arith))
    where
      go : (j < o + length m.constraints) ⊎ (o + length m.constraints ≤ j) →
          (j < o + length m.constraints + length (constraints_below under)) ⊎ (o + length m.constraints + length (constraints_below under) ≤ j) →
          (j < o + length m.constraints → holder_at w j ≡ k) →
          (o + length m.constraints ≤ j → j < o + length m.constraints + length (constraints_below under) → (suc k ≤ holder_at w j) × (holder_at w j < suc k + size under)) →
          (o + length m.constraints + length (constraints_below under) ≤ j → (suc k + size under ≤ holder_at w j) × (holder_at w j < suc k + size under + size next)) →
          (k ≤ holder_at w j) × (holder_at w j < k + size (successor r m under next))
      go (inl h) b f g e = let x = f h in (omega arith, omega arith)
      go (inr h) (inl b) f g e = let x = g h b in (omega arith, omega arith)
      go (inr h) (inr b) f g e = let x = e b in (omega arith, omega arith)

  -- ---- what is chosen for one individual

  module _ (v : ℕ → Constraint) where
    chosen_append : (x a b m : ℕ) → chosen_from v w x (a + b) m ≡ chosen_from v w x a m ++ chosen_from v w x b (m + a)
    unfolding chosen_from
    chosen_append x zero b m = rw zero-add (ap (λ (i : ℕ). chosen_from v w x b i) (omega arith))
    chosen_append x (suc a) b m =
        let e : suc a + b ≡ suc (a + b) = omega arith in
        let d : suc m + a ≡ m + suc a = omega arith in
        ap (λ (n : ℕ). chosen_from v w x n m) e
        ∙ go (eqb (holder_at w m) x) (chosen_append x a b (suc m) ∙ ap (λ (i : ℕ). chosen_from v w x a (suc m) ++ chosen_from v w x b i) d)
      where
        go : (t : Bool) → chosen_from v w x (a + b) (suc m) ≡ chosen_from v w x a (suc m) ++ chosen_from v w x b (m + suc a) →
            cond t (v m ∷ chosen_from v w x (a + b) (suc m)) (chosen_from v w x (a + b) (suc m)) ≡
            cond t (v m ∷ chosen_from v w x a (suc m)) (chosen_from v w x a (suc m)) ++ chosen_from v w x b (m + suc a)
        go true e = ap (λ (l : List Constraint). v m ∷ l) e
        go false e = e

    chosen_none : (x n m : ℕ) → ((j : ℕ) → m ≤ j → j < m + n → holder_at w j ≡ x → ⊥) → chosen_from v w x n m ≡ []
    unfolding chosen_from
    chosen_none x zero m f = refl
    chosen_none x (suc n) m f =
        rw (ne_eqb (holder_at w m) x (f m (omega arith) (omega arith))) (chosen_none x n (suc m) (λ j p q. f j (omega arith) (omega arith)))

    chosen_all : (x : ℕ) (l : List Constraint) (m : ℕ) → ((j : ℕ) → m ≤ j → j < m + length l → holder_at w j ≡ x) → chosen_from v w x (length l) m ≡ fill_constraints v m l
    unfolding chosen_from
    chosen_all x [] m f = refl
    chosen_all x (s ∷ l) m f =
        rw (eq-eqb (holder_at w m) x (f m (omega arith) (omega arith)))
        (ap (λ (k : List Constraint). v m ∷ k) (chosen_all x l (suc m) (λ j p q. f j (omega arith) (omega arith))))

    module _ (top : ℕ) where
      own_chosen : (x o : ℕ) (l : List Constraint) → o + length l ≤ top → ConstraintsStand w o (held_by x l) →
          ((j : ℕ) → j < o → holder_at w j < x) → ((j : ℕ) → o + length l ≤ j → j < top → x < holder_at w j) → chosen_from v w x top 0 ≡ fill_constraints v o l
      own_chosen x o l h s before after =
          let e : top ≡ o + (length l + (top - (o + length l))) = omega arith in
          ap (λ (n : ℕ). chosen_from v w x n 0) e
          ∙ chosen_append x o (length l + (top - (o + length l))) 0
          ∙ ap (λ (k : List Constraint). k ++ chosen_from v w x (length l + (top - (o + length l))) (0 + o)) (chosen_none x o 0 (λ j p q z. let y = before j (omega arith) in omega arith))
          ∙ ap (λ (i : ℕ). chosen_from v w x (length l + (top - (o + length l))) i) (zero-add o)
          ∙ chosen_append x (length l) (top - (o + length l)) o
          ∙ ap (λ (k : List Constraint). chosen_from v w x (length l) o ++ k) (chosen_none x (top - (o + length l)) (o + length l) (λ j p q z. let y = after j p (omega arith) in omega arith))
          ∙ append-nil (chosen_from v w x (length l) o)
          ∙ chosen_all x l o (own_held x l o s)

      module _ (K : Vocabulary) where
        below_filled : (ks : Successors) (i n o : ℕ) → o + length (constraints_below ks) ≤ top → ConstraintsStand w o (held_below ks (suc n)) →
            ((j : ℕ) → j < o → holder_at w j < suc n) → ((j : ℕ) → o + length (constraints_below ks) ≤ j → j < top → suc n + size ks ≤ holder_at w j) →
            RowsStand K w ks i n → BelowBy v K w top (fill_successors v o ks) i n
        below_filled none i n o h s before after r = tt
        below_filled (successor q m under next) i n o h s before after r =
            let a = parts o m.constraints under next (suc n) s in
            let c = length-append m.constraints (constraints_below under ++ constraints_below next) in
            let d = length-append (constraints_below under) (constraints_below next) in
            let sizes = size_filled v under (o + length m.constraints) in
            let e : suc n + size (fill_successors v (o + length m.constraints) under) ≡ suc n + size under = omega arith in
            let f : suc (suc n) + size under ≡ suc (suc n + size under) = omega arith in (
              r.0.parent,
              r.0.role,
              record { classes = r.0.classes; pieces = own_chosen (suc n) o m.constraints (omega arith) a.0 before (λ j p l. own_after a.1 a.2 j p l) },
              below_filled under (suc n) (suc n) (o + length m.constraints) (omega arith) a.1 (lower a.0) (under_after a.2) r.1,
              subst (λ (x : ℕ). BelowBy v K w top (fill_successors v (o + length m.constraints + length (constraints_below under)) next) i x) (sym e)
                  (below_filled next i (suc n + size under) (o + length m.constraints + length (constraints_below under)) (omega arith)
                  (subst (λ (k : ℕ). ConstraintsStand w (o + length m.constraints + length (constraints_below under)) (held_below next k)) f a.2)
                  (next_lower a.0 a.1) (λ j p l. let y = after j (omega arith) l in omega arith) r.2),
            )
          where
            total : length (constraints_below (successor q m under next)) ≡ length m.constraints + length (constraints_below under) + length (constraints_below next)
            total =
                let c = length-append m.constraints (constraints_below under ++ constraints_below next) in
                let d = length-append (constraints_below under) (constraints_below next) in
                omega arith

            lower : ConstraintsStand w o (held_by (suc n) m.constraints) → (j : ℕ) → j < o + length m.constraints → holder_at w j < suc (suc n)
            lower s j p = go (order j o)
              where
                go : (j < o) ⊎ (o ≤ j) → holder_at w j < suc (suc n)
                go (inl x) = let y = before j x in omega arith
                go (inr x) = let y = own_held (suc n) m.constraints o s j x p in omega arith

            next_lower : ConstraintsStand w o (held_by (suc n) m.constraints) → ConstraintsStand w (o + length m.constraints) (held_below under (suc (suc n))) →
                (j : ℕ) → j < o + length m.constraints + length (constraints_below under) → holder_at w j < suc (suc n + size under)
            next_lower s u j p = go (order j (o + length m.constraints))
              where
                go : (j < o + length m.constraints) ⊎ (o + length m.constraints ≤ j) → holder_at w j < suc (suc n + size under)
                go (inl x) = let y = lower s j x in omega arith
                go (inr x) = let y = held_range under (suc (suc n)) (o + length m.constraints) u j x p in omega arith

            under_after : ConstraintsStand w (o + length m.constraints + length (constraints_below under)) (held_below next (suc (suc n) + size under)) →
                (j : ℕ) → o + length m.constraints + length (constraints_below under) ≤ j → j < top → suc (suc n) + size under ≤ holder_at w j
            under_after s j p l = go (order j (o + length m.constraints + length (constraints_below under) + length (constraints_below next)))
              where
                go : (j < o + length m.constraints + length (constraints_below under) + length (constraints_below next)) ⊎ (o + length m.constraints + length (constraints_below under) + length (constraints_below next) ≤ j) →
                    suc (suc n) + size under ≤ holder_at w j
                go (inl x) = (held_range next (suc (suc n) + size under) (o + length m.constraints + length (constraints_below under)) s j p x).0
                go (inr x) = let y = after j (omega (arith, total)) l in omega arith

            own_after : ConstraintsStand w (o + length m.constraints) (held_below under (suc (suc n))) →
                ConstraintsStand w (o + length m.constraints + length (constraints_below under)) (held_below next (suc (suc n) + size under)) →
                (j : ℕ) → o + length m.constraints ≤ j → j < top → suc n < holder_at w j
            own_after u s j p l = go (order j (o + length m.constraints + length (constraints_below under)))
              where
                go : (j < o + length m.constraints + length (constraints_below under)) ⊎ (o + length m.constraints + length (constraints_below under) ≤ j) → suc n < holder_at w j
                go (inl x) = let y = held_range under (suc (suc n)) (o + length m.constraints) u j p x in omega arith
                go (inr x) = let y = under_after s j x l in omega arith

-- the form with what is chosen for its constraints
pub combined_by : (v : ℕ → Constraint) (K : Vocabulary) (t : Form) (w : List ℕ) (r : Tables) → Tabled K t w r → CombinedBy v K (fill v t) w r
combined_by v K t w r s =
    let a = intervals_split w 0 (held_by 1 t.node.constraints) (held_below t.successors 2) s.held in
    let b = held_length 1 t.node.constraints in
    let c = length-append t.node.constraints (constraints_below t.successors) in
    let n = size_filled v t.successors (length t.node.constraints) in
    let u : ConstraintsStand w (length t.node.constraints) (held_below t.successors 2) = subst (λ (i : ℕ). ConstraintsStand w i (held_below t.successors 2)) (omega arith) a.1 in
    record {
      count = omega arith;
      root = record {
        classes = s.rows.0.classes;
        pieces = own_chosen w v r.constraints 1 0 t.node.constraints (omega arith) a.0 (λ j p. absurd (omega arith))
            (λ j p l. let y = held_range w t.successors 2 (length t.node.constraints) u j (omega arith) (omega arith) in omega arith);
      };
      below = below_filled w v r.constraints K t.successors 1 1 (length t.node.constraints) (omega arith) u
          (λ j p. let y = own_held w 1 t.node.constraints 0 a.0 j (omega arith) (omega arith) in omega arith)
          (λ j p l. absurd (omega arith)) s.rows.1;
    }

-- the combination that the pieces of the table make
pub combined : (K : Vocabulary) (t : Form) (w : List ℕ) (r : Tables) → Tabled K t w r → Combined K (fill (piece_at w) t) w r
combined K t w r s = combined_by (piece_at w) K t w r s
