-- What callers cite: an accepted policy's ends can be collected, the constraints of the tables are the form's, none of a clean
-- form's is empty, and turning pieces keeps the tables.
use Prim.Native.Nat.{◌+◌, ◌<◌, ◌≤◌, suc, zero, ℕ}
use mathlib.Core.Bool.{◌&&◌, true}
use mathlib.Core.List.{List, [], ◌∷◌, map}
use mathlib.Core.Path.{◌∙◌, ◌≡◌, ap, ap₂, refl, subst, sym}
use native.Mathlib.Nat.{zero-add}
use native.Mathlib.Omega.{arith}
use lib.ListN.{length}
use Rattle.frames.specs.Frames.{Only}
use Rattle.layout.proofs.Entries.{held_constraints, held_in_lem, tabled_kept}
use Rattle.layout.specs.Tables.{ConstraintsStand, Held, Pieces, Tabled, constraint_at, held_in}
use Rattle.layout.specs.declared.Tables.{Tables}
use Rattle.meaning.specs.Intervals.{NonEmpty, is_non_empty}
use Rattle.meaning.specs.Limits.{most_records}
use Rattle.meaning.specs.Lists.{all, counting}
use Rattle.meaning.specs.NormalForm.{Form, clean_node, clean_successors}
use Rattle.meaning.specs.Policy.{Policy, policy_refusal}
use Rattle.meaning.specs.Splitting.{combination_count, constraints_of, product}
use Rattle.meaning.specs.Vocabulary.{Vocabulary}
use Rattle.splitting.proofs.Storing.{full_kept}
use Rattle.splitting.specs.Ends.{Collectable, end_words}
use Rattle.splitting.specs.Constraints.{Full, Splittable, first_constraints}
use Rattle.theory.proofs.Intervals.{is_non_empty_iff}
use Rattle.theory.proofs.Picks.{AllNonEmpty, clean_non_empty_form}
use Rattle.theory.proofs.Rules.{T_and, all_map, all_mono, all_out, head, is_true, tail}
pub use Rattle.splitting.proofs.Storing.{constraints_kept}
pub use Rattle.splitting.proofs.Whole.{whole_form}

-- ---- before: a policy that the reader accepts

pub collectable : (v : List ℕ) {q e : List ℕ} → policy_refusal v q ≡ 0 → end_words ≤ length e → Collectable q e
collectable v a h = record { vocabulary = v; accepted = a; room = h }

-- ---- none of the constraints is empty

full : (w : List ℕ) (n : ℕ) → AllNonEmpty (first_constraints w n) → Full w n
full w n a m h = subst (λ (i : ℕ). NonEmpty (constraint_at w i).lo (constraint_at w i).hi) (zero-add m) (each 0 n m a h)
  where
    each : (o n m : ℕ) → AllNonEmpty (map (constraint_at w) (counting o n)) → m < n → NonEmpty (constraint_at w (o + m)).lo (constraint_at w (o + m)).hi
    each o zero m a h = absurd (omega arith)
    each o (suc n) zero a h = let z : o ≡ o + 0 = omega arith in rw (← z) (head a)
    each o (suc n) (suc m) a h = let z : suc o + m ≡ o + suc m = omega arith in rw (← z) (each (suc o) n m (tail a) (omega arith))

pub full_non_empty : (w : List ℕ) (n : ℕ) → all (λ m. is_non_empty (constraint_at w m).lo (constraint_at w m).hi) (counting 0 n) ≡ true → Full w n
full_non_empty w n q =
    full w n (all_map (constraint_at w) (all_mono (λ m u. (is_non_empty_iff (constraint_at w m).lo (constraint_at w m).hi).0 u)
    (all_out (λ m. is_non_empty (constraint_at w m).lo (constraint_at w m).hi) (counting 0 n) (is_true q))))

-- ---- the constraints are the form's

stand_at : (w : List ℕ) (m : ℕ) (l : List Held) → ConstraintsStand w m l → map (constraint_at w) (counting m (length l)) ≡ map (λ h. h.constraint) l
stand_at w m [] s = refl
stand_at w m (h ∷ l) s = ap₂ (λ x k. x ∷ k) (ap (λ (k : Held). k.constraint) s.0) (stand_at w (suc m) l s.1)

module _ {K : Vocabulary} {F : Form} {w : List ℕ} {t : Tables} (s : Tabled K F w t) where
  pub constraints_at_lem : first_constraints w t.constraints ≡ constraints_of F
  constraints_at_lem = ap (first_constraints w) (s.top ∙ sym (held_in_lem F)) ∙ (stand_at w 0 (held_in F) s.held ∙ held_constraints F)

  pub product_at : (Q : Policy) → product Q (first_constraints w t.constraints) ≡ combination_count Q F
  unfolding combination_count
  product_at Q = ap (product Q) constraints_at_lem

  pub full_clean : (clean_node K F.node && clean_successors K F.successors) ≡ true → Full w t.constraints
  full_clean e =
      let c = T_and (clean_node K F.node) (clean_successors K F.successors) (is_true e) in
      full w t.constraints (rw constraints_at_lem (clean_non_empty_form K F c.0 c.1))

  -- ---- the tables stay

  pub tabled_turned : {n : ℕ} {w' : List ℕ} → Only (Pieces n) w w' → (t.individuals ≤ most_records) × (t.constraints ≤ most_records) → Tabled K F w' t
  tabled_turned {n} {w'} k most =
      tabled_kept K F w w' t most k.size (λ i a b. k.others i (λ p. omega (arith, p.span.low)))
      (λ m c i a b. k.others i (λ p. omega (arith, p.span.low, p.span.high))) s

pub splittable_kept : {m n : ℕ} {w w' : List ℕ} → Only (Pieces m) w w' → Splittable w n → Splittable w' n
splittable_kept {n = n} k s = record { few = s.few; long = omega (arith, k.size); full = full_kept k n s.full }
