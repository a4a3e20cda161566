-- The short way, SPECIFICATION 7.7: a term that passes whole fails nowhere, so that "contained" by the short way is what the
-- combinations decide, too; and when 22 is considered.
use Prim.Native.Nat.{◌+◌, suc, ℕ}
use mathlib.Core.Bool.{Bool, ◌&&◌, ◌||◌, cond, false, not, true}
use mathlib.Core.List.{[], ◌++◌, ◌∷◌, append-nil}
use mathlib.Core.Path.{◌∙◌, ◌≡◌, ap, refl, sym}
use lib.Dec.{T}
use lib.ListN.{length}
use native.Mathlib.Omega.{arith}
use Rattle.meaning.specs.Containment.{Contained, contained, crowded, decide, decide_from, first_failure, or_escape}
use Rattle.meaning.specs.Containment.{passes, passes_whole, resolve, short_way, too_many}
use Rattle.meaning.specs.Lists.{all, first_failing, nowhere}
use Rattle.meaning.specs.NormalForm.{clean_node, has_bottom, normal_form, possible}
use Rattle.meaning.specs.Policy.{Chain, Policy}
use Rattle.meaning.specs.Splitting.{combinations, constraints_of}
use Rattle.meaning.specs.Vocabulary.{Vocabulary}
use Rattle.theory.proofs.Containment.{passes_sound}
use Rattle.theory.proofs.Picks.{AllNonEmpty, clean_non_empty_form}
use Rattle.theory.proofs.Rewriting.{holds_possible, normal_in}
use Rattle.theory.proofs.Rules.{T_and, all_any, all_out, imp_out, is_true, same_test}
use Rattle.theory.proofs.Whole.{whole_passes}

possible_non_empty : (K : Vocabulary) (p : Chain) → T (possible K p) → AllNonEmpty (constraints_of (normal_form K p))
unfolding possible
possible_non_empty K p t =
    let a = T_and (not (has_bottom p)) _ t in
    let b = T_and (clean_node K (normal_form K p).node) _ a.1 in
    clean_non_empty_form K (normal_form K p) b.0 b.1

module _ (K : Vocabulary) (Q : Policy) where
  -- no combination of a term that passes whole fails
  whole_nowhere : (p : Chain) → T (passes_whole K Q p) → first_failure K Q p ≡ nowhere
  unfolding first_failure
  whole_nowhere p t = go (possible K p) refl t
    where
      go : (b : Bool) → possible K p ≡ b → T (not b || passes K Q (normal_form K p)) →
          cond b (first_failing (passes K Q) 1 (combinations Q (normal_form K p))) nowhere ≡ nowhere
      go true e u =
          whole_passes K Q (normal_form K p) (possible_non_empty K p (is_true e)) (same_test (passes K Q (normal_form K p)) true (λ _. tt) (λ _. u))
      go false e u = refl

  -- so what is decided of terms behind such ones is what is decided of all
  pub decide_behind : (s : ℕ) (before l : Policy) → T (all (passes_whole K Q) before) →
      decide_from K Q s (before ++ l) ≡ decide_from K Q (s + length before) l
  decide_behind s [] l t = ap (λ (j : ℕ). decide_from K Q j l) (omega arith)
  decide_behind s (p ∷ before) l t =
      let a = T_and (passes_whole K Q p) _ t in
      ap (λ y. or_escape s y (decide_from K Q (suc s) (before ++ l))) (whole_nowhere p a.0) ∙ decide_behind (suc s) before l a.1
      ∙ ap (λ (j : ℕ). decide_from K Q j l) (omega arith)

module _ (K : Vocabulary) (P Q : Policy) where
  -- wherever the combinations are tried too, they decide the same
  pub short_agrees : short_way K P Q ≡ true → decide K P Q ≡ contained
  unfolding short_way decide
  short_agrees e = ap (decide_from K Q 1) (sym (append-nil P)) ∙ decide_behind K Q 1 P [] (is_true e)

  pub resolve_decide : resolve K P Q ≡ decide K P Q
  unfolding resolve
  resolve_decide = go (short_way K P Q) short_agrees
    where
      go : (b : Bool) → (b ≡ true → decide K P Q ≡ contained) → cond b contained (decide K P Q) ≡ decide K P Q
      go true h = sym (h refl)
      go false h = refl

  -- the short way needs no combinations to be right
  pub short_contained : short_way K P Q ≡ true → Contained K P Q
  unfolding short_way
  short_contained e I proper s d i h =
      let a = all_any (all_out (passes_whole K Q) P (is_true e)) h in
      let t = imp_out (possible K a.0) _ a.1 (holds_possible I K s a.0 d a.2) in
      passes_sound I K s Q (normal_form K a.0) d t (normal_in I K s a.0 d a.2)

  -- ---- 22

  pub short_uncrowded : short_way K P Q ≡ true → crowded K P Q ≡ false
  unfolding crowded
  short_uncrowded e = rw e

  pub few_uncrowded : too_many K P Q ≡ false → crowded K P Q ≡ false
  unfolding crowded
  few_uncrowded e = rw e (go (not (short_way K P Q)))
    where
      go : (b : Bool) → (b && false) ≡ false
      go true = refl
      go false = refl

  pub split_crowded : short_way K P Q ≡ false → crowded K P Q ≡ too_many K P Q
  unfolding crowded
  split_crowded e = rw e
