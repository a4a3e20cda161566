-- What Possible's definition answers, from words to answers: the first term in which some interpretation has an individual.
use Prim.Native.Nat.{◌+◌, suc, ℕ}
use mathlib.Core.Bool.{Bool, cond, false, true}
use mathlib.Core.List.{List, [], ◌++◌, ◌∷◌}
use mathlib.Core.Logic.{◌⊎◌, inl, inr}
use mathlib.Core.Path.{◌≡◌, ap, refl, subst}
use lib.ListN.{length}
use native.Mathlib.Omega.{arith}
use Rattle.meaning.specs.Answers.{PossibilityResult, first_possible, none_possible, refused, result}
use Rattle.meaning.specs.Interpretation.{Holds, In}
use Rattle.meaning.specs.Lists.{All}
use Rattle.meaning.specs.Normal.{Bounded}
use Rattle.meaning.specs.NormalForm.{possible}
use Rattle.meaning.specs.Operations.{possibility, possible_from, work_refusal}
use Rattle.meaning.specs.Policy.{Chain, Policy, policy_of, policy_refusal}
use Rattle.meaning.specs.Promises.{CorrectPossibility, Satisfiable, Vacant, inhabited, unsaid_possibility, vacant}
use Rattle.meaning.specs.Records.{or_else}
use Rattle.meaning.specs.Vocabulary.{Vocabulary, vocabulary_of, vocabulary_refusal}
use Rattle.theory.proofs.Bounds.{bounded, bounded_terms}
use Rattle.theory.proofs.Impossible.{possible_iff}
use Rattle.theory.proofs.Normal.{BoundedChain}
use Rattle.theory.proofs.Refusals.{or_else_zero, unless_all}
use Rattle.theory.proofs.Rewriting.{holds_possible}
use Rattle.theory.proofs.Rules.{any_cases, any_none, head, is_true, not_true, tail}

-- no individual is in a term that is impossible
vacant_more : (K : Vocabulary) (p : Chain) (P : Policy) → possible K p ≡ false → Vacant K P → Vacant K (p ∷ P)
vacant_more K p P e f I proper s d h = go (any_cases h)
  where
    go : Holds I p d ⊎ In I P d → ⊥
    go (inl k) = not_true e (holds_possible I K s p d k)
    go (inr k) = f I proper s d k

-- the terms from the place s on
data PossiblyFrom (s : ℕ) (K : Vocabulary) (P : Policy) : PossibilityResult → Type 1 where
  none_found : Vacant K P → PossiblyFrom s K P none_possible
  found_at : (before : Policy) (term : Chain) (after : Policy) → P ≡ before ++ (term ∷ after) → Vacant K before → Satisfiable K term → PossiblyFrom s K P (first_possible (s + length before))

module _ (K : Vocabulary) (w : Bounded K) where
  possibly_more : (p : Chain) (P : Policy) → possible K p ≡ false → (s : ℕ) (a : PossibilityResult) → PossiblyFrom (suc s) K P a → PossiblyFrom s K (p ∷ P) a
  possibly_more p P e s a (none_found f) = none_found (vacant_more K p P e f)
  possibly_more p P e s a (found_at before t after q f h) =
      subst (λ (n : ℕ). PossiblyFrom s K (p ∷ P) (first_possible n)) (omega arith) (found_at (p ∷ before) t after (ap (λ (l : Policy). p ∷ l) q) (vacant_more K p before e f) h)

  possibly_from : (s : ℕ) (P : Policy) → All (BoundedChain K.classes) P → PossiblyFrom s K P (possible_from K s P)
  possibly_from s [] b = none_found (λ I proper m d h. any_none h)
  possibly_from s (p ∷ P) b = go (possible K p) refl (possibly_from (suc s) P (tail b))
    where
      go : (t : Bool) → possible K p ≡ t → PossiblyFrom (suc s) K P (possible_from K (suc s) P) → PossiblyFrom s K (p ∷ P) (cond t (first_possible s) (possible_from K (suc s) P))
      go true e h =
          subst (λ (n : ℕ). PossiblyFrom s K (p ∷ P) (first_possible n)) (omega arith)
          (found_at [] p P refl (λ I proper m d k. any_none k) ((possible_iff K w p (head b)).0 (is_true e)))
      go false e h = possibly_more p P e s (possible_from K (suc s) P) h

pub possibility_right : (v p : List ℕ) (w : ℕ) → CorrectPossibility (vocabulary_of v) (policy_of p) (possibility v p w)
unfolding possibility
possibility_right v p w =
    unless_all (CorrectPossibility (vocabulary_of v) (policy_of p)) refused (or_else (vocabulary_refusal v) (or_else (policy_refusal v p) (work_refusal w))) _ unsaid_possibility (λ e.
    let a = or_else_zero (vocabulary_refusal v) (or_else (policy_refusal v p) (work_refusal w)) e in
    let b = or_else_zero (policy_refusal v p) (work_refusal w) a.1 in
    answered (possible_from (vocabulary_of v) 1 (policy_of p)) (possibly_from (vocabulary_of v) (bounded v a.0) 1 (policy_of p) (bounded_terms v p b.0)))
  where
    answered : (x : PossibilityResult) → PossiblyFrom 1 (vocabulary_of v) (policy_of p) x → CorrectPossibility (vocabulary_of v) (policy_of p) (result x)
    answered x (none_found f) = vacant f
    answered x (found_at before t after q f h) = subst (λ (n : ℕ). CorrectPossibility (vocabulary_of v) (policy_of p) (result (first_possible n))) (omega arith) (inhabited before t after q f h)
