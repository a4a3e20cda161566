-- Possible means that some interpretation has an individual in the term; a finite one is enough.
use Prim.Native.Nat.{◌≤◌, ℕ}
use mathlib.Core.Bool.{false}
use mathlib.Core.List.{List, [], ◌∷◌}
use mathlib.Core.Logic.{◌↔◌}
use mathlib.Core.Path.{◌≡◌, refl}
use lib.Dec.{T}
use lib.ListN.{length}
use native.Mathlib.Omega.{arith}
use Rattle.meaning.specs.Interpretation.{Holds, Interpretation, Proper, Satisfies}
use Rattle.meaning.specs.Lists.{◌∈◌, here}
use Rattle.meaning.specs.Model.{stands}
use Rattle.meaning.specs.Normal.{Bounded}
use Rattle.meaning.specs.NormalForm.{normal_form, possible}
use Rattle.meaning.specs.Policy.{Chain}
use Rattle.meaning.specs.Promises.{Satisfiable}
use Rattle.meaning.specs.Splitting.{combinations}
use Rattle.meaning.specs.Vocabulary.{Vocabulary}
use Rattle.theory.proofs.Containment.{witness}
use Rattle.theory.proofs.Count.{combinations_some}
use Rattle.theory.proofs.Normal.{BoundedChain}
use Rattle.theory.proofs.Rewriting.{holds_possible}
use Rattle.theory.proofs.Rules.{is_false, not_true}

-- a list with a length has a first element
first_of : {A : Type 0} (l : List A) → 1 ≤ length l → (x : A) × (x ∈ l)
first_of [] b = absurd (omega arith)
first_of (x ∷ l) b = (x, here refl)

module _ (K : Vocabulary) (w : Bounded K) (p : Chain) (b : BoundedChain K.classes p) where
  -- the canonical model of the first combination against no policy
  pub possible_iff : T (possible K p) ↔ Satisfiable K p
  possible_iff = (
    λ t.
        let u = first_of (combinations [] (normal_form K p)) (combinations_some [] (normal_form K p)) in
        let v = witness K w [] p b t u.0 u.1 in
        record { number = _; facts = _; proper = v.proper; satisfies = v.satisfies; holds = v.holds },
    λ m. holds_possible (stands m.number m.facts) K m.satisfies p 1 m.holds,
  )

  -- impossible means that no interpretation has one
  pub impossible_iff : (possible K p ≡ false) ↔ ((I : Interpretation) → Proper I → Satisfies I K → (d : ℕ) → Holds I p d → ⊥)
  impossible_iff = (
    λ e I proper s d h. not_true e (holds_possible I K s p d h),
    λ f. is_false (possible K p) (λ t. let m = possible_iff.0 t in f (stands m.number m.facts) m.proper m.satisfies 1 m.holds),
  )
