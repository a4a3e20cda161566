-- Equal policies may have two spellings: days 0 to 9, and days 0 to 4 or 5 to 9.
use Prim.Native.Nat.{ℕ}
use mathlib.Core.List.{[], ◌∷◌}
use mathlib.Core.Logic.{⊎_elim}
use mathlib.Core.Path.{◌≡◌}
use native.Mathlib.Omega.{arith}
use Rattle.meaning.specs.Containment.{Indistinct}
use Rattle.meaning.specs.Lists.{here, there}
use Rattle.meaning.specs.NormalForm.{normal_form, possible}
use Rattle.meaning.specs.Policy.{Policy, end, interval}
use Rattle.meaning.specs.Stated.{is_functional_feature, is_functional_role}
use Rattle.meaning.specs.Vocabulary.{Vocabulary}
use Rattle.spelling.specs.Spelling.{spelled, spelled_term, spelling}
use Rattle.theory.proofs.Rules.{any_cases, any_none, order}

abbrev whole : Policy
whole = interval 1 0 9 end ∷ []

abbrev halves : Policy
halves = interval 1 0 4 end ∷ (interval 1 5 9 end ∷ [])

pub halves_equal : (K : Vocabulary) → Indistinct K whole halves
halves_equal K I proper s d i = (
  λ h. ⊎_elim (λ w. let v = w.0 in ⊎_elim (λ l. here ((v.0, v.1, omega arith), tt)) (λ l. there (here ((v.0, v.1, omega arith), tt)))
      (order v.0 5)) (λ w. absurd (any_none w)) (any_cases h),
  λ h.
      ⊎_elim (λ w. let v = w.0 in here ((v.0, v.1, omega arith), tt))
      (λ w. ⊎_elim (λ x. let v = x.0 in here ((v.0, v.1, omega arith), tt)) (λ x. absurd (any_none x)) (any_cases w)) (any_cases h),
)

pub two_spellings : (K : Vocabulary) → spelled K whole ≡ spelled K halves → ⊥
unfolding spelled spelled_term spelling possible normal_form is_functional_role is_functional_feature
two_spellings K e = let z : ◌≡◌ {A = ℕ} 9 4 = cc in omega arith
