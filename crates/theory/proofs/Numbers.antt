-- The numbers of the refusals: none is 0, and what hands a fault on keeps its number.
use Prim.Native.Nat.{suc, zero, ℕ}
use mathlib.Core.Path.{◌∙◌, ◌≡◌, ap, refl, subst, sym}
use native.Mathlib.Omega.{arith}
use Rattle.std.specs.Prelude.{Err, IsErrAnd, Ok, Result}
use Rattle.meaning.specs.Answers.{Answer, ReadingResult, accepted, reading_answer, refused, result}
use Rattle.meaning.specs.Operations.{unless}
use Rattle.meaning.specs.Policy.{second_refusal}
use Rattle.meaning.specs.Refusals.{fault_in, model_number, policy_number, refusal_number, vocabulary_number}
use Rattle.meaning.specs.declared.refusals.ModelFault.{ModelFault}
use Rattle.meaning.specs.declared.refusals.PolicyFault.{PolicyFault}
use Rattle.meaning.specs.declared.refusals.Refusal.{Refusal}
use Rattle.meaning.specs.declared.refusals.VocabularyFault.{VocabularyFault}
use Rattle.meaning.specs.declared.refusals.ModelFault.TheVariants as model
use Rattle.meaning.specs.declared.refusals.PolicyFault.TheVariants as policy
use Rattle.meaning.specs.declared.refusals.Refusal.TheVariants as refusal
use Rattle.meaning.specs.declared.refusals.VocabularyFault.TheVariants as vocabulary

pub vocabulary_numbered : (f : VocabularyFault) → vocabulary_number f ≡ 0 → ⊥
vocabulary_numbered vocabulary.Length e = omega arith
vocabulary_numbered vocabulary.Header e = omega arith
vocabulary_numbered vocabulary.Record e = omega arith
vocabulary_numbered vocabulary.Opposed e = omega arith

pub policy_numbered : (f : PolicyFault) → policy_number f ≡ 0 → ⊥
policy_numbered policy.Length e = omega arith
policy_numbered policy.Header e = omega arith
policy_numbered policy.Record e = omega arith
policy_numbered policy.ReachedTwice e = omega arith
policy_numbered policy.TooDeep e = omega arith

pub model_numbered : (f : ModelFault) → model_number f ≡ 0 → ⊥
model_numbered model.Length e = omega arith
model_numbered model.Header e = omega arith
model_numbered model.Record e = omega arith

pub refusal_numbered : (r : Refusal) → refusal_number r ≡ 0 → ⊥
refusal_numbered (refusal.Vocabulary f) e = vocabulary_numbered f e
refusal_numbered (refusal.Policy f) e = policy_numbered f e
refusal_numbered (refusal.SecondPolicy policy.Length) e = omega arith
refusal_numbered (refusal.SecondPolicy policy.Header) e = omega arith
refusal_numbered (refusal.SecondPolicy policy.Record) e = omega arith
refusal_numbered (refusal.SecondPolicy policy.ReachedTwice) e = omega arith
refusal_numbered (refusal.SecondPolicy policy.TooDeep) e = omega arith
refusal_numbered refusal.Work e = omega arith
refusal_numbered refusal.Combinations e = omega arith
refusal_numbered refusal.Output e = omega arith
refusal_numbered (refusal.Model f) e = model_numbered f e
refusal_numbered refusal.Input e = omega arith
refusal_numbered refusal.Text e = omega arith
refusal_numbered refusal.Names e = omega arith
refusal_numbered refusal.Spelling e = omega arith
refusal_numbered refusal.Load e = omega arith

-- a fault as it is, and as the refusal that a `?` makes of it
pub kept : {A E : Type 0} (number : E → ℕ) (r : Result A E) {e : E} → IsErrAnd r (λ f. f ≡ e) → fault_in number r ≡ number e
kept number (Ok a) h = absurd h
kept number (Err f) h = ap number h

pub converted : {A E : Type 0} (r : Result A Refusal) (e : E) (refuse : E → Refusal) {n : ℕ} → IsErrAnd r (λ f. f ≡ refuse e) → refusal_number (refuse e) ≡ n →
    fault_in refusal_number r ≡ n
converted (Ok a) e refuse h k = absurd h
converted (Err f) e refuse h k = ap refusal_number h ∙ k

pub handed_on : {A E : Type 0} (P : Result A E → Type 0) (r : Result A E) {e : E} → IsErrAnd r (λ f. f ≡ e) → P (Err e) → P r
handed_on P (Ok a) h p = absurd h
handed_on P (Err f) h p = subst (λ x. P (Err x)) (sym h) p

pub unless_refused : {A : Type 0} (n : ℕ) (told : Answer A) → (n ≡ 0 → ⊥) → refused n ≡ unless refused n told
unless_refused zero told h = absurd (h refl)
unless_refused (suc n) told h = refl

-- a reader's answer, by the number that it has
pub reading_told : {U : Type 0} (r : Result U Refusal) → reading_answer r ≡ unless refused (fault_in refusal_number r) (result accepted)
reading_told (Ok u) = refl
reading_told (Err e) = unless_refused (refusal_number e) (result accepted) (refusal_numbered e)
