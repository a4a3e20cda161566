-- Demand 2 for the definition of Model check, from words to answers.
use Prim.Native.Nat.{suc, zero, ℕ}
use mathlib.Core.Bool.{Bool, So, cond, false, true}
use mathlib.Core.List.{List}
use mathlib.Core.Logic.{◌↔◌}
use mathlib.Core.Path.{◌≡◌, refl}
use lib.Dec.{T, eqb}
use lib.ListN.{length}
use native.Mathlib.Omega.{arith}
use Rattle.meaning.specs.Answers.{Answer, CheckResult, no, refused, result, yes}
use Rattle.meaning.specs.Interpretation.{Proper}
use Rattle.meaning.specs.Limits.{most_individuals}
use Rattle.meaning.specs.Lists.{All, cons, nil}
use Rattle.meaning.specs.Model.{Fact, fact_at, fact_fits, fact_kind, fact_next, facts_from, facts_of, facts_refusal, first_fact}
use Rattle.meaning.specs.Model.{individual_count, model_refusal, stands}
use Rattle.meaning.specs.ModelCheck.{refutes}
use Rattle.meaning.specs.Operations.{input_refusal, model_check, work_refusal}
use Rattle.meaning.specs.Policy.{Policy, policy_of}
use Rattle.meaning.specs.Promises.{CorrectCheck, Countered, IsRefusal, countered, standing, unsaid_check}
use Rattle.meaning.specs.Records.{Name, or_else}
use Rattle.meaning.specs.Vocabulary.{Vocabulary, class_count, feature_count, role_count, vocabulary_of}
use Rattle.theory.proofs.Links.{choose, passed, tests}
use Rattle.theory.proofs.ModelCheck.{refutes_iff}
use Rattle.theory.proofs.ModelWords.{NamedFact}
use Rattle.theory.proofs.Refusals.{unless_all}
use Rattle.theory.proofs.Rules.{all_at, is_true, not_true}

module _ (v p q m : List ℕ) where
  pub check_judged : (w : ℕ) → CorrectCheck v p q m (model_check v p q m w)
  unfolding model_check
  check_judged w =
      unless_all (CorrectCheck v p q m) refused (or_else (input_refusal v p q) (or_else (model_refusal v m) (work_refusal w))) _ unsaid_check (λ e. go (refutes F K P Q) refl)
    where
      F : List Fact
      F = facts_of m

      K : Vocabulary
      K = vocabulary_of v

      P : Policy
      P = policy_of p

      Q : Policy
      Q = policy_of q

      right : T (refutes F K P Q) ↔ Countered v p q m
      right = refutes_iff F (individual_count m) K P Q

      go : (b : Bool) → refutes F K P Q ≡ b → CorrectCheck v p q m (cond b (result yes) (result no))
      go true e = countered (right.0 (is_true e))
      go false e = standing (λ c. not_true e (right.1 c))

  -- where the check answers, yes if and only if
  pub check_right : (w : ℕ) → (IsRefusal (model_check v p q m w) → ⊥) → (model_check v p q m w ≡ result yes) ↔ Countered v p q m
  check_right w t = go (model_check v p q m w) (check_judged w) t
    where
      go : (a : Answer CheckResult) → CorrectCheck v p q m a → (IsRefusal a → ⊥) → (a ≡ result yes) ↔ Countered v p q m
      go a (unsaid_check n) t = absurd (t (n, refl))
      go a (countered c) t = (λ e. c, λ d. refl)
      go a (standing f) t = (λ e. absurd (let z : ◌≡◌ {A = ℕ} 0 1 = cc in omega arith), λ d. absurd (f d))

-- accepted words stand for an interpretation: its individuals are 1 to the header's number, and the facts are of them
module _ (v m : List ℕ) where
  abbrev FactOf : Fact → Type 0
  FactOf x = NamedFact (class_count v) (role_count v) (feature_count v) (individual_count m) x

  fact_named : (k : ℕ) → fact_fits v m k ≡ true → FactOf (fact_at m k)
  fact_named k h =
      let u = simp tests at h in
      let i = u.0 in
      choose So FactOf (eqb (fact_kind m k) 1) (λ _ g. let a = simp tests at g in (a.0, i)) (λ _.
      choose So FactOf (eqb (fact_kind m k) 2) (λ _ g. let a = simp tests at g in (a.0, i, a.1)) (λ _ g. let a = simp tests at g in (a.1, i)))
      u.1

  facts_named : (f k : ℕ) → facts_refusal f v m k ≡ 0 → All FactOf (facts_from f m k)
  facts_named zero k = λ h. nil
  facts_named (suc f) k =
      choose (λ (n : ℕ). n ≡ 0) (All FactOf) (eqb k 0) (λ _ _. nil) (λ _ h.
      let u = simp (passed 32, tests) at h in cons (fact_named k (simp tests u.0.0)) (facts_named f (fact_next m k) u.1))

  pub accepted_facts : model_refusal v m ≡ 0 → Name most_individuals (individual_count m) × All (NamedFact (class_count v) (role_count v) (feature_count v) (individual_count m)) (facts_of m)
  unfolding model_refusal facts_of
  accepted_facts h = let u = simp (passed 30, passed 31, tests) at h in (u.1.0.1.0, facts_named (length m) (first_fact m) u.1.1)

  pub accepted_model : model_refusal v m ≡ 0 → Proper (stands (individual_count m) (facts_of m))
  accepted_model h =
      let a = accepted_facts h in record {
        inhabited = (1, (omega arith, a.0.0));
        classes = λ c i k. (all_at a.1 k).1;
        sources = λ r i j k. (all_at a.1 k).1;
        targets = λ r i j k. (all_at a.1 k).2;
        holders = λ f i w k. (all_at a.1 k).1;
      }
