-- Demand 2 of Compliance: whatever `containment::compliance` leaves behind is `CompliancePost`, and here is what follows.
use Rattle.meaning.specs.declared.refusals.Refusal.{Refusal}
use Rattle.std.specs.Prelude.{Err, Ok, Result}
use Prim.Native.Nat.{ℕ}
use mathlib.Core.Bool.{Bool, cond, false, true}
use mathlib.Core.List.{List}
use mathlib.Core.Logic.{◌↔◌}
use mathlib.Core.Path.{◌∙◌, ◌≡◌, ap, refl, sym}
use lib.Dec.{leb}
use lib.ListN.{length}
use native.Mathlib.Omega.{arith}
use borrow.Author.Tests.{le-leb, le-ltb}
use Rattle.containment.specs.Verdicts.{CompliancePost}
use Rattle.demands.proofs.Limits.{limits_uncrowded}
use Rattle.demands.specs.Enough.{Answerable, Answers, Long, Uncrowded, WithinLimits}
use Rattle.meaning.specs.Answers.{compliant, outside, refused, result, verdict_answer}
use Rattle.meaning.specs.Containment.{Apart, Contained, Decision, contained, escapes, resolve}
use Rattle.meaning.specs.Countermodel.{countermodel}
use Rattle.meaning.specs.Limits.{work_size}
use Rattle.meaning.specs.Operations.{compliance, compliance_of, refuses, reported, says}
use Rattle.meaning.specs.Policy.{policy_of}
use Rattle.meaning.specs.Promises.{IsRefusal}
use Rattle.meaning.specs.Vocabulary.{Vocabulary, vocabulary_of}
use Rattle.meaning.specs.declared.Verdict.{Verdict}
use Rattle.meaning.specs.declared.Verdict.TheVariants as verdict
use Rattle.theory.proofs.Apart.{compliant_iff_not_apart, uncrowded_compliant_iff}
use Rattle.theory.proofs.Compliance.{compliant_right, contained_right}

pub is_compliant : (r : Result Verdict Refusal) → verdict_answer r ≡ result compliant → r ≡ Ok verdict.Compliant
is_compliant (Ok verdict.Compliant) e = refl
is_compliant (Ok (verdict.Outside s q n)) e = absurd (let z : ◌≡◌ {A = ℕ} 0 1 = cc in omega arith)
is_compliant (Err x) e = absurd (let z : ◌≡◌ {A = ℕ} 0 1 = cc in omega arith)

module _ {v p q w w' o o' : List ℕ} {r : Result Verdict Refusal} (c : CompliancePost v p q w w' o o' r) where
  -- "compliant" only where each individual of the policy is in the consent, in every interpretation, whatever its sets are
  pub compliant_only : r ≡ Ok verdict.Compliant → Contained (vocabulary_of v) (policy_of p) (policy_of q)
  compliant_only e = compliant_right v p q (length w) (length o) (sym c.answer ∙ ap verdict_answer e)

  -- a verdict that is given is "compliant" where each individual of the policy is in the consent, in every interpretation
  pub compliant_where : Answers r → Contained (vocabulary_of v) (policy_of p) (policy_of q) → r ≡ Ok verdict.Compliant
  compliant_where t h = is_compliant r (c.answer ∙ contained_right v p q (length w) (length o) h (λ x. t (x.0, c.answer ∙ x.1)))

  -- demand 2: "compliant" if and only if the first policy is contained in the second, over all interpretations (SPECIFICATION 5.4)
  pub compliant_iff : Answers r → (r ≡ Ok verdict.Compliant) ↔ Contained (vocabulary_of v) (policy_of p) (policy_of q)
  compliant_iff t = (compliant_only, compliant_where t)

  -- "compliant" if and only if no interpretation that satisfies the vocabulary has an individual in the policy and outside the consent
  pub compliant_iff_apart : Answers r → (r ≡ Ok verdict.Compliant) ↔ (Apart (vocabulary_of v) (policy_of p) (policy_of q) → ⊥)
  compliant_iff_apart t =
      let h = compliant_iff_not_apart v p q (length w) (length o) (λ x. t (x.0, c.answer ∙ x.1)) in
      (λ e. h.0 (sym c.answer ∙ ap verdict_answer e), λ none. is_compliant r (c.answer ∙ h.1 none))

  -- where 22 is not given, whatever the output's length, "compliant" if and only if no interpretation has an individual in the policy
  -- and outside the consent
  pub compliant_iff_uncrowded : Uncrowded v p q (length w) → (r ≡ Ok verdict.Compliant) ↔ (Apart (vocabulary_of v) (policy_of p) (policy_of q) → ⊥)
  compliant_iff_uncrowded a =
      let h = uncrowded_compliant_iff v p q (length w) (length o) a.accepted a.full a.free in
      (λ e. h.0 (sym c.answer ∙ ap verdict_answer e), λ none. is_compliant r (c.answer ∙ h.1 none))

  -- so it is within the limits
  pub compliant_iff_within : WithinLimits v p q (length w) → (r ≡ Ok verdict.Compliant) ↔ (Apart (vocabulary_of v) (policy_of p) (policy_of q) → ⊥)
  compliant_iff_within a = compliant_iff_uncrowded (limits_uncrowded a)

-- where 22 is not given and the output is long enough a verdict is given
module _ (v p q : List ℕ) (w o : ℕ) (a : Answerable v p q w o) where
  told_long : (K : Vocabulary) (d : Decision) → Long K o d (Unit {0}) → IsRefusal (reported K o outside d (says compliant)).answer → ⊥
  told_long K contained l r = let e = r.1 in absurd (let z : ◌≡◌ {A = ℕ} 0 1 = cc in omega arith)
  told_long K (escapes s q u) l r = go (leb (length (countermodel K u)) o) (le-leb (length (countermodel K u)) o l) r.1
    where
      go : (b : Bool) → b ≡ true → (cond b (record { answer = result (outside s q (length (countermodel K u))); words = countermodel K u }) (refuses 23)).answer ≡ refused r.0 → ⊥
      go true h e = absurd (let z : ◌≡◌ {A = ℕ} 0 1 = cc in omega arith)
      go false h e = absurd (let z : ◌≡◌ {A = ℕ} 0 1 = cc in omega arith)

  pub answered : IsRefusal (compliance v p q w o).answer → ⊥
  unfolding compliance compliance_of
  answered r =
      told_long (vocabulary_of v) (resolve (vocabulary_of v) (policy_of p) (policy_of q)) a.long
      (rw (a.within.accepted, le-ltb w work_size a.within.full, a.within.free) at r)

pub compliance_answers : {v p q w w' o o' : List ℕ} {r : Result Verdict Refusal} → CompliancePost v p q w w' o o' r → Answerable v p q (length w) (length o) → Answers r
compliance_answers {v} {p} {q} {w} {o = o} c a x = answered v p q (length w) (length o) a (x.0, sym c.answer ∙ x.1)
