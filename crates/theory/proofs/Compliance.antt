-- Demand 2 for the definition of Compliance, from words to answers.
use Prim.Native.Nat.{◌≤◌, suc, ℕ}
use mathlib.Core.Bool.{Bool, cond, false, true}
use mathlib.Core.List.{List}
use mathlib.Core.Path.{◌≡◌, refl, subst, subst₂, sym}
use lib.Dec.{leb, leb→le}
use lib.ListN.{length}
use native.Mathlib.Omega.{arith}
use Rattle.meaning.specs.Answers.{VerdictResult, compliant, outside, result}
use Rattle.meaning.specs.Containment.{Contained, ContainedFinite, ContainedTested, Decision, Refutes, crowded, decide, escapes}
use Rattle.meaning.specs.Containment.{resolve}
use Rattle.meaning.specs.Countermodel.{canonical_model, countermodel, individuals}
use Rattle.meaning.specs.Lists.{All, ◌∈◌, here}
use Rattle.meaning.specs.Model.{Fact, facts_of, individual_count}
use Rattle.meaning.specs.Normal.{Bounded}
use Rattle.meaning.specs.NormalForm.{Form}
use Rattle.meaning.specs.Operations.{Outcome, compliance, compliance_of, input_refusal, refuses, reported, says, work_refusal}
use Rattle.meaning.specs.Policy.{Policy, policy_of}
use Rattle.meaning.specs.Promises.{Complies, CorrectVerdict, Escape, FirstFailure, IsRefusal, agreed, escaped, unsaid_verdict}
use Rattle.meaning.specs.Records.{or_else}
use Rattle.meaning.specs.Vocabulary.{Vocabulary, vocabulary_of}
use Rattle.theory.proofs.Bounds.{bounded, bounded_terms}
use Rattle.theory.proofs.Containment.{Decided, all_comply, decided, refuted, some_fails, sound}
use Rattle.theory.proofs.Interpretations.{contained_finite, tested_finite}
use Rattle.theory.proofs.ModelWords.{model_facts, model_individuals}
use Rattle.theory.proofs.Normal.{BoundedChain}
use Rattle.theory.proofs.Refusals.{accepted_input, cond_all, or_else_zero, unless_all}
use Rattle.theory.proofs.Rules.{any_right, is_true}
use Rattle.theory.proofs.ShortWay.{resolve_decide}

-- where the first policy is contained in the second, in finite interpretations, there is none
pub no_escape : {K : Vocabulary} {P Q : Policy} {s q : ℕ} {words : List ℕ} → ContainedFinite K P Q → Escape K P Q s q words → ⊥
no_escape {words = words} c e =
    let r = e.refutes in
    r.without (c (individual_count words) (facts_of words) r.proper r.satisfies 1
    (subst (λ (n : ℕ). (1 ≤ 1) × (1 ≤ n)) (sym e.individuals_are) (omega arith, omega arith)) r.within)

module _ (K : Vocabulary) (w : Bounded K) where
  pub escape : (P Q : Policy) → All (BoundedChain K.classes) P → {s q : ℕ} {u : Form} → FirstFailure K P Q s q u → Escape K P Q s q (countermodel K u)
  unfolding countermodel
  escape P Q f {u = u} h = record {
    combination = u;
    first = h;
    written = refl;
    individuals_are = model_individuals (individuals u) (canonical_model K u);
    facts_are = model_facts (individuals u) (canonical_model K u);
    refutes =
        subst₂ (λ (n : ℕ) (F : List Fact). Refutes K P Q n F) (sym (model_individuals (individuals u) (canonical_model K u))) (sym (model_facts (individuals u) (canonical_model K u)))
        (refuted K w P Q f h.term (subst (λ (l : Policy). h.term ∈ l) (sym h.split) (any_right h.before (here refl))) h.is_possible u
        (subst (λ (l : List Form). u ∈ l) (sym h.combination.split) (any_right h.combination.before (here refl))) h.combination.fails);
  }

  -- what a decision reports: what follows where the first policy complies, else an escape with its words, or 23
  pub reported_all {ℓ} : {A : Type 0} (P Q : Policy) → All (BoundedChain K.classes) P → (o : ℕ) (tell : ℕ → ℕ → ℕ → A) (rest : Outcome A) (R : Outcome A → Type ℓ) →
      ((n : ℕ) → R (refuses n)) → (All (Complies K Q) P → R rest) →
      ((s q : ℕ) (words : List ℕ) → Escape K P Q s q words → length words ≤ o → R (record { answer = result (tell (suc s) (suc q) (length words)); words = words })) →
      R (reported K o tell (resolve K P Q) rest)
  reported_all P Q f o tell rest R refuse yes-all no_one = rw (resolve_decide K P Q) (go (decide K P Q) (decided K P Q))
    where
      fits : (s q : ℕ) (words : List ℕ) → Escape K P Q s q words → (b : Bool) → leb (length words) o ≡ b →
          R (cond b (record { answer = result (tell (suc s) (suc q) (length words)); words = words }) (refuses 23))
      fits s q words e true h = no_one s q words e (leb→le (length words) o (is_true h))
      fits s q words e false h = refuse 23

      go : (d : Decision) → Decided K 1 P Q d → R (reported K o tell d rest)
      go d (all_comply h) = yes-all h
      go d (some_fails {i = i} {q = q} {u = u} h) =
          subst (λ (n : ℕ). R (reported K o tell (escapes n (suc q) u) rest)) (omega arith)
          (fits i q (countermodel K u) (escape P Q f h) (leb (length (countermodel K u)) o) refl)

module _ (v p q : List ℕ) where
  abbrev K : Vocabulary
  K = vocabulary_of v

  pub compliance_told : (w o : ℕ) → CorrectVerdict (vocabulary_of v) (policy_of p) (policy_of q) o (compliance v p q w o)
  unfolding compliance compliance_of
  compliance_told w o =
      unless_all (CorrectVerdict K (policy_of p) (policy_of q) o) refuses (or_else (input_refusal v p q) (work_refusal w)) _ unsaid_verdict (λ e.
      let a = accepted_input v p q (or_else_zero (input_refusal v p q) (work_refusal w) e).0 in
      cond_all (CorrectVerdict K (policy_of p) (policy_of q) o) (crowded K (policy_of p) (policy_of q)) (unsaid_verdict 22)
      (reported_all K (bounded v a.vocabulary) (policy_of p) (policy_of q) (bounded_terms v p a.first_policy) o outside (says compliant) (CorrectVerdict K (policy_of p) (policy_of q) o)
      unsaid_verdict (λ h. agreed (sound K (policy_of p) (policy_of q) h)) escaped))

  -- demand 2: where a verdict is given, "compliant" if and only if the first policy is contained in the second
  pub compliant_right : (w o : ℕ) → (compliance v p q w o).answer ≡ result compliant → Contained (vocabulary_of v) (policy_of p) (policy_of q)
  compliant_right w o e = go (compliance v p q w o) (compliance_told w o) e
    where
      go : (r : Outcome VerdictResult) → CorrectVerdict K (policy_of p) (policy_of q) o r → r.answer ≡ result compliant → Contained K (policy_of p) (policy_of q)
      go r (unsaid_verdict n) e = absurd (let z : ◌≡◌ {A = ℕ} 0 1 = cc in omega arith)
      go r (agreed c) e = c
      go r (escaped s k words h l) e = absurd (let z : ◌≡◌ {A = ℕ} 0 1 = cc in omega arith)

  -- and containment in finite interpretations is enough, and so in those given by tests, or in all
  pub finite_right : (w o : ℕ) → ContainedFinite (vocabulary_of v) (policy_of p) (policy_of q) → (IsRefusal (compliance v p q w o).answer → ⊥) → (compliance v p q w o).answer ≡ result compliant
  finite_right w o c t = go (compliance v p q w o) (compliance_told w o) t
    where
      go : (r : Outcome VerdictResult) → CorrectVerdict K (policy_of p) (policy_of q) o r → (IsRefusal r.answer → ⊥) → r.answer ≡ result compliant
      go r (unsaid_verdict n) t = absurd (t (n, refl))
      go r (agreed c) t = refl
      go r (escaped s k words h l) t = absurd (no_escape c h)

  pub tested_right : (w o : ℕ) → ContainedTested (vocabulary_of v) (policy_of p) (policy_of q) → (IsRefusal (compliance v p q w o).answer → ⊥) → (compliance v p q w o).answer ≡ result compliant
  tested_right w o c = finite_right w o (tested_finite K (policy_of p) (policy_of q) c)

  pub contained_right : (w o : ℕ) → Contained (vocabulary_of v) (policy_of p) (policy_of q) → (IsRefusal (compliance v p q w o).answer → ⊥) → (compliance v p q w o).answer ≡ result compliant
  contained_right w o c = finite_right w o (contained_finite c)
