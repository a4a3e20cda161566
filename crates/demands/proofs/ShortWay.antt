-- The short way, SPECIFICATION 9.10: a pair that passes unsplit is answered, and no answer but 22 is other than by combinations alone.
use Rattle.demands.specs.Refusals.{RefusedWith}
use Rattle.meaning.specs.declared.refusals.Refusal.{Refusal}
use Rattle.std.specs.Prelude.{Ok, Result}
use Prim.Native.Nat.{◌≤◌, suc, zero, ℕ}
use mathlib.Core.Bool.{Bool, ◌&&◌, ◌||◌, cond, false, not, true}
use mathlib.Core.List.{List}
use mathlib.Core.Logic.{◌⊎◌, inl, inr, ⊎_elim}
use mathlib.Core.Path.{◌∙◌, ◌≡◌, ap, refl}
use lib.ListN.{length}
use borrow.Author.Tests.{le-ltb}
use Rattle.containment.specs.Verdicts.{CompliancePost}
use Rattle.demands.proofs.Comparisons.{equal_iff_uncrowded}
use Rattle.demands.proofs.Refusals.{answer_refused}
use Rattle.demands.proofs.Verdicts.{compliant_iff_uncrowded, is_compliant}
use Rattle.demands.specs.Splitting.{split_compliance, split_equality}
use Rattle.equality.specs.Comparisons.{EqualityPost}
use Rattle.meaning.specs.Answers.{ComparisonResult, VerdictResult, comparison_answer, compliant, refused, result, verdict_answer, verdict_of}
use Rattle.meaning.specs.Containment.{crowded, short_way, too_many}
use Rattle.meaning.specs.Limits.{work_size}
use Rattle.meaning.specs.Operations.{Outcome, compliance, compliance_of, equality, equality_of, input_refusal, output_after, refuses, unless}
use Rattle.meaning.specs.Operations.{work_refusal}
use Rattle.meaning.specs.Policy.{Policy, policy_of}
use Rattle.meaning.specs.Records.{or_else}
use Rattle.meaning.specs.Vocabulary.{Vocabulary, vocabulary_of}
use Rattle.meaning.specs.declared.Comparison.{Comparison}
use Rattle.meaning.specs.declared.Verdict.{Verdict}
use Rattle.meaning.specs.declared.Comparison.TheVariants as comparison
use Rattle.meaning.specs.declared.Verdict.TheVariants as verdict
use Rattle.theory.proofs.Apart.{contained_not_apart}
use Rattle.theory.proofs.ShortWay.{resolve_decide, short_agrees, short_contained, short_uncrowded, split_crowded}

-- ---- what passes unsplit

module _ {v p q w w' o o' : List ℕ} where
  -- a pair that passes unsplit is answered "compliant", whatever its number of combinations
  pub short_compliant : {r : Result Verdict Refusal} → CompliancePost v p q w w' o o' r → input_refusal v p q ≡ 0 → work_size ≤ length w →
      short_way (vocabulary_of v) (policy_of p) (policy_of q) ≡ true → r ≡ Ok verdict.Compliant
  short_compliant c a full e =
      let K = vocabulary_of v in
      let free = short_uncrowded K (policy_of p) (policy_of q) e in
      (compliant_iff_uncrowded c (record { accepted = a; full = full; free = free })).1 (λ x. contained_not_apart (short_contained K (policy_of p) (policy_of q) e) x)

  -- one that passes so in both directions is answered "equal"
  pub short_equal : {r : Result Comparison Refusal} → EqualityPost v p q w w' o o' r → input_refusal v p q ≡ 0 → work_size ≤ length w →
      short_way (vocabulary_of v) (policy_of p) (policy_of q) ≡ true → short_way (vocabulary_of v) (policy_of q) (policy_of p) ≡ true → r ≡ Ok comparison.Equal
  short_equal c a full e f =
      let K = vocabulary_of v in
      let P = policy_of p in
      let Q = policy_of q in
      (equal_iff_uncrowded c (record { accepted = a; full = full; forth = short_uncrowded K P Q e; back = short_uncrowded K Q P f })).1
      (⊎_elim (λ x. contained_not_apart (short_contained K P Q e) x) (λ x. contained_not_apart (short_contained K Q P f) x))

  -- 22 is considered where the short way fails: then a possible term with too many combinations is answered 22
  pub crowded_refused : {r : Result Verdict Refusal} → CompliancePost v p q w w' o o' r → input_refusal v p q ≡ 0 → work_size ≤ length w →
      short_way (vocabulary_of v) (policy_of p) (policy_of q) ≡ false → too_many (vocabulary_of v) (policy_of p) (policy_of q) ≡ true → RefusedWith r 22
  unfolding compliance compliance_of
  crowded_refused {r = r} c a full e many =
      answer_refused verdict_of r (c.answer ∙ rw (a, le-ltb (length w) work_size full, split_crowded (vocabulary_of v) (policy_of p) (policy_of q) e, many))

-- ---- the definitions: the outcome is that of combinations alone, or that is 22 and the short way succeeds

-- an early refusal is the same in both
unless_same : {A : Type 0} (R : Outcome A → Outcome A → Type 0) (n : ℕ) (x y : Outcome A) → (x ≡ y) ⊎ R x y →
    (unless refuses n x ≡ unless refuses n y) ⊎ R (unless refuses n x) (unless refuses n y)
unless_same R zero x y h = h
unless_same R (suc n) x y h = inl refl

-- by combinations alone it is 22, the short way succeeds, and the outcome is "compliant"
abbrev Complied : Bool → Outcome VerdictResult → Outcome VerdictResult → Type 0
Complied short x split = (split.answer ≡ refused 22) × (short ≡ true) × (x.answer ≡ result compliant)

-- by combinations alone it is 22, and in each direction with too many combinations the short way succeeds
abbrev Shortened : Bool → Bool → Bool → Bool → Outcome ComparisonResult → Outcome ComparisonResult → Type 0
Shortened s m t n x split = (split.answer ≡ refused 22) × (m ≡ true → s ≡ true) × (n ≡ true → t ≡ true)

-- the tests of 22: s and t are the short ways' outcomes, m and n say that a term has too many combinations
verdict_22 : (s m : Bool) (x : Outcome VerdictResult) → (s ≡ true → x.answer ≡ result compliant) →
    (cond (not s && m) (refuses 22) x ≡ cond m (refuses 22) x) ⊎ Complied s (cond (not s && m) (refuses 22) x) (cond m (refuses 22) x)
verdict_22 true true x h = inr (refl, refl, h refl)
verdict_22 true false x h = inl refl
verdict_22 false m x h = inl refl

comparison_22 : (s m t n : Bool) (x : Outcome ComparisonResult) →
    let y = cond ((not s && m) || (not t && n)) (refuses 22) x in
    let split = cond (m || n) (refuses 22) x in
    (y ≡ split) ⊎ Shortened s m t n y split
comparison_22 true true true n x = inr (refl, λ e. refl, λ e. refl)
comparison_22 true true false true x = inl refl
comparison_22 true true false false x = inr (refl, λ e. refl, λ e. e)
comparison_22 true false true true x = inr (refl, λ e. refl, λ e. refl)
comparison_22 true false true false x = inl refl
comparison_22 true false false n x = inl refl
comparison_22 false true t n x = inl refl
comparison_22 false false true true x = inr (refl, λ e. e, λ e. refl)
comparison_22 false false true false x = inl refl
comparison_22 false false false n x = inl refl

module _ (v p q : List ℕ) (w o : ℕ) where
  abbrev K : Vocabulary
  K = vocabulary_of v

  abbrev P : Policy
  P = policy_of p

  abbrev Q : Policy
  Q = policy_of q

  compliance_22 : (compliance v p q w o ≡ split_compliance v p q w o) ⊎ Complied (short_way K P Q) (compliance v p q w o) (split_compliance v p q w o)
  unfolding compliance compliance_of crowded
  compliance_22 =
      unless_same (Complied (short_way K P Q)) (or_else (input_refusal v p q) (work_refusal w)) _ _
      (rw (resolve_decide K P Q) (verdict_22 (short_way K P Q) (too_many K P Q) _ (λ e. rw (short_agrees K P Q e))))

  equality_22 : (equality v p q w o ≡ split_equality v p q w o) ⊎
      Shortened (short_way K P Q) (too_many K P Q) (short_way K Q P) (too_many K Q P) (equality v p q w o) (split_equality v p q w o)
  unfolding equality equality_of crowded
  equality_22 =
      unless_same (Shortened (short_way K P Q) (too_many K P Q) (short_way K Q P) (too_many K Q P)) (or_else (input_refusal v p q) (work_refusal w)) _ _
      (rw (resolve_decide K P Q, resolve_decide K Q P) (comparison_22 (short_way K P Q) (too_many K P Q) (short_way K Q P) (too_many K Q P) _))

  -- where the combinations alone give no 22, Compliance's outcome is theirs
  pub split_same : ((split_compliance v p q w o).answer ≡ refused 22 → ⊥) → compliance v p q w o ≡ split_compliance v p q w o
  split_same h = ⊎_elim (λ e. e) (λ x. absurd (h x.0)) compliance_22

  -- so is Equality's
  pub split_equality_same : ((split_equality v p q w o).answer ≡ refused 22 → ⊥) → equality v p q w o ≡ split_equality v p q w o
  split_equality_same h = ⊎_elim (λ e. e) (λ x. absurd (h x.0)) equality_22

-- ---- the contracts

module _ {v p q w w' o o' : List ℕ} {r : Result Verdict Refusal} (c : CompliancePost v p q w w' o o' r) where
  -- wherever the combinations alone do not give 22 the two agree: the answer, with its s and q, and the words written
  pub split_agrees : ((split_compliance v p q (length w) (length o)).answer ≡ refused 22 → ⊥) →
      (verdict_answer r ≡ (split_compliance v p q (length w) (length o)).answer) × (o' ≡ output_after (split_compliance v p q (length w) (length o)).words o)
  split_agrees h = let e = split_same v p q (length w) (length o) h in (rw e at c.answer, rw e at c.output)

  -- the answer is another only where the combinations alone give 22 and the short way succeeds, and then it is "compliant"
  pub only_22_changed : (verdict_answer r ≡ (split_compliance v p q (length w) (length o)).answer → ⊥) →
      ((split_compliance v p q (length w) (length o)).answer ≡ refused 22) × (short_way (vocabulary_of v) (policy_of p) (policy_of q) ≡ true) × (r ≡ Ok verdict.Compliant)
  only_22_changed h =
      ⊎_elim (λ e. absurd (h (c.answer ∙ ap (λ (x : Outcome VerdictResult). x.answer) e))) (λ x. (x.0, x.1, is_compliant r (c.answer ∙ x.2)))
      (compliance_22 v p q (length w) (length o))

module _ {v p q w w' o o' : List ℕ} {r : Result Comparison Refusal} (c : EqualityPost v p q w w' o o' r) where
  -- wherever the combinations alone do not give 22 the two agree
  pub split_equality_agrees : ((split_equality v p q (length w) (length o)).answer ≡ refused 22 → ⊥) →
      (comparison_answer r ≡ (split_equality v p q (length w) (length o)).answer) × (o' ≡ output_after (split_equality v p q (length w) (length o)).words o)
  split_equality_agrees h = let e = split_equality_same v p q (length w) (length o) h in (rw e at c.answer, rw e at c.output)

  -- the answer is another only where the combinations alone give 22 and the short way succeeds in each direction that has too many
  pub only_22_changed_equality : (comparison_answer r ≡ (split_equality v p q (length w) (length o)).answer → ⊥) →
      ((split_equality v p q (length w) (length o)).answer ≡ refused 22)
      × (too_many (vocabulary_of v) (policy_of p) (policy_of q) ≡ true → short_way (vocabulary_of v) (policy_of p) (policy_of q) ≡ true)
      × (too_many (vocabulary_of v) (policy_of q) (policy_of p) ≡ true → short_way (vocabulary_of v) (policy_of q) (policy_of p) ≡ true)
  only_22_changed_equality h =
      ⊎_elim (λ e. absurd (h (c.answer ∙ ap (λ (x : Outcome ComparisonResult). x.answer) e))) (λ x. x) (equality_22 v p q (length w) (length o))
