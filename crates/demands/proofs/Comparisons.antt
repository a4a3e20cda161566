-- Demand 3: whatever `equality::equality` leaves behind is `EqualityPost`, and here is what follows, with what Compliance leaves behind.
use Rattle.meaning.specs.Refusals.{refusal_number}
use Rattle.meaning.specs.declared.refusals.Refusal.{Refusal}
use Rattle.std.specs.Prelude.{Err, Ok, Result}
use Prim.Native.Nat.{ℕ}
use mathlib.Core.Bool.{Bool, cond, false, true}
use mathlib.Core.List.{List}
use mathlib.Core.Logic.{◌↔◌, ◌⊎◌, inl, inr, ⊎_elim}
use mathlib.Core.Path.{◌∙◌, ◌≡◌, ap, refl, sym}
use lib.Dec.{leb}
use lib.ListN.{length}
use native.Mathlib.Omega.{arith}
use borrow.Author.Tests.{le-leb, le-ltb}
use Rattle.containment.specs.Verdicts.{CompliancePost}
use Rattle.demands.proofs.Limits.{both_limits_uncrowded}
use Rattle.demands.proofs.Slices.{differs_output}
use Rattle.demands.proofs.Verdicts.{compliant_only, compliant_where}
use Rattle.demands.specs.Enough.{Answers, BothUncrowded, BothWithinLimits, Comparable, Compares, Long, LongEither}
use Rattle.demands.specs.Sides.{NamesASide}
use Rattle.equality.specs.Comparisons.{EqualityPost}
use Rattle.meaning.specs.Answers.{ComparisonResult, comparison_answer, differs, equal, refused, result}
use Rattle.meaning.specs.Containment.{Decision, Indistinct, ToldApart, contained, escapes, resolve}
use Rattle.meaning.specs.Countermodel.{countermodel}
use Rattle.meaning.specs.Limits.{work_size}
use Rattle.meaning.specs.Operations.{Outcome, equality, equality_of, refuses, reported, says}
use Rattle.meaning.specs.Policy.{policy_of}
use Rattle.meaning.specs.Promises.{IsRefusal}
use Rattle.meaning.specs.Vocabulary.{Vocabulary, vocabulary_of}
use Rattle.meaning.specs.declared.Comparison.{Comparison}
use Rattle.meaning.specs.declared.Verdict.{Verdict}
use Rattle.meaning.specs.declared.Comparison.TheVariants as comparison
use Rattle.meaning.specs.declared.Verdict.TheVariants as verdict
use Rattle.theory.proofs.Apart.{indistinct_not_told_apart, refutes_apart, uncrowded_equal_iff}
use Rattle.theory.proofs.Equality.{equal_right, indistinct_right}

is_equal : (r : Result Comparison Refusal) → comparison_answer r ≡ result equal → r ≡ Ok comparison.Equal
is_equal (Ok comparison.Equal) e = refl
is_equal (Ok (comparison.Differs side s q n)) e = absurd (let z : ◌≡◌ {A = ℕ} 0 1 = cc in omega arith)
is_equal (Err x) e = absurd (let z : ◌≡◌ {A = ℕ} 0 1 = cc in omega arith)

module _ {v p q w w' o o' : List ℕ} {r : Result Comparison Refusal} (c : EqualityPost v p q w w' o o' r) where
  -- "equal" only where the two policies have the same individuals, in every interpretation, whatever its sets are
  pub equal_only : r ≡ Ok comparison.Equal → Indistinct (vocabulary_of v) (policy_of p) (policy_of q)
  equal_only e = equal_right v p q (length w) (length o) (sym c.answer ∙ ap comparison_answer e)

  -- a comparison that is given is "equal" where the two policies have the same individuals, in every interpretation
  pub equal_where : Compares r → Indistinct (vocabulary_of v) (policy_of p) (policy_of q) → r ≡ Ok comparison.Equal
  equal_where t h = is_equal r (c.answer ∙ indistinct_right v p q (length w) (length o) h (λ x. t (x.0, c.answer ∙ x.1)))

  -- where 22 is not given, whatever the output's length, "equal" exactly when no interpretation tells the two apart
  pub equal_iff_uncrowded : BothUncrowded v p q (length w) → (r ≡ Ok comparison.Equal) ↔ (ToldApart (vocabulary_of v) (policy_of p) (policy_of q) → ⊥)
  equal_iff_uncrowded a =
      let h = uncrowded_equal_iff v p q (length w) (length o) a.accepted a.full a.forth a.back in
      (λ e. h.0 (sym c.answer ∙ ap comparison_answer e), λ none. is_equal r (c.answer ∙ h.1 none))

  -- demand 3: "equal" exactly when no interpretation, finite or countable, tells the two apart, whatever the output's length
  pub equal_iff : BothWithinLimits v p q (length w) → (r ≡ Ok comparison.Equal) ↔ (ToldApart (vocabulary_of v) (policy_of p) (policy_of q) → ⊥)
  equal_iff a = equal_iff_uncrowded (both_limits_uncrowded a)

  -- "equal" exactly when the two policies have the same individuals in every interpretation
  pub equal_iff_indistinct : BothWithinLimits v p q (length w) → (r ≡ Ok comparison.Equal) ↔ Indistinct (vocabulary_of v) (policy_of p) (policy_of q)
  equal_iff_indistinct a = (equal_only, λ h. (equal_iff a).1 (λ x. indistinct_not_told_apart h x))

-- where 22 is not given and the output is long enough it answers
module _ (v p q : List ℕ) (w o : ℕ) (a : Comparable v p q w o) where
  told_long : (K : Vocabulary) (side : ℕ) (d : Decision) (rest : Outcome ComparisonResult) (R : Type 0) → Long K o d R → (R → IsRefusal rest.answer → ⊥) →
      IsRefusal (reported K o (differs side) d rest).answer → ⊥
  told_long K side contained rest R l f r = f l r
  told_long K side (escapes s q u) rest R l f r = go (leb (length (countermodel K u)) o) (le-leb (length (countermodel K u)) o l) r.1
    where
      go : (b : Bool) → b ≡ true → (cond b (record { answer = result (differs side s q (length (countermodel K u))); words = countermodel K u }) (refuses 23)).answer ≡ refused r.0 → ⊥
      go true h e = absurd (let z : ◌≡◌ {A = ℕ} 0 1 = cc in omega arith)
      go false h e = absurd (let z : ◌≡◌ {A = ℕ} 0 1 = cc in omega arith)

  answered : IsRefusal (equality v p q w o).answer → ⊥
  unfolding equality equality_of
  answered r =
      told_long (vocabulary_of v) 1 (resolve (vocabulary_of v) (policy_of p) (policy_of q)) _ _ a.long (λ l.
      told_long (vocabulary_of v) 2 (resolve (vocabulary_of v) (policy_of q) (policy_of p)) (says equal) _ l
      (λ u x. absurd (let z : ◌≡◌ {A = ℕ} 0 1 = cc in omega arith)))
      (rw (a.within.accepted, le-ltb w work_size a.within.full, a.within.forth, a.within.back) at r)

pub equality_answers : {v p q w w' o o' : List ℕ} {r : Result Comparison Refusal} → EqualityPost v p q w w' o o' r → Comparable v p q (length w) (length o) → Compares r
equality_answers {v} {p} {q} {w} {o = o} c a x = answered v p q (length w) (length o) a (x.0, sym c.answer ∙ x.1)

-- a comparison that is given is "equal", or it names a side and writes a finite interpretation
pub equal_or_differs : {v p q w w' o o' : List ℕ} {r : Result Comparison Refusal} → EqualityPost v p q w w' o o' r → Compares r → (r ≡ Ok comparison.Equal) ⊎ NamesASide v p q o' r
equal_or_differs {r = Ok comparison.Equal} c t = inl refl
equal_or_differs {r = Ok (comparison.Differs side s k n)} c t = inr (record {
  side = side;
  term = s;
  combination = k;
  size = n;
  answer = refl;
  fits = let f = differs_output c refl in omega (arith, f.fits, f.size);
  one_or_two = ⊎_elim (λ h. inl h.0) (λ h. inr h.0) c.right.0;
  first = λ e. ⊎_elim (λ h. h.1) (λ h. absurd (let z = h.0 in omega arith)) c.right.0;
  second = λ e. ⊎_elim (λ h. absurd (omega arith)) (λ h. h.1) c.right.0;
})
equal_or_differs {r = Err e} c t = absurd (t (refusal_number e, refl))

module _ {v p q w w' o o' : List ℕ} {r : Result Comparison Refusal} (c : EqualityPost v p q w w' o o' r) where
  -- where 22 is not given, the output is long enough and an interpretation tells the two apart, it names a side and writes a finite one
  -- that does
  pub differs_where_uncrowded : Comparable v p q (length w) (length o) → ToldApart (vocabulary_of v) (policy_of p) (policy_of q) → NamesASide v p q o' r
  differs_where_uncrowded a x =
      ⊎_elim (λ e. absurd (indistinct_not_told_apart (equal_only c e) x)) (λ h. h) (equal_or_differs c (equality_answers c a))

  -- demand 3: else, where the output is long enough, it names a side and writes a finite interpretation that tells them apart
  pub differs_where : BothWithinLimits v p q (length w) → LongEither v p q (length o) → ToldApart (vocabulary_of v) (policy_of p) (policy_of q) → NamesASide v p q o' r
  differs_where a l = differs_where_uncrowded (record { within = both_limits_uncrowded a; long = l })

-- the interpretation that is written tells the two apart
pub names_told_apart : {v p q o : List ℕ} {r : Result Comparison Refusal} → NamesASide v p q o r → ToldApart (vocabulary_of v) (policy_of p) (policy_of q)
names_told_apart n = ⊎_elim (λ e. inl (refutes_apart (n.first e))) (λ e. inr (refutes_apart (n.second e))) n.one_or_two

-- demand 3: policies found equal get the same verdict with every third policy, on either side, where neither call is refused
module _ {v p q w w' o o' : List ℕ} (c : EqualityPost v p q w w' o o' (Ok comparison.Equal)) {t w₁ w₁' o₁ o₁' w₂ w₂' o₂ o₂' : List ℕ} {r s : Result Verdict Refusal} where
  pub same_verdict : CompliancePost v p t w₁ w₁' o₁ o₁' r → CompliancePost v q t w₂ w₂' o₂ o₂' s → Answers r → Answers s → (r ≡ Ok verdict.Compliant) ↔ (s ≡ Ok verdict.Compliant)
  same_verdict a b x y = (
    λ e. compliant_where b y (λ I proper m d i k. compliant_only a e I proper m d i ((equal_only c refl I proper m d i).1 k)),
    λ e. compliant_where a x (λ I proper m d i k. compliant_only b e I proper m d i ((equal_only c refl I proper m d i).0 k)),
  )

  pub same_consent : CompliancePost v t p w₁ w₁' o₁ o₁' r → CompliancePost v t q w₂ w₂' o₂ o₂' s → Answers r → Answers s → (r ≡ Ok verdict.Compliant) ↔ (s ≡ Ok verdict.Compliant)
  same_consent a b x y = (
    λ e. compliant_where b y (λ I proper m d i k. (equal_only c refl I proper m d i).0 (compliant_only a e I proper m d i k)),
    λ e. compliant_where a x (λ I proper m d i k. (equal_only c refl I proper m d i).1 (compliant_only b e I proper m d i k)),
  )

-- equality is reflexive, symmetric and transitive where it answers: one filed copy may stand for a class of consents
pub reflexive : {v p w w' o o' : List ℕ} {r : Result Comparison Refusal} → EqualityPost v p p w w' o o' r → Compares r → r ≡ Ok comparison.Equal
reflexive c t = equal_where c t (λ I proper m d i. (λ h. h, λ h. h))

pub symmetric : {v p q w w' o o' w₁ w₁' o₁ o₁' : List ℕ} {r : Result Comparison Refusal} → EqualityPost v p q w w' o o' (Ok comparison.Equal) → EqualityPost v q p w₁ w₁' o₁ o₁' r → Compares r →
    r ≡ Ok comparison.Equal
symmetric a c t = equal_where c t (λ I proper m d i. ((equal_only a refl I proper m d i).1, (equal_only a refl I proper m d i).0))

pub transitive : {v p q s w w' o o' w₁ w₁' o₁ o₁' w₂ w₂' o₂ o₂' : List ℕ} {r : Result Comparison Refusal} → EqualityPost v p q w w' o o' (Ok comparison.Equal) →
    EqualityPost v q s w₁ w₁' o₁ o₁' (Ok comparison.Equal) → EqualityPost v p s w₂ w₂' o₂ o₂' r → Compares r → r ≡ Ok comparison.Equal
transitive a b c t = equal_where c t (λ I proper m d i. (
  λ h. (equal_only b refl I proper m d i).0 ((equal_only a refl I proper m d i).0 h),
  λ h. (equal_only a refl I proper m d i).1 ((equal_only b refl I proper m d i).1 h),
))
