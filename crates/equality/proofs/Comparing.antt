-- Laws of Equality: the sides, 22 for both directions, and demand 3.
use Prim.Native.Nat.{ℕ}
use mathlib.Core.Bool.{Bool, ◌||◌, cond, false, true}
use mathlib.Core.List.{List}
use mathlib.Core.Logic.{inl, inr}
use mathlib.Core.Path.{◌∙◌, ◌≡◌, ap, refl, subst, subst₂, sym}
use lib.Dec.{leb}
use lib.ListN.{length}
use native.Mathlib.Omega.{arith}
use Rattle.decision.proofs.Policies.{pair_stopped, stopped_countable, stopped_crowded, taken}
use Rattle.decision.specs.Decisions.{Countable, Delivers, StoppedPair, decision, settled}
use Rattle.equality.specs.Comparisons.{BothStopped, Comparable, Compares, ComparisonTested, EqualityPost}
use Rattle.equality.specs.Comparisons.{compared, difference, reverse, sided_answer}
use Rattle.frames.proofs.Frames.{only_then}
use Rattle.frames.proofs.Work.{Done, outputs_none}
use Rattle.frames.specs.Frames.{Only}
use Rattle.functional.specs.declared.Functional.{Functional}
use Rattle.layout.specs.Places.{InTables}
use Rattle.meaning.specs.Answers.{ComparisonResult, comparison_answer, compliant, differs, equal, outside, refused, result, verdict_answer}
use Rattle.meaning.specs.Containment.{Decision, Refutes, contained, crowded, escapes, resolve, too_many}
use Rattle.meaning.specs.Countermodel.{countermodel}
use Rattle.meaning.specs.Model.{Fact, facts_of, individual_count}
use Rattle.meaning.specs.Operations.{Outcome, comes_late, compliance_of, equality, equality_of, input_refusal, output_after, refuses, reported, says}
use Rattle.meaning.specs.Policy.{Policy, policy_of}
use Rattle.meaning.specs.Promises.{CorrectComparison, same, side1, side2, unsaid_comparison}
use Rattle.meaning.specs.Vocabulary.{Vocabulary, vocabulary_of}
use Rattle.meaning.specs.declared.Comparison.{Comparison}
use Rattle.meaning.specs.declared.Verdict.{Verdict}
use Rattle.short_way.proofs.Passing.{ready_back, ready_still}
use Rattle.short_way.specs.Stops.{PreparedPair, Stops, StopsBy}
use Rattle.short_way.specs.declared.Stop.{Stop}
use Rattle.std.specs.Prelude.{None, Option, Some}
use Rattle.meaning.specs.declared.Comparison.TheVariants as comparison
use Rattle.meaning.specs.declared.Verdict.TheVariants as verdict
use Rattle.meaning.specs.declared.refusals.Refusal.{Refusal}
use Rattle.meaning.specs.declared.refusals.Refusal.TheVariants as refusal
use Rattle.meaning.specs.Refusals.{refusal_number}
use Rattle.std.specs.Prelude.{Err, Ok, Result}
use Rattle.theory.proofs.Compliance.{no_escape}
use Rattle.theory.proofs.Equality.{equality_compared}
use Rattle.theory.proofs.Interpretations.{tested_finite}
use Rattle.theory.proofs.ShortWay.{resolve_decide, short_agrees, short_uncrowded}

-- ---- the sides

module _ (K : Vocabulary) (o o' : List ℕ) where
  -- what one direction reports, by a teller and with what follows
  abbrev told : {A : Type 0} → (ℕ → ℕ → ℕ → A) → Decision → Outcome A → Outcome A
  told tell d rest = reported K (length o) tell d rest

  pub side_answer : (side : ℕ) (d : Decision) → sided_answer side (told outside d (says compliant)).answer ≡ (told (differs side) d (says equal)).answer
  side_answer side contained = refl
  side_answer side (escapes s q u) = go (leb (length (countermodel K u)) (length o))
    where
      go : (b : Bool) → sided_answer side (cond b (record { answer = result (outside s q (length (countermodel K u))); words = countermodel K u }) (refuses 23)).answer ≡
          (cond b (record { answer = result (differs side s q (length (countermodel K u))); words = countermodel K u }) (refuses 23)).answer
      go true = refl
      go false = refl

  pub side_words : (side : ℕ) (d : Decision) → (told outside d (says compliant)).words ≡ (told (differs side) d (says equal)).words
  side_words side contained = refl
  side_words side (escapes s q u) = go (leb (length (countermodel K u)) (length o))
    where
      go : (b : Bool) → (cond b (record { answer = result (outside s q (length (countermodel K u))); words = countermodel K u }) (refuses 23)).words ≡
          (cond b (record { answer = result (differs side s q (length (countermodel K u))); words = countermodel K u }) (refuses 23)).words
      go true = refl
      go false = refl

  -- compliant: nothing is written, and what follows is told
  pub forth_on : (d : Decision) → Delivers (told outside d (says compliant)) o o' (Ok verdict.Compliant) → (d ≡ contained) × (o' ≡ o)
  forth_on contained x = (refl, x.output ∙ sym (outputs_none o))
  forth_on (escapes s q u) x = go (leb (length (countermodel K u)) (length o)) x.answer
    where
      go : (b : Bool) → result compliant ≡ (cond b (record { answer = result (outside s q (length (countermodel K u))); words = countermodel K u }) (refuses 23)).answer →
          (escapes s q u ≡ contained) × (o' ≡ o)
      go true e = absurd (let z : ◌≡◌ {A = ℕ} 0 1 = cc in omega arith)
      go false e = absurd (let z : ◌≡◌ {A = ℕ} 0 1 = cc in omega arith)

  -- else what follows does not matter
  module _ (rest : Outcome ComparisonResult) where
    pub forth_outside : {s c n : ℕ} (d : Decision) → Delivers (told outside d (says compliant)) o o' (Ok (verdict.Outside s c n)) → Compares (told (differs 1) d rest) o o' (Ok (comparison.Differs 1 s c n))
    forth_outside contained x = absurd (let z : ◌≡◌ {A = ℕ} 0 1 = cc in omega arith)
    forth_outside {s} {c} {n} (escapes i q u) x = go (leb (length (countermodel K u)) (length o)) x.answer x.output
      where
        go : (b : Bool) → result (outside s c n) ≡ (cond b (record { answer = result (outside i q (length (countermodel K u))); words = countermodel K u }) (refuses 23)).answer →
            o' ≡ output_after (cond b (record { answer = result (outside i q (length (countermodel K u))); words = countermodel K u }) (refuses 23)).words o →
            Compares (cond b (record { answer = result (differs 1 i q (length (countermodel K u))); words = countermodel K u }) (refuses 23)) o o' (Ok (comparison.Differs 1 s c n))
        go true e f = record { answer = cc; output = f }
        go false e f = absurd (let z : ◌≡◌ {A = ℕ} 0 1 = cc in omega arith)

    pub forth_refused : {e : Refusal} (d : Decision) → Delivers (told outside d (says compliant)) o o' (Err e) → Compares (told (differs 1) d rest) o o' (Err e)
    forth_refused contained x = absurd (let z : ◌≡◌ {A = ℕ} 0 1 = cc in omega arith)
    forth_refused {e = r} (escapes i q u) x = go (leb (length (countermodel K u)) (length o)) x.answer x.output
      where
        go : (b : Bool) → refused (refusal_number r) ≡ (cond b (record { answer = result (outside i q (length (countermodel K u))); words = countermodel K u }) (refuses 23)).answer →
            o' ≡ output_after (cond b (record { answer = result (outside i q (length (countermodel K u))); words = countermodel K u }) (refuses 23)).words o →
            Compares (cond b (record { answer = result (differs 1 i q (length (countermodel K u))); words = countermodel K u }) (refuses 23)) o o' (Err r)
        go true e f = absurd (let z : ◌≡◌ {A = ℕ} 0 1 = cc in omega arith)
        go false e f = record { answer = cc; output = f }

module _ (v p q : List ℕ) where
  abbrev decided : Decision
  decided = resolve (vocabulary_of v) (policy_of p) (policy_of q)

  module _ {o o' : List ℕ} {y : Result Verdict Refusal} (a : Delivers (decision v p q (length o)) o o' y) where
    is : {z : Result Verdict Refusal} → y ≡ z → Delivers (decision v p q (length o)) o o' z
    is e = subst (λ (z : Result Verdict Refusal). Delivers (decision v p q (length o)) o o' z) e a

    -- the second direction, where the first finds nothing
    pub differs_back : {o'' : List ℕ} {r : Result Verdict Refusal} {x : Result Comparison Refusal} → y ≡ Ok verdict.Compliant → Delivers (decision v q p (length o')) o' o'' r →
        comparison_answer x ≡ sided_answer 2 (verdict_answer r) → Compares (difference v p q (length o)) o o'' x
    differs_back {o''} {r} {x} h b e =
        let f = forth_on (vocabulary_of v) o o' decided (is h) in
        let d = subst (λ (l : List ℕ). Delivers (decision v q p (length l)) l o'' r) f.1 b in
        rw f.0 (record {
          answer = e ∙ ap (sided_answer 2) d.answer ∙ side_answer (vocabulary_of v) o o'' 2 (resolve (vocabulary_of v) (policy_of q) (policy_of p));
          output = d.output ∙ ap (λ (l : List ℕ). output_after l o) (side_words (vocabulary_of v) o o'' 2 (resolve (vocabulary_of v) (policy_of q) (policy_of p)));
        })

    pub differs_outside : {s c n : ℕ} → y ≡ Ok (verdict.Outside s c n) → Compares (difference v p q (length o)) o o' (Ok (comparison.Differs 1 s c n))
    differs_outside h = forth_outside (vocabulary_of v) o o' (reverse v p q (length o)) decided (is h)

    pub differs_refused : {e : Refusal} → y ≡ Err e → Compares (difference v p q (length o)) o o' (Err e)
    differs_refused h = forth_refused (vocabulary_of v) o o' (reverse v p q (length o)) decided (is h)

-- ---- from the stops on

module _ {v p q : List ℕ} {f : Functional} {forth back : Option Stop} where
  pub both_stopped : {w w' w'' : List ℕ} → PreparedPair v p q w f → Only InTables w w' → Only InTables w' w'' → StopsBy p q w f forth → StopsBy q p w' f back →
      BothStopped v p q w'' f forth back
  both_stopped r o o' h i = record { first = pair_stopped r (only_then o o') h; second = pair_stopped (ready_back (ready_still r o)) o' i }

  -- the second direction, while the first is worked on
  module _ {w : List ℕ} where
    pub second_still : {w' : List ℕ} → BothStopped v p q w f forth back → Only InTables w w' → StoppedPair v q p w' f back
    second_still b o = record { ready = ready_still b.second.ready o; stops = b.second.stops }

pub both_found : {v p q w : List ℕ} {f : Functional} {forth back : Option Stop} {first second : Stop} → BothStopped v p q w f forth back → forth ≡ Some first → back ≡ Some second →
    BothStopped v p q w f (Some first) (Some second)
both_found {v} {p} {q} {w} {f} b e g = subst₂ (BothStopped v p q w f) e g b

pub back_countable : {v p q w w' : List ℕ} {f : Functional} {forth back : Stop} → Comparable v p q w f forth back → Only InTables w w' → Countable v q p w' f back.place back.term
back_countable h o = record { ready = ready_still h.second.ready o; left = h.second.left; few = h.second.few }

-- ---- where one direction's short way succeeds

or_false : (b : Bool) → (b || false) ≡ b
or_false true = refl
or_false false = refl

module _ (K : Vocabulary) {o o' : List ℕ} {r : Result Verdict Refusal} {x : Result Comparison Refusal} where
  sided_settled : (side : ℕ) (b : Bool) (d : Decision) → Delivers (cond b (refuses 22) (told K o o' outside d (says compliant))) o o' r →
      comparison_answer x ≡ sided_answer side (verdict_answer r) → Compares (cond b (refuses 22) (told K o o' (differs side) d (says equal))) o o' x
  sided_settled side true d h e = record { answer = e ∙ ap (sided_answer side) h.answer; output = h.output }
  sided_settled side false d h e = record {
    answer = e ∙ ap (sided_answer side) h.answer ∙ side_answer K o o' side d;
    output = h.output ∙ ap (λ (l : List ℕ). output_after l o) (side_words K o o' side d);
  }

module _ {v p q w : List ℕ} {f : Functional} {forth back : Option Stop} (s : BothStopped v p q w f forth back) {o o' : List ℕ} {r : Result Verdict Refusal} {x : Result Comparison Refusal} where
  -- the first direction's: the answer is the second's
  pub compares_second : forth ≡ None → Delivers (settled v q p (length o)) o o' r → comparison_answer x ≡ sided_answer 2 (verdict_answer r) →
      Compares (compared v p q (length o)) o o' x
  unfolding compliance_of equality_of
  compares_second z h e =
      let t = subst (Stops v p q) z s.first.stops in
      rw (short_uncrowded (vocabulary_of v) (policy_of p) (policy_of q) t, resolve_decide (vocabulary_of v) (policy_of p) (policy_of q) ∙ short_agrees (vocabulary_of v) (policy_of p) (policy_of q) t)
      (sided_settled (vocabulary_of v) 2 (crowded (vocabulary_of v) (policy_of q) (policy_of p)) (resolve (vocabulary_of v) (policy_of q) (policy_of p)) h e)

  -- the second direction's: the answer is the first's
  pub compares_first : back ≡ None → Delivers (settled v p q (length o)) o o' r → comparison_answer x ≡ sided_answer 1 (verdict_answer r) →
      Compares (compared v p q (length o)) o o' x
  unfolding compliance_of equality_of
  compares_first z h e =
      let t = subst (Stops v q p) z s.second.stops in
      rw (short_uncrowded (vocabulary_of v) (policy_of q) (policy_of p) t, resolve_decide (vocabulary_of v) (policy_of q) (policy_of p) ∙ short_agrees (vocabulary_of v) (policy_of q) (policy_of p) t, or_false (crowded (vocabulary_of v) (policy_of p) (policy_of q)))
      (sided_settled (vocabulary_of v) 1 (crowded (vocabulary_of v) (policy_of p) (policy_of q)) (resolve (vocabulary_of v) (policy_of p) (policy_of q)) h e)

-- ---- 22 looks at both directions

module _ {v p q : List ℕ} (o : List ℕ) {w : List ℕ} {f : Functional} {forth back : Stop} (s : BothStopped v p q w f (Some forth) (Some back))
    {a b : Bool} (e : a ≡ too_many (vocabulary_of v) (policy_of p) (policy_of q)) (g : b ≡ too_many (vocabulary_of v) (policy_of q) (policy_of p)) where
  many : a ≡ crowded (vocabulary_of v) (policy_of p) (policy_of q)
  many = stopped_crowded s.first refl e

  more : b ≡ crowded (vocabulary_of v) (policy_of q) (policy_of p)
  more = stopped_crowded s.second refl g

  pub compares_22 : (a || b) ≡ true → Compares (compared v p q (length o)) o o (Err refusal.Combinations)
  unfolding equality_of
  compares_22 h = rw (sym many, sym more, h) (record { answer = refl; output = outputs_none o })

  module _ (h : (a || b) ≡ false) where
    pub compares_none : {w' : List ℕ} → Only InTables w w' → Comparable v p q w' f forth back
    compares_none k = record {
      first = stopped_countable s.first refl e (go a b h).0 k;
      second = stopped_countable s.second refl g (go a b h).1 k;
    }
      where
        go : (a b : Bool) → (a || b) ≡ false → (a ≡ false) × (b ≡ false)
        go true b h = absurd (let z : ◌≡◌ {A = ℕ} 0 1 = cc in omega arith)
        go false b h = (refl, h)

    pub compares_both : {o' : List ℕ} {r : Result Comparison Refusal} → Compares (difference v p q (length o)) o o' r → Compares (compared v p q (length o)) o o' r
    unfolding equality_of
    compares_both d = rw (sym many, sym more, h) d

-- ---- all of it comes after 21

module _ (K : Vocabulary) (P Q : Policy) (o : ℕ) where
  pub compared_late : comes_late (equality_of K P Q o).answer ≡ true
  unfolding equality_of
  compared_late = go (crowded K P Q || crowded K Q P) (resolve K P Q) (resolve K Q P)
    where
      fits : (b : Bool) (side s q : ℕ) (words : List ℕ) → comes_late (cond b (record { answer = result (differs side s q (length words)); words = words }) (refuses 23)).answer ≡ true
      fits true side s q words = refl
      fits false side s q words = refl

      go : (b : Bool) (d e : Decision) → comes_late (cond b (refuses 22) (reported K o (differs 1) d (reported K o (differs 2) e (says equal)))).answer ≡ true
      go true d e = refl
      go false contained contained = refl
      go false contained (escapes s q u) = fits (leb (length (countermodel K u)) o) 2 s q (countermodel K u)
      go false (escapes s q u) e = fits (leb (length (countermodel K u)) o) 1 s q (countermodel K u)

-- ---- demand 3

module _ (v p q o o' : List ℕ) where
  abbrev K : Vocabulary
  K = vocabulary_of v

  right : (r : Result Comparison Refusal) (x : Outcome ComparisonResult) → CorrectComparison K (policy_of p) (policy_of q) (length o) x → comparison_answer r ≡ x.answer → o' ≡ output_after x.words o →
      ComparisonTested v p q o' r
  right (Ok comparison.Equal) x (same h) a d = λ M proper s i j. h _ proper s i j
  right (Ok comparison.Equal) x (unsaid_comparison n) a d = absurd (let z : ◌≡◌ {A = ℕ} 0 1 = cc in omega arith)
  right (Ok comparison.Equal) x (side1 s k words h l) a d = absurd (let z : ◌≡◌ {A = ℕ} 0 1 = cc in omega arith)
  right (Ok comparison.Equal) x (side2 s k words c h l) a d = absurd (let z : ◌≡◌ {A = ℕ} 0 1 = cc in omega arith)
  right (Ok (comparison.Differs side s c n)) x (same h) a d = absurd (let z : ◌≡◌ {A = ℕ} 0 1 = cc in omega arith)
  right (Ok (comparison.Differs side s c n)) x (unsaid_comparison m) a d = absurd (let z : ◌≡◌ {A = ℕ} 0 1 = cc in omega arith)
  right (Ok (comparison.Differs side s c n)) x (side1 i k words h l) a d =
      let m : n ≡ length words = cc in
      let y : side ≡ 1 = cc in
      let t = taken words o n m d in (
        inl (y, subst₂ (λ (j : ℕ) (F : List Fact). Refutes K (policy_of p) (policy_of q) j F) (ap individual_count t) (ap facts_of t) h.refutes),
        λ g. no_escape (tested_finite K (policy_of p) (policy_of q) (λ M proper s d e. (g M proper s d e).0)) h,
      )
  right (Ok (comparison.Differs side s c n)) x (side2 i k words b h l) a d =
      let m : n ≡ length words = cc in
      let y : side ≡ 2 = cc in
      let t = taken words o n m d in (
        inr (y, subst₂ (λ (j : ℕ) (F : List Fact). Refutes K (policy_of q) (policy_of p) j F) (ap individual_count t) (ap facts_of t) h.refutes),
        λ g. no_escape (tested_finite K (policy_of q) (policy_of p) (λ M proper s d e. (g M proper s d e).1)) h,
      )
  right (Err e) x t a d = tt

pub equality_post : {v p q w w' o o' : List ℕ} {r : Result Comparison Refusal} → Done (input_refusal v p q) (compared v p q (length o)) (comparison_answer r) w w' o o' → EqualityPost v p q w w' o o' r
unfolding equality
equality_post {v} {p} {q} {w} {o = o} {o' = o'} {r = r} d = record {
  answer = d.answer;
  output = d.output;
  work = d.work;
  right = right v p q o o' r (equality v p q (length w) (length o)) (equality_compared v p q (length w) (length o)) d.answer d.output;
}
