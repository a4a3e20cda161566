-- Demand 1 of Spell, and what it promises, as theorems about its contract.
use Rattle.demands.proofs.Refusals.{refused_answer, answer_refused}
use Rattle.meaning.specs.declared.refusals.Refusal.{Refusal}
use Rattle.std.specs.Prelude.{Err, Ok, Result}
use Prim.Native.Nat.{suc, zero, ℕ}
use mathlib.Core.Bool.{Bool, cond, false, true}
use mathlib.Core.List.{List, [], ◌∷◌}
use mathlib.Core.Logic.{◌↔◌}
use mathlib.Core.Path.{◌∙◌, ◌≡◌, ap, refl, sym}
use lib.Dec.{leb}
use lib.ListN.{length, take}
use lib.Seq.{take_at}
use native.Mathlib.Omega.{arith}
use Rattle.demands.proofs.Afterwards.{past, result_full, work_cleared, work_full, work_kept, writes_first}
use Rattle.demands.proofs.Orders.{Follows, answering, follows_here, follows_on, follows_unless, refused_iff, unless_or}
use Rattle.demands.specs.Refusals.{FirstRefusal, spell_order, RefusedWith}
use Rattle.demands.specs.Slices.{WorkCleared, WritesFirst}
use Rattle.meaning.specs.Answers.{FillingResult, accepted, equal, filling_answer, refused, result, wrote}
use Rattle.meaning.specs.Containment.{Indistinct}
use Rattle.meaning.specs.Lists.{cons, nil}
use Rattle.meaning.specs.Lists as lists
use Rattle.meaning.specs.Operations.{Early, Outcome, equality, is_late, output_after, read_policy, refuses, unless, work_refusal, work_after}
use Rattle.meaning.specs.Policy.{Policy, policy_of, policy_refusal}
use Rattle.meaning.specs.PolicyWords.{policy_words}
use Rattle.meaning.specs.Promises.{IsRefusal}
use Rattle.meaning.specs.Reached.{SamePolicy, SameVocabulary}
use Rattle.meaning.specs.Records.{or_else}
use Rattle.meaning.specs.Vocabulary.{vocabulary_of, vocabulary_refusal}
use Rattle.spelling.proofs.Promises.{Told, one_spelling_equal, refuses_it, spell_accepted, spell_again, spell_equal, spell_fits, spell_found_equal, spell_reordered, spell_read, spell_told, writes_it}
use Rattle.spelling.specs.Operation.{SpellPost, filed, spell, spell_of}
use Rattle.spelling.specs.Reordered.{ReorderedTerms}
use Rattle.spelling.specs.Spelling.{spelled, too_long}
use Rattle.theory.proofs.Refusals.{policy_early, vocabulary_early, work_early}
use Rattle.theory.proofs.Unreached.{counted, policy_read, policy_refused, vocabulary_read, vocabulary_refused}

-- ---- the order of refusals

filed_follows : (P : Policy) (o : ℕ) → Follows (cond (too_long P) 43 0 ∷ cond (leb (length (policy_words P)) o) 0 23 ∷ []) (filed P o).answer
filed_follows P o = go (too_long P) (leb (length (policy_words P)) o) (policy_words P)
  where
    go : (a b : Bool) (ws : List ℕ) →
        Follows (cond a 43 0 ∷ cond b 0 23 ∷ []) (cond a (refuses 43) (cond b (record { answer = result (wrote (length ws)); words = ws }) (refuses 23))).answer
    go true b ws = follows_here 42
    go false true ws = answering (cons refl (cons refl nil))
    go false false ws = follows_on (follows_here 22)

spell_follows : (v p : List ℕ) (w o : ℕ) → Follows (spell_order v p w o) (spell v p w o).answer
unfolding spell spell_of
spell_follows v p w o =
    let told = filed (spelled (vocabulary_of v) (policy_of p)) o in
    rw (
      answered (or_else (vocabulary_refusal v) (or_else (policy_refusal v p) (work_refusal w))) told,
      unless_or (vocabulary_refusal v) (or_else (policy_refusal v p) (work_refusal w)) told.answer,
      unless_or (policy_refusal v p) (work_refusal w) told.answer,
    )
    (follows_unless (vocabulary_refusal v) (follows_unless (policy_refusal v p) (follows_unless (work_refusal w) (filed_follows (spelled (vocabulary_of v) (policy_of p)) o))))
  where
    answered : (n : ℕ) (told : Outcome FillingResult) → (unless refuses n told).answer ≡ unless refused n told.answer
    answered zero told = refl
    answered (suc n) told = refl

-- a refusal has no words
silent : {v p : List ℕ} {w o n : ℕ} (r : Outcome FillingResult) → Told v p w o r → r.answer ≡ refused n → r.words ≡ []
silent r (refuses_it k) e = refl
silent r (writes_it a b c t l) e = absurd (let z : ◌≡◌ {A = ℕ} 0 1 = cc in omega arith)

filling_written : (r : Result ℕ Refusal) {n : ℕ} → filling_answer r ≡ result (wrote n) → r ≡ Ok n
filling_written (Ok m) e = cc
filling_written (Err x) e = absurd (let z : ◌≡◌ {A = ℕ} 0 1 = cc in omega arith)

-- ---- of the contract

module _ {v p w w' o o' : List ℕ} {r : Result ℕ Refusal} (c : SpellPost v p w w' o o' r) where
  -- it refuses n exactly when n is the first refusal in its order
  pub spell_refused_iff : {n : ℕ} → (RefusedWith r n) ↔ FirstRefusal n (spell_order v p (length w) (length o))
  spell_refused_iff =
      let h = refused_iff (spell_follows v p (length w) (length o)) in
      (λ e. h.0 (sym c.answer ∙ refused_answer wrote r e), λ f. answer_refused wrote r (c.answer ∙ h.1 f))

  -- a refusal leaves the output
  pub spell_refused_silent : {n : ℕ} → RefusedWith r n → o' ≡ o
  unfolding output_after
  spell_refused_silent e =
      c.output ∙ rw (silent (spell v p (length w) (length o)) (spell_told v p (length w) (length o)) (sym c.answer ∙ refused_answer wrote r e))

  -- an early one leaves the work slice
  pub spell_refused_early_work : {n : ℕ} → RefusedWith r n → Early n → w' ≡ w
  spell_refused_early_work {n} e l = work_kept (refused n) l (c.work ∙ ap (λ a. work_after a w) (refused_answer wrote r e))

  -- 43 and 23 leave the first 16,384 words of the work slice 0, and later ones as they were
  pub spell_refused_late_work : {n : ℕ} → RefusedWith r n → is_late n ≡ true → WorkCleared w w'
  spell_refused_late_work {n} e l =
      let a = past (spell_refused_iff.0 e) (vocabulary_early v) l in
      let b = past a.1 (policy_early v p) l in
      let d = past b.1 (work_early (length w)) l in
      work_cleared (refused n) l (work_full (length w) d.0) (c.work ∙ ap (λ a. work_after a w) (refused_answer wrote r e))

  module _ {n : ℕ} (e : r ≡ Ok n) where
    told : (spell v p (length w) (length o)).answer ≡ result (wrote n)
    told = sym c.answer ∙ ap filling_answer e

    unrefused : {m : ℕ} → (spell v p (length w) (length o)).answer ≡ refused m → ⊥
    unrefused f = absurd (let h = told in let z : ◌≡◌ {A = ℕ} 0 1 = cc in omega arith)

    -- so do words that are written
    pub spell_written_work : WorkCleared w w'
    spell_written_work =
        let full = result_full (length w) (spell_follows v p (length w) (length o)) (lists.there (lists.there (lists.here refl))) (λ x. unrefused x.1) in
        work_cleared (result (wrote n)) refl full (rw e at c.work)

    -- n words are written at the front of the output, and what follows is as it was
    pub spell_output : WritesFirst n o o'
    spell_output = let h = spell_fits v p (length w) (length o) n told in writes_first _ h.0 (omega (arith, h.0, h.1)) c.output

    first_words : take n o' ≡ (spell v p (length w) (length o)).words
    unfolding output_after
    first_words = let h = spell_fits v p (length w) (length o) n told in ap (take n) c.output ∙ take_at _ _ n (sym h.0)

    -- they are a policy that Read policy accepts
    pub spell_written_accepted : read_policy v (take n o') ≡ result accepted
    spell_written_accepted = ap (read_policy v) first_words ∙ spell_accepted v p (length w) (length o) n told

    -- no interpretation, finite or countable, tells it from the policy that was read
    pub spell_written_equal : Indistinct (vocabulary_of v) (policy_of p) (policy_of (take n o'))
    spell_written_equal = rw first_words (spell_equal v p (length w) (length o) n told)

    -- and Equality says so where it answers
    pub spell_written_found_equal : (w₁ o₁ : ℕ) → (IsRefusal (equality v p (take n o') w₁ o₁).answer → ⊥) → (equality v p (take n o') w₁ o₁).answer ≡ result equal
    spell_written_found_equal = rw first_words (spell_found_equal v p (length w) (length o) n told)

    -- the same words are written by every call that the definition answers so
    same_words : {q w₁ w₂ o₁ o₂ : List ℕ} {s : Result ℕ Refusal} → SpellPost v q w₁ w₂ o₁ o₂ s → spell v q (length w₁) (length o₁) ≡ spell v p (length w) (length o) →
        (s ≡ Ok n) × (take n o₂ ≡ take n o')
    unfolding output_after
    same_words {q} {w₁} {o₁ = o₁} {o₂ = o₂} {s = s} d h =
        let a : (spell v q (length w₁) (length o₁)).answer ≡ result (wrote n) = ap (λ (x : Outcome FillingResult). x.answer) h ∙ told in
        let f = spell_fits v q (length w₁) (length o₁) n a in (
          filling_written s (d.answer ∙ a),
          ap (take n) d.output ∙ take_at _ _ n (sym f.0) ∙ ap (λ (x : Outcome FillingResult). x.words) h ∙ sym first_words,
        )

    -- writing it again, with slices of the same lengths, is not refused and writes the same words
    pub spell_written_again : {w₁ w₂ o₁ o₂ : List ℕ} {s : Result ℕ Refusal} → SpellPost v (take n o') w₁ w₂ o₁ o₂ s → length w₁ ≡ length w → length o₁ ≡ length o →
        (s ≡ Ok n) × (take n o₂ ≡ take n o')
    spell_written_again d e f = same_words d (rw (e, f, first_words) (spell_again v p (length w) (length o) n told))

    -- so does writing a policy with its conjuncts or terms in another order
    pub spell_written_reordered : {q w₁ w₂ o₁ o₂ : List ℕ} {s : Result ℕ Refusal} → SpellPost v q w₁ w₂ o₁ o₂ s → length w₁ ≡ length w → length o₁ ≡ length o →
        policy_refusal v q ≡ 0 → ReorderedTerms (policy_of p) (policy_of q) → (s ≡ Ok n) × (take n o₂ ≡ take n o')
    spell_written_reordered {q} d e f a m =
        same_words d (rw (e, f) (sym (spell_reordered v p q (length w) (length o) (spell_read v p (length w) (length o) n told) a m)))

    -- and two policies with one spelling are equal
    pub spell_written_one : {q w₁ w₂ o₁ o₂ : List ℕ} {s : Result ℕ Refusal} {m : ℕ} (d : SpellPost v q w₁ w₂ o₁ o₂ s) → s ≡ Ok m → take m o₂ ≡ take n o' →
        Indistinct (vocabulary_of v) (policy_of p) (policy_of q)
    unfolding output_after
    spell_written_one {q} {w₁} {o₁ = o₁} {m = m} d f h =
        let a : (spell v q (length w₁) (length o₁)).answer ≡ result (wrote m) = sym d.answer ∙ ap filling_answer f in
        let g = spell_fits v q (length w₁) (length o₁) m a in
        one_spelling_equal v p q (length w) (length o) n (length w₁) (length o₁) m told a
        (sym first_words ∙ sym h ∙ ap (take m) d.output ∙ take_at _ _ m (sym g.0))

-- records that no link reaches have no effect
pub spell_same : {v v' p p' : List ℕ} → SameVocabulary v v' → SamePolicy p p' → (w o : ℕ) → spell v p w o ≡ spell v' p' w o
unfolding spell spell_of
spell_same a b w o = cc (vocabulary_refused a, vocabulary_read a, policy_refused b (counted a), policy_read b)
