-- Refusals: none of several in order is none of each; a second policy's numbers, and the greatest of a policy's.
use Prim.Native.Nat.{◌+◌, ◌≤◌, suc, zero, ℕ}
use mathlib.Core.Bool.{Bool, cond, false, true}
use mathlib.Core.List.{List, [], ◌∷◌}
use mathlib.Core.Path.{◌≡◌, refl, sym}
use lib.Dec.{eqb, leb, ltb}
use lib.ListN.{length}
use native.Mathlib.Omega.{arith}
use borrow.Author.Tests.{leb-true, ne_eqb}
use Rattle.meaning.specs.Answers.{FillingResult, refused, result, wrote}
use Rattle.meaning.specs.Limits.{most_model_words, most_policy_words, most_vocabulary_words, work_size}
use Rattle.meaning.specs.Lists.{any}
use Rattle.meaning.specs.Model.{fact_next, first_fact, headed_model, model_refusal, sound_fact}
use Rattle.meaning.specs.Operations.{AcceptedInput, Early, Outcome, input_refusal, refuses, says, unless, work_refusal, written}
use Rattle.meaning.specs.Policy.{Walk, child_of, fault, fault_of, first_term, headed_policy, next_of, onward, policy_refusal, reached}
use Rattle.meaning.specs.Policy.{second_refusal, sound_record, walk}
use Rattle.meaning.specs.Records.{is_sized, or_else, refusal_along}
use Rattle.meaning.specs.Vocabulary.{axiom_next, axioms_of, axioms_refusal, first_axiom, headed_vocabulary, is_opposed, sound_axiom}
use Rattle.meaning.specs.Vocabulary.{vocabulary_refusal}

pub or_else_zero : (a b : ℕ) → or_else a b ≡ 0 → (a ≡ 0) × (b ≡ 0)
or_else_zero zero b e = (refl, e)
or_else_zero (suc a) b e = absurd (omega arith)

pub or_else_first : (a b : ℕ) → (a ≡ 0 → ⊥) → a ≡ or_else a b
or_else_first zero b h = absurd (h refl)
or_else_first (suc a) b h = refl

pub or_else_assoc : (a b c : ℕ) → or_else a (or_else b c) ≡ or_else (or_else a b) c
or_else_assoc zero b c = refl
or_else_assoc (suc a) b c = refl

pub second_refusal_zero : (n : ℕ) → second_refusal n ≡ 0 → n ≡ 0
second_refusal_zero zero e = refl
second_refusal_zero (suc n) e = absurd (omega arith)

pub second_refusal_some : (n : ℕ) → (n ≡ 0 → ⊥) → n + 10 ≡ second_refusal n
second_refusal_some zero h = absurd (h refl)
second_refusal_some (suc n) h = omega arith

pub cond_all {ℓ} : {A : Type 0} (P : A → Type ℓ) (b : Bool) {x y : A} → P x → P y → P (cond b x y)
cond_all P true h k = h
cond_all P false h k = k

-- a walk's fault, and so a policy's refusal, is at most 8
abbrev Few : Walk → Type 0
Few w = fault_of w ≤ 8

onward-≤ : (w : Walk) (go : List ℕ → Walk) → Few w → ((seen : List ℕ) → Few (go seen)) → Few (onward w go)
onward-≤ (reached seen) go h on = on seen
onward-≤ (fault n) go h on = h

walk-≤ : (f : ℕ) (v p : List ℕ) (d k : ℕ) (seen : List ℕ) → Few (walk f v p d k seen)
unfolding walk
walk-≤ zero v p d k seen = omega arith
walk-≤ (suc f) v p d k seen =
    let inner = walk f v p (suc d) (child_of p k) (k ∷ seen) in
    let on = onward-≤ inner (walk f v p d (next_of p k)) (walk-≤ f v p (suc d) (child_of p k) (k ∷ seen)) (walk-≤ f v p d (next_of p k)) in
    cond_all Few (eqb k 0) (omega arith)
    (cond_all Few (any (eqb k) seen) (omega arith)
    (cond_all Few (sound_record v p d k) (cond_all Few (eqb d 17) (omega arith) on) (omega arith)))

pub policy_refusal-≤ : (v p : List ℕ) → policy_refusal v p ≤ 8
unfolding policy_refusal
policy_refusal-≤ v p =
    cond_all (λ n. n ≤ 8) (is_sized 6 most_policy_words (length p))
    (cond_all (λ n. n ≤ 8) (headed_policy p) (walk-≤ (length p) v p 0 (first_term p) []) (omega arith)) (omega arith)

-- what holds of no refusal and of a chain's holds of the reader's along the chain
pub along_all : (P : ℕ → Type 0) (next : ℕ → ℕ) (sound : ℕ → Bool) {r : ℕ} → P 0 → P r → (f k : ℕ) → P (refusal_along r next sound f k)
along_all P next sound z h zero k = z
along_all P next sound z h (suc f) k = cond_all P (eqb k 0) z (cond_all P (sound k) (along_all P next sound z h f (next k)) h)

-- ---- the refusals before 21, and 21, are early

few_early : (n : ℕ) → n ≤ 21 → Early n
few_early n h = rw (ne_eqb n 22 (λ e. omega arith), ne_eqb n 43 (λ e. omega arith), ne_eqb n 23 (λ e. omega arith))

pub or_else_early : (a b : ℕ) → Early a → Early b → Early (or_else a b)
or_else_early zero b h k = k
or_else_early (suc a) b h k = h

pub vocabulary_early : (v : List ℕ) → Early (vocabulary_refusal v)
unfolding vocabulary_refusal
vocabulary_early v =
    let chain = along_all Early (axiom_next v) (sound_axiom v) refl refl (length v) (first_axiom v) in
    let opposed = cond_all Early (is_opposed (axioms_of v)) refl refl in
    cond_all Early (is_sized 4 most_vocabulary_words (length v)) (cond_all Early (headed_vocabulary v) (or_else_early (axioms_refusal (length v) v (first_axiom v)) _ chain opposed) refl) refl

pub policy_early : (v p : List ℕ) → Early (policy_refusal v p)
policy_early v p = few_early (policy_refusal v p) (let a = policy_refusal-≤ v p in omega arith)

pub second_early : (v q : List ℕ) → Early (second_refusal (policy_refusal v q))
second_early v q = go (policy_refusal v q) (policy_refusal-≤ v q)
  where
    go : (n : ℕ) → n ≤ 8 → Early (second_refusal n)
    go zero h = refl
    go (suc n) h = few_early (second_refusal (suc n)) (omega arith)

pub input_early : (v p q : List ℕ) → Early (input_refusal v p q)
unfolding input_refusal
input_early v p q =
    or_else_early (vocabulary_refusal v) _ (vocabulary_early v) (or_else_early (policy_refusal v p) (second_refusal (policy_refusal v q)) (policy_early v p) (second_early v q))

pub model_early : (v m : List ℕ) → Early (model_refusal v m)
unfolding model_refusal
model_early v m = cond_all Early (is_sized 5 most_model_words (length m)) (cond_all Early (headed_model m) (along_all Early (fact_next m) (sound_fact v m) refl refl (length m) (first_fact m)) refl) refl

pub work_early : (w : ℕ) → Early (work_refusal w)
work_early w = cond_all Early (ltb w work_size) refl refl

-- the vocabulary and both policies are accepted
pub accepted_input : (v p q : List ℕ) → input_refusal v p q ≡ 0 → AcceptedInput v p q
unfolding input_refusal
accepted_input v p q e =
    let a = or_else_zero (vocabulary_refusal v) (or_else (policy_refusal v p) (second_refusal (policy_refusal v q))) e in
    let b = or_else_zero (policy_refusal v p) (second_refusal (policy_refusal v q)) a.1 in
    record { vocabulary = a.0; first_policy = b.0; second_policy = second_refusal_zero (policy_refusal v q) b.1 }

-- what holds of every refusal, and of what comes when there is none, holds of the outcome
pub unless_all {ℓ} : {A : Type 0} (P : A → Type ℓ) (refuse : ℕ → A) (n : ℕ) (later : A) → ((k : ℕ) → P (refuse k)) → (n ≡ 0 → P later) → P (unless refuse n later)
unless_all P refuse zero later f g = g refl
unless_all P refuse (suc n) later f g = f (suc n)

-- a number that is not 0 is the refusal
pub unless_some : {A : Type 0} (refuse : ℕ → A) (n : ℕ) (later : A) → (n ≡ 0 → ⊥) → refuse n ≡ unless refuse n later
unless_some refuse zero later h = absurd (h refl)
unless_some refuse (suc n) later h = refl

-- an outcome without words is its answer
pub says_unless : {A : Type 0} (n : ℕ) (a : A) → (unless refuses n (says a)).answer ≡ unless refused n (result a)
says_unless zero a = refl
says_unless (suc n) a = refl

-- where words are told, nothing was refused: they are these, and so many
pub filling_told : (r : ℕ) (ws : List ℕ) (o n : ℕ) → (unless refuses r (written o wrote ws)).answer ≡ result (wrote n) →
    (r ≡ 0) × ((unless refuses r (written o wrote ws)).words ≡ ws) × (n ≡ length ws)
filling_told zero ws o n e = go (leb (length ws) o) e
  where
    go : (b : Bool) → (cond b (record { answer = result (wrote (length ws)); words = ws }) (refuses 23)).answer ≡ result (wrote n) →
        (◌≡◌ {A = ℕ} 0 0) × ((cond b (record { answer = result (wrote (length ws)); words = ws }) (refuses 23)).words ≡ ws) × (n ≡ length ws)
    go true e = (refl, refl, let d : length ws ≡ n = cc in sym d)
    go false e = let z : ◌≡◌ {A = ℕ} 0 1 = cc in absurd (omega arith)
filling_told (suc r) ws o n e = let z : ◌≡◌ {A = ℕ} 0 1 = cc in absurd (omega arith)

-- a refusal has no words, and words that are told fit the output
pub record FillingFits (o : ℕ) (r : Outcome FillingResult) : Type 0 where
  pub none : (n : ℕ) → r.answer ≡ refused n → r.words ≡ []
  pub some : (n : ℕ) → r.answer ≡ result (wrote n) → (n ≡ length r.words) × (length r.words ≤ o)

pub filling_fits : (m o : ℕ) (ws : List ℕ) → FillingFits o (unless refuses m (written o wrote ws))
filling_fits (suc m) o ws = record { none = λ n e. refl; some = λ n e. absurd (let z : ◌≡◌ {A = ℕ} 0 1 = cc in omega arith) }
filling_fits zero o ws = go (leb (length ws) o) refl
  where
    go : (b : Bool) → leb (length ws) o ≡ b → FillingFits o (cond b (record { answer = result (wrote (length ws)); words = ws }) (refuses 23))
    go true e = record {
      none = λ n h. absurd (let z : ◌≡◌ {A = ℕ} 0 1 = cc in omega arith);
      some = λ n h. (let d : length ws ≡ n = cc in sym d, leb-true (length ws) o e);
    }
    go false e = record { none = λ n h. refl; some = λ n h. absurd (let z : ◌≡◌ {A = ℕ} 0 1 = cc in omega arith) }
