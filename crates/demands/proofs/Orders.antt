-- The definitions follow the orders of refusals, SPECIFICATION 9.2 to 9.8.
use Prim.Native.Nat.{suc, zero, ℕ}
use mathlib.Core.Bool.{Bool, ◌||◌, cond, false, true}
use mathlib.Core.List.{List, [], ◌∷◌}
use mathlib.Core.Logic.{◌↔◌}
use mathlib.Core.Path.{◌≡◌, ap, refl, subst}
use lib.Dec.{leb}
use lib.ListN.{length}
use native.Mathlib.Omega.{arith}
use Rattle.demands.specs.Refusals.{FirstRefusal, compliance_order, equality_order, here, input_order, later, many_refusal, model_check_order, policy_order, possible_order}
use Rattle.demands.specs.Refusals.{second_policy_order, short_refusal, vocabulary_order}
use Rattle.meaning.specs.Answers.{Answer, CheckResult, accepted, compliant, differs, equal, no, outside, refused, result, yes}
use Rattle.meaning.specs.Containment.{Decision, contained, crowded, escapes, resolve}
use Rattle.meaning.specs.Countermodel.{countermodel}
use Rattle.meaning.specs.Lists.{All, cons, nil}
use Rattle.meaning.specs.Model.{facts_of, model_refusal}
use Rattle.meaning.specs.ModelCheck.{refutes}
use Rattle.meaning.specs.Operations.{Outcome, compliance, compliance_of, equality, equality_of, input_refusal, model_check, possibility, possible_from, read_policy}
use Rattle.meaning.specs.Operations.{read_second_policy, read_vocabulary, refuses, reported, says, unless, work_refusal}
use Rattle.meaning.specs.Policy.{policy_of, policy_refusal, second_refusal}
use Rattle.meaning.specs.Records.{or_else}
use Rattle.meaning.specs.Vocabulary.{Vocabulary, vocabulary_of, vocabulary_refusal}
use Rattle.theory.proofs.Refusals.{cond_all}

-- ---- the first of several numbers

pub first_some : {n : ℕ} {l : List ℕ} → FirstRefusal n l → n ≡ 0 → ⊥
first_some (here h) = h
first_some (later f) = first_some f

pub first_all : {P : ℕ → Type 0} {n : ℕ} {l : List ℕ} → All P l → FirstRefusal n l → P n
first_all {P = P} {n = n} nil x3 = elim x3 [ ]
first_all (cons h t) (here k) = h
first_all (cons h t) (later f) = first_all t f

first_same : {n m : ℕ} {l : List ℕ} → FirstRefusal n l → FirstRefusal m l → n ≡ m
first_same (here h) (here k) = refl
first_same (here h) (later g) = absurd (h refl)
first_same (later f) (here k) = absurd (k refl)
first_same (later f) (later g) = first_same f g

-- an answer is the first refusal of the list, or the list has none and it is a result
pub data Follows {A : Type 0} (l : List ℕ) : Answer A → Type 0 where
  refusing : {n : ℕ} → FirstRefusal n l → Follows l (refused n)
  answering : {a : A} → All (λ n. n ≡ 0) l → Follows l (result a)

pub refused_iff : {A : Type 0} {l : List ℕ} {a : Answer A} → Follows l a → {n : ℕ} → (a ≡ refused n) ↔ FirstRefusal n l
refused_iff {l = l} (refusing {n = m} f) = (λ e. subst (λ (k : ℕ). FirstRefusal k l) (let z : m ≡ _ = cc in z) f, λ g. ap refused (first_same f g))
refused_iff (answering z) = (λ e. absurd (let y : ◌≡◌ {A = ℕ} 0 1 = cc in omega arith), λ g. absurd (first_some g (first_all z g)))

-- ---- the definitions follow their orders

module _ {A : Type 0} where
  pub follows_here : (n : ℕ) {l : List ℕ} → Follows {A = A} (suc n ∷ l) (refused (suc n))
  follows_here n = refusing {n = suc n} (here (λ e. omega arith))

  pub follows_on : {l : List ℕ} {a : Answer A} → Follows l a → Follows (0 ∷ l) a
  follows_on (refusing f) = refusing (later f)
  follows_on (answering z) = answering (cons refl z)

  pub follows_unless : (m : ℕ) {l : List ℕ} {rest : Answer A} → Follows l rest → Follows (m ∷ l) (unless refused m rest)
  follows_unless zero h = follows_on h
  follows_unless (suc m) h = follows_here m

  pub unless_or : (m n : ℕ) (rest : Answer A) → unless refused (or_else m n) rest ≡ unless refused m (unless refused n rest)
  unless_or zero n rest = refl
  unless_or (suc m) n rest = refl

  module _ (v p q : List ℕ) where
    follows_input : {l : List ℕ} {rest : Answer A} → Follows l rest →
        Follows (vocabulary_refusal v ∷ policy_refusal v p ∷ second_refusal (policy_refusal v q) ∷ l) (unless refused (input_refusal v p q) rest)
    unfolding input_refusal
    follows_input {rest = rest} h =
        rw (unless_or (vocabulary_refusal v) (or_else (policy_refusal v p) (second_refusal (policy_refusal v q))) rest, unless_or (policy_refusal v p) (second_refusal (policy_refusal v q)) rest)
        (follows_unless (vocabulary_refusal v) (follows_unless (policy_refusal v p) (follows_unless (second_refusal (policy_refusal v q)) h)))

    follows_work : (w : ℕ) {l : List ℕ} (rest : Outcome A) → Follows l rest.answer → Follows (input_order v p q w l) (unless refuses (or_else (input_refusal v p q) (work_refusal w)) rest).answer
    follows_work w rest h =
        rw (answered (or_else (input_refusal v p q) (work_refusal w)), unless_or (input_refusal v p q) (work_refusal w) rest.answer) (follows_input (follows_unless (work_refusal w) h))
      where
        answered : (n : ℕ) → (unless refuses n rest).answer ≡ unless refused n rest.answer
        answered zero = refl
        answered (suc n) = refl

  follows_many : (b : Bool) {m : ℕ} (rest : Outcome A) → Follows (m ∷ []) rest.answer → Follows (many_refusal b ∷ m ∷ []) (cond b (refuses 22) rest).answer
  follows_many true rest h = follows_here 21
  follows_many false rest h = follows_on h

  follows_short : (K : Vocabulary) (o : ℕ) (tell : ℕ → ℕ → ℕ → A) (d : Decision) {m : ℕ} (rest : Outcome A) → Follows (m ∷ []) rest.answer →
      Follows (short_refusal K o d m ∷ []) (reported K o tell d rest).answer
  follows_short K o tell contained rest h = h
  follows_short K o tell (escapes s q u) rest h = go (leb (length (countermodel K u)) o)
    where
      go : (b : Bool) → Follows (cond b 0 23 ∷ []) (cond b (record { answer = result (tell s q (length (countermodel K u))); words = countermodel K u }) (refuses 23)).answer
      go true = answering (cons refl nil)
      go false = follows_here 22

pub compliance_follows : (v p q : List ℕ) (w o : ℕ) → Follows (compliance_order v p q w o) (compliance v p q w o).answer
unfolding compliance compliance_of
compliance_follows v p q w o =
    let K = vocabulary_of v in
    follows_work v p q w _ (follows_many (crowded K (policy_of p) (policy_of q)) _
    (follows_short K o outside (resolve K (policy_of p) (policy_of q)) (says compliant) (answering (cons refl nil))))

pub equality_follows : (v p q : List ℕ) (w o : ℕ) → Follows (equality_order v p q w o) (equality v p q w o).answer
unfolding equality equality_of
equality_follows v p q w o =
    let K = vocabulary_of v in
    follows_work v p q w _ (follows_many (crowded K (policy_of p) (policy_of q) || crowded K (policy_of q) (policy_of p)) _
    (follows_short K o (differs 1) (resolve K (policy_of p) (policy_of q)) _
    (follows_short K o (differs 2) (resolve K (policy_of q) (policy_of p)) (says equal) (answering (cons refl nil)))))

pub vocabulary_follows : (v : List ℕ) → Follows (vocabulary_order v) (read_vocabulary v)
unfolding read_vocabulary
vocabulary_follows v = follows_unless (vocabulary_refusal v) (answering nil)

pub policy_follows : (v p : List ℕ) → Follows (policy_order v p) (read_policy v p)
unfolding read_policy
policy_follows v p = rw (unless_or (vocabulary_refusal v) (policy_refusal v p) (result accepted)) (follows_unless (vocabulary_refusal v) (follows_unless (policy_refusal v p) (answering nil)))

pub second_policy_follows : (v q : List ℕ) → Follows (second_policy_order v q) (read_second_policy v q)
unfolding read_second_policy
second_policy_follows v q =
    rw (unless_or (vocabulary_refusal v) (second_refusal (policy_refusal v q)) (result accepted))
    (follows_unless (vocabulary_refusal v) (follows_unless (second_refusal (policy_refusal v q)) (answering nil)))

pub possible_follows : (v p : List ℕ) (w : ℕ) → Follows (possible_order v p w) (possibility v p w)
unfolding possibility
possible_follows v p w =
    let rest = result (possible_from (vocabulary_of v) 1 (policy_of p)) in
    rw (unless_or (vocabulary_refusal v) (or_else (policy_refusal v p) (work_refusal w)) rest, unless_or (policy_refusal v p) (work_refusal w) rest)
    (follows_unless (vocabulary_refusal v) (follows_unless (policy_refusal v p) (follows_unless (work_refusal w) (answering nil))))

pub model_check_follows : (v p q m : List ℕ) (w : ℕ) → Follows (model_check_order v p q m w) (model_check v p q m w)
unfolding model_check
model_check_follows v p q m w =
    let b = refutes (facts_of m) (vocabulary_of v) (policy_of p) (policy_of q) in
    let rest = cond b (result yes) (result no) in
    rw (unless_or (input_refusal v p q) (or_else (model_refusal v m) (work_refusal w)) rest, unless_or (model_refusal v m) (work_refusal w) rest)
    (follows_input v p q (follows_unless (model_refusal v m) (follows_unless (work_refusal w) (cond_all (λ (a : Answer CheckResult). Follows [] a) b (answering nil) (answering nil)))))
