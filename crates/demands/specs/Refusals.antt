-- The order of refusals, operation by operation (SPECIFICATION 9.2 to 9.8 and 9.12 to 9.14): a list of numbers, each 0 where its condition does
-- not hold.
use Rattle.meaning.specs.Refusals.{refusal_number}
use Rattle.meaning.specs.declared.refusals.Refusal.{Refusal}
use Rattle.std.specs.Prelude.{ℕ, Bool, ◌||◌, cond, true, List, [], ◌∷◌, ◌≡◌, leb, length, Err, Result}
use Rattle.declarations.specs.Names.{declared_well}
use Rattle.declarations.specs.Passes.{list_of}
use Rattle.meaning.specs.Containment.{Decision, contained, crowded, escapes, resolve}
use Rattle.meaning.specs.Countermodel.{countermodel}
use Rattle.meaning.specs.Limits.{most_axioms, most_vocabulary_words}
use Rattle.meaning.specs.Model.{model_refusal}
use Rattle.meaning.specs.Operations.{work_refusal}
use Rattle.meaning.specs.Policy.{policy_of, policy_refusal, second_refusal}
use Rattle.meaning.specs.PolicyWords.{policy_words}
use Rattle.meaning.specs.Records.{is_sized}
use Rattle.meaning.specs.Vocabulary.{Vocabulary, axioms_of, axioms_refusal, first_axiom, headed_vocabulary, is_opposed, vocabulary_of, vocabulary_refusal}
use Rattle.owl.specs.Owl.{owl_words, parsed_of, vocabulary_in}
use Rattle.rehearsal.specs.Load.{load, load_refusal}
use Rattle.spelling.specs.Spelling.{spelled, too_long}
use Rattle.statements.specs.Forms.{Parsed, parsed, wrong}

-- the answer is the refusal with this number
pub record RefusedWith {A : Type 0} (r : Result A Refusal) (n : ℕ) : Type 0 where
  pub refusal : Refusal
  pub given : r ≡ Err refusal
  pub number : refusal_number refusal ≡ n

-- n is the first of the numbers that is not 0
pub data FirstRefusal (n : ℕ) : List ℕ → Type 0 where
  here : {l : List ℕ} → (n ≡ 0 → ⊥) → FirstRefusal n (n ∷ l)
  later : {l : List ℕ} → FirstRefusal n l → FirstRefusal n (0 ∷ l)

-- SPECIFICATION 9.2: 1, 2, 3, 44
abbrev pub vocabulary_order : List ℕ → List ℕ
vocabulary_order v = vocabulary_refusal v ∷ []

-- 44: a role or a feature of the vocabulary is named both ways, and nothing else is wrong with it, in no record of its chain
pub record NamedBothWays (v : List ℕ) : Type 0 where
  pub sized : is_sized 4 most_vocabulary_words (length v) ≡ true
  pub headed : headed_vocabulary v ≡ true
  pub sound : axioms_refusal (length v) v (first_axiom v) ≡ 0
  pub opposed : is_opposed (axioms_of v) ≡ true

-- SPECIFICATION 9.3: the vocabulary; 4, 5, the walk's first fault
abbrev pub policy_order : List ℕ → List ℕ → List ℕ
policy_order v p = vocabulary_refusal v ∷ policy_refusal v p ∷ []

-- SPECIFICATION 9.4: the same, with 14 to 18
abbrev pub second_policy_order : List ℕ → List ℕ → List ℕ
second_policy_order v q = vocabulary_refusal v ∷ second_refusal (policy_refusal v q) ∷ []

-- SPECIFICATION 9.5: then 21
abbrev pub possible_order : List ℕ → List ℕ → ℕ → List ℕ
possible_order v p w = vocabulary_refusal v ∷ policy_refusal v p ∷ work_refusal w ∷ []

-- the vocabulary, the first policy, the second, 21; then the numbers of l
abbrev pub input_order : List ℕ → List ℕ → List ℕ → ℕ → List ℕ → List ℕ
input_order v p q w l = vocabulary_refusal v ∷ policy_refusal v p ∷ second_refusal (policy_refusal v q) ∷ work_refusal w ∷ l

-- 22: the short way fails, and a possible term has too many combinations
abbrev pub many_refusal : Bool → ℕ
many_refusal b = cond b 22 0

-- 23: there is a countermodel to report, and the output is too short for it; where there is none, what follows
abbrev pub short_refusal : Vocabulary → ℕ → Decision → ℕ → ℕ
short_refusal K o contained rest = rest
short_refusal K o (escapes s q u) rest = cond (leb (length (countermodel K u)) o) 0 23

-- SPECIFICATION 9.6: then 22, considered where the short way fails, then 23
abbrev pub compliance_order : List ℕ → List ℕ → List ℕ → ℕ → ℕ → List ℕ
compliance_order v p q w o =
    let K = vocabulary_of v in
    input_order v p q w (many_refusal (crowded K (policy_of p) (policy_of q)) ∷ short_refusal K o (resolve K (policy_of p) (policy_of q)) 0 ∷ [])

-- SPECIFICATION 9.7: then 22, considered in each direction where its own short way fails, then 23 for the difference that is reported
abbrev pub equality_order : List ℕ → List ℕ → List ℕ → ℕ → ℕ → List ℕ
equality_order v p q w o =
    let K = vocabulary_of v in
    input_order v p q w (many_refusal (crowded K (policy_of p) (policy_of q) || crowded K (policy_of q) (policy_of p)) ∷
    short_refusal K o (resolve K (policy_of p) (policy_of q)) (short_refusal K o (resolve K (policy_of q) (policy_of p)) 0) ∷ [])

-- SPECIFICATION 9.8: the vocabulary, the policies, the model's 31, 32, 33, and 21 last
abbrev pub model_check_order : List ℕ → List ℕ → List ℕ → List ℕ → ℕ → List ℕ
model_check_order v p q m w = vocabulary_refusal v ∷ policy_refusal v p ∷ second_refusal (policy_refusal v q) ∷ model_refusal v m ∷ work_refusal w ∷ []

-- 41: the text is too long or departs from the forms
abbrev pub forms_refusal : Parsed → ℕ
forms_refusal wrong = 41
forms_refusal (parsed l) = 0

-- SPECIFICATION 9.12: 41; 42, the names of its statements; 1, the records, their axioms' and the added ones; 23, the words
abbrev pub owl_order : List ℕ → ℕ → List ℕ
owl_order text o =
    let l = list_of (parsed_of text) in
    forms_refusal (parsed_of text) ∷ cond (declared_well l) 0 42 ∷ cond (leb (length (vocabulary_in l).axioms) most_axioms) 0 1 ∷
    cond (leb (length (owl_words text)) o) 0 23 ∷ []

-- SPECIFICATION 9.13: the vocabulary, the policy, 21; 43, the spelling is longer than a policy may be; 23, the words
abbrev pub spell_order : List ℕ → List ℕ → ℕ → ℕ → List ℕ
spell_order v p w o =
    let S = spelled (vocabulary_of v) (policy_of p) in
    vocabulary_refusal v ∷ policy_refusal v p ∷ work_refusal w ∷ cond (too_long S) 43 0 ∷ cond (leb (length (policy_words S)) o) 0 23 ∷ []

-- SPECIFICATION 9.14: 45, a number out of range; 23, the words
abbrev pub rehearse_order : ℕ → ℕ → ℕ → ℕ → List ℕ
rehearse_order s N m o = load_refusal s N m ∷ cond (leb (length (load s N m)) o) 0 23 ∷ []
