-- Demand 1 of Read OWL, and what it promises, as theorems about its contract.
use Rattle.demands.proofs.Refusals.{refused_answer, answer_refused}
use Rattle.meaning.specs.declared.refusals.Refusal.{Refusal}
use Rattle.std.specs.Prelude.{Ok, Result}
use Prim.Native.Nat.{ℕ}
use mathlib.Core.Bool.{Bool, cond, false, true}
use mathlib.Core.List.{List, [], ◌∷◌}
use mathlib.Core.Logic.{◌↔◌}
use mathlib.Core.Path.{◌∙◌, ◌≡◌, ap, refl, sym}
use lib.Dec.{leb}
use lib.ListN.{length, take}
use lib.Seq.{take_at}
use Rattle.declarations.specs.Names.{declared_well}
use Rattle.declarations.specs.Passes.{list_of}
use Rattle.demands.proofs.Afterwards.{writes_first}
use Rattle.demands.proofs.Orders.{Follows, answering, follows_here, follows_on, refused_iff}
use Rattle.demands.specs.Refusals.{FirstRefusal, forms_refusal, owl_order, RefusedWith}
use Rattle.demands.specs.Slices.{WritesFirst}
use Rattle.meaning.specs.Answers.{accepted, filling_answer, result, wrote}
use Rattle.meaning.specs.Limits.{most_axioms}
use Rattle.meaning.specs.Lists.{cons, nil}
use Rattle.meaning.specs.Operations.{output_after, read_vocabulary, refuses, unless, written}
use Rattle.meaning.specs.Records.{or_else}
use Rattle.meaning.specs.Stated.{is_functional_feature, is_functional_role}
use Rattle.meaning.specs.Vocabulary.{is_named, vocabulary_of}
use Rattle.owl.proofs.Promises.{owl_accepted, owl_functional_feature, owl_functional_role, owl_states}
use Rattle.owl.specs.Owl.{OwlPost, axioms_in, owl_refusal, owl_words, parsed_of, parsed_refusal, read_owl, vocabulary_in}
use Rattle.owl.specs.Passes.{statements_of}
use Rattle.statements.specs.Forms.{Parsed, parsed, wrong}
use Rattle.theory.proofs.Refusals.{FillingFits, filling_fits}

-- ---- the order of refusals

module _ (o : ℕ) (ws : List ℕ) where
  by_tests : (a b c : Bool) →
      Follows (cond a 0 42 ∷ cond b 0 1 ∷ cond c 0 23 ∷ [])
      (unless refuses (or_else (cond a 0 42) (cond b 0 1)) (cond c (record { answer = result (wrote (length ws)); words = ws }) (refuses 23))).answer
  by_tests false b c = follows_here 41
  by_tests true false c = follows_on (follows_here 0)
  by_tests true true false = follows_on (follows_on (follows_here 22))
  by_tests true true true = answering (cons refl (cons refl (cons refl nil)))

  parsed_follows : (p : Parsed) →
      Follows
      (forms_refusal p ∷ cond (declared_well (list_of p)) 0 42 ∷ cond (leb (length (vocabulary_in (list_of p)).axioms) most_axioms) 0 1 ∷ cond (leb (length ws) o) 0 23 ∷ [])
      (unless refuses (parsed_refusal p) (written o wrote ws)).answer
  parsed_follows wrong = follows_here 40
  parsed_follows (parsed l) = follows_on (by_tests (declared_well l) (leb (length (vocabulary_in l).axioms) most_axioms) (leb (length ws) o))

owl_follows : (text : List ℕ) (o : ℕ) → Follows (owl_order text o) (read_owl text o).answer
unfolding read_owl owl_refusal
owl_follows text o = parsed_follows o (owl_words text) (parsed_of text)

-- ---- the words

owl_fits : (text : List ℕ) (o : ℕ) → FillingFits o (read_owl text o)
unfolding read_owl
owl_fits text o = filling_fits (owl_refusal text) o (owl_words text)

-- ---- of the contract

module _ {text o o' : List ℕ} {r : Result ℕ Refusal} (c : OwlPost text o o' r) where
  -- it refuses n exactly when n is the first refusal in its order
  pub owl_refused_iff : {n : ℕ} → (RefusedWith r n) ↔ FirstRefusal n (owl_order text (length o))
  owl_refused_iff =
      let h = refused_iff (owl_follows text (length o)) in
      (λ e. h.0 (sym c.answer ∙ refused_answer wrote r e), λ f. answer_refused wrote r (c.answer ∙ h.1 f))

  -- a refusal leaves the output
  pub owl_refused_silent : {n : ℕ} → RefusedWith r n → o' ≡ o
  unfolding output_after
  owl_refused_silent e = c.output ∙ rw ((owl_fits text (length o)).none _ (sym c.answer ∙ refused_answer wrote r e))

  module _ {n : ℕ} (e : r ≡ Ok n) where
    told : (read_owl text (length o)).answer ≡ result (wrote n)
    told = sym c.answer ∙ ap filling_answer e

    -- n words are written at the front of the output, and what follows is as it was
    pub owl_output : WritesFirst n o o'
    owl_output = let h = (owl_fits text (length o)).some n told in writes_first _ h.0 h.1 c.output

    first_words : take n o' ≡ (read_owl text (length o)).words
    unfolding output_after
    first_words = let h = (owl_fits text (length o)).some n told in ap (take n) c.output ∙ take_at _ _ n (sym h.0)

    -- they are a vocabulary that Read vocabulary accepts, so never one that names a role or a feature both ways
    pub owl_written_accepted : read_vocabulary (take n o') ≡ result accepted
    owl_written_accepted = ap read_vocabulary first_words ∙ owl_accepted text (length o) n told

    -- and state exactly what the text does: its names counted by their sorts, its axioms in text order, then who has many values
    pub owl_written_states : vocabulary_of (take n o') ≡ vocabulary_in (statements_of text)
    owl_written_states = ap vocabulary_of first_words ∙ owl_states text (length o) n told

    -- a role is functional in them exactly when an axiom of the text says so, and a feature too
    pub owl_written_functional_role : (x : ℕ) → is_functional_role (vocabulary_of (take n o')) x ≡ is_named 3 (axioms_in (statements_of text)) x
    owl_written_functional_role x = ap (λ (v : List ℕ). is_functional_role (vocabulary_of v) x) first_words ∙ owl_functional_role text (length o) n told x

    pub owl_written_functional_feature : (x : ℕ) → is_functional_feature (vocabulary_of (take n o')) x ≡ is_named 4 (axioms_in (statements_of text)) x
    owl_written_functional_feature x = ap (λ (v : List ℕ). is_functional_feature (vocabulary_of v) x) first_words ∙ owl_functional_feature text (length o) n told x
