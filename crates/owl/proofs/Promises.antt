-- What Read OWL promises, a sentence a theorem. Each is about a text and an output of o words, whatever they are.
use Prim.Native.Nat.{◌<◌, ◌≤◌, suc, ℕ}
use mathlib.Core.Bool.{Bool, and-eq-true_iff, cond, false, not, true}
use mathlib.Core.List.{List, []}
use mathlib.Core.Path.{◌∙◌, ◌≡◌, ap, refl, sym}
use lib.Dec.{leb}
use lib.ListN.{get_or, length}
use native.Mathlib.Omega.{arith}
use borrow.Author.Tests.{le-leb, not-true}
use Rattle.declarations.specs.Names.{counted, declared, declared_well, number_in, sound_names}
use Rattle.declarations.specs.Passes.{list_of}
use Rattle.meaning.specs.Accepted.{NamedAxiom}
use Rattle.meaning.specs.Answers.{accepted, result, wrote}
use Rattle.meaning.specs.Limits.{most_axioms, most_text}
use Rattle.meaning.specs.Lists.{All}
use Rattle.meaning.specs.Operations.{read_vocabulary}
use Rattle.meaning.specs.Stated.{is_functional_feature, is_functional_role}
use Rattle.meaning.specs.Vocabulary.{Vocabulary, is_named, vocabulary_of, vocabulary_words}
use Rattle.name_table.proofs.Numbers.{number_at, number_injective}
use Rattle.name_table.specs.Numbers.{repeats}
use Rattle.owl.proofs.Accepted.{axioms_named, no_many_feature, no_many_role}
use Rattle.owl.proofs.Adding.{added_apart, added_feature, added_named, added_role}
use Rattle.owl.specs.Owl.{axioms_in, many_in, owl_refusal, owl_words, parsed_refusal, parsed_words, read_owl, vocabulary_in}
use Rattle.owl.specs.Passes.{statements_of}
use Rattle.statements.specs.Forms.{Parsed, Sort, Statement, class, feature, ontology, parsed, role, wrong}
use Rattle.theory.proofs.Links.{bounds, passed}
use Rattle.theory.proofs.Refusals.{filling_told, or_else_zero}
use Rattle.theory.proofs.VocabularyWords.{vocabulary_words_accepted, vocabulary_words_read}
use Rattle.tokens.specs.Tokens.{Token, tokens}

-- ---- where words are written, nothing was refused

abbrev pub Wrote : List ℕ → ℕ → ℕ → Type 0
Wrote text o n = (read_owl text o).answer ≡ result (wrote n)

-- the statements of such a text, and what they were asked
record Told (text : List ℕ) (o : ℕ) : Type 0 where
  parses : ontology (tokens text) ≡ parsed (statements_of text)
  well : declared_well (statements_of text) ≡ true
  few : length (vocabulary_in (statements_of text)).axioms ≤ most_axioms
  words : (read_owl text o).words ≡ vocabulary_words (vocabulary_in (statements_of text))

-- what is not refused keeps to the forms
keeps : (b : Bool) (p : Parsed) → parsed_refusal (cond b p wrong) ≡ 0 → (cond b p wrong ≡ parsed (list_of p)) × (p ≡ parsed (list_of p))
keeps true wrong h = absurd (omega arith)
keeps true (parsed l) h = (refl, refl)
keeps false p h = absurd (omega arith)

told : (text : List ℕ) (o n : ℕ) → Wrote text o n → Told text o
unfolding read_owl owl_refusal owl_words statements_of
told text o n e =
    let a = filling_told (owl_refusal text) (owl_words text) o n e in
    let k = keeps (leb (length text) most_text) (ontology (tokens text)) a.0 in
    let l = statements_of text in
    let none : parsed_refusal (parsed l) ≡ 0 = ap parsed_refusal (sym k.0) ∙ a.0 in
    let r = or_else_zero (cond (declared_well l) 0 42) (cond (leb (length (vocabulary_in l).axioms) most_axioms) 0 1) none in
    record {
      parses = k.1;
      well = ((passed 41 (declared_well l) 0).0 r.0).0;
      few = simp bounds at ((passed 0 (leb (length (vocabulary_in l).axioms) most_axioms) 0).0 r.1).0;
      words = a.1 ∙ ap parsed_words k.0;
    }

well_sound : (l : List Statement) → declared_well l ≡ true → sound_names l ≡ true
unfolding declared_well
well_sound l h = ((and-eq-true_iff (counted (length (declared class l)) (length (declared role l)) (length (declared feature l))) (sound_names l)).0 h).1

-- no name of a sort stands twice
once : (l : List Statement) → declared_well l ≡ true → (s : Sort) → repeats (declared s l) ≡ false
unfolding declared_well
once l h s = go s
  where
    sound : (not (repeats (declared class l)) ≡ true) × (not (repeats (declared role l)) ≡ true) × (not (repeats (declared feature l)) ≡ true)
    sound = let u = simp bounds at h in (u.1.0, u.1.1.0, u.1.1.1.0)

    go : (s : Sort) → repeats (declared s l) ≡ false
    go class = not-true _ sound.0
    go role = not-true _ sound.1
    go feature = not-true _ sound.2

-- ---- the promises

module _ (text : List ℕ) (o n : ℕ) (e : Wrote text o n) where
  -- the words are those of what the statements say: a record for each axiom, then for each role and each feature that has many values, chained
  -- 1, 2, 3 and so on, the header's link 0 if there are none
  pub owl_chained : (read_owl text o).words ≡ vocabulary_words (vocabulary_in (statements_of text))
  owl_chained = (told text o n e).words

  -- read as a vocabulary they say exactly that: so many names of each sort, the axioms in text order, and who has many values
  pub owl_states : vocabulary_of (read_owl text o).words ≡ vocabulary_in (statements_of text)
  owl_states = ap vocabulary_of owl_chained ∙ vocabulary_words_read (vocabulary_in (statements_of text))

  -- the axioms of the text have names of the counts
  named : All (NamedAxiom (length (declared class (statements_of text))) (length (declared role (statements_of text))) (length (declared feature (statements_of text)))) (axioms_in (statements_of text))
  named = let t = told text o n e in axioms_named (statements_of text) (tokens text) t.parses (well_sound (statements_of text) t.well)

  -- and Read vocabulary accepts them: no name stands both ways
  pub owl_accepted : read_vocabulary (read_owl text o).words ≡ result accepted
  unfolding vocabulary_in many_in declared_well
  owl_accepted =
      let t = told text o n e in
      let l = statements_of text in
      let A = axioms_in l in
      let R = length (declared role l) in
      let F = length (declared feature l) in
      let u = simp bounds at t.well in
      ap read_vocabulary owl_chained
      ∙ vocabulary_words_accepted (vocabulary_in l) u.0.0.0 u.0.0.1 u.0.1.0 u.0.1.1 t.few
      (added_named A R F (length (declared class l)) named) (added_apart A R F (no_many_role l) (no_many_feature l))

  -- a role is functional in them exactly when an axiom of the text says so, and a feature too
  pub owl_functional_role : (r : ℕ) → is_functional_role (vocabulary_of (read_owl text o).words) r ≡ is_named 3 (axioms_in (statements_of text)) r
  unfolding vocabulary_in many_in
  owl_functional_role r =
      let l = statements_of text in
      ap (λ (K : Vocabulary). is_functional_role K r) owl_states
      ∙ added_role (axioms_in l) (length (declared role l)) (length (declared feature l)) (no_many_role l) (no_many_feature l) (length (declared class l)) named r

  pub owl_functional_feature : (f : ℕ) → is_functional_feature (vocabulary_of (read_owl text o).words) f ≡ is_named 4 (axioms_in (statements_of text)) f
  unfolding vocabulary_in many_in
  owl_functional_feature f =
      let l = statements_of text in
      ap (λ (K : Vocabulary). is_functional_feature K f) owl_states
      ∙ added_feature (axioms_in l) (length (declared role l)) (length (declared feature l)) (no_many_role l) (no_many_feature l) (length (declared class l)) named f

  -- the k-th declared name of a sort has number k: counted from 0, number k + 1
  pub owl_number : (s : Sort) (k : ℕ) → k < length (declared s (statements_of text)) →
      number_in (statements_of text) (record { sort = s; token = get_or (declared s (statements_of text)) k [] }) ≡ suc k
  owl_number s k h = number_at (declared s (statements_of text)) k (once (statements_of text) (told text o n e).well s) h

-- two names of one sort never share a number
pub owl_distinct : (l : List Statement) (s : Sort) (x y : Token) → (number_in l (record { sort = s; token = x }) ≡ 0 → ⊥) →
    number_in l (record { sort = s; token = x }) ≡ number_in l (record { sort = s; token = y }) → x ≡ y
owl_distinct l s x y h e = number_injective (declared s l) x y h e

-- layout says nothing: two texts within the limit with equal tokens get equal answers and equal words
pub owl_same_tokens : (s t : List ℕ) (o : ℕ) → length s ≤ most_text → length t ≤ most_text → tokens s ≡ tokens t → read_owl s o ≡ read_owl t o
unfolding read_owl owl_refusal owl_words
owl_same_tokens s t o a b e = rw (le-leb (length s) most_text a, le-leb (length t) most_text b, e)
