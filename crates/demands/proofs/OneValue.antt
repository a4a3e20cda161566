-- One value unless said otherwise, as theorems about the contracts: 44 in every operation that reads a vocabulary and in the program, what the
-- model check asks of a model, and the words that Read OWL writes.
use Rattle.meaning.specs.declared.refusals.Refusal.{Refusal}
use Rattle.std.specs.Prelude.{Ok, Option, Result}
use Prim.Native.Nat.{◌*◌, ℕ}
use mathlib.Core.Bool.{◌&&◌, false, true, Bool}
use mathlib.Core.List.{List, [], ◌++◌, ◌∷◌}
use mathlib.Core.Path.{◌≡◌, refl}
use lib.Dec.{eqb, leb}
use lib.ListN.{length, take}
use native.Mathlib.Omega.{arith}
use Rattle.containment.specs.Verdicts.{CompliancePost, PossiblePost}
use Rattle.demands.proofs.Checks.{yes_where}
use Rattle.demands.proofs.Owl.{owl_written_accepted}
use Rattle.demands.proofs.Refusals.{compliance_refused_iff, equality_refused_iff, model_check_refused_iff, possible_refused_iff}
use Rattle.demands.proofs.Refusals.{read_policy_refused_iff, read_second_policy_refused_iff, read_vocabulary_refused_iff}
use Rattle.demands.proofs.Spell.{spell_refused_iff}
use Rattle.demands.specs.Refusals.{FirstRefusal, NamedBothWays, here, RefusedWith}
use Rattle.equality.specs.Comparisons.{EqualityPost}
use Rattle.meaning.specs.Answers.{reading_answer, refused}
use Rattle.meaning.specs.Limits.{most_bytes, output_size, work_size}
use Rattle.meaning.specs.Interpretation.{Satisfies}
use Rattle.meaning.specs.Model.{facts_of, individual_count, stands}
use Rattle.meaning.specs.Operations.{compliance, compliance_of, input_refusal, read_policy, read_second_policy, read_vocabulary, refuses}
use Rattle.meaning.specs.Program.{bytes, decimal, next_part, part_at, printed, program, words_of}
use Rattle.meaning.specs.Records.{Name}
use Rattle.meaning.specs.Stated.{is_many_feature, is_many_role}
use Rattle.meaning.specs.Vocabulary.{feature_count, role_count, vocabulary_of, vocabulary_refusal}
use Rattle.meaning.specs.declared.Comparison.{Comparison}
use Rattle.meaning.specs.declared.Verdict.{Verdict}
use Rattle.model_check.specs.Judging.{ModelCheckPost}
use Rattle.owl.specs.Owl.{OwlPost}
use Rattle.spelling.specs.Operation.{SpellPost}
use Rattle.theory.proofs.Defaults.{feature_single, role_single}

-- ---- 44, whatever the policies, the model, the work slice and the output are

module _ {v : List ℕ} (h : NamedBothWays v) where
  refusal_44 : vocabulary_refusal v ≡ 44
  unfolding vocabulary_refusal
  refusal_44 = rw (h.sized, h.headed, h.sound, h.opposed)

  first_44 : {l : List ℕ} → FirstRefusal 44 (vocabulary_refusal v ∷ l)
  first_44 = rw refusal_44 (here (λ e. omega arith))

  pub read_vocabulary_44 : {r : Result Unit Refusal} → reading_answer r ≡ read_vocabulary v → RefusedWith r 44
  read_vocabulary_44 a = (read_vocabulary_refused_iff v a).1 first_44

  pub read_policy_44 : (p : List ℕ) {r : Result Unit Refusal} → reading_answer r ≡ read_policy v p → RefusedWith r 44
  read_policy_44 p a = (read_policy_refused_iff v p a).1 first_44

  pub read_second_policy_44 : (q : List ℕ) {r : Result Unit Refusal} → reading_answer r ≡ read_second_policy v q → RefusedWith r 44
  read_second_policy_44 q a = (read_second_policy_refused_iff v q a).1 first_44

  pub possible_44 : {p w w' : List ℕ} {r : Result (Option ℕ) Refusal} → PossiblePost v p w w' r → RefusedWith r 44
  possible_44 c = (possible_refused_iff c).1 first_44

  pub compliance_44 : {p q w w' o o' : List ℕ} {r : Result Verdict Refusal} → CompliancePost v p q w w' o o' r → RefusedWith r 44
  compliance_44 c = (compliance_refused_iff c).1 first_44

  pub equality_44 : {p q w w' o o' : List ℕ} {r : Result Comparison Refusal} → EqualityPost v p q w w' o o' r → RefusedWith r 44
  equality_44 c = (equality_refused_iff c).1 first_44

  pub model_check_44 : {p q m w w' : List ℕ} {r : Result Bool Refusal} → ModelCheckPost v p q m w w' r → RefusedWith r 44
  model_check_44 c = (model_check_refused_iff c).1 first_44

  pub spell_44 : {p w w' o o' : List ℕ} {r : Result ℕ Refusal} → SpellPost v p w w' o o' r → RefusedWith r 44
  spell_44 c = (spell_refused_iff c).1 first_44

  compliance_silent : (p q : List ℕ) → compliance v p q work_size output_size ≡ refuses 44
  unfolding compliance compliance_of input_refusal
  compliance_silent p q = rw refusal_44

-- the program, behind 40
pub program_44 : (b : List ℕ) → NamedBothWays (part_at (words_of b) 0) →
    leb (length b) most_bytes && eqb (length b) (4 * next_part (words_of b) (next_part (words_of b) (next_part (words_of b) 0))) ≡ true →
    program b ≡ bytes "refused 44" ++ (10 ∷ [])
unfolding program printed facts_of decimal
program_44 b h whole = rw (whole, compliance_silent h _ _)

-- ---- a model that passes the check keeps the default

module _ {v p q m w w' : List ℕ} (j : ModelCheckPost v p q m w w' (Ok true)) where
  satisfied : Satisfies (stands (individual_count m) (facts_of m)) (vocabulary_of v)
  satisfied = ((yes_where j (λ x. let z : ◌≡◌ {A = ℕ} 0 1 = cc in omega arith)).0 refl).0

  pub checked_role_single : (r : ℕ) → Name (role_count v) r → is_many_role (vocabulary_of v) r ≡ false → (i j k : ℕ) →
      (stands (individual_count m) (facts_of m)).by_role r i j → (stands (individual_count m) (facts_of m)).by_role r i k → j ≡ k
  checked_role_single = role_single v (stands (individual_count m) (facts_of m)) satisfied

  pub checked_feature_single : (f : ℕ) → Name (feature_count v) f → is_many_feature (vocabulary_of v) f ≡ false → (i x y : ℕ) →
      (stands (individual_count m) (facts_of m)).has_value f i x → (stands (individual_count m) (facts_of m)).has_value f i y → x ≡ y
  checked_feature_single = feature_single v (stands (individual_count m) (facts_of m)) satisfied

-- ---- the words that Read OWL writes

pub owl_written_never_44 : {text o o' : List ℕ} {n : ℕ} → OwlPost text o o' (Ok n) → read_vocabulary (take n o') ≡ refused 44 → ⊥
owl_written_never_44 c e = let a = owl_written_accepted c refl in let z : ◌≡◌ {A = ℕ} 0 1 = cc in omega arith
