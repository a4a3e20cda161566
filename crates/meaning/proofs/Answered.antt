-- The examples hold of the definitions: one statement, computed.
use mathlib.Core.List.{◌++◌}
use mathlib.Core.Path.{refl}
use Rattle.meaning.specs.Containment.{crowded, decide, first_failure, passes, resolve, short_way, too_many}
use Rattle.meaning.specs.Countermodel.{canonical_model, countermodel}
use Rattle.meaning.specs.Examples.{Correct, further, starred}
use Rattle.meaning.specs.Intervals.{value_of}
use Rattle.meaning.specs.Lists.{All, cons, nil}
use Rattle.meaning.specs.Model.{facts_of, model_refusal, model_words}
use Rattle.meaning.specs.ModelCheck.{refutes}
use Rattle.meaning.specs.NormalForm.{normal_form, possible}
use Rattle.meaning.specs.Operations.{compliance, compliance_of, equality, equality_of, input_refusal, model_check, possibility}
use Rattle.meaning.specs.Operations.{read_policy, read_second_policy, read_vocabulary}
use Rattle.meaning.specs.Policy.{policy_of, policy_refusal, walk}
use Rattle.meaning.specs.Program.{decimal, printed, program}
use Rattle.meaning.specs.Splitting.{combination_count, combinations}
use Rattle.meaning.specs.Stated.{disjoint_pairs, is_below, is_functional_feature, is_functional_role, range_pairs, ranges, subclasses}
use Rattle.meaning.specs.Vocabulary.{axioms_of, defaults, is_named, is_opposed, names_by, stated, unnamed, vocabulary_of}
use Rattle.meaning.specs.Vocabulary.{vocabulary_refusal}

pub answered : All Correct (starred ++ further)
unfolding names_by is_named unnamed defaults stated is_opposed vocabulary_refusal axioms_of vocabulary_of subclasses disjoint_pairs range_pairs is_below is_functional_role is_functional_feature ranges policy_refusal walk policy_of normal_form possible value_of combinations combination_count passes first_failure decide too_many short_way resolve crowded canonical_model model_words countermodel model_refusal facts_of refutes input_refusal read_vocabulary read_policy read_second_policy possibility compliance_of compliance equality_of equality model_check decimal printed program
answered =
    cons refl (cons refl (cons refl (cons refl (cons refl (cons refl (cons refl (cons refl (cons refl (cons refl (cons refl (cons refl
    (cons refl (cons refl (cons refl (cons refl (cons refl (cons refl (cons refl (cons refl (cons refl (cons refl (cons refl (cons refl
    (cons refl (cons refl (cons refl (cons refl (cons refl (cons refl (cons refl (cons refl (cons refl (cons refl (cons refl (cons refl
    (cons refl (cons refl (cons refl (cons refl (cons refl (cons refl (cons refl (cons refl (cons refl (cons refl (cons refl (cons refl
    (cons refl (cons refl (cons refl (cons refl (cons refl (cons refl (cons refl (cons refl (cons refl (cons refl (cons refl (cons refl
    (cons refl (cons refl (cons refl (cons refl (cons refl (cons refl (cons refl (cons refl (cons refl (cons refl (cons refl (cons refl
    (cons refl (cons refl (cons refl (cons refl (cons refl (cons refl (cons refl (cons refl (cons refl (cons refl nil)))))))))))))))))))))))))))))))))))))))))))))))))))))))))))))))))))))))))))))))))
