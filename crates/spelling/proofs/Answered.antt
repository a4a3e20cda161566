-- The examples hold of the definitions: one statement, computed.
use mathlib.Core.Path.{refl}
use Rattle.meaning.specs.Lists.{All, cons, nil}
use Rattle.meaning.specs.NormalForm.{normal_form, possible}
use Rattle.meaning.specs.Policy.{policy_of, policy_refusal, walk}
use Rattle.meaning.specs.PolicyWords.{policy_words}
use Rattle.meaning.specs.Stated.{disjoint_pairs, is_below, is_functional_feature, is_functional_role, range_pairs, ranges, subclasses}
use Rattle.meaning.specs.Vocabulary.{axioms_of, defaults, is_named, is_opposed, names_by, stated, unnamed, vocabulary_of, vocabulary_refusal}
use Rattle.meaning.specs.Vocabulary.{vocabulary_words}
use Rattle.spelling.specs.Examples.{Correct, spelling_examples}
use Rattle.spelling.specs.Operation.{spell, spell_of}
use Rattle.spelling.specs.Spelling.{spelled, spelled_term, spelling, too_long}

pub spelling_answered : All Correct spelling_examples
unfolding spell spell_of policy_words spelled spelled_term spelling too_long possible normal_form names_by is_named unnamed defaults stated is_opposed disjoint_pairs is_below is_functional_feature is_functional_role range_pairs ranges subclasses vocabulary_refusal axioms_of vocabulary_of vocabulary_words policy_refusal walk policy_of
spelling_answered =
    cons refl (cons refl (cons refl (cons refl (cons refl (cons refl (cons refl (cons refl (cons refl (cons refl (cons refl (cons refl
    (cons refl (cons refl (cons refl (cons refl (cons refl (cons refl (cons refl (cons refl (cons refl (cons refl (cons refl (cons refl
    (cons refl (cons refl nil)))))))))))))))))))))))))
