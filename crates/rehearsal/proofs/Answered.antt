-- The examples hold of the definitions: one statement, computed.
use mathlib.Core.Path.{refl}
use Rattle.meaning.specs.Lists.{All, cons, nil}
use Rattle.meaning.specs.PolicyWords.{policy_words}
use Rattle.meaning.specs.Vocabulary.{vocabulary_words}
use Rattle.rehearsal.specs.Examples.{Correct, load_examples}
use Rattle.rehearsal.specs.Load.{advance, load, load_refusal, load_vocabulary, rehearse}

pub load_answered : All Correct load_examples
unfolding rehearse load_refusal load load_vocabulary advance vocabulary_words policy_words
load_answered =
    cons refl (cons refl (cons refl (cons refl (cons refl (cons refl (cons refl (cons refl (cons refl (cons refl (cons refl (cons refl
    (cons refl (cons refl nil)))))))))))))
