-- The examples hold of the definition: one statement, computed.
use mathlib.Core.Path.{refl}
use Rattle.declarations.specs.Names.{declared_well}
use Rattle.meaning.specs.Lists.{All, cons, nil}
use Rattle.meaning.specs.Vocabulary.{is_named, names_by, unnamed, vocabulary_words}
use Rattle.name_table.specs.Numbers.{number_of}
use Rattle.owl.specs.Examples.{Correct, owl_examples}
use Rattle.owl.specs.Owl.{axioms_in, many_in, owl_refusal, owl_words, read_owl, vocabulary_in}
use Rattle.statements.specs.Forms.{forms, front_of, ontology, statements}
use Rattle.tokens.specs.Tokens.{goes_on, is_letter, is_sign, is_space, tokens}

pub owl_answered : All Correct owl_examples
unfolding read_owl owl_refusal owl_words tokens is_letter is_sign is_space goes_on forms front_of ontology statements number_of declared_well axioms_in many_in vocabulary_in names_by is_named unnamed vocabulary_words
owl_answered =
    cons refl (cons refl (cons refl (cons refl (cons refl (cons refl (cons refl (cons refl (cons refl (cons refl
    (cons refl (cons refl (cons refl (cons refl (cons refl (cons refl (cons refl (cons refl (cons refl (cons refl
    (cons refl (cons refl (cons refl (cons refl (cons refl (cons refl (cons refl (cons refl (cons refl (cons refl
    (cons refl (cons refl (cons refl (cons refl (cons refl (cons refl (cons refl (cons refl (cons refl (cons refl nil)))))))))))))))))))))))))))))))))))))))
