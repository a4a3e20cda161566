use Rattle.meaning.specs.Records.{falling, last_of}
use Rattle.vocabulary.proofs.Laws.{ReadingAxioms}
use Rattle.vocabulary.proofs.Names.{Noting}
use Rattle.vocabulary.proofs.check_axioms.Given as goal

abbrev pub invariant-loop-k : goal.invariant-loop-k
invariant-loop-k l = record {
  reading : ReadingAxioms l.v l.k;
  functional_roles : Noting l.v 3 l.initial.sides.functional_roles l.k l.sides.functional_roles;
  functional_features : Noting l.v 4 l.initial.sides.functional_features l.k l.sides.functional_features;
  many_roles : Noting l.v 6 l.initial.sides.many_roles l.k l.sides.many_roles;
  many_features : Noting l.v 7 l.initial.sides.many_features l.k l.sides.many_features;
}

abbrev pub decreases-loop-k : goal.decreases-loop-k
decreases-loop-k l = falling (last_of 4 l.v) l.k
