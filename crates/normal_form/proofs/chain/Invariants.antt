-- `chain`: a loop along the chain, over its records.
use mathlib.Core.Path.{◌≡◌}
use lib.ListN.{length}
use Rattle.meaning.specs.Records.{falling, last_of}
use Rattle.normal_form.proofs.Conjuncts.{Rest}
use Rattle.policy.proofs.Conjuncts.{Going}
use Rattle.words.specs.Sets.{in_set}
use Rattle.normal_form.proofs.chain.Given as goal

abbrev pub invariant-loop-at : goal.invariant-loop-at
invariant-loop-at l = (length l.work ≡ length l.initial.work) × Going (Rest (in_set l.f.features) l.p l.x l.first l.k l.initial.work l.initial.h l.work l.h) l.p l.at

abbrev pub decreases-loop-at : goal.decreases-loop-at
decreases-loop-at l = falling (last_of 6 l.p) l.at
