use Rattle.closure.proofs.Raising.{indexing_ends, indexing_falls, indexing_met, indexing_on, indexing_starts}
use Rattle.closure.proofs.index.Goals as goal

pub loop-k-init : goal.loop-k-init
loop-k-init c = let p = c.requires in indexing_starts _ p.0 p.1 p.2 c.first_axiom-k.ensures

pub enter-requires : goal.enter-requires
enter-requires c = indexing_met _ c.requires.0 c.loop-k.invariant c.loop-k-test.true

pub loop-k-smaller : goal.loop-k-smaller
loop-k-smaller c = indexing_falls _ c.requires.0 c.loop-k.invariant c.loop-k-test.true c.axiom_next-k.ensures

pub loop-k-preserved : goal.loop-k-preserved
loop-k-preserved c = indexing_on _ c.requires.0 c.loop-k.invariant c.loop-k-test.true c.axiom_next-k.ensures c.enter.ensures

pub returns : goal.returns
returns c = indexing_ends _ c.requires.0 c.loop-k.invariant c.loop-k-test.false
