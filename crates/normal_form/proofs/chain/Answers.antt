use borrow.Author.Rules.{rules}
use Rattle.normal_form.proofs.Conjuncts.{chain_ends, chain_on, chain_single, chain_starts}
use Rattle.policy.proofs.Conjuncts.{going_falls}
use Rattle.normal_form.proofs.chain.Goals as goal

pub loop-at-init : goal.loop-at-init
loop-at-init c = search chain_starts

pub conjunct-h-requires : goal.conjunct-h-requires
conjunct-h-requires c = search chain_single

pub loop-at-smaller : goal.loop-at-smaller
loop-at-smaller c = search going_falls

pub loop-at-preserved : goal.loop-at-preserved
loop-at-preserved c = (search rules, search chain_on)

pub returns : goal.returns
returns c = search chain_ends
