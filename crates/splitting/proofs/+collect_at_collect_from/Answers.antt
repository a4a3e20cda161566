use borrow.Author.Rules.{rules}
use Rattle.policy.proofs.Conjuncts.{going_falls}
use Rattle.splitting.proofs.Collecting.{chain_ends, chain_on, chain_single, chain_starts}
use Rattle.splitting.proofs.+collect_at_collect_from.Goals as goal

pub collect_from-loop-k-init : goal.collect_from-loop-k-init
collect_from-loop-k-init t c = search chain_starts

pub collect_from-collect_at-n-requires : goal.collect_from-collect_at-n-requires
collect_from-collect_at-n-requires t c = (search rules, search chain_single)

pub collect_from-loop-k-smaller : goal.collect_from-loop-k-smaller
collect_from-loop-k-smaller t c = search going_falls

pub collect_from-loop-k-preserved : goal.collect_from-loop-k-preserved
collect_from-loop-k-preserved t c = (search rules, search chain_on)

pub collect_from-returns : goal.collect_from-returns
collect_from-returns t c = search chain_ends
