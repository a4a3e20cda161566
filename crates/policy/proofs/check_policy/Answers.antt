-- `policy_refusal`: the length, the header, then the walk with no record marked.
use borrow.Author.Rules.{rules}
use Rattle.policy.proofs.Laws.{few, first, least, walked, wrong_header, wrong_size}
use Rattle.policy.proofs.check_policy.Goals as goal

pub returns-then-not-is_sized : goal.returns-then-not-is_sized
returns-then-not-is_sized c = search wrong_size

pub is_headed-requires : goal.is_headed-requires
is_headed-requires c = search least

pub returns-then-not-is_headed : goal.returns-then-not-is_headed
returns-then-not-is_headed c = search wrong_header

pub walk_from-requires : goal.walk_from-requires
walk_from-requires c = (search least, search few, first c.args.p.now c.is_headed.ensures c.if-not-is_headed.false-raw c.first_term.ensures, search rules)

pub returns : goal.returns
returns c = search walked
