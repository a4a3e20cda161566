use Rattle.model.proofs.Laws.{chained, first, least, wrong_header, wrong_size}
use Rattle.model.proofs.check_model.Goals as goal

pub returns-then-not-is_sized : goal.returns-then-not-is_sized
returns-then-not-is_sized c = search wrong_size

pub is_headed-requires : goal.is_headed-requires
is_headed-requires c = search least

pub returns-then-not-is_headed : goal.returns-then-not-is_headed
returns-then-not-is_headed c = search wrong_header

pub check_facts-requires : goal.check_facts-requires
check_facts-requires c = (search least, first c.args.m.now c.is_headed.ensures c.if-not-is_headed.false-raw)

pub returns : goal.returns
returns c = search chained
