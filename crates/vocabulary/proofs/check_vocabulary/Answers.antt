use Rattle.vocabulary.proofs.Laws.{chained, least, right_header, wrong_header, wrong_size}
use Rattle.vocabulary.proofs.check_vocabulary.Goals as goal

pub returns-then-not-is_sized : goal.returns-then-not-is_sized
returns-then-not-is_sized c = search wrong_size

pub is_headed-requires : goal.is_headed-requires
is_headed-requires c = search least

pub returns-then-not-is_headed : goal.returns-then-not-is_headed
returns-then-not-is_headed c = search wrong_header

pub check_chain-requires : goal.check_chain-requires
check_chain-requires c = (search least, right_header c.args.v.now c.is_headed.ensures c.if-not-is_headed.false-raw)

pub returns : goal.returns
returns c = search chained
