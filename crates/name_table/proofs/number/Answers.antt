use Rattle.name_table.proofs.Laws.{looking_ends, looking_finds, looking_on, looking_starts}
use Rattle.name_table.proofs.number.Goals as goal

pub loop-k-init : goal.loop-k-init
loop-k-init c = looking_starts

pub returns-then-is_entry : goal.returns-then-is_entry
returns-then-is_entry c = search looking_finds

pub loop-k-preserved : goal.loop-k-preserved
loop-k-preserved c = search looking_on

pub returns : goal.returns
returns c = search looking_ends
