use mathlib.Core.Path.{sym}
use lib.ListN.{get_or-eq_default}
use Rattle.records.proofs.word.Goals as goal

pub returns-else-i-l : goal.returns-else-i-l
returns-else-i-l c = sym (get_or-eq_default c.args.l.now 0 c.if-i-l.false)
