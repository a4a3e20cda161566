use Rattle.writing.proofs.Linking.{zero_else, zero_not}
use Rattle.writing.proofs.where_any.Goals as goal

pub returns-then-n-eq0 : goal.returns-then-n-eq0
returns-then-n-eq0 c = let a = c.args in zero_else a.n a.x a.none c.if-n-eq0.true

pub returns-else-n-eq0 : goal.returns-else-n-eq0
returns-else-n-eq0 c = let a = c.args in zero_not a.n a.x a.none c.if-n-eq0.false
