use mathlib.Core.Path.{◌∙◌, sym}
use Rattle.rehearsal.proofs.is_load.Goals as goal

pub returns-then-is_name-2 : goal.returns-then-is_name-2
returns-then-is_name-2 c = rw (sym c.is_name.ensures ∙ c.if-is_name.true, sym c.is_name-then-is_name.ensures ∙ c.if-is_name-2.true) c.is_name-then-is_name-2.ensures

pub returns-else-is_name-2 : goal.returns-else-is_name-2
returns-else-is_name-2 c = rw (sym c.is_name.ensures ∙ c.if-is_name.true, sym c.is_name-then-is_name.ensures ∙ c.if-is_name-2.false) c.if-is_name-2.false

pub returns-else-is_name : goal.returns-else-is_name
returns-else-is_name c = rw (sym c.is_name.ensures ∙ c.if-is_name.false) c.if-is_name.false
