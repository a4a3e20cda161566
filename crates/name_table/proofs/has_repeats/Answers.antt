use mathlib.Core.Path.{◌∙◌, sym}
use native.Mathlib.Omega.{arith}
use Rattle.name_table.proofs.Laws.{listed_rest, repeating_ends, repeating_finds, repeating_on, repeating_starts}
use Rattle.name_table.proofs.has_repeats.Goals as goal

pub loop-k-init : goal.loop-k-init
loop-k-init c = repeating_starts

pub number-requires : goal.number-requires
number-requires c = (listed_rest c.requires.0 c.loop-k-test.true, omega arith)

pub returns-then-is_some : goal.returns-then-is_some
returns-then-is_some c =
    repeating_finds c.loop-k.invariant c.loop-k-test.true c.entry_name-name.ensures c.number.ensures (sym c.is_some.ensures ∙ c.if-is_some.true)

pub loop-k-preserved : goal.loop-k-preserved
loop-k-preserved c =
    repeating_on c.loop-k.invariant c.loop-k-test.true c.entry_name-name.ensures c.number.ensures (sym c.is_some.ensures ∙ c.if-is_some.false)

pub returns : goal.returns
returns c = search repeating_ends
