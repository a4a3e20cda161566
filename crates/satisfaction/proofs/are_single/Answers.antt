use native.Mathlib.Omega.{arith}
use Rattle.satisfaction.proofs.Holding.{numbering_ends, numbering_fails, numbering_on, numbering_past}
use Rattle.satisfaction.proofs.Holding.{numbering_starts}
use Rattle.satisfaction.proofs.are_single.Goals as goal

pub loop-i-init : goal.loop-i-init
loop-i-init c = search numbering_starts

pub loop-i-preserved-then-not-has_number : goal.loop-i-preserved-then-not-has_number
loop-i-preserved-then-not-has_number c = let names = c.has_number.ensures _ c.of-f.ensures in numbering_past c.clear.ensures c.loop-i.invariant (omega arith) names c.if-not-has_number.true-raw

pub returns-then-not-is_functional : goal.returns-then-not-is_functional
returns-then-not-is_functional c = let names = c.has_number.ensures _ c.of-f.ensures in numbering_fails c.clear.ensures c.loop-i.invariant (omega arith) names c.compare_block-end.ensures c.is_functional.ensures c.if-not-has_number.false-raw c.if-not-is_functional.true-raw

pub loop-i-preserved : goal.loop-i-preserved
loop-i-preserved c = let names = c.has_number.ensures _ c.of-f.ensures in numbering_on c.clear.ensures c.loop-i.invariant (omega arith) names c.compare_block-end.ensures c.is_functional.ensures c.if-not-is_functional.false-raw

pub returns : goal.returns
returns c = search numbering_ends
