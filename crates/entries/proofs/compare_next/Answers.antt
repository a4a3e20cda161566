use native.Mathlib.Omega.{arith}
use borrow.Author.Rules.{rules}
use mathlib.Core.Path.{◌≡◌}
use Prim.Native.Nat.{◌<◌}
use lib.ListN.{get_or, length}
use Rattle.std.proofs.lemmas.Grind.{common_steps}
use mathlib.Core.List.{[]}
use Rattle.entries.specs.Entries.{listed}
use Rattle.entries.specs.Order.{order_of}
use Rattle.entries.proofs.Runs.{next_fields, next_shorter}
use Rattle.entries.proofs.compare_next.Goals as goal

pub returns-else-is_empty : goal.returns-else-is_empty
returns-else-is_empty c =
    let a = c.args in
    let n : length a.x.now ≡ 0 = grind (arith, common_steps) in
    let m : 0 < length a.y.now = grind (arith, common_steps) in
    next_shorter a.work.now a.depths.now a.x.now a.y.now n m

pub returns : goal.returns
returns c =
    let a = c.args in
    let n : 0 < length a.x.now = grind (arith, common_steps) in
    let m : 0 < length a.y.now = grind (arith, common_steps) in
    let e : c.in-Some.field-0.now ≡ get_or a.x.now 0 0 = search rules in
    let f : c.in-Some-first.field-0.now ≡ get_or a.y.now 0 0 = search rules in
    let r : c.cmp.result ≡ order_of (listed c.fields_of.result []) (listed c.fields_of-2.result []) = search rules in
    next_fields a.work.now a.depths.now a.x.now a.y.now n m (rw e at c.fields_of.ensures) (rw f at c.fields_of-2.ensures) r
