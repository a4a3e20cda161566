use borrow.Author.Rules.{rules}
use Prim.Native.Nat.{◌<◌}
use mathlib.Core.Path.{◌≡◌}
use lib.ListN.{get_or, length}
use native.Mathlib.Omega.{arith}
use Rattle.std.proofs.lemmas.Grind.{common_steps}
use Rattle.writing.proofs.Linking.{below_else, below_none, below_some}
use Rattle.writing.proofs.link_below.Goals as goal

pub returns-in_default : goal.returns-in_default
returns-in_default c =
    let a = c.args in
    let n : length a.rest.now ≡ 0 = grind (arith, common_steps) in
    below_none a.work.now a.depths.now a.d a.k a.rest.now n

pub returns-then-d-depth_of : goal.returns-then-d-depth_of
returns-then-d-depth_of c =
    let a = c.args in
    let n : 0 < length a.rest.now = grind (arith, common_steps) in
    let e : c.in-Some.field-0.now ≡ get_or a.rest.now 0 0 = search rules in
    below_some a.work.now a.depths.now a.d a.k a.rest.now n e c.depth_of.ensures c.if-d-depth_of.true

pub returns-else-d-depth_of : goal.returns-else-d-depth_of
returns-else-d-depth_of c =
    let a = c.args in
    let n : 0 < length a.rest.now = grind (arith, common_steps) in
    let e : c.in-Some.field-0.now ≡ get_or a.rest.now 0 0 = search rules in
    below_else a.work.now a.depths.now a.d a.k a.rest.now n e c.depth_of.ensures c.if-d-depth_of.false
