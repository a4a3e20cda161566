use borrow.Author.Rules.{rules}
use mathlib.Core.Path.{◌∙◌, sym}
use native.Mathlib.Omega.{arith}
use Rattle.arrangement.proofs.Emptying.{last_constraint, last_individual, owns_some}
use Rattle.arrangement.proofs.last_entry.Goals as goal

pub owns_last-requires : goal.owns_last-requires
owns_last-requires c = c.requires

pub overflow_sub-result : goal.overflow_sub-result
overflow_sub-result c = let p = owns_some c.args.work.now c.args.i c.args.m (sym c.owns_last.ensures ∙ c.if-owns_last.true) in let k = c.requires.constraints in omega arith

pub overflow_cast-result : goal.overflow_cast-result
overflow_cast-result c = let p = owns_some c.args.work.now c.args.i c.args.m (sym c.owns_last.ensures ∙ c.if-owns_last.true) in let k = c.requires.constraints in search rules

pub overflow_add-result : goal.overflow_add-result
overflow_add-result c = let p = owns_some c.args.work.now c.args.i c.args.m (sym c.owns_last.ensures ∙ c.if-owns_last.true) in let k = c.requires.constraints in search rules

pub returns-then-owns_last : goal.returns-then-owns_last
returns-then-owns_last c = let a = c.args in last_constraint a.work.now a.i a.m c.owns_last.ensures c.if-owns_last.true

pub overflow_sub-result-2 : goal.overflow_sub-result-2
overflow_sub-result-2 c = let n = c.requires.some in omega arith

pub returns : goal.returns
returns c = let a = c.args in last_individual a.work.now a.i a.m c.owns_last.ensures c.if-owns_last.false
