use native.Mathlib.Omega.{arith}
use Rattle.short_way.proofs.Passing.{pass_clean, pass_impossible, pass_taken, shape_formed}
use Rattle.tabulation.proofs.Laws.{pairs_still}
use Rattle.short_way.proofs.does_pass.Goals as goal

pub returns-then-t : goal.returns-then-t
returns-then-t c =
    let d = c.shape-t.ensures in
    record { passes_by = λ v g o. pass_impossible d _ g o c.if-t.true; only = d.only }

pub is_taken_whole-requires : goal.is_taken_whole-requires
is_taken_whole-requires c =
    let a = c.requires.1 in
    shape_formed c.shape-t.ensures a.prepared a.named a.second

pub returns-then-is_taken_whole : goal.returns-then-is_taken_whole
returns-then-is_taken_whole c =
    let d = c.shape-t.ensures in
    record { passes_by = λ v g o. pass_taken d _ g o c.is_taken_whole.ensures c.if-is_taken_whole.true; only = d.only }

pub is_clean-requires : goal.is_clean-requires
is_clean-requires c =
    let d = c.shape-t.ensures in
    (omega (arith, pairs_still d.only, c.requires.1.prepared.paired.few), d.standing)

pub returns : goal.returns
returns c =
    let d = c.shape-t.ensures in
    record { passes_by = λ v g o. pass_clean d _ g o c.is_taken_whole.ensures c.if-is_taken_whole.false c.if-t.false c.is_clean.ensures; only = d.only }
