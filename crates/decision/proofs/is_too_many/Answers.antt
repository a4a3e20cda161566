use native.Mathlib.Omega.{arith}
use borrow.Author.Tests.{not-true}
use Rattle.decision.proofs.Terms.{intervals_within, shape_few, shape_impossible, shape_many, shape_splittable}
use Rattle.frames.proofs.Frames.{only_none}
use Rattle.meaning.specs.Vocabulary.{vocabulary_of}
use Rattle.tabulation.proofs.Laws.{pairs_still}
use Rattle.decision.proofs.is_too_many.Goals as goal

pub count_intervals-requires : goal.count_intervals-requires
count_intervals-requires c =
    let r = c.requires in
    record { reads = r.0.reads; shallow = r.2; few = omega (arith, r.0.few) }

pub returns-then-not-may_exceed : goal.returns-then-not-may_exceed
returns-then-not-may_exceed c = record { exceeds = λ v g o. intervals_within (vocabulary_of v) _ c.count_intervals.ensures (c.may_exceed.ensures (not-true _ c.if-not-may_exceed.true-raw)); only = only_none }

pub shape-t-requires : goal.shape-t-requires
shape-t-requires c = c.requires.0

pub shape_of-work-then-t : goal.shape_of-work-then-t
shape_of-work-then-t c = c.shape-t.ensures.only.size

pub returns-then-t : goal.returns-then-t
returns-then-t c =
    let d = c.shape-t.ensures in
    record { exceeds = λ v g o Q n. shape_impossible d g o Q c.if-t.true; only = d.only }

pub combinations-requires : goal.combinations-requires
combinations-requires c = shape_splittable c.shape-t.ensures c.if-t.false

pub shape_of-work-then-combinations-le-MOST_COMBINATIONS : goal.shape_of-work-then-combinations-le-MOST_COMBINATIONS
shape_of-work-then-combinations-le-MOST_COMBINATIONS c = c.shape-t.ensures.only.size

pub returns-then-combinations-le-MOST_COMBINATIONS : goal.returns-then-combinations-le-MOST_COMBINATIONS
returns-then-combinations-le-MOST_COMBINATIONS c =
    let d = c.shape-t.ensures in
    record { exceeds = λ v g o Q n. shape_few d g o Q (c.combinations.ensures Q n) c.if-combinations-le-MOST_COMBINATIONS.true; only = d.only }

pub is_clean-requires : goal.is_clean-requires
is_clean-requires c =
    let d = c.shape-t.ensures in
    (omega (arith, pairs_still d.only, c.requires.1), d.standing)

pub shape_of-work : goal.shape_of-work
shape_of-work c = c.shape-t.ensures.only.size

pub returns : goal.returns
returns c =
    let d = c.shape-t.ensures in
    record { exceeds = λ v g o Q n. shape_many d g o Q (c.combinations.ensures Q n) c.if-t.false c.if-combinations-le-MOST_COMBINATIONS.false c.is_clean.ensures; only = d.only }
