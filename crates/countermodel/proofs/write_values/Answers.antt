use Rattle.records.proofs.Writing.{left_end, left_start, turn_less, turn_more, turn_room}
use Rattle.countermodel.proofs.Pairs.{values_end_lem, values_here, values_more, values_start}
use Rattle.layout.specs.Tables.{constraint_at, piece_at}
use Rattle.meaning.specs.Intervals.{value_of}
use Rattle.theory.proofs.ModelWords.{fact_length}
use Rattle.countermodel.proofs.write_values.Goals as goal

pub loop-m-init : goal.loop-m-init
loop-m-init c =
    let a = c.args in
    (c.next_pair-m.ensures.0, left_start _ _ _ _ _ (values_start a.work.now a.n a.x _ c.next_pair-m.ensures.1))

pub put-requires : goal.put-requires
put-requires c =
    let l = c.loop-m in
    turn_room l.invariant.1 c.requires.1 _ _ (values_here c.args.work.now c.args.n c.args.x c.in-Some.k c.in-Some.is)

pub loop-m-smaller : goal.loop-m-smaller
loop-m-smaller c =
    let l = c.loop-m in
    turn_less l.invariant.1 c.requires.1 _ _
    (values_more c.args.work.now c.args.n c.args.x c.in-Some.k _ c.in-Some.is c.next_pair-m-in-Some.ensures.1)

pub loop-m-preserved : goal.loop-m-preserved
unfolding constraint_at piece_at value_of
loop-m-preserved c =
    let l = c.loop-m in (
      c.next_pair-m-in-Some.ensures.0,
      turn_more l.invariant.1 c.requires.1 _ _
          (values_more c.args.work.now c.args.n c.args.x c.in-Some.k _ c.in-Some.is c.next_pair-m-in-Some.ensures.1)
          fact_length _ (rw (c.feature_of-f.ensures, c.piece_hi-v.ensures) at c.put.ensures),
    )

pub returns : goal.returns
returns c =
    let a = c.args in
    let l = c.loop-m in
    left_end _ l.invariant.1 (values_end_lem a.work.now a.n a.x c.in_default.is)
