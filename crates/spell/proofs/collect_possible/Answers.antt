use borrow.Author.Rules.{rules}
use mathlib.Core.Path.{◌∙◌, refl}
use lib.ListN.{length-set}
use native.Mathlib.Omega.{arith}
use Rattle.frames.proofs.Frames.{only_none, only_then}
use Rattle.normal_form.proofs.Callers.{term_fits}
use Rattle.preparation.proofs.Laws.{prepared_kept}
use Rattle.spell.proofs.Collecting.{collecting_ends, collecting_falls, collecting_few, collecting_more, collecting_past, collecting_room, collecting_starts, collecting_term}
use Rattle.spell.proofs.collect_possible.Goals as goal

pub loop-k-init : goal.loop-k-init
loop-k-init c = (λ v a. collecting_starts c.args.terms.now a.policy c.first_term-k.ensures, only_none, refl)

pub tabulate-t-requires : goal.tabulate-t-requires
tabulate-t-requires c =
    let i = c.loop-k.invariant in
    let q = c.requires in
    let g = q.2.1.prepared in (
      term_fits (collecting_term (i.0 q.2.0 q.2.1) c.loop-k-test.true) c.loop-k-test.true g.accepted (omega (arith, q.0, i.1.size)),
      (prepared_kept i.1 g).paired.few,
    )

pub loop-k-smaller-then-t : goal.loop-k-smaller-then-t
loop-k-smaller-then-t c = let q = c.requires in collecting_falls (c.loop-k.invariant.0 q.2.0 q.2.1) c.loop-k-test.true c.next_of-next.ensures

pub loop-k-preserved-then-t : goal.loop-k-preserved-then-t
loop-k-preserved-then-t c =
    let i = c.loop-k.invariant in
    let t = c.tabulate-t.ensures in
    let n = c.loop-k-test.true in (
      λ v a. let x = i.0 v a in collecting_past x n c.next_of-next.ensures (t.impossible v (prepared_kept i.1 a.prepared) (collecting_term x n).named) c.if-t.true,
      only_then i.1 t.only,
      i.2,
    )

pub offset_bounds-terms-n : goal.offset_bounds-terms-n
offset_bounds-terms-n c =
    let q = c.requires in
    let r = collecting_room (c.loop-k.invariant.0 q.2.0 q.2.1) c.loop-k-test.true in
    search rules

pub bounds-terms-n : goal.bounds-terms-n
bounds-terms-n c =
    let q = c.requires in
    let r = collecting_room (c.loop-k.invariant.0 q.2.0 q.2.1) c.loop-k-test.true in
    omega (arith, q.1, c.loop-k.invariant.2)

pub overflow_add-n : goal.overflow_add-n
overflow_add-n c = let q = c.requires in let r = collecting_room (c.loop-k.invariant.0 q.2.0 q.2.1) c.loop-k-test.true in search rules

pub loop-k-smaller : goal.loop-k-smaller
loop-k-smaller c = let q = c.requires in collecting_falls (c.loop-k.invariant.0 q.2.0 q.2.1) c.loop-k-test.true c.next_of-next.ensures

pub loop-k-preserved : goal.loop-k-preserved
loop-k-preserved c =
    let i = c.loop-k.invariant in
    let t = c.tabulate-t.ensures in
    let n = c.loop-k-test.true in
    let q = c.requires in (
      λ v a.
          let x = i.0 v a in
          let r = collecting_room x n in
          collecting_more x n c.next_of-next.ensures (t.impossible v (prepared_kept i.1 a.prepared) (collecting_term x n).named) c.if-t.false (omega (arith, q.1, i.2)),
      only_then i.1 t.only,
      length-set c.loop-k.terms _ _ ∙ i.2,
    )

pub shape_of-work : goal.shape_of-work
shape_of-work c = c.loop-k.invariant.1.size

pub shape_of-terms : goal.shape_of-terms
shape_of-terms c = c.loop-k.invariant.2

pub returns : goal.returns
returns c =
    let i = c.loop-k.invariant in
    let q = c.requires in record {
      collected_by = record {
        few = (let r = collecting_few (i.0 q.2.0 q.2.1) c.loop-k-test.false in omega (arith, q.1, i.2));
        collected = λ v a. collecting_ends (i.0 v a) c.loop-k-test.false;
      };
      only = i.1;
      terms_len_unchanged = i.2;
    }
