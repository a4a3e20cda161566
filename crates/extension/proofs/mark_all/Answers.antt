use Prim.Native.Nat.{◌+◌, ◌-◌, ◌<◌}
use borrow.Author.Rules.{rules}
use mathlib.Core.Path.{◌∙◌, ◌≡◌}
use native.Mathlib.Omega.{arith}
use Rattle.extension.proofs.Marks.{cleared_sets, marked_on, marked_starts}
use Rattle.frames.proofs.Frames.{only_none, only_then}
use Rattle.meaning.specs.Records.{last_of}
use Rattle.satisfaction.proofs.Classes.{interpreted_kept}
use Rattle.extension.specs.Sets.{MarkedTo}
use Rattle.extension.proofs.mark_all.Goals as goal
use Rattle.extension.proofs.mark_all.Goals.{After-mark_class}

pub clear-requires : goal.clear-requires
clear-requires c = let i = c.requires.1.readable.individuals in let l = c.requires.1.long in omega arith

pub mark_values-requires : goal.mark_values-requires
mark_values-requires c =
    let pre = c.requires in
    let s = c.clear.ensures.only.size in
    let l = pre.1.long in
    let f = pre.0.few in
    record { readable = pre.1.readable; long = omega arith; room = omega arith; few = omega arith }

pub loop-k-init : goal.loop-k-init
loop-k-init c =
    let pre = c.requires in
    (search rules, marked_starts pre.0 pre.1.readable (c.place.ensures ∙ c.individual_count.ensures) c.last_record-last.ensures c.clear.ensures c.mark_values.ensures, only_none)

pub mark_class-requires : goal.mark_class-requires
mark_class-requires c =
    let pre = c.requires in
    let x = c.loop-k.invariant in
    let f = pre.0.few in
    let o = only_then (cleared_sets pre.1.readable (c.place.ensures ∙ c.individual_count.ensures) c.clear.ensures) c.mark_values.ensures.only in
    ((omega arith, omega arith), interpreted_kept (omega arith) (only_then o x.2) pre.1)

more : (c : After-mark_class) → MarkedTo c.args.p.now c.args.m.now c.loop-k.k c.mark_class.new.work
more c =
    let i : c.loop-k.k - 1 + 1 ≡ c.loop-k.k = omega arith in
    let l : c.loop-k.k - 1 < last_of 6 c.args.p.now = omega arith in
    rw i at (marked_on {w' = c.mark_class.new.work} c.requires.1.readable l (rw i c.mark_class.ensures) c.loop-k.invariant.1)

pub loop-k-preserved : goal.loop-k-preserved
loop-k-preserved c =
    let i : c.loop-k.k + 1 - 1 ≡ c.loop-k.k = omega arith in
    (search rules, rw i (more (goal.at.loop-k-preserved c).After-mark_class), only_then c.loop-k.invariant.2 c.mark_class.ensures.only)

pub returns : goal.returns
returns c =
    let pre = c.requires in
    let x = c.loop-k in
    let e : x.k - 1 ≡ last_of 6 c.args.p.now = omega arith in
    let o = only_then (cleared_sets pre.1.readable (c.place.ensures ∙ c.individual_count.ensures) c.clear.ensures) c.mark_values.ensures.only in
    record { marked = rw e at x.invariant.1; only = only_then o x.invariant.2 }

pub returns-2 : goal.returns-2
returns-2 c =
    let pre = c.requires in
    let e : c.loop-k.k ≡ last_of 6 c.args.p.now = omega arith in
    let o = only_then (cleared_sets pre.1.readable (c.place.ensures ∙ c.individual_count.ensures) c.clear.ensures) c.mark_values.ensures.only in
    record { marked = rw (← e) (more (goal.at.returns-2 c).After-mark_class); only = only_then o (only_then c.loop-k.invariant.2 c.mark_class.ensures.only) }
