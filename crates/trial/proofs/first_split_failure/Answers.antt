-- `first_split_failure`: the dials, and a word for each beside them.
use mathlib.Core.Path.{sym}
use lib.Seq.{length-take-le}
use native.Mathlib.Omega.{arith}
use Rattle.trial.proofs.Starting.{dials_beside, triable_turnable}
use Rattle.trial.proofs.first_split_failure.Goals as goal

pub slice_bounds-try_pieces-end : goal.slice_bounds-try_pieces-end
slice_bounds-try_pieces-end c = sym (length-take-le _ _ (let f = c.find_dials-n.ensures in omega (arith, f.size, f.within)))

pub slice_bounds-counts-end : goal.slice_bounds-counts-end
slice_bounds-counts-end c = let f = c.find_dials-n.ensures in omega (arith, f.within)

pub slice_bounds-try_pieces-end-2 : goal.slice_bounds-try_pieces-end-2
slice_bounds-try_pieces-end-2 c = sym (length-take-le _ _ (let f = c.find_dials-n.ensures in omega (arith, f.within)))

pub slice_bounds-earlier-end : goal.slice_bounds-earlier-end
slice_bounds-earlier-end c = let f = c.find_dials-n.ensures in omega (arith, f.within)

pub slice_bounds-try_pieces-end-3 : goal.slice_bounds-try_pieces-end-3
slice_bounds-try_pieces-end-3 c = sym (length-take-le _ _ (let f = c.find_dials-n.ensures in omega (arith, f.within)))

pub try_pieces-requires : goal.try_pieces-requires
try_pieces-requires c =
    let f = c.find_dials-n.ensures in
    let r = triable_turnable c.requires f (omega (arith, f.size, f.within)) in
    let b = dials_beside f (omega arith) in
    record { turnable = r; counts_len = (b, b) }

pub shape_of-work : goal.shape_of-work
shape_of-work c = c.try_pieces.ensures.only.size

pub returns : goal.returns
returns c = c.try_pieces.ensures
