use lib.ListN.{length, length-take}
use native.Mathlib.Omega.{arith}
use Rattle.flattening.proofs.Laws.{flat_refusal}
use Rattle.theory.proofs.Wellformed.{accepted_size}
use Rattle.flattening.proofs.prepare_flat.Goals as goal

pub flatten-requires : goal.flatten-requires
flatten-requires c = let l = accepted_size _ c.requires.0 in omega arith

pub slice_bounds-flat-end : goal.slice_bounds-flat-end
slice_bounds-flat-end c = let l = accepted_size _ c.requires.0 in let s = c.flatten.ensures.size in omega arith

pub prepare-requires : goal.prepare-requires
prepare-requires c = (rw (c.flatten.ensures.words) (flat_refusal _ c.requires.0), c.requires.1)

pub returns : goal.returns
returns c = record { prepared = rw (c.flatten.ensures.words) at c.prepare.ensures.prepared; only = c.prepare.ensures.only }

pub slice_bounds-prepare-end : goal.slice_bounds-prepare-end
slice_bounds-prepare-end c =
    let l = accepted_size _ c.requires.0 in
    let s = c.flatten.ensures.size in
    let t = length-take (length c.args.v.now) c.flatten.new.flat in
    omega arith
