-- `put_load`: the numbers, the words, their bytes.
use mathlib.Core.Path.{sym}
use lib.Seq.{length-take-le}
use Rattle.rehearse.proofs.Loads.{bytes_room, load_bytes_lem, no_bytes, words_within}
use Rattle.rehearse.proofs.put_load.Goals as goal

pub returns-in_default : goal.returns-in_default
returns-in_default c = no_bytes c.args.seed.now c.args.classes.now c.args.terms.now c.number.ensures c.number-2.ensures c.number-3.ensures c.requires.0 c.rehearse.ensures c.in_default.is c.args.bytes.now

pub slice_bounds-encode-end : goal.slice_bounds-encode-end
slice_bounds-encode-end c = words_within c.rehearse.ensures c.in-Ok.is

pub slice_bounds-encode-end-2 : goal.slice_bounds-encode-end-2
slice_bounds-encode-end-2 c = sym (length-take-le _ _ (words_within c.rehearse.ensures c.in-Ok.is))

pub encode-requires : goal.encode-requires
encode-requires c = bytes_room c.rehearse.ensures c.in-Ok.is c.requires.0 c.requires.1

pub returns : goal.returns
returns c = load_bytes_lem c.args.seed.now c.args.classes.now c.args.terms.now c.number.ensures c.number-2.ensures c.number-3.ensures c.requires.0 c.rehearse.ensures c.in-Ok.is c.encode.ensures
