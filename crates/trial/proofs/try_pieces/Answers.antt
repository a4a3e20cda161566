-- `try_pieces`.
use mathlib.Core.Path.{refl}
use native.Mathlib.Omega.{arith}
use Rattle.trial.proofs.Starting.{searchable_positive, tried_kept, triable_split, turnable_kept, turnable_searchable}
use Rattle.trial.proofs.try_pieces.Goals as goal

pub count_pieces-requires : goal.count_pieces-requires
count_pieces-requires c =
    let r = c.requires in
    let k = turnable_kept r.turnable c.start.ensures.only in
    record { split = triable_split k.triable; dialled = k.dialled; size = r.counts_len.0 }

pub are_few-requires : goal.are_few-requires
are_few-requires c = searchable_positive {earlier = c.args.dials.now} (turnable_searchable c.requires.turnable c.start.ensures c.count_pieces.ensures refl)

pub search_few-requires : goal.search_few-requires
search_few-requires c = let r = c.requires in turnable_searchable r.turnable c.start.ensures c.count_pieces.ensures r.counts_len.1

pub returns-then-are_few : goal.returns-then-are_few
returns-then-are_few c = tried_kept c.requires.turnable c.start.ensures.only c.search_few.ensures

pub search_with-requires : goal.search_with-requires
search_with-requires c = let r = c.requires in record { searchable = turnable_searchable r.turnable c.start.ensures c.count_pieces.ensures r.counts_len.1; sizes = (omega arith, omega arith) }

pub returns-then-q-le-SHORT : goal.returns-then-q-le-SHORT
returns-then-q-le-SHORT c = tried_kept c.requires.turnable c.start.ensures.only c.search_with.ensures

pub search_with-requires-2 : goal.search_with-requires-2
search_with-requires-2 c = let r = c.requires in record { searchable = turnable_searchable r.turnable c.start.ensures c.count_pieces.ensures r.counts_len.1; sizes = (omega arith, omega arith) }

pub returns : goal.returns
returns c = tried_kept c.requires.turnable c.start.ensures.only c.search_with-2.ensures
