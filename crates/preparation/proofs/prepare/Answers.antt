use mathlib.Core.Path.{◌∙◌}
use Rattle.preparation.proofs.Laws.{classes_fit, pairs_fit, prepared_once, prepared_only, roles_fit}
use Rattle.preparation.proofs.prepare.Goals as goal

pub close-requires : goal.close-requires
close-requires c = (c.requires.0, classes_fit c.args.v.now c.args.work.now c.requires.0 c.requires.1)

pub close_ranges-requires : goal.close_ranges-requires
close_ranges-requires c =
    let d = c.close.ensures in
    record { v_value = c.requires.0; closed_rows = (d.closed, roles_fit c.args.v.now c.args.work.now c.requires.0 c.requires.1 _ d) }

pub list_pairs-requires : goal.list_pairs-requires
list_pairs-requires c =
    (c.requires.0, pairs_fit c.args.v.now c.args.work.now c.requires.0 c.requires.1 _ c.close.ensures _ c.close_ranges.ensures)

pub of-requires : goal.of-requires
of-requires c = c.requires.0

pub shape_of-work : goal.shape_of-work
shape_of-work c = c.list_pairs.ensures.only.size ∙ c.close_ranges.ensures.only.size ∙ c.close.ensures.only.size

pub returns : goal.returns
returns c =
    let v = c.args.v.now in
    let w = c.args.work.now in
    let d = c.close.ensures in
    let r = c.close_ranges.ensures in
    let l = c.list_pairs.ensures in
    record { prepared = prepared_once v w c.requires.0 c.requires.1 _ d _ r _ l c.of.ensures; only = prepared_only v w c.requires.0 c.requires.1 _ d _ r _ l }
