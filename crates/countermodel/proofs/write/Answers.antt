use borrow.Author.Rules.{rules}
use mathlib.Core.List.{List}
use mathlib.Core.Path.{◌∙◌, ap}
use Prim.Native.Nat.{ℕ}
use native.Mathlib.Omega.{arith}
use lib.ListN.{drop, length-append, length-drop, length-take}
use Rattle.countermodel.proofs.Model.{table_words}
use Rattle.countermodel.proofs.Output.{model_written}
use Rattle.countermodel.proofs.Sizes.{records_most}
use Rattle.meaning.specs.Operations.{output_after}
use Rattle.countermodel.proofs.write.Goals as goal

pub link-requires : goal.link-requires
link-requires c =
    (search rules, omega (arith, c.requires.1, records_most c.args.work.now c.args.t c.requires.0))

pub write_rows-requires : goal.write_rows-requires
write_rows-requires c =
    let most = records_most c.args.work.now c.args.t c.requires.0 in
    let o = c.args.out.now in
    let l = length-append c.copy_from_slice.new.self (drop 5 o) in
    let d = length-drop 5 o in
    let t = length-take 5 o in (
      c.requires.0,
      record {
        room = record { long = omega (arith, c.requires.2, c.copy_from_slice.ensures.len); few = omega (arith, c.requires.1) };
        within = omega (arith, c.requires.1);
      },
    )

pub returns-clause-model_written : goal.returns-clause-model_written
returns-clause-model_written c =
    let rows = rw c.copy_from_slice.ensures.after at c.write_rows.ensures in
    let o = c.args.out.now in
    λ K u m. model_written _ _ _ _ o _ c.requires.1 c.requires.2 rows c.link.ensures ∙ ap (λ (ws : List ℕ). output_after ws o) (table_words c.requires.0 m)
