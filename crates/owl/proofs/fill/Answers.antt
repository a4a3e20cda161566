use Prim.Native.Nat.{ℕ}
use lib.ListN.{length-replicate}
use Rattle.declarations.specs.Passes.{table_size}
use Rattle.owl.proofs.Whole.{ready, table_fits}
use Rattle.owl.proofs.fill.Goals as goal

pub list_names-requires : goal.list_names-requires
list_names-requires c =
    let p = c.requires in
    table_fits p.begins.0 p.begins.2 p.small (length-replicate {A = ℕ} table_size 0) p.begins.1

pub invariant_of-source : goal.invariant_of-source
invariant_of-source c =
    let p = c.requires in
    record { ready = ready p.begins.0 p.begins.2 p.small c.list_names.ensures; begins = p.begins.0; short = p.begins.1 }
