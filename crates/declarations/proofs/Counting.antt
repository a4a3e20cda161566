-- The first pass: statements counted as they are read. The counts so far, with those of what is left, are those of all.
use Prim.Native.Nat.{◌+◌, ◌≤◌, ℕ}
use mathlib.Core.List.{List}
use mathlib.Core.Path.{◌≡◌}
use lib.ListN.{length}
use Rattle.std.proofs.Common.{None, Option, Some}
use Rattle.declarations.specs.Names.{declared}
use Rattle.declarations.specs.Passes.{axiom_count, counts_of, parsed_at}
use Rattle.declarations.specs.declared.Counts.{Counts}
use Rattle.statements.specs.Forms.{Parsed, class, feature, parsed, role, wrong}

abbrev added : Counts → Parsed → Option Counts
added c wrong = None
added c (parsed l) =
    Some (record {
      classes = c.classes + length (declared class l);
      roles = c.roles + length (declared role l);
      features = c.features + length (declared feature l);
      axioms = c.axioms + axiom_count l;
    })

abbrev total : Counts → ℕ
total c = c.classes + c.roles + c.features + c.axioms

-- ---- the loop

pub record Surveying (text : List ℕ) (start at : ℕ) (c : Counts) : Type 0 where
  pub ends : at ≤ length text
  pub counts : added c (parsed_at text at) ≡ counts_of (parsed_at text start)
  pub small : total c ≤ at
