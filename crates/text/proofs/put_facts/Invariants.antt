-- `put_facts`: after k turns the lines of records 1 to k are put.
use Prim.Native.Nat.{◌*◌, ◌+◌, ◌-◌, ◌≤◌}
use Rattle.meaning.specs.Lists.{flat_map}
use Rattle.meaning.specs.Program.{fact_line}
use Rattle.frames.specs.Rows.{Put}
use Rattle.text.specs.Text.{most_line, records_to}
use Rattle.text.proofs.put_facts.Given as goal

abbrev pub invariant-loop-k : goal.invariant-loop-k
invariant-loop-k l =
    (l.k ≤ l.n) × (l.next ≤ l.at + most_line * l.k) × Put l.initial.text l.at (flat_map fact_line (records_to l.out l.k)) l.text l.next

abbrev pub decreases-loop-k : goal.decreases-loop-k
decreases-loop-k l = l.n - l.k
