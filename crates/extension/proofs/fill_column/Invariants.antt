use Rattle.extension.proofs.Columns.{Filling}
use Rattle.extension.proofs.Marks.{Counting}
use Rattle.extension.proofs.fill_column.Given as goal

abbrev pub invariant-loop-j : goal.invariant-loop-j
invariant-loop-j l = Counting (Filling l.p l.m l.work l.k l.initial.columns l.columns) l.j-end l.j
