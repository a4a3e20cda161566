use borrow.Author.Rules.{rules}
use Rattle.entries.proofs.Runs.{runs_told}
use Rattle.entries.proofs.compare_runs.Goals as goal

pub returns : goal.returns
returns c = let a = c.args in runs_told a.work.now a.depths.now a.x.now a.y.now c.requires c.fields_of.ensures c.fields_of-2.ensures c.compare_siblings-first.ensures (search rules)
