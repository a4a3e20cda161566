use borrow.Author.Rules.{rules}
use Rattle.model.proofs.Chain.{readable}
use Rattle.model_check.proofs.Whole.{satisfied_only, parted, parted_only, unsatisfied}
use Rattle.model_check.proofs.does_refute.Goals as goal

pub is_satisfied-requires : goal.is_satisfied-requires
is_satisfied-requires c = (search rules, search readable, search rules)

pub returns-then-not-is_satisfied : goal.returns-then-not-is_satisfied
returns-then-not-is_satisfied c = record { value = search unsatisfied; only = search satisfied_only }

pub does_part-requires : goal.does_part-requires
does_part-requires c =
    let v = c.args.v.now in
    record {
      first = (v, search rules, search rules);
      second = (v, search rules, search rules);
      interpreted = c.is_satisfied.ensures.interpreted;
      room = search rules;
    }

pub returns : goal.returns
returns c = record { value = search parted; only = search parted_only }
