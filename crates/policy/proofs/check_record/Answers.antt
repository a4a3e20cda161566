use Rattle.policy.proofs.Walking.{fault_bad, fault_deep, fault_none, fault_twice}
use Rattle.policy.proofs.check_record.Goals as goal

pub returns-then-reached : goal.returns-then-reached
returns-then-reached c = search fault_twice

pub returns-then-not-sound : goal.returns-then-not-sound
returns-then-not-sound c = search fault_bad

pub returns-then-left-eq0 : goal.returns-then-left-eq0
returns-then-left-eq0 c = search fault_deep

pub returns : goal.returns
returns c = search fault_none
