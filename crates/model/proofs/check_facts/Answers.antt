use Rattle.model.proofs.Laws.{facts_end, facts_fall, facts_on, facts_start, facts_stop}
use Rattle.model.proofs.check_facts.Goals as goal

pub loop-k-init : goal.loop-k-init
loop-k-init c = search facts_start

pub returns-then-not-is_sound : goal.returns-then-not-is_sound
returns-then-not-is_sound c = search facts_stop

pub loop-k-smaller : goal.loop-k-smaller
loop-k-smaller c = search facts_fall

pub loop-k-preserved : goal.loop-k-preserved
loop-k-preserved c = search facts_on

pub returns : goal.returns
returns c = search facts_end
