use Rattle.words.proofs.Others.{meeting_ends, meeting_falls, meeting_found, meeting_on, meeting_starts}
use Rattle.words.proofs.do_meet.Goals as goal

pub loop-x-init : goal.loop-x-init
loop-x-init c = search meeting_starts

pub returns-then-has : goal.returns-then-has
returns-then-has c = search meeting_found

pub loop-x-smaller : goal.loop-x-smaller
loop-x-smaller c = search meeting_falls

pub loop-x-preserved : goal.loop-x-preserved
loop-x-preserved c = search meeting_on

pub returns : goal.returns
returns c = search meeting_ends
