use lib.ListN.{length-set}
use Rattle.normal_form.proofs.Joining.{gather_ends, gather_pass, gather_skip, gather_starts, gather_take, take_good, take_room}
use Rattle.normal_form.proofs.gather.Goals as goal
use Rattle.normal_form.proofs.gather.Goals.{then-k-eq0-via-else-k-eq0+then-not-does_join, then-k-eq0-via-then-k-eq0}

pub loop-at-init : goal.loop-at-init
loop-at-init c = search gather_starts

pub loop-at-preserved-then-k-eq0 : goal.loop-at-preserved-then-k-eq0
loop-at-preserved-then-k-eq0 c = elim c.then-k-eq0.branch [ then-k-eq0-via-then-k-eq0 w ↦ search gather_skip | then-k-eq0-via-else-k-eq0+then-not-does_join w ↦ search gather_pass ]

pub chain-h-requires : goal.chain-h-requires
chain-h-requires c = (search take_good, search (take_room, length-set))

pub loop-at-preserved : goal.loop-at-preserved
loop-at-preserved c = search gather_take

pub returns : goal.returns
returns c = search gather_ends
