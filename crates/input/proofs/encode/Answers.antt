use Rattle.input.proofs.Bytes.{bytes_more, bytes_put, bytes_room, bytes_start}
use Rattle.input.proofs.encode.Goals as goal

pub loop-w-init : goal.loop-w-init
loop-w-init c = bytes_start _ _

pub put_bytes-at-requires : goal.put_bytes-at-requires
put_bytes-at-requires c = bytes_room _ c.loop-w.invariant c.loop-w-test.true c.requires

pub loop-w-preserved : goal.loop-w-preserved
loop-w-preserved c = bytes_more _ c.loop-w.invariant c.loop-w-test.true c.put_bytes-at.ensures

pub returns : goal.returns
returns c = bytes_put _ c.loop-w.invariant c.loop-w-test.false
