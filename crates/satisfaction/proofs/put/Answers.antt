use Rattle.satisfaction.proofs.Rows.{put_part}
use Rattle.satisfaction.proofs.put.Goals as goal

pub returns : goal.returns
returns c = search put_part
