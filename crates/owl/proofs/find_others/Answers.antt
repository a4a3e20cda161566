use Rattle.owl.proofs.Others.{others_only}
use Rattle.owl.proofs.find_others.Goals as goal

pub returns : goal.returns
returns c = others_only c.requires c.args.names.now c.insert_others.ensures
