use native.Mathlib.Omega.{arith}
use Rattle.owl.proofs.Records.{all_long, all_words, axioms_room, features_room, roles_room}
use Rattle.owl.proofs.Source.write_all.Goals as goal

pub put-requires : goal.put-requires
put-requires c = (omega arith, c.requires.room_for.0.room)

pub write_axioms-k-requires : goal.write_axioms-k-requires
write_axioms-k-requires c = axioms_room c.requires.many c.requires.room_for.0 c.put.auto.out

pub write_names-m-requires : goal.write_names-m-requires
write_names-m-requires c = roles_room c.requires.many c.requires.room_for.0 c.put.auto.out c.write_axioms-k.ensures

pub write_names-requires : goal.write_names-requires
write_names-requires c = features_room c.requires.many c.requires.room_for.0 c.put.auto.out c.write_axioms-k.ensures c.write_names-m.ensures

pub shape_of-out : goal.shape_of-out
shape_of-out c = all_long c.requires.many c.requires.room_for.0 c.put.auto.out c.write_axioms-k.ensures c.write_names-m.ensures c.write_names.ensures

pub returns : goal.returns
returns c = all_words c.requires.many c.requires.room_for.0 c.put.auto.out c.write_axioms-k.ensures c.write_names-m.ensures c.write_names.ensures c.args.self.now.ready c.requires.room_for.1 c.put.ensures
