use native.Mathlib.Omega.{arith}
use Rattle.owl.proofs.Looking.{class_size, feature_size, role_size, sizes_small, sorted_listed}
use Rattle.owl.proofs.Noting.{not_met}
use Rattle.owl.proofs.Whole.{sound_class, sound_feature, sound_known, sound_role}
use Rattle.owl.proofs.Source.are_sound.Goals as goal

pub has_repeats-requires : goal.has_repeats-requires
has_repeats-requires c = let p = c.args.self.now.ready in
    let s = sizes_small p in
    (sorted_listed p.tabled.classes (class_size p), omega arith)

pub returns-then-has_repeats : goal.returns-then-has_repeats
returns-then-has_repeats c = let told = not_met (sound_class c.args.self.now.ready c.has_repeats.ensures c.if-has_repeats.true) in
    record { value = told.0; noted = told.1 }

pub has_repeats-requires-2 : goal.has_repeats-requires-2
has_repeats-requires-2 c = let p = c.args.self.now.ready in
    let s = sizes_small p in
    (sorted_listed p.tabled.roles (role_size p), omega arith)

pub returns-then-has_repeats-2 : goal.returns-then-has_repeats-2
returns-then-has_repeats-2 c = let told = not_met (sound_role c.args.self.now.ready c.has_repeats.ensures c.if-has_repeats.false c.has_repeats-2.ensures c.if-has_repeats-2.true) in
    record { value = told.0; noted = told.1 }

pub has_repeats-requires-3 : goal.has_repeats-requires-3
has_repeats-requires-3 c = let p = c.args.self.now.ready in
    let s = sizes_small p in
    (sorted_listed p.tabled.features (feature_size p), omega arith)

pub returns-then-has_repeats-3 : goal.returns-then-has_repeats-3
returns-then-has_repeats-3 c = let told = not_met (sound_feature c.args.self.now.ready c.has_repeats.ensures c.if-has_repeats.false c.has_repeats-2.ensures c.if-has_repeats-2.false c.has_repeats-3.ensures c.if-has_repeats-3.true) in
    record { value = told.0; noted = told.1 }

pub returns : goal.returns
returns c = record { value = sound_known c.args.self.now.ready c.has_repeats.ensures c.if-has_repeats.false c.has_repeats-2.ensures c.if-has_repeats-2.false c.has_repeats-3.ensures c.if-has_repeats-3.false c.are_known.ensures.value; noted = c.are_known.ensures.noted }
