use mathlib.Core.Path.{refl}
use native.Mathlib.Omega.{arith}
use Rattle.owl.proofs.Whole.{filled, last_record, records_small, refused, too_many_lem, too_short, words_room}
use Rattle.owl.proofs.Source.write.Goals as goal

pub count-requires : goal.count-requires
count-requires c = omega (arith, c.requires.1.role_words)

pub overflow_add-last : goal.overflow_add-last
overflow_add-last c = let p = c.requires in
    let s = records_small c.args.self.now.ready c.args.self.now.short p.1 in
    omega (arith, s, c.count.ensures)

pub count-requires-2 : goal.count-requires-2
count-requires-2 c = omega (arith, c.requires.1.feature_words)

pub overflow_add-last-2 : goal.overflow_add-last-2
overflow_add-last-2 c = let p = c.requires in
    let s = records_small c.args.self.now.ready c.args.self.now.short p.1 in
    omega (arith, s, c.count.ensures, c.count-2.ensures)

pub returns-then-last-gt-MOST_AXIOMS : goal.returns-then-last-gt-MOST_AXIOMS
returns-then-last-gt-MOST_AXIOMS c = let p = c.requires in
    let all = last_record c.args.self.now.ready p.1 c.count.ensures c.count-2.ensures in
    refused _ _ _ refl (too_many_lem c.args.self.now.ready c.args.self.now.short p.0 all (omega (arith, c.if-last-gt-MOST_AXIOMS.true)))

pub overflow_add-size : goal.overflow_add-size
overflow_add-size c = omega (arith, c.if-last-gt-MOST_AXIOMS.false)

pub overflow_mul-size : goal.overflow_mul-size
overflow_mul-size c = omega (arith, c.if-last-gt-MOST_AXIOMS.false)

pub returns-then-out-size : goal.returns-then-out-size
returns-then-out-size c = let p = c.requires in
    let all = last_record c.args.self.now.ready p.1 c.count.ensures c.count-2.ensures in
    too_short c.args.self.now.ready c.args.self.now.short p.0 all c.if-last-gt-MOST_AXIOMS.false _ c.if-out-size.true

pub write_all-requires : goal.write_all-requires
write_all-requires c = let p = c.requires in
    let all = last_record c.args.self.now.ready p.1 c.count.ensures c.count-2.ensures in
    record { many = p.1; room_for = (words_room c.args.self.now.ready c.args.self.now.short p.0 all c.if-last-gt-MOST_AXIOMS.false _ c.if-out-size.false, all) }

pub shape_of-out : goal.shape_of-out
shape_of-out c = c.write_all.auto.out

pub returns : goal.returns
returns c = let p = c.requires in
    let all = last_record c.args.self.now.ready p.1 c.count.ensures c.count-2.ensures in
    filled c.args.self.now.ready c.args.self.now.short p.0 all c.if-last-gt-MOST_AXIOMS.false _ c.if-out-size.false c.write_all.ensures
