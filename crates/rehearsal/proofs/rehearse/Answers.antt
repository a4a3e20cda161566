use Rattle.rehearsal.proofs.Whole.{first_room, in_range, load_put, out_of_range, second_room, third_room, too_short}
use Rattle.rehearsal.proofs.rehearse.Goals as goal

pub returns-then-not-is_load : goal.returns-then-not-is_load
returns-then-not-is_load c = out_of_range _ _ _ _ c.is_load.ensures c.if-not-is_load.true-raw

pub size-words-requires : goal.size-words-requires
size-words-requires c = let a = c.args in let u = in_range a.seed a.classes a.terms a.out.now c.is_load.ensures c.if-not-is_load.false-raw in (u.1.1, u.2.1)

pub returns-then-out-words : goal.returns-then-out-words
returns-then-out-words c = too_short _ _ _ _ c.is_load.ensures c.if-not-is_load.false-raw c.size-words.ensures c.if-out-words.true

pub put_vocabulary-first-requires : goal.put_vocabulary-first-requires
put_vocabulary-first-requires c = let a = c.args in first_room a.seed a.classes a.terms a.out.now c.is_load.ensures c.if-not-is_load.false-raw c.size-words.ensures c.if-out-words.false

pub put_policy-second-requires : goal.put_policy-second-requires
put_policy-second-requires c = second_room _ _ _ _ c.is_load.ensures c.if-not-is_load.false-raw c.size-words.ensures c.if-out-words.false c.put_vocabulary-first.ensures

pub put_policy-requires : goal.put_policy-requires
put_policy-requires c = third_room _ _ _ _ c.is_load.ensures c.if-not-is_load.false-raw c.size-words.ensures c.if-out-words.false c.put_vocabulary-first.ensures c.put_policy-second.ensures

pub returns : goal.returns
returns c = load_put _ _ _ _ c.is_load.ensures c.if-not-is_load.false-raw c.size-words.ensures c.if-out-words.false c.put_vocabulary-first.ensures c.put_policy-second.ensures
    c.put_policy.ensures
