use borrow.Author.Rules.{rules}
use native.Mathlib.Omega.{arith}
use Rattle.trial.proofs.Trying.{trying_alike, trying_askable, trying_ends, trying_fails, trying_falls, trying_on, trying_skippable, trying_starts}
use Rattle.trial.proofs.search.Goals as goal

pub loop-next-init : goal.loop-next-init
loop-next-init c = (search rules, search rules, search trying_starts)

pub overflow_sub-c : goal.overflow_sub-c
overflow_sub-c c =
    let s = trying_skippable c.requires.searchable.0 c.loop-next.invariant.2 c.in-Some.is in
    omega (arith, s.number)

pub taker-requires : goal.taker-requires
taker-requires c =
    let y = c.loop-next.invariant.2 in
    let r = c.requires.searchable.0 in
    record { askable = trying_askable r y c.in-Some.is; known = (trying_alike r y _ c.word.ensures c.named-alike.ensures, y.last) }

pub returns-in_default-taker : goal.returns-in_default-taker
returns-in_default-taker c = search (rules, trying_fails)

pub skip-next-requires : goal.skip-next-requires
skip-next-requires c = trying_skippable c.requires.searchable.0 c.loop-next.invariant.2 c.in-Some.is

pub loop-next-smaller : goal.loop-next-smaller
loop-next-smaller c = let r = c.requires.searchable.0 in trying_falls r c.loop-next.invariant.2 c.in-Some.is c.taker.ensures c.in-Some-taker.is c.skip-next.ensures

pub loop-next-preserved : goal.loop-next-preserved
loop-next-preserved c = let r = c.requires.searchable.0 in (search rules, search rules, trying_on r c.loop-next.invariant.2 c.in-Some.is c.taker.ensures c.in-Some-taker.is c.skip-next.ensures _ c.put_word.ensures)

pub returns : goal.returns
returns c = search (rules, trying_ends)
