-- `span_state`: no constraint before m lies inside whole; where the state is that none may pass, none before m may.
use Rattle.retest.proofs.Spans.{Passed}
use Rattle.retest.proofs.span_state.Given as goal

abbrev pub invariant-loop-m : goal.invariant-loop-m
invariant-loop-m l = Passed l.work l.fn.t l.x l.f.0 l.lo l.hi l.state l.m
