use Prim.Native.Nat.{◌+◌}
use mathlib.Core.Path.{◌∙◌}
use native.Mathlib.Omega.{arith}
use Rattle.decision.proofs.Terms.{uncounted_ends, uncounted_found, uncounted_on, uncounted_starts}
use Rattle.frames.proofs.Frames.{only_none, only_then}
use Rattle.policy.proofs.Terms.{asking_ends, asking_falls, asking_found, asking_on, asking_starts, asking_term}
use Rattle.preparation.proofs.Laws.{prepared_kept}
use Rattle.tabulation.proofs.Laws.{term_ready}
use Rattle.decision.proofs.has_too_many.Goals as goal

pub loop-k-init : goal.loop-k-init
loop-k-init c = (λ v a. (1, asking_starts a.policy c.first_term-first.ensures (uncounted_starts v _ _)), only_none)

pub is_too_many-requires : goal.is_too_many-requires
is_too_many-requires c =
    let i = c.loop-k.invariant in
    let q = c.requires in
    let a = q.1.1 in
    let x = (i.0 q.1.0 a).1 in
    let n = c.loop-k-test.true in
    let t = term_ready a.prepared (omega (arith, q.0)) i.1 x n in
    (t.0, t.1, (asking_term x n).shallow)

pub shape_of-work-then-is_too_many : goal.shape_of-work-then-is_too_many
shape_of-work-then-is_too_many c = c.is_too_many.ensures.only.size ∙ c.loop-k.invariant.1.size

-- the term at record k, by the vocabulary v
pub returns-then-is_too_many : goal.returns-then-is_too_many
returns-then-is_too_many c =
    let i = c.loop-k.invariant in
    let t = c.is_too_many.ensures in
    let n = c.loop-k-test.true in record {
      counts = λ v a.
          let x = (i.0 v a).1 in
          asking_found x n (λ l u. uncounted_found v _ _ _ l u (t.exceeds v (prepared_kept i.1 a.prepared) (asking_term x n).named) c.if-is_too_many.true);
      only = only_then i.1 t.only;
    }

pub loop-k-smaller : goal.loop-k-smaller
loop-k-smaller c = asking_falls (c.loop-k.invariant.0 c.requires.1.0 c.requires.1.1).1 c.loop-k-test.true c.next_of-k.ensures

pub loop-k-preserved : goal.loop-k-preserved
loop-k-preserved c =
    let i = c.loop-k.invariant in
    let t = c.is_too_many.ensures in
    let n = c.loop-k-test.true in (
      λ v a.
          let x = (i.0 v a).1 in
          ((i.0 v a).0 + 1, asking_on x n c.next_of-k.ensures (λ l u. uncounted_on v _ _ _ l u (t.exceeds v (prepared_kept i.1 a.prepared) (asking_term x n).named) c.if-is_too_many.false)),
      only_then i.1 t.only,
    )

pub shape_of-work : goal.shape_of-work
shape_of-work c = c.loop-k.invariant.1.size

pub returns : goal.returns
returns c =
    let i = c.loop-k.invariant in
    record { counts = λ v a. uncounted_ends v _ _ (asking_ends (i.0 v a).1 c.loop-k-test.false); only = i.1 }
