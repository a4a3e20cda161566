-- Those that a read brought follow on those that were there.
use Rattle.std.proofs.Common.{◌≡◌, ◌+◌, ◌++◌, ◌∙◌, ℕ, List, ap, drop, rules, subst, sym, take}
use Rattle.std.proofs.KnownBytes.{Consumes-trans}
use Rattle.std.specs.Io.KnownBytes.{Consumes}
use lib.Seq.{take-add}
use Rattle.streams.proofs.read_input.Goals as goal

joined : (a b : ℕ) (old new : List ℕ) → take a new ≡ take a old → take a old ++ take b (drop a new) ≡ take (a + b) new
joined a b old new e = ap (λ l. l ++ take b (drop a new)) (sym e) ∙ sym (take-add a b new)

pub loop-done-preserved : goal.loop-done-preserved
loop-done-preserved g c = record {
  within = search rules;
  same = search rules;
  taken = subst (Consumes _ _) (joined c.loop-done.done c.in-Ok-Some.n c.loop-done.buffer c.read_from.new.buffer c.read_from.ensures.before)
      (Consumes-trans _ _ _ _ _ c.loop-done.invariant.taken (rw c.in-Ok-Some.field-0-is at c.in-Ok-Some.ensures.bytes));
}
