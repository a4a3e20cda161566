use Prim.Native.Nat.{ℕ}
use borrow.Author.Rules.{rules}
use lib.Bits.{bit_or}
use lib.ListN.{get_or, length, length-set}
use mathlib.Core.Path.{◌∙◌, ◌≡◌}
use native.Mathlib.Omega.{arith}
use Rattle.words.proofs.Steps.{filled_more, members_union, union_filled}
use Rattle.words.specs.Rows.{class_words}
use Rattle.words.proofs.ClassSet.union.Goals as goal

pub loop-i-init : goal.loop-i-init
loop-i-init c = (search rules, search rules, λ j h. absurd (omega arith))

pub loop-i-preserved : goal.loop-i-preserved
loop-i-preserved c =
    let l = c.loop-i in
    let a = c.args in
    let joined : ℕ → ℕ = λ j. bit_or (get_or a.self.words j 0) (get_or a.other.words j 0) in
    (search rules, length-set l.words _ _ ∙ l.invariant.1, filled_more joined l.words l.i (omega arith) l.invariant.2)

pub returns : goal.returns
returns c =
    let l = c.loop-i in
    let a = c.args in
    let left : length a.self.words ≡ class_words = search rules in
    let right : length a.other.words ≡ class_words = search rules in
    let all = union_filled a.self.words a.other.words l.words l.i (omega arith) (omega arith) (omega arith) l.invariant.2 in
    record { words_value = all; by_index = members_union a.self.words a.other.words l.words (omega arith) all }
