-- `turn`: the next piece, or the first.
use lib.Dec.{T}
use mathlib.Core.Path.{◌∙◌, subst, sym}
use Rattle.odometer.proofs.Turning.{turn_back, turn_on}
use Rattle.odometer.proofs.turn.Goals as goal
use Rattle.odometer.proofs.turn.Goals.{else-relied-via-else-relied, else-relied-via-then-relied+else-p-hi}

pub returns-then-p-hi : goal.returns-then-p-hi
returns-then-p-hi c = search turn_on

pub returns : goal.returns
returns c =
    turn_back c.requires.0 c.requires.1 c.lo_of-lo.ensures c.hi_of-hi.ensures c.piece_hi-p.ensures
    (λ y. elim c.else-relied.branch [ else-relied-via-then-relied+else-p-hi x ↦ x.if-p-hi.false | else-relied-via-else-relied x ↦ absurd (subst T (sym y ∙ x.if-relied.false) tt) ]) c.put_piece-2.ensures
