use Rattle.keys.proofs.Adding.{added_before, added_last, key_stands}
use Rattle.keys.proofs.add.Goals as goal
use Rattle.keys.proofs.add.Goals.{else-at-n-via-else-at-n, else-at-n-via-then-at-n+else-keys-at}

pub returns-then-keys-at : goal.returns-then-keys-at
returns-then-keys-at c = search key_stands

pub returns : goal.returns
returns c =
    elim c.else-at-n.branch [ else-at-n-via-then-at-n+else-keys-at w ↦ search added_before | else-at-n-via-else-at-n w ↦ search added_last ]
