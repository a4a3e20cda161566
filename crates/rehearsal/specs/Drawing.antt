-- What the functions ask and say: words drawn, and put one after another.
use Rattle.std.specs.Prelude.{◌*◌, ◌+◌, ◌≤◌, ℕ, List, ◌≡◌, length}
use Rattle.frames.specs.Rows.{Put}
use Rattle.meaning.specs.Limits.{most_classes}
use Rattle.meaning.specs.Records.{Name}
use Rattle.rehearsal.specs.Load.{most_terms}
use Rattle.rehearsal.specs.declared.Cursor.{Cursor}

-- the words were put from the cursor's place on; r is where the next go, with the seed of the next draw
pub record Drawn (o : List ℕ) (c : Cursor) (ws : List ℕ) (s : ℕ) (o' : List ℕ) (r : Cursor) : Type 0 where
  pub words : Put o c.at ws o' r.at
  pub seed : r.seed ≡ s

-- there is room for so many words at the cursor, and the numbers of classes and terms are a load's
pub record Drawable (o : List ℕ) (c : Cursor) (size N m : ℕ) : Type 0 where
  pub long : c.at + size ≤ length o
  pub classes : Name most_classes N
  pub terms : Name most_terms m

-- how many words a load takes
abbrev pub load_size : ℕ → ℕ → ℕ
load_size N m = 3 + 4 * (N + 1) + 12 * (3 * m + 1)
