-- The parts of the structural test, what has no dial and what has; and what an answer for a combination relies on.
use Rattle.std.specs.Prelude.{◌<◌, ◌≤◌, suc, ℕ, Bool, ◌&&◌, false, not, true, List, ◌≡◌, T, eqb, get_or, length}
use Rattle.carriers.specs.Carriers.{slot_of}
use Rattle.intervals.specs.Touching.{touches}
use Rattle.layout.specs.Nesting.{Nested}
use Rattle.layout.specs.Tables.{Standing, constraint_at, holder_at, piece_at}
use Rattle.layout.specs.declared.Tables.{Tables}
use Rattle.meaning.specs.Intervals.{Constraint, NonEmpty, is_inside}
use Rattle.meaning.specs.Lists.{any, counting}
use Rattle.meaning.specs.Subsumption.{includes}
use Rattle.retest.specs.declared.Reason.{Reason}
use Rattle.retest.specs.declared.State.TheVariants.{Fails, Passes}
use Rattle.retest.specs.declared.State.{State}
use Rattle.subsumption.specs.Tests.{has_piece, has_whole, is_passing, is_piece_inside}
use Rattle.words.specs.Sets.{test_bit}

-- ---- what has no dial, and what has

-- constraint m is of individual x and on f, and has a value from lo to hi
abbrev pub may_pass : List ℕ → ℕ → ℕ → ℕ → ℕ → ℕ → Bool
may_pass w x f lo hi m = eqb (holder_at w m) x && (eqb f (constraint_at w m).feature && touches lo hi (constraint_at w m).lo (constraint_at w m).hi)

-- line 5: the successors that are in no list of carriers, and those that are in one
abbrev pub is_still : List ℕ → List ℕ → ℕ → ℕ → (ℕ → Bool) → ℕ → Bool
is_still c w x r passes j = eqb (slot_of c (suc j)) 0 && is_passing w x r passes j

abbrev pub is_carried : List ℕ → List ℕ → ℕ → ℕ → (ℕ → Bool) → ℕ → Bool
is_carried c w x r passes j = not (eqb (slot_of c (suc j)) 0) && is_passing w x r passes j

unfoldable pub has_still : List ℕ → List ℕ → ℕ → ℕ → ℕ → (ℕ → Bool) → Bool
has_still c w n x r passes = any (is_still c w x r passes) (counting 0 n)

unfoldable pub has_carried : List ℕ → List ℕ → ℕ → ℕ → ℕ → (ℕ → Bool) → Bool
has_carried c w n x r passes = any (is_carried c w x r passes) (counting 0 n)

-- ---- what an answer relies on

-- v has a part of each of the first n constraints
pub record Choice (v : ℕ → Constraint) (w : List ℕ) (n : ℕ) : Type 0 where
  pub inside : (m : ℕ) → m < n → T (includes (constraint_at w m).feature (constraint_at w m).lo (constraint_at w m).hi (v m))
  pub full : (m : ℕ) → m < n → NonEmpty (v m).lo (v m).hi

-- the dials are the constraints with several pieces, among them all of the first n with lo below hi
abbrev pub Dials : List ℕ → List ℕ → ℕ → Type 0
Dials dials w n = (m : ℕ) → m < n → (constraint_at w m).lo < (constraint_at w m).hi → (d : ℕ) × (d < length dials) × (get_or dials d 0 ≡ m)

-- v has the pieces of the tables at the dials of the mask
pub record Agrees (dials w : List ℕ) (mask : ℕ) (v : ℕ → Constraint) : Type 0 where
  pub same : (d : ℕ) → d < length dials → test_bit mask d ≡ true → v (get_or dials d 0) ≡ piece_at w (get_or dials d 0)

-- the answer to what is asked of a choice: that of every choice with the same pieces at the dials that it names
pub record Tells (dials w : List ℕ) (t : Tables) (passes : (ℕ → Constraint) → Bool) (r : Reason) : Type 0 where
  pub same : (v : ℕ → Constraint) → Choice v w t.constraints → Agrees dials w r.dials v → passes v ≡ r.holds

-- ---- contracts

-- the tables fit and hold pieces of their constraints, and there are at most so many dials that a word has a bit for each
pub record Testing (dials w : List ℕ) (t : Tables) : Type 0 where
  pub standing : Standing w t
  pub nested : Nested w t
  pub chosen : Choice (piece_at w) w t.constraints
  pub placed : (d : ℕ) → d < length dials → get_or dials d 0 < t.constraints
  pub known : Dials dials w t.constraints
  pub few : length dials ≤ 16

-- of dial d, constraint m: it may pass and its piece lies inside; or its piece does not lie inside, and it is named if it may pass
pub record TellsDial (w : List ℕ) (m d x f lo hi : ℕ) (r : Reason) : Type 0 where
  pub may : r.holds ≡ true → may_pass w x f lo hi m ≡ true
  pub inside : may_pass w x f lo hi m ≡ true → is_inside lo hi (piece_at w m).lo (piece_at w m).hi ≡ r.holds
  pub named : may_pass w x f lo hi m ≡ true → test_bit r.dials d ≡ true

-- of individual x's constraints on f, whatever the pieces: it passes where one lies inside whole, and fails where none of them may pass
pub record Spanned (w : List ℕ) (n x f lo hi : ℕ) (r : State) : Type 0 where
  pub passes : r ≡ Passes → has_whole w n x f lo hi ≡ true
  pub fails : r ≡ Fails → (m : ℕ) → m < n → may_pass w x f lo hi m ≡ false
  pub none : (r ≡ Passes → ⊥) → has_whole w n x f lo hi ≡ false

-- of constraint m alone
pub record SpannedBy (w : List ℕ) (x f lo hi m : ℕ) (r : State) : Type 0 where
  pub passes : r ≡ Passes → is_piece_inside (constraint_at w) w x f lo hi m ≡ true
  pub fails : r ≡ Fails → may_pass w x f lo hi m ≡ false
  pub none : (r ≡ Passes → ⊥) → is_piece_inside (constraint_at w) w x f lo hi m ≡ false

-- of individual x: some constraint on f
pub record TellsPiece (dials w : List ℕ) (t : Tables) (x f lo hi : ℕ) (r : Reason) : Type 0 where
  pub tells : Tells dials w t (λ v. has_piece v w t.constraints x f lo hi) r
