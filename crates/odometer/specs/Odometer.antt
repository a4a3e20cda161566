-- The dials of a term, and the way from a combination that passes to the next that has to be looked at.
use Rattle.std.specs.Prelude.{◌%◌, ◌+◌, ◌-◌, ◌<◌, ◌≤◌, pred, suc, ℕ, Bool, false, true, List, Option, IfSome, None, Some, ◌≡◌, get_or, length, take}
use Rattle.frames.specs.Frames.{Only, Span}
use Rattle.layout.specs.Places.{constraint_place}
use Rattle.layout.specs.Tables.{Pieces, constraint_at, piece_at}
use Rattle.meaning.specs.Limits.{most_combinations}
use Rattle.meaning.specs.Lists.{At}
use Rattle.meaning.specs.Policy.{Policy}
use Rattle.meaning.specs.Splitting.{pieces, product}
use Rattle.odometer.specs.Digits.{Covers, Known, Valid, in_mask, value}
use Rattle.splitting.specs.Ends.{Ends}
use Rattle.splitting.specs.Constraints.{Splittable, first_constraints, piece_count}

-- how many dials there may be: each has two pieces or more, and there are at most 65,536 combinations
abbrev pub most_dials : ℕ
most_dials = 16

-- the dials are those of the first n constraints that have lo below hi, rising
pub record Dialled (dials w : List ℕ) (n : ℕ) : Type 0 where
  pub dial : (d : ℕ) → d < length dials → (get_or dials d 0 < n) × ((constraint_at w (get_or dials d 0)).lo < (constraint_at w (get_or dials d 0)).hi)
  pub rising : (d e : ℕ) → d < e → e < length dials → get_or dials d 0 < get_or dials e 0
  pub all : (m : ℕ) → m < n → (constraint_at w m).lo < (constraint_at w m).hi → (d : ℕ) × (d < length dials) × (get_or dials d 0 ≡ m)

-- the first r words are the dials
pub record DialsFound (w : List ℕ) (n : ℕ) (l l' : List ℕ) (r : ℕ) : Type 0 where
  pub size : length l' ≡ length l
  pub within : r ≤ most_dials
  pub dialled : Dialled (take r l') w n

-- some policy splits the first n constraints into few enough combinations
pub record Limited (w : List ℕ) (n : ℕ) : Type 0 where
  pub splittable : Splittable w n
  pub policy : Policy
  pub few : product policy (first_constraints w n) ≤ most_combinations

-- a policy of which these are the ends does so
pub record Split (e w : List ℕ) (n : ℕ) : Type 0 where
  pub splittable : Splittable w n
  pub policy : Policy
  pub ends : Ends policy e
  pub few : product policy (first_constraints w n) ≤ most_combinations

-- what a count of the dials' pieces asks
pub record PiecesCountable (e dials w counts : List ℕ) (n : ℕ) : Type 0 where
  pub split : Split e w n
  pub dialled : Dialled dials w n
  pub size : length counts ≡ length dials

-- the numbers of the dials' pieces
pub record Counted (e dials w : List ℕ) (counts : List ℕ) : Type 0 where
  pub size : length counts ≡ length dials
  pub count : (Q : Policy) → Ends Q e → (d : ℕ) → d < length dials → get_or counts d 0 ≡ piece_count Q w (get_or dials d 0)

-- constraint m has gone on to its next piece, being relied on; or it was at its last one, or not relied on, and has started again
pub record Turned (e : List ℕ) (m : ℕ) (relied : Bool) (w w' : List ℕ) (r : Bool) : Type 0 where
  pub only : Only (Span (constraint_place m + 4) (constraint_place (suc m))) w w'
  pub on : r ≡ true → (relied ≡ true) × ((Q : Policy) (d : ℕ) → Ends Q e → At (piece_at w m) (pieces Q (constraint_at w m)) d → At (piece_at w' m) (pieces Q (constraint_at w m)) (suc d))
  pub back : r ≡ false → ((Q : Policy) → At (piece_at w' m) (pieces Q (constraint_at w m)) 0)
  pub last : r ≡ false → relied ≡ true → (Q : Policy) (d : ℕ) → Ends Q e → At (piece_at w m) (pieces Q (constraint_at w m)) d → suc d ≡ piece_count Q w m

-- the number after combination q, both counted from 1, where the odometer goes on at a dial behind which there are so many combinations
unfoldable pub next_number : ℕ → ℕ → ℕ
next_number q weight = suc (pred q - pred q % weight + weight)

-- the pieces of the first n constraints are those that the digits name
abbrev pub StandsAt : Policy → List ℕ → ℕ → (ℕ → ℕ) → Type 0
StandsAt Q w n c = (i : ℕ) → i < n → At (piece_at w i) (pieces Q (constraint_at w i)) (c i)

-- the tables stand at the digits c of combination q, counted from 1, and of what comes before it all is known to pass
pub record Standing (Q : Policy) (P : (ℕ → ℕ) → Bool) (dials earlier w : List ℕ) (n : ℕ) (c : ℕ → ℕ) (q : ℕ) : Type 0 where
  pub stands : StandsAt Q w n c
  pub number : suc (value (piece_count Q w) c n) ≡ q
  pub known : Known (piece_count Q w) n P dials earlier c

-- the answer of a skip: none where all pass; else the number of the next combination, at which the tables stand
abbrev pub Outcome : Policy → ((ℕ → ℕ) → Bool) → List ℕ → List ℕ → List ℕ → ℕ → Option ℕ → Type 0
Outcome Q P dials earlier w n None = (e : ℕ → ℕ) → Valid (piece_count Q w) n e → P e ≡ true
Outcome Q P dials earlier w n (Some q) = (c : ℕ → ℕ) × Standing Q P dials earlier w n c q

-- from combination q, which passes by the dials of the mask: for whatever is asked of combinations by their digits
pub record Skipped (e dials earlier earlier' : List ℕ) (n mask q : ℕ) (w w' : List ℕ) (r : Option ℕ) : Type 0 where
  pub told : (Q : Policy) (P : (ℕ → ℕ) → Bool) (c : ℕ → ℕ) → Ends Q e → Standing Q P dials earlier w n c q →
      Covers (piece_count Q w) n P c n (in_mask dials mask) → Outcome Q P dials earlier' w' n r
  pub rises : IfSome r (λ s. q < s)
  pub only : Only (Pieces n) w w'
  pub size : length earlier' ≡ length earlier

-- what a skip asks
pub record Skippable (e dials counts earlier w : List ℕ) (n q : ℕ) : Type 0 where
  pub split : Split e w n
  pub dialled : Dialled dials w n
  pub few : length dials ≤ most_dials
  pub counted : Counted e dials w counts
  pub size : length earlier ≡ length dials
  pub number : (1 ≤ q) × (q ≤ most_combinations)
