-- The classes that the targets of a role's edges have in common.
use Rattle.std.specs.Prelude.{◌+◌, ◌-◌, ◌<◌, ◌^◌, ◌≤◌, ℕ, Bool, ◌&&◌, true, List, Option, ◌≡◌, get_or}
use Rattle.std.specs.Int.Bits.{bit_and}
use Rattle.frames.specs.Frames.{Only, Span}
use Rattle.meaning.specs.Limits.{most_classes, most_roles}
use Rattle.meaning.specs.Model.{Fact, facts_of}
use Rattle.meaning.specs.ModelCheck.{obeys}
use Rattle.meaning.specs.Records.{Name}
use Rattle.meaning.specs.Vocabulary.{range}
use Rattle.satisfaction.specs.Classes.{Interpreted, is_ranged}
use Rattle.satisfaction.specs.Places.{ranges_at, ranges_end, ranges_of}
use Rattle.vocabulary.specs.Axioms.{is_of}
use Rattle.vocabulary.specs.declared.Axiom.{Axiom}
use Rattle.words.specs.Rows.{class_words}
use Rattle.words.specs.Sets.{in_set}

-- the first n words of the roles' sets have every bit
pub record Opened (n : ℕ) (w w' : List ℕ) : Type 0 where
  pub only : Only (Span ranges_at ranges_end) w w'
  pub words : (i : ℕ) → i < n → get_or w' (ranges_at + i) 0 ≡ 2 ^ 32 - 1

-- of the first n words of the set at a place those bits are left that the set from another place on has
pub record Intersected (n at from : ℕ) (w w' : List ℕ) : Type 0 where
  pub only : Only (Span at (at + class_words)) w w'
  pub words : (i : ℕ) → i < n → get_or w' (at + i) 0 ≡ bit_and (get_or w (at + i) 0) (get_or w (from + i) 0)
  pub rest : (i : ℕ) → n ≤ i → get_or w' (at + i) 0 ≡ get_or w (at + i) 0

-- of each role's set those classes are left that the target has, where the fact is an edge of the role
pub record Narrowed (m w w' : List ℕ) (x : Fact) : Type 0 where
  pub only : Only (Span ranges_at ranges_end) w w'
  pub rows : (r c : ℕ) → Name most_roles r → Name most_classes c →
      in_set (ranges_of w' r) c ≡ in_set (ranges_of w r) c && is_ranged (facts_of m) r c x

-- the classes that all targets of a role's edges have
pub record Ranged (m w : List ℕ) : Type 0 where
  pub rows : (r c : ℕ) → Name most_roles r → Name most_classes c → in_set (ranges_of w r) c ≡ obeys (facts_of m) (range r c)

-- the sets are right, if they are made
pub record RangedIf (made : Bool) (m w : List ℕ) : Type 0 where
  pub interpreted : Interpreted m w
  pub ranged : made ≡ true → Ranged m w

-- they are made if what a record states asks for them, and nothing else changed
pub record RangesMade (stated : Option Axiom) (m w w' : List ℕ) (made : Bool) : Type 0 where
  pub state : RangedIf made m w'
  pub asked : is_of 5 stated ≡ true → made ≡ true
  pub only : Only (Span ranges_at ranges_end) w w'
