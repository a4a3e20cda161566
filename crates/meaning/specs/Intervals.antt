-- Intervals lo..hi, both ends included: all that is asked of one, and of a constraint, which is one on a feature.
use Rattle.std.specs.Prelude.{◌<◌, ◌≤◌, max, min, ℕ, Bool, ◌&&◌, leb}

-- SPECIFICATION 5.3: v is in lo..hi
abbrev pub Within : ℕ → ℕ → ℕ → Type 0
Within lo hi v = (lo ≤ v) × (v ≤ hi)

abbrev pub is_within : ℕ → ℕ → ℕ → Bool
is_within lo hi v = leb lo v && leb v hi

-- SPECIFICATION 4.5: lo greater than hi is legal, and no value is in it
abbrev pub Empty : ℕ → ℕ → Type 0
Empty lo hi = hi < lo

abbrev pub NonEmpty : ℕ → ℕ → Type 0
NonEmpty lo hi = lo ≤ hi

abbrev pub is_non_empty : ℕ → ℕ → Bool
is_non_empty lo hi = leb lo hi

-- from lo' to hi' lies inside from lo to hi
abbrev pub is_inside : ℕ → ℕ → ℕ → ℕ → Bool
is_inside lo hi lo' hi' = leb lo lo' && leb hi' hi

-- a constraint lo..hi on a feature, and a piece of one
pub record Constraint : Type 0 where
  pub feature : ℕ
  pub lo : ℕ
  pub hi : ℕ

-- what lies in both of two constraints on one feature
abbrev pub meet : Constraint → Constraint → Constraint
meet s t = record { feature = s.feature; lo = max s.lo t.lo; hi = min s.hi t.hi }

-- SPECIFICATION 8.4: the value of a piece in the countermodel is its upper end
unfoldable pub value_of : Constraint → ℕ
value_of s = s.hi
