-- The values of the roles and features, in one series, and that no individual has two of one number.
use Rattle.std.specs.Prelude.{◌+◌, ◌-◌, ◌<◌, ◌≤◌, ℕ, cond, false, not, List, ◌↔◌, ◌≡◌, T, eqb, get_or, length, set}
use Rattle.frames.specs.Frames.{Only, Span}
use Rattle.meaning.specs.Limits.{most_features, most_individuals, most_roles, work_size}
use Rattle.meaning.specs.Lists.{Any}
use Rattle.meaning.specs.Model.{Fact, edge, fact_other, fact_owner, facts_of, member, value}
use Rattle.meaning.specs.Records.{Name, is_name}
use Rattle.satisfaction.specs.Classes.{Interpreted, owner_of}
use Rattle.satisfaction.specs.Places.{block_size, clash_words, clashes_at, clashes_of, put_in, series_count, value_place, values_end}
use Rattle.words.specs.Sets.{in_set}

-- an individual and its value, or nothing of the number
pub data Link : Type 0 where
  none : Link
  link : ℕ → ℕ → Link

-- roles and features in one series, the features after the roles; 0 for a class and for a name past the most
abbrev pub number_of : Fact → ℕ
number_of (member a i) = 0
number_of (edge r i j) = cond (is_name most_roles r) r 0
number_of (value f i v) = cond (is_name most_features f) (most_roles + f) 0

abbrev pub other_of : Fact → ℕ
other_of (member a i) = 0
other_of (edge r i j) = j
other_of (value f i v) = v

-- what a fact says of number u
abbrev pub link_of : ℕ → Fact → Link
link_of u x = cond (eqb u (number_of x)) (link (owner_of x) (other_of x)) none

-- some fact gives individual i the value j
abbrev pub Gives : (Fact → Link) → ℕ → ℕ → List Fact → Type 0
Gives says i j F = Any (λ x. link i j ≡ says x) F

-- functional: no individual has two values (SPECIFICATION 5.2)
abbrev pub Single : (Fact → Link) → List Fact → Type 0
Single says F = (i j k : ℕ) → Gives says i j F → Gives says i k F → j ≡ k

-- ---- a block of the series, by the number before its first

pub record InBlock (base u : ℕ) : Type 0 where
  pub low : base < u
  pub high : u ≤ base + block_size

-- the record that first gave individual i a value of number u
abbrev pub first_of : List ℕ → ℕ → ℕ → ℕ → ℕ
first_of w base u i = get_or w (value_place i (u - base - 1)) 0

-- what record f of the model changes: it is the first of its number and individual, or has the first one's value, or another
pub data Compared (m : List ℕ) (base : ℕ) (w w' : List ℕ) (f u : ℕ) : Type 0 where
  outside : (InBlock base u → ⊥) → w' ≡ w → Compared m base w w' f u
  first : InBlock base u → first_of w base u (fact_owner m f) ≡ 0 → w' ≡ set w (value_place (fact_owner m f) (u - base - 1)) f →
      Compared m base w w' f u
  same : InBlock base u → (first_of w base u (fact_owner m f) ≡ 0 → ⊥) →
      fact_other m (first_of w base u (fact_owner m f)) ≡ fact_other m f → w' ≡ w → Compared m base w w' f u
  clash : InBlock base u → (first_of w base u (fact_owner m f) ≡ 0 → ⊥) →
      (fact_other m (first_of w base u (fact_owner m f)) ≡ fact_other m f → ⊥) →
      w' ≡ put_in clash_words w clashes_at u → Compared m base w w' f u

-- what the comparison of a record takes: its number, within the series, and a full work slice
pub record Comparable (m w : List ℕ) (f base u : ℕ) : Type 0 where
  pub owner : Name most_individuals (fact_owner m f)
  pub within : base < series_count
  pub few : u ≤ series_count
  pub long : work_size ≤ length w

-- a number is in the set if and only if an individual has two values of it
abbrev pub Tells : List ℕ → List ℕ → ℕ → Type 0
Tells m w u = T (not (in_set (clashes_of w) u)) ↔ Single (link_of u) (facts_of m)

-- the set tells of the numbers behind base and up to end, and has none behind end
pub record Telling (m : List ℕ) (base end : ℕ) (w : List ℕ) : Type 0 where
  pub interpreted : Interpreted m w
  pub told : (u : ℕ) → base < u → u ≤ end → Tells m w u
  pub none : (u : ℕ) → end < u → in_set (clashes_of w) u ≡ false

-- it tells of the next number, and nothing changed but the set and the block's table
pub record BlockCompared (m : List ℕ) (base : ℕ) (w w' : List ℕ) (end : ℕ) : Type 0 where
  pub telling : Telling m base end w'
  pub next : base < end
  pub only : Only (Span clashes_at values_end) w w'
