-- Algorithm 1 on the tables, and what the structural test asks of its caller.
use Rattle.std.specs.Prelude.{◌<◌, ◌≤◌, pred, suc, ℕ, Bool, ◌&&◌, false, true, List, eqb}
use Rattle.layout.specs.Nesting.{Nested}
use Rattle.layout.specs.Tables.{Standing, constraint_at, holder_at, parent_at, role_at, set_at}
use Rattle.layout.specs.declared.Tables.{Tables}
use Rattle.meaning.specs.Accepted.{Reads, depth}
use Rattle.meaning.specs.Intervals.{Constraint}
use Rattle.meaning.specs.Lists.{any, counting}
use Rattle.meaning.specs.Policy.{Chain, class, end, impossible, interval, some}
use Rattle.meaning.specs.Subsumption.{includes}
use Rattle.policy.specs.Terms.{ConjunctOf, conjunct_of, conjuncts_at}
use Rattle.words.specs.Sets.{in_set}

-- ---- the test

-- constraint m is of individual x, and what v has in its place lies from lo to hi
abbrev pub is_piece_inside : (ℕ → Constraint) → List ℕ → ℕ → ℕ → ℕ → ℕ → ℕ → Bool
is_piece_inside v w x f lo hi m = eqb (holder_at w m) x && includes f lo hi (v m)

-- line 4: some constraint of individual x, of n
unfoldable pub has_piece : (ℕ → Constraint) → List ℕ → ℕ → ℕ → ℕ → ℕ → ℕ → Bool
has_piece v w n x f lo hi = any (is_piece_inside v w x f lo hi) (counting 0 n)

-- row j is a successor of individual x by role r, and the individual passes
abbrev pub is_passing : List ℕ → ℕ → ℕ → (ℕ → Bool) → ℕ → Bool
is_passing w x r passes j = eqb (parent_at w j) x && (eqb (role_at w j) r && passes (suc j))

-- line 5: some successor of individual x by role r, of n rows
unfoldable pub has_successor : List ℕ → ℕ → ℕ → ℕ → (ℕ → Bool) → Bool
has_successor w n x r passes = any (is_passing w x r passes) (counting 0 n)

-- `subsumed` of individual x with all that is below it in the tables, with v in place of the constraints; the sets of classes are closed
-- upward, so one bit tells (line 3)
abbrev pub holds_at : (ℕ → Constraint) → List ℕ → Tables → Chain → ℕ → Bool
holds_at v w t end x = true
holds_at v w t (class a next) x = in_set (set_at w (pred x)) a && holds_at v w t next x
holds_at v w t (impossible next) x = false
holds_at v w t (some r child next) x = has_successor w t.individuals x r (holds_at v w t child) && holds_at v w t next x
holds_at v w t (interval f lo hi next) x = has_piece v w t.constraints x f lo hi && holds_at v w t next x

-- ---- the constraints whole

-- line 4
abbrev pub has_whole : List ℕ → ℕ → ℕ → ℕ → ℕ → ℕ → Bool
has_whole w n x f lo hi = has_piece (constraint_at w) w n x f lo hi

abbrev pub holds_whole : List ℕ → Tables → Chain → ℕ → Bool
holds_whole w t c x = holds_at (constraint_at w) w t c x

-- ---- contracts

-- x is one of the tables' individuals
pub record Individual (t : Tables) (x : ℕ) : Type 0 where
  pub some : 1 ≤ x
  pub within : x ≤ t.individuals

-- the tables stand, and the records from k on are a chain of no more levels than are left
pub record Testable (q w : List ℕ) (t : Tables) (left k : ℕ) : Type 0 where
  pub standing : Standing w t
  pub nested : Nested w t
  pub reads : Reads q k (conjuncts_at q k)
  pub shallow : depth (conjuncts_at q k) ≤ left

-- the tables stand, and record k's conjunct has no more levels than are left
pub record Asked (q w : List ℕ) (t : Tables) (left k : ℕ) : Type 0 where
  pub standing : Standing w t
  pub nested : Nested w t
  pub conjunct : ConjunctOf q k
  pub shallow : depth (conjunct_of q k) ≤ left

-- the first of n constraints that is of individual x or of a later one
pub record FirstOf (w : List ℕ) (n x r : ℕ) : Type 0 where
  pub within : r ≤ n
  pub before : (m : ℕ) → m < r → holder_at w m < x
  pub after : (m : ℕ) → r ≤ m → m < n → x ≤ holder_at w m
