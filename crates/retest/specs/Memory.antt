-- What is remembered of the pairs of a conjunct and an individual, and the contracts of the test that remembers.
use Rattle.std.specs.Prelude.{◌%◌, ◌*◌, ◌+◌, ◌-◌, ◌/◌, ◌≤◌, pred, ℕ, Bool, ◌&&◌, cond, false, true, List, Option, None, Some, ◌≡◌, eqb, get_or, set}
use Rattle.carriers.specs.Carriers.{Listed}
use Rattle.layout.specs.Tables.{role_at}
use Rattle.layout.specs.declared.Tables.{Tables}
use Rattle.meaning.specs.Accepted.{Reads, depth}
use Rattle.meaning.specs.Intervals.{Constraint}
use Rattle.meaning.specs.Policy.{child_of, hi_of, kind_of, lo_of, name_of}
use Rattle.policy.specs.Terms.{ConjunctOf, conjunct_of, conjuncts_at}
use Rattle.retest.specs.Reasons.{Choice, Tells, Testing, has_carried, has_still}
use Rattle.retest.specs.declared.Reason.{Reason}
use Rattle.retest.specs.declared.State.TheVariants.{Fails, Passes, Rests}
use Rattle.retest.specs.declared.State.{State}
use Rattle.subsumption.specs.Tests.{Individual, has_whole, holds_at}

-- ---- the words: for each record and each place by a dial, an individual and what is known of the pair

abbrev pub memory_place : ℕ → ℕ → ℕ
memory_place k slot = k * 17 + slot

abbrev pub entry_of : List ℕ → ℕ → ℕ → ℕ
entry_of s k slot = get_or s (memory_place k slot) 0

-- the state that a number is kept for; 0 is kept for none
abbrev pub state_of : ℕ → Option State
state_of n = cond (eqb n 1) (Some Passes) (cond (eqb n 2) (Some Fails) (cond (eqb n 3) (Some Rests) None))

abbrev pub number_of : State → ℕ
number_of Passes = 1
number_of Fails = 2
number_of Rests = 3

abbrev pub recalled : List ℕ → ℕ → ℕ → ℕ → Option State
recalled s k slot x = cond (eqb (entry_of s k slot / 4) x) (state_of (entry_of s k slot % 4)) None

abbrev pub remembered : List ℕ → ℕ → ℕ → ℕ → State → List ℕ
remembered s k slot x state = set s (memory_place k slot) (4 * x + number_of state)

-- ---- what they mean

-- whatever the pieces, the conjunct at record k gets this answer of individual x
abbrev pub Always : List ℕ → List ℕ → Tables → ℕ → ℕ → Bool → Type 0
Always q w t k x b = (v : ℕ → Constraint) → Choice v w t.constraints → holds_at v w t (conjunct_of q k) x ≡ b

-- whatever the pieces, nothing that has no dial makes individual x pass the conjunct at record k, a role's or a feature's
pub record Open (q c w : List ℕ) (t : Tables) (k x : ℕ) : Type 0 where
  pub role : kind_of q k ≡ 3 → (v : ℕ → Constraint) → Choice v w t.constraints →
      has_still c w t.individuals x (name_of q k) (holds_at v w t (conjuncts_at q (child_of q k))) ≡ false
  pub feature : (kind_of q k ≡ 3 → ⊥) → has_whole w t.constraints x (name_of q k) (lo_of q k) (hi_of q k) ≡ false

-- what is known of the conjunct at record k and individual x, if anything, is so
pub record Holds (q c w : List ℕ) (t : Tables) (k x : ℕ) (state : Option State) : Type 0 where
  pub passes : state ≡ Some Passes → Always q w t k x true
  pub fails : state ≡ Some Fails → Always q w t k x false
  pub rests : state ≡ Some Rests → Open q c w t k x

-- all that is remembered of the tables' individuals is so
pub record Sure (q c w : List ℕ) (t : Tables) (s : List ℕ) : Type 0 where
  pub known : (k slot : ℕ) → slot ≤ 16 → Individual t (entry_of s k slot / 4) → Holds q c w t k (entry_of s k slot / 4) (state_of (entry_of s k slot % 4))

-- ---- contracts

-- the tables hold a combination, what is remembered is so, and the records from k on are a chain of no more levels than are left
pub record Testable (q dials c w : List ℕ) (t : Tables) (s : List ℕ) (left k : ℕ) : Type 0 where
  pub testing : Testing dials w t
  pub listed : Listed c w t.individuals
  pub sure : Sure q c w t s
  pub reads : Reads q k (conjuncts_at q k)
  pub shallow : depth (conjuncts_at q k) ≤ left

-- the records from k on stand a level below what is left, and are held to what is at or below individual x
pub record Below (q dials c w : List ℕ) (t : Tables) (s : List ℕ) (left k x : ℕ) : Type 0 where
  pub level : 1 ≤ left
  pub testable : Testable q dials c w t s (left - 1) k
  pub individual : Individual t x

-- the tables hold a combination, what is remembered is so, and record k's conjunct has no more levels than are left and is held to individual x
pub record Asked (q dials c w : List ℕ) (t : Tables) (s : List ℕ) (left k x : ℕ) : Type 0 where
  pub testing : Testing dials w t
  pub listed : Listed c w t.individuals
  pub sure : Sure q c w t s
  pub conjunct : ConjunctOf q k
  pub shallow : depth (conjunct_of q k) ≤ left
  pub individual : Individual t x

-- the same, and record k is a role's or a feature's, of which and of individual x this much is known
pub record Pending (q dials c w : List ℕ) (t : Tables) (s : List ℕ) (left k x slot : ℕ) (state : Option State) : Type 0 where
  pub asked : Asked q dials c w t s left k x
  pub other : (kind_of q k ≡ 1 → ⊥) × (kind_of q k ≡ 2 → ⊥)
  pub slotted : slot ≤ 16
  pub known : Holds q c w t k x state

-- what is told of individual x, and what is remembered afterwards is so: the conjuncts from record k on; record k's conjunct alone; individual x
-- alone as a successor by a role; some successor of it by a role, of those in no list, and of those in one
pub record TellsAll (q dials c w : List ℕ) (t : Tables) (k x : ℕ) (s : List ℕ) (r : Reason) : Type 0 where
  pub tells : Tells dials w t (λ v. holds_at v w t (conjuncts_at q k) x) r
  pub sure : Sure q c w t s

pub record TellsOne (q dials c w : List ℕ) (t : Tables) (k x : ℕ) (s : List ℕ) (r : Reason) : Type 0 where
  pub tells : Tells dials w t (λ v. holds_at v w t (conjunct_of q k) x) r
  pub sure : Sure q c w t s

pub record TellsRow (q dials c w : List ℕ) (t : Tables) (k x role : ℕ) (s : List ℕ) (r : Reason) : Type 0 where
  pub tells : Tells dials w t (λ v. eqb (role_at w (pred x)) role && holds_at v w t (conjuncts_at q k) x) r
  pub sure : Sure q c w t s

pub record TellsStill (q dials c w : List ℕ) (t : Tables) (k x role : ℕ) (s : List ℕ) (r : Reason) : Type 0 where
  pub tells : Tells dials w t (λ v. has_still c w t.individuals x role (holds_at v w t (conjuncts_at q k))) r
  pub sure : Sure q c w t s

pub record TellsCarried (q dials c w : List ℕ) (t : Tables) (k x role : ℕ) (s : List ℕ) (r : Reason) : Type 0 where
  pub tells : Tells dials w t (λ v. has_carried c w t.individuals x role (holds_at v w t (conjuncts_at q k))) r
  pub sure : Sure q c w t s
