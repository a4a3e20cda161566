-- Trying the combinations of a term: what is asked, and what the answer says.
use Rattle.std.specs.Prelude.{◌<◌, ◌≤◌, ℕ, false, true, List, Option, IfSome, None, Some, ◌≡◌, get_or, length}
use Rattle.carriers.specs.Carriers.{Listed}
use Rattle.frames.specs.Frames.{Only}
use Rattle.layout.specs.Combination.{Combined}
use Rattle.layout.specs.Nesting.{Nested}
use Rattle.layout.specs.Tables.{Pieces, Standing, Tabled, piece_at}
use Rattle.layout.specs.declared.Tables.{Tables}
use Rattle.meaning.specs.Accepted.{Reads, depth}
use Rattle.meaning.specs.Intervals.{Constraint}
use Rattle.meaning.specs.Containment.{passes}
use Rattle.meaning.specs.Limits.{most_combinations, most_depth}
use Rattle.meaning.specs.Lists.{◌∈◌, any, first_failing, found, nowhere}
use Rattle.meaning.specs.NormalForm.{Form}
use Rattle.meaning.specs.Policy.{Policy, child_of, policy_of, policy_refusal, term_at}
use Rattle.meaning.specs.Splitting.{combinations, product}
use Rattle.meaning.specs.Vocabulary.{Vocabulary}
use Rattle.odometer.specs.Odometer.{Counted, Dialled, StandsAt, most_dials}
use Rattle.splitting.specs.Ends.{Ends}
use Rattle.splitting.specs.Constraints.{Splittable, first_constraints}
use Rattle.retest.specs.Memory.{Sure}
use Rattle.retest.specs.Reasons.{Agrees, Choice, Testing}
use Rattle.subsumption.specs.Tests.{holds_at}
use Rattle.trial.specs.declared.Taken.{Taken}

-- q is a policy that was accepted by some vocabulary
pub record AcceptedPolicy (q : List ℕ) : Type 0 where
  pub vocabulary : List ℕ
  pub accepted : policy_refusal vocabulary q ≡ 0

-- the tables are a term's, with an individual, and q is an accepted policy
pub record Formed (q w : List ℕ) (t : Tables) : Type 0 where
  pub standing : Standing w t
  pub nested : Nested w t
  pub some : 1 ≤ t.individuals
  pub policy : AcceptedPolicy q

-- the tables hold a combination of a term, with an individual, q is an accepted policy, and what is remembered is so
pub record Askable (q dials c w : List ℕ) (t : Tables) (s : List ℕ) : Type 0 where
  pub testing : Testing dials w t
  pub listed : Listed c w t.individuals
  pub sure : Sure q c w t s
  pub some : 1 ≤ t.individuals
  pub policy : AcceptedPolicy q

-- record k is a term of q
pub record Term (q : List ℕ) (k : ℕ) : Type 0 where
  pub reads : Reads q (child_of q k) (term_at q k)
  pub shallow : depth (term_at q k) ≤ most_depth
  pub within : term_at q k ∈ policy_of q

-- record k is a term of q, unless k is 0
abbrev pub Known : List ℕ → ℕ → Type 0
Known q k = (k ≡ 0 → ⊥) → Term q k

-- a term of q takes the combination that the tables hold, relying on these dials alone
pub record Takes (q dials w : List ℕ) (t : Tables) (r : Taken) : Type 0 where
  pub known : Term q r.term
  pub takes : (v : ℕ → Constraint) → Choice v w t.constraints → Agrees dials w r.dials v → holds_at v w t (term_at q r.term) 1 ≡ true

-- what is told takes it, and what is remembered is so
pub record Taking (q dials c w : List ℕ) (t : Tables) (s : List ℕ) (r : Option Taken) : Type 0 where
  pub taken : IfSome r (Takes q dials w t)
  pub sure : Sure q c w t s

-- term k, where one is asked of and it takes the combination
pub record TakenBy (q dials c w : List ℕ) (t : Tables) (s : List ℕ) (k : Option ℕ) (r : Option Taken) : Type 0 where
  pub taking : Taking q dials c w t s r
  pub refused : r ≡ None → IfSome k (λ k. holds_at (piece_at w) w t (term_at q k) 1 ≡ false)

-- the same of any term, and none is told where none does
pub record Taker (q dials c w : List ℕ) (t : Tables) (s : List ℕ) (r : Option Taken) : Type 0 where
  pub taking : Taking q dials c w t s r
  pub none : r ≡ None → any (λ c. holds_at (piece_at w) w t c 1) (policy_of q) ≡ false

-- the tables are a term's, with few enough combinations, and e has the ends of the other policy q
pub record Triable (q e w : List ℕ) (t : Tables) : Type 0 where
  pub standing : Standing w t
  pub nested : Nested w t
  pub some : 1 ≤ t.individuals
  pub policy : AcceptedPolicy q
  pub splittable : Splittable w t.constraints
  pub ends : Ends (policy_of q) e
  pub few : product (policy_of q) (first_constraints w t.constraints) ≤ most_combinations

-- the same, and these are the dials
pub record Turnable (q e dials w : List ℕ) (t : Tables) : Type 0 where
  pub triable : Triable q e w t
  pub dialled : Dialled dials w t.constraints
  pub few : length dials ≤ most_dials

-- the tables stand at the first combination, and nothing is known yet
pub record Searchable (q e dials counts earlier w : List ℕ) (t : Tables) : Type 0 where
  pub turnable : Turnable q e dials w t
  pub first : (Q : Policy) → StandsAt Q w t.constraints (λ m. 0)
  pub counted : Counted e dials w counts
  pub size : length earlier ≡ length dials

-- every word is 0
abbrev pub Blank : List ℕ → Type 0
Blank l = (i : ℕ) → get_or l i 0 ≡ 0

-- each number is one
abbrev pub Positive : List ℕ → Type 0
Positive l = (d : ℕ) → d < length l → 1 ≤ get_or l d 0

-- all that is kept while the combinations are tried: the carriers, what the structural test remembers, and terms of q
pub record Remembers (q c w : List ℕ) (t : Tables) (s takers : List ℕ) : Type 0 where
  pub listed : Listed c w t.individuals
  pub sure : Sure q c w t s
  pub terms : (i : ℕ) → Known q (get_or takers i 0)

-- the answer for a form's combinations: none where none fails; else the first to fail, counted from 1, which the tables hold
abbrev pub Failure : Vocabulary → Policy → Form → List ℕ → Tables → Option ℕ → Type 0
Failure K Q F w t None = first_failing (passes K Q) 1 (combinations Q F) ≡ nowhere
Failure K Q F w t (Some k) = (u : Form) × (first_failing (passes K Q) 1 (combinations Q F) ≡ found k u) × Combined K u w t

-- the answer is that for whatever form the tables hold, by whatever vocabulary; nothing but pieces has changed
pub record Tried (Q : Policy) (w w' : List ℕ) (t : Tables) (r : Option ℕ) : Type 0 where
  pub told : (K : Vocabulary) (F : Form) → Tabled K F w t → Failure K Q F w' t r
  pub only : Only (Pieces t.constraints) w w'
