-- The sets of a policy's records: which record's conjunct holds of an individual, and what is put in first, of classes and features.
use Rattle.std.specs.Prelude.{◌<◌, ◌≤◌, ℕ, Bool, ◌&&◌, ◌||◌, cond, false, List, ◌≡◌, eqb, leb, ltb, length}
use Rattle.frames.specs.Frames.{Only, Span}
use Rattle.meaning.specs.Accepted.{ChainOf, Reads, depth}
use Rattle.meaning.specs.Limits.{most_depth, most_individuals, most_records, most_roles}
use Rattle.meaning.specs.Lists.{any}
use Rattle.meaning.specs.Model.{Fact, edge, facts_of, individual_count, member, value}
use Rattle.meaning.specs.ModelCheck.{holds, is_in, is_member}
use Rattle.meaning.specs.Policy.{child_of, kind_of, name_of, policy_of, policy_refusal}
use Rattle.meaning.specs.Records.{Name, last_of}
use Rattle.meaning.specs.Vocabulary.{role_count, vocabulary_refusal}
use Rattle.policy.specs.Terms.{conjuncts_at}
use Rattle.satisfaction.specs.Classes.{Interpreted, owner_of}
use Rattle.satisfaction.specs.Places.{classes_of, heights_at, put_in, record_words, records_of, set_place, sets_at, sets_end}
use Rattle.spans.specs.Values.{valued}
use Rattle.words.specs.Sets.{in_set}

-- ---- the records

-- the policy's words have a header, and not too many records
pub record Sized (p : List ℕ) : Type 0 where
  pub headed : 6 ≤ length p
  pub few : last_of 6 p ≤ most_records

-- record k's link x where it goes onward, else 0
abbrev pub onward : List ℕ → ℕ → ℕ → ℕ
onward p k x = cond (ltb k x && leb x (last_of 6 p)) x 0

pub record Linked (p : List ℕ) (k x r : ℕ) : Type 0 where
  pub link : r ≡ onward p k x
  pub few : r ≤ most_records

-- the records from k on are a chain, of roles that a set is kept for, and not too deep
pub record Charted (p : List ℕ) (k : ℕ) : Type 0 where
  pub vocabulary : List ℕ
  pub reads : Reads p k (conjuncts_at p k)
  pub named : ChainOf vocabulary (conjuncts_at p k)
  pub roles : role_count vocabulary ≤ most_roles
  pub shallow : depth (conjuncts_at p k) ≤ most_depth

-- the policy is accepted by some vocabulary that is accepted
abbrev pub Taken : List ℕ → Type 0
Taken p = (v : List ℕ) × (vocabulary_refusal v ≡ 0) × (policy_refusal v p ≡ 0)

-- ---- the conjunct at record k

-- kind 3: role a reaches an individual of which the child chain holds
abbrev pub edge_into : ℕ → (ℕ → Bool) → Fact → Bool
edge_into a q (member b i) = false
edge_into a q (edge r i j) = eqb a r && q j
edge_into a q (value f i v) = false

-- the individuals of which it holds: those in the class, those with an edge or a value that a fact shows
abbrev pub in_class : List ℕ → List ℕ → ℕ → ℕ → Bool
in_class p m k i = any (is_member (name_of p k) i) (facts_of m)

abbrev pub reached : List ℕ → List ℕ → ℕ → ℕ → Bool
reached p m k i = any (λ x. eqb i (owner_of x) && edge_into (name_of p k) (holds (facts_of m) (conjuncts_at p (child_of p k))) x) (facts_of m)

-- what needs no other record's sets, and all
abbrev pub early : List ℕ → List ℕ → ℕ → ℕ → Bool
early p m k i = cond (eqb (kind_of p k) 1) (in_class p m k i) (cond (eqb (kind_of p k) 4) (valued p m k i) false)

abbrev pub own : List ℕ → List ℕ → ℕ → ℕ → Bool
own p m k i = cond (eqb (kind_of p k) 3) (reached p m k i) (early p m k i)

-- ---- put in

-- record k is in the set of individual i
abbrev pub marked : List ℕ → ℕ → ℕ → List ℕ
marked w k i = put_in record_words w (set_place i) k

-- by individual i's classes
abbrev pub marked_member : List ℕ → ℕ → List ℕ → ℕ → List ℕ
marked_member p k w i = cond (in_set (classes_of w i) (name_of p k)) (marked w k i) w

-- record k is put into the sets of those that pass the test, and no other record into any
pub record Marked (m : List ℕ) (k : ℕ) (test : ℕ → Bool) (w w' : List ℕ) : Type 0 where
  pub only : Only (Span sets_at heights_at) w w'
  pub marks : (i : ℕ) → Name (individual_count m) i → in_set (records_of w' i) k ≡ in_set (records_of w i) k || test i
  pub others : (i j : ℕ) → Name most_individuals i → (j ≡ k → ⊥) → in_set (records_of w' i) j ≡ in_set (records_of w i) j

abbrev pub MembersMarked : List ℕ → List ℕ → ℕ → List ℕ → List ℕ → Type 0
MembersMarked p m k w w' = Marked m k (in_class p m k) w w'

abbrev pub ClassMarked : List ℕ → List ℕ → ℕ → List ℕ → List ℕ → Type 0
ClassMarked p m k w w' = Marked m k (λ i. eqb (kind_of p k) 1 && in_class p m k i) w w'

-- the sets have what needs no other record's: of the records past n only those of features
pub record MarkedTo (p m : List ℕ) (n : ℕ) (w : List ℕ) : Type 0 where
  pub tells : (k i : ℕ) → Name n k → Name (individual_count m) i → in_set (records_of w i) k ≡ early p m k i
  pub rest : (k i : ℕ) → n < k → k ≤ last_of 6 p → Name (individual_count m) i →
      in_set (records_of w i) k ≡ eqb (kind_of p k) 4 && valued p m k i

pub record AllMarked (p m w w' : List ℕ) : Type 0 where
  pub marked : MarkedTo p m (last_of 6 p) w'
  pub only : Only (Span sets_at heights_at) w w'

-- ---- the answer

-- r tells whether individual 1 is in the policy; only the sets of records changed, and more may be asked of the model
pub record Extended (p m w w' : List ℕ) (r : Bool) : Type 0 where
  pub told : r ≡ is_in (facts_of m) (policy_of p) 1
  pub interpreted : Interpreted m w'
  pub only : Only (Span sets_at sets_end) w w'
