-- SPECIFICATION 7.1 and 7.2: the ends of the second policy, as keys that rise, and the next piece's upper end.
use Rattle.std.specs.Prelude.{◌*◌, ◌+◌, ◌<◌, ◌≤◌, pred, suc, ℕ, cond, List, [], ◌++◌, ◌∷◌, ◌≡◌, eqb, ltb, length, take}
use Rattle.keys.specs.Keys.{key_of, value_count}
use Rattle.meaning.specs.Accepted.{Reads, count, depth}
use Rattle.meaning.specs.Limits.{most_records}
use Rattle.meaning.specs.Lists.{◌∈◌, flat_map}
use Rattle.meaning.specs.Policy.{Chain, Policy, class, end, impossible, interval, policy_refusal, some}
use Rattle.meaning.specs.Splitting.{Sorted, ends}
use Rattle.policy.specs.Terms.{ConjunctOf, conjunct_of, conjuncts_at}

-- ---- the ends

-- SPECIFICATION 7.1: every end on f in the second policy as given
abbrev pub ends_on : Policy → ℕ → List ℕ
ends_on Q f = flat_map (ends f) Q

-- the keys rise, and are those of the policy's ends
pub record Ends (Q : Policy) (e : List ℕ) : Type 0 where
  pub rising : Sorted e
  pub all : (f x : ℕ) → x ∈ ends_on Q f → key_of f x ∈ e
  pub only : (f x : ℕ) → x < value_count → key_of f x ∈ e → x ∈ ends_on Q f

-- the keys of a chain, as the walk goes: two for each constraint
abbrev pub keys_of : Chain → List ℕ
keys_of end = []
keys_of (class a next) = keys_of next
keys_of (impossible next) = keys_of next
keys_of (some r child next) = keys_of child ++ keys_of next
keys_of (interval f lo hi next) = key_of f lo ∷ (key_of f hi ∷ keys_of next)

-- room for the keys of a policy: a constraint has two, and a policy no more records
abbrev pub end_words : ℕ
end_words = 2 * most_records

-- the conjuncts from record k on are read, with at most so many levels, and there is room for their keys after n words
pub record Chained (q e : List ℕ) (left k n : ℕ) : Type 0 where
  pub reads : Reads q k (conjuncts_at q k)
  pub shallow : depth (conjuncts_at q k) ≤ left
  pub room : n + 2 * count (conjuncts_at q k) ≤ length e

-- record k is a conjunct's, which has at most so many levels, and there is room for its keys after n words
pub record Single (q e : List ℕ) (left k n : ℕ) : Type 0 where
  pub conjunct : ConjunctOf q k
  pub shallow : depth (conjunct_of q k) ≤ left
  pub room : n + 2 * count (conjunct_of q k) ≤ length e

-- some vocabulary accepts the policy, and there is room for its keys
pub record Collectable (q e : List ℕ) : Type 0 where
  pub vocabulary : List ℕ
  pub accepted : policy_refusal vocabulary q ≡ 0
  pub room : end_words ≤ length e

-- the first r words are the ends of the policy
pub record Collected (Q : Policy) (e e' : List ℕ) (r : ℕ) : Type 0 where
  pub same : length e' ≡ length e
  pub within : r ≤ length e'
  pub ends : Ends Q (take r e')

-- ---- the next piece

-- the least of the list's members that are above x and below h, else h
unfoldable pub least : List ℕ → ℕ → ℕ → ℕ
least [] x h = h
least (e ∷ l) x h = least l x (cond (ltb x e) (cond (ltb e h) e h) h)

-- with y the next member of X above p: y itself where it is the next number, else the last number of the gap before it
abbrev pub up_to : ℕ → ℕ → ℕ
up_to p y = cond (eqb y (suc p)) y (pred y)

-- the upper end of the piece after p, of a constraint with upper end h and the ends l
unfoldable pub upper : List ℕ → ℕ → ℕ → ℕ
upper l h p = up_to p (least l p h)

-- what is told of the ends on f of whatever policy the keys are the ends of
abbrev pub NextEnd : List ℕ → ℕ → ℕ → ℕ → ℕ → Type 0
NextEnd e f x h r = (Q : Policy) → Ends Q e → r ≡ least (ends_on Q f) x h

abbrev pub NextUpper : List ℕ → ℕ → ℕ → ℕ → ℕ → Type 0
NextUpper e f h p r = (Q : Policy) → Ends Q e → r ≡ upper (ends_on Q f) h p
