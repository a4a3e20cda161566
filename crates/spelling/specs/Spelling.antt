-- SPECIFICATION 6.7, the spelling of a policy: its possible terms in normal form, not split, in one order and without repeats.
use Rattle.std.specs.Prelude.{suc, ℕ, Bool, ◌||◌, List, [], ◌++◌, ◌∷◌, map, ltb}
use Rattle.meaning.specs.Accepted.{depth, total}
use Rattle.meaning.specs.Intervals.{Constraint}
use Rattle.meaning.specs.Limits.{most_depth, most_records}
use Rattle.meaning.specs.Lists.{any, filter}
use Rattle.meaning.specs.NormalForm.{Form, Node, Successors, none, normal_form, possible, successor}
use Rattle.meaning.specs.Policy.{Chain, Policy, class, end, impossible, interval, some}
use Rattle.meaning.specs.Vocabulary.{Vocabulary}
use Rattle.spelling.specs.Order.{sorted}

-- what is stated of an individual of a normal form: a class, a constraint, or a role with the chain of what it reaches
pub data Conjunct : Type 0 where
  is_in : ℕ → Conjunct
  within : ℕ → ℕ → ℕ → Conjunct
  reaches : ℕ → Chain → Conjunct

abbrev pub put : Conjunct → Chain → Chain
put (is_in a) next = class a next
put (within f lo hi) next = interval f lo hi next
put (reaches r child) next = some r child next

abbrev pub put_all : List Conjunct → Chain
put_all [] = end
put_all (x ∷ l) = put x (put_all l)

-- a chain's records (kind, a, lo, hi, depth) in walk order, field after field, in front of other fields. Each record has five fields,
-- so lists of records compare record by record and field by field exactly as these lists do
abbrev pub items : ℕ → Chain → List ℕ → List ℕ
items d end rest = rest
items d (class a next) rest = 1 ∷ (a ∷ (0 ∷ (0 ∷ (d ∷ items d next rest))))
items d (impossible next) rest = 2 ∷ (0 ∷ (0 ∷ (0 ∷ (d ∷ items d next rest))))
items d (some r child next) rest = 3 ∷ (r ∷ (0 ∷ (0 ∷ (d ∷ items (suc d) child (items d next rest)))))
items d (interval f lo hi next) rest = 4 ∷ (f ∷ (lo ∷ (hi ∷ (d ∷ items d next rest))))

-- terms go by the list of their records
abbrev pub term_key : Chain → List ℕ
term_key c = items 1 c []

-- classes rising, then constraints by feature, lo and hi, then roles by number and by the list of their inner records
abbrev pub key : Conjunct → List ℕ
key (is_in a) = 1 ∷ (a ∷ [])
key (within f lo hi) = 2 ∷ (f ∷ (lo ∷ (hi ∷ [])))
key (reaches r child) = 3 ∷ (r ∷ term_key child)

-- the conjuncts of an individual in that order, each once
abbrev pub put_in_order : List Conjunct → Chain
put_in_order l = put_all (sorted key l)

abbrev pub within_of : Constraint → Conjunct
within_of s = within s.feature s.lo s.hi

-- the conjuncts of an individual, with those of its roles
abbrev pub stated : Node → List Conjunct → List Conjunct
stated n roles = map is_in n.classes ++ (map within_of n.constraints ++ roles)

-- an individual's roles, with what they reach in order
abbrev pub roles_of : Successors → List Conjunct
roles_of none = []
roles_of (successor r n under next) = reaches r (put_in_order (stated n (roles_of under))) ∷ roles_of next

abbrev pub conjuncts_of : Form → List Conjunct
conjuncts_of t = stated t.node (roles_of t.successors)

unfoldable pub spelling : Form → Chain
spelling t = put_in_order (conjuncts_of t)

unfoldable pub spelled_term : Vocabulary → Chain → Chain
spelled_term K p = spelling (normal_form K p)

-- impossible terms are dropped, and of equal ones all but one
unfoldable pub spelled : Vocabulary → Policy → Policy
spelled K P = sorted term_key (map (spelled_term K) (filter (possible K) P))

-- 43: more records than a policy may have, or one that is too deep
unfoldable pub too_long : Policy → Bool
too_long P = ltb most_records (total P) || any (λ c. ltb most_depth (depth c)) P
