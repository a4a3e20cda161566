-- SPECIFICATION 6.7, what is so of a spelling: each individual's conjuncts rise strictly, at every depth, and nothing impossible stands there.
use Rattle.std.specs.Prelude.{ℕ, List, [], ◌∷◌, T}
use Rattle.meaning.specs.Lists.{All}
use Rattle.meaning.specs.Policy.{Chain, class, end, impossible, interval, some}
use Rattle.spelling.specs.Order.{is_before}
use Rattle.spelling.specs.Spelling.{Conjunct, is_in, key, reaches, within}

-- each is before all that follow it: so none stands twice
abbrev pub Rising : {A : Type 0} → (A → List ℕ) → List A → Type 0
Rising k [] = Unit {0}
Rising k (x ∷ l) = All (λ y. T (is_before (k x) (k y))) l × Rising k l

-- the conjuncts of a chain
abbrev pub conjuncts : Chain → List Conjunct
conjuncts end = []
conjuncts (class a next) = is_in a ∷ conjuncts next
conjuncts (impossible next) = conjuncts next
conjuncts (some r child next) = reaches r child ∷ conjuncts next
conjuncts (interval f lo hi next) = within f lo hi ∷ conjuncts next

-- below and behind
abbrev pub OrderedBelow : Chain → Type 0
OrderedBelow end = Unit {0}
OrderedBelow (class a next) = OrderedBelow next
OrderedBelow (impossible next) = ⊥
OrderedBelow (some r child next) = Rising key (conjuncts child) × OrderedBelow child × OrderedBelow next
OrderedBelow (interval f lo hi next) = OrderedBelow next

abbrev pub Ordered : Chain → Type 0
Ordered c = Rising key (conjuncts c) × OrderedBelow c
