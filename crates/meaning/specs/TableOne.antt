-- Bonatti, Table 1: when one of its rules, given by its number, applies somewhere in a form.
-- Rules 1, ⊥ ⊓ D ⇝ ⊥, and 2, ∃R.⊥ ⇝ ⊥, are of the impossible concept, which no form holds: `possible` refuses a term that has it.
use Rattle.std.specs.Prelude.{ℕ, Bool, ◌||◌, List, ◌∷◌, ◌⊎◌, ◌≡◌, T, eqb}
use Rattle.meaning.specs.Intervals.{Empty}
use Rattle.meaning.specs.Lists.{Any, ◌∈◌}
use Rattle.meaning.specs.NormalForm.{Form, Node, Successors, successor}
use Rattle.meaning.specs.Stated.{disjoint_pairs, is_below, is_functional_feature, is_functional_role, ranges}
use Rattle.meaning.specs.Vocabulary.{Vocabulary}

-- two elements of a list, at different places, have R
pub data Two {A : Type 0} (R : A → A → Type 0) : List A → Type 0 where
  first_of_two : {x : A} {l : List A} → Any (R x) l → Two R (x ∷ l)
  two_later : {x : A} {l : List A} → Two R l → Two R (x ∷ l)

-- a rule applies at one individual's own conjuncts
pub data AppliesAt (K : Vocabulary) : ℕ → Node → Type 0 where
  -- 3: [l, u](f) ⇝ ⊥ if l > u
  rule3 : {n : Node} → Any (λ s. Empty s.lo s.hi) n.constraints → AppliesAt K 3 n
  -- 5: [l₁, u₁](f) ⊓ [l₂, u₂](f) ⊓ D ⇝ [max(l₁, l₂), min(u₁, u₂)](f) ⊓ D if func(f) ∈ K
  rule5 : {n : Node} {f : ℕ} → T (is_functional_feature K f) → Two (λ s t. (f ≡ s.feature) × (f ≡ t.feature)) n.constraints →
      AppliesAt K 5 n
  -- 7: A₁ ⊓ A₂ ⊓ D ⇝ ⊥ if A₁ ⊑* A₁', A₂ ⊑* A₂' and disj(A₁', A₂') ∈ K; one class may be taken twice (SPECIFICATION 6.5)
  rule7 : {n : Node} {x y : ℕ} → (x, y) ∈ disjoint_pairs K →
      Any (λ a. T (is_below K a x)) n.classes → Any (λ b. T (is_below K b y)) n.classes → AppliesAt K 7 n

-- one of the successors is by r
pub data ByRole (r : ℕ) : Successors → Type 0 where
  by_first : {q : ℕ} {n : Node} {under next : Successors} → r ≡ q → ByRole r (successor q n under next)
  by_later : {q : ℕ} {n : Node} {under next : Successors} → ByRole r next → ByRole r (successor q n under next)

-- a rule applies at an individual's successors, or at an individual below
pub data AppliesIn (K : Vocabulary) : ℕ → Successors → Type 0 where
  -- 4: (∃R.D) ⊓ (∃R.D') ⊓ D'' ⇝ ∃R.(D ⊓ D') ⊓ D'' if func(R) ∈ K
  rule4 : {r : ℕ} {n : Node} {under next : Successors} → T (is_functional_role K r) → ByRole r next → AppliesIn K 4 (successor r n under next)
  -- 6: ∃R.D ⊓ D' ⇝ ∃R.(D ⊓ A) ⊓ D' if range(R, A) ∈ K and A not a conjunct of D
  rule6 : {r c : ℕ} {n : Node} {under next : Successors} → c ∈ ranges K r → (c ∈ n.classes → ⊥) → AppliesIn K 6 (successor r n under next)
  -- a rule applies at the first successor itself, below it, or at a later one
  at_this : {k r : ℕ} {n : Node} {under next : Successors} → AppliesAt K k n → AppliesIn K k (successor r n under next)
  below_this : {k r : ℕ} {n : Node} {under next : Successors} → AppliesIn K k under → AppliesIn K k (successor r n under next)
  at_later : {k r : ℕ} {n : Node} {under next : Successors} → AppliesIn K k next → AppliesIn K k (successor r n under next)

-- rule k applies somewhere in the form
abbrev pub Applies : Vocabulary → ℕ → Form → Type 0
Applies K k t = AppliesAt K k t.node ⊎ AppliesIn K k t.successors

-- of rules 3 to 7 those that end in ⊥
abbrev pub collapses : ℕ → Bool
collapses k = eqb k 3 || eqb k 7
