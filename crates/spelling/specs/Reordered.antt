-- Chains and policies that differ in the order of their conjuncts, at any depth, and of their terms.
use Rattle.std.specs.Prelude.{ℕ, [], ◌∷◌}
use Rattle.meaning.specs.Policy.{Chain, Policy, class, impossible, interval, some}
use Rattle.spelling.specs.Spelling.{Conjunct, put}

-- neighbours change places, in front or behind other conjuncts, here or in what a role reaches, one after another
pub data Reordered : Chain → Chain → Type 0 where
  unmoved : (c : Chain) → Reordered c c
  swapped : (x y : Conjunct) (c : Chain) → Reordered (put x (put y c)) (put y (put x c))
  raised : (x : Conjunct) (c : Chain) → Reordered (put x (impossible c)) (impossible (put x c))
  lowered : (x : Conjunct) (c : Chain) → Reordered (impossible (put x c)) (put x (impossible c))
  after_class : (a : ℕ) {c d : Chain} → Reordered c d → Reordered (class a c) (class a d)
  after_impossible : {c d : Chain} → Reordered c d → Reordered (impossible c) (impossible d)
  in_or_after_some : (r : ℕ) {b c d e : Chain} → Reordered b c → Reordered d e → Reordered (some r b d) (some r c e)
  after_interval : (f lo hi : ℕ) {c d : Chain} → Reordered c d → Reordered (interval f lo hi c) (interval f lo hi d)
  in_turn : {b c d : Chain} → Reordered b c → Reordered c d → Reordered b d

pub data ReorderedTerms : Policy → Policy → Type 0 where
  no_terms : ReorderedTerms [] []
  first_term : {c d : Chain} {P Q : Policy} → Reordered c d → ReorderedTerms P Q → ReorderedTerms (c ∷ P) (d ∷ Q)
  swapped_terms : (c d : Chain) (P : Policy) → ReorderedTerms (c ∷ (d ∷ P)) (d ∷ (c ∷ P))
  terms_in_turn : {P Q R : Policy} → ReorderedTerms P Q → ReorderedTerms Q R → ReorderedTerms P R
