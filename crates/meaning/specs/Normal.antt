-- What a normal form is: a functional role stands once at an individual, a functional feature once, and each individual is in its
-- role's ranges. `proofs/Normal` proves it of every normal form; the size of a countermodel rests on it.
use Rattle.std.specs.Prelude.{ℕ, List, [], ◌∷◌, ◌≡◌, T}
use Rattle.meaning.specs.Intervals.{Constraint}
use Rattle.meaning.specs.Lists.{All, ◌∈◌}
use Rattle.meaning.specs.NormalForm.{Form, Node, Successors, none, successor}
use Rattle.meaning.specs.Records.{Name}
use Rattle.meaning.specs.Stated.{is_functional_feature, is_functional_role, ranges, subclasses}
use Rattle.meaning.specs.Vocabulary.{Vocabulary}

-- no successor by r
abbrev pub Fresh : ℕ → Successors → Type 0
Fresh r none = Unit {0}
Fresh r (successor q n under next) = (r ≡ q → ⊥) × Fresh r next

-- a functional feature is constrained once
abbrev pub Distinct : Vocabulary → List Constraint → Type 0
Distinct K [] = Unit {0}
Distinct K (s ∷ l) = (T (is_functional_feature K s.feature) → All (λ x. s.feature ≡ x.feature → ⊥) l) × Distinct K l

-- B bounds the classes
pub record NormalNode (B : ℕ → Type 0) (K : Vocabulary) (n : Node) : Type 0 where
  pub bounded : All B n.classes
  pub distinct : Distinct K n.constraints

abbrev pub NormalSuccessors : (ℕ → Type 0) → Vocabulary → Successors → Type 0
NormalSuccessors B K none = Unit {0}
NormalSuccessors B K (successor r n under next) =
    (T (is_functional_role K r) → Fresh r next) × All (λ c. c ∈ n.classes) (ranges K r) × NormalNode B K n
    × NormalSuccessors B K under × NormalSuccessors B K next

pub record Normal (B : ℕ → Type 0) (K : Vocabulary) (t : Form) : Type 0 where
  pub node : NormalNode B K t.node
  pub successors : NormalSuccessors B K t.successors

-- the classes that a vocabulary gives are among those that it counts
pub record Bounded (K : Vocabulary) : Type 0 where
  pub above : (a b : ℕ) → (a, b) ∈ subclasses K → Name K.classes b
  pub ranged : (r c : ℕ) → c ∈ ranges K r → Name K.classes c
