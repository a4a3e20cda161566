-- What is read of a record: the case of its kind, with the names that its words have.
use Rattle.std.specs.Prelude.{ℕ, Bool, List, None, Option, Some, ◌≡◌, eqb, false}
use Rattle.meaning.specs.Records.{is_name}
use Rattle.meaning.specs.Vocabulary.{Axiom as Stated, axiom_at, axiom_kind, axiom_left, below, disjoint, functional_feature, functional_role}
use Rattle.meaning.specs.Vocabulary.{many_feature, many_role, range}
use Rattle.vocabulary.specs.declared.Axiom.{Axiom}
use Rattle.vocabulary.specs.declared.Axiom.TheVariants as kind

-- its kind
abbrev pub kind_of : Axiom → ℕ
kind_of (kind.Below a b) = 1
kind_of (kind.Disjoint a b) = 2
kind_of (kind.FunctionalRole r) = 3
kind_of (kind.FunctionalFeature f) = 4
kind_of (kind.Range r c) = 5
kind_of (kind.ManyRole r) = 6
kind_of (kind.ManyFeature f) = 7

-- whether what is read is of a kind
abbrev pub is_of : ℕ → Option Axiom → Bool
is_of kind (Some x) = eqb (kind_of x) kind
is_of kind None = false

-- what it stands for
abbrev pub stated_by : Axiom → Stated
stated_by (kind.Below a b) = below a.0 b.0
stated_by (kind.Disjoint a b) = disjoint a.0 b.0
stated_by (kind.FunctionalRole r) = functional_role r.0
stated_by (kind.FunctionalFeature f) = functional_feature f.0
stated_by (kind.Range r c) = range r.0 c.0
stated_by (kind.ManyRole r) = many_role r.0
stated_by (kind.ManyFeature f) = many_feature f.0

-- what a record of no kind is taken to state, with its first name: no record that fits is one
abbrev pub stated_or : ℕ → Option Axiom → Stated
stated_or a (Some x) = stated_by x
stated_or a None = many_feature a

-- the kind of what is read
abbrev pub KindRead : ℕ → Option Axiom → Type 0
KindRead kind (Some x) = kind ≡ kind_of x
KindRead kind None = is_name 7 kind ≡ false

-- r is what is read of record k
pub record AxiomRead (v : List ℕ) (k : ℕ) (r : Option Axiom) : Type 0 where
  pub kind : KindRead (axiom_kind v k) r
  pub stated : axiom_at v k ≡ stated_or (axiom_left v k) r
