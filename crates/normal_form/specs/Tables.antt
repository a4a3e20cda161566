-- The tables of a normal form in the work slice: what `normalise` asks of its caller, and what it leaves behind.
use Rattle.std.specs.Prelude.{◌+◌, ◌<◌, ◌≤◌, ℕ, List, map, ◌≡◌, length}
use Rattle.frames.specs.Frames.{Only}
use Rattle.functional.specs.declared.Functional.{Functional}
use Rattle.layout.specs.Places.{InTables, tables_end}
use Rattle.layout.specs.Tables.{Tabled}
use Rattle.layout.specs.declared.Tables.{Tables}
use Rattle.meaning.specs.Accepted.{ChainOf, NamedChain, Reads, count}
use Rattle.meaning.specs.Limits.{most_classes, most_features, most_records, most_roles}
use Rattle.meaning.specs.Lists.{All}
use Rattle.meaning.specs.NormalForm.{has_bottom, normal_form}
use Rattle.meaning.specs.Policy.{Chain, child_of, name_of, term_at}
use Rattle.meaning.specs.Vocabulary.{vocabulary_of}
use Rattle.normal_form.specs.Parts.{arm_at, successors_of, weigh}
use Rattle.normal_form.specs.Steps.{ArmOf, Entry, Grown}
use Rattle.preparation.specs.Prepared.{Prepared}

-- what the readers tell of a term at record s, and room for the tables
pub record Fit (p w : List ℕ) (s : ℕ) : Type 0 where
  pub long : tables_end ≤ length w
  pub here : s ≡ 0 → ⊥
  pub nameless : name_of p s ≡ 0
  pub reads : Reads p (child_of p s) (term_at p s)
  pub named : NamedChain most_classes most_roles most_features (term_at p s)
  pub few : count (term_at p s) < most_records

-- whatever vocabulary the rows, the pairs and the functional names are prepared for, the tables hold the term's normal form by it
pub record Normalised (f : Functional) (c : Chain) (w w' : List ℕ) (r : Tables) : Type 0 where
  pub tabled : (v : List ℕ) → Prepared v w f → ChainOf v c → Tabled (vocabulary_of v) (normal_form (vocabulary_of v) c) w' r
  pub bottom : r.impossible ≡ has_bottom c
  pub most : (r.individuals ≤ most_records) × (r.constraints ≤ most_records)
  pub only : Only InTables w w'

-- records of terms, none of them 0, and room for the tables of them all
pub record FitAll (p w ts : List ℕ) : Type 0 where
  pub long : tables_end ≤ length w
  pub here : All (λ k. k ≡ 0 → ⊥) ts
  pub entries : All (Entry p) ts
  pub few : length ts + weigh (map (arm_at p) ts) ≤ most_records

-- whatever vocabulary is prepared, the tables hold the individuals of the terms, one behind another
pub record NormalisedAll (f : Functional) (p ts w w' : List ℕ) (r : Tables) : Type 0 where
  pub grown : (v : List ℕ) → Prepared v w f → All (ArmOf v) (map (arm_at p) ts) →
      Grown (vocabulary_of v) (successors_of (vocabulary_of v) (map (arm_at p) ts)) 0 0 0 w' r
  pub individuals : r.individuals ≤ most_records
  pub constraints : r.constraints ≤ most_records
  pub only : Only InTables w w'
