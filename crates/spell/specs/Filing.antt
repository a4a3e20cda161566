-- What the tables hold of a policy's possible terms, and what is written of it.
use Rattle.meaning.specs.declared.refusals.Refusal.{Refusal}
use Rattle.std.specs.Prelude.{◌+◌, ◌<◌, ◌≤◌, ℕ, true, List, map, ◌≡◌, length, Result}
use Rattle.arrangement.specs.Insertion.{arranged}
use Rattle.arrangement.specs.Listing.{entries_of}
use Rattle.arrangement.specs.Runs.{Fronted, policy_items}
use Rattle.arrangement.specs.Steps.{Depths}
use Rattle.entries.specs.Entries.{item_at}
use Rattle.frames.specs.Rows.{row_at}
use Rattle.functional.specs.declared.Functional.{Functional}
use Rattle.layout.specs.Places.{tables_end}
use Rattle.layout.specs.Tables.{parent_at}
use Rattle.layout.specs.declared.Tables.{Tables}
use Rattle.meaning.specs.Answers.{filling_answer}
use Rattle.meaning.specs.Limits.{most_records}
use Rattle.meaning.specs.Lists.{All, filter}
use Rattle.meaning.specs.NormalForm.{possible}
use Rattle.meaning.specs.Operations.{output_after}
use Rattle.meaning.specs.Policy.{Policy, policy_of, term_at}
use Rattle.meaning.specs.Vocabulary.{vocabulary_of}
use Rattle.policy.specs.Terms.{TermOf}
use Rattle.preparation.specs.Prepared.{Accepting}
use Rattle.spelling.specs.Operation.{filed}
use Rattle.spelling.specs.Spelling.{spelled}

-- the records are those of the possible terms, in order
pub record Collected (v p ts : List ℕ) : Type 0 where
  pub here : All (λ k. k ≡ 0 → ⊥) ts
  pub terms : All (TermOf v p) ts
  pub possible : map (term_at p) ts ≡ filter (possible (vocabulary_of v)) (policy_of p)

-- the first r words, by whatever vocabulary is prepared
pub record CollectedBy (p w : List ℕ) (f : Functional) (ts : List ℕ) (r : ℕ) : Type 0 where
  pub few : r ≤ length ts
  pub collected : (v : List ℕ) → Accepting v p w f → Collected v p (row_at r ts 0)

-- the tables have a row for each individual after its parent's, and no more entries than a policy may have records
pub record Listed (w : List ℕ) (t : Tables) : Type 0 where
  pub long : tables_end ≤ length w
  pub before : (j : ℕ) → j < t.individuals → parent_at w j ≤ j
  pub few : t.individuals + t.constraints ≤ most_records

-- the entries of the tables, arranged, are the policy's
pub record HoldsItems (w : List ℕ) (t : Tables) (P : Policy) : Type 0 where
  pub items : (ds : List ℕ) → Depths w t.individuals ds → arranged (map (item_at w ds) (entries_of w t)) ≡ policy_items P
  pub fronted : All (Fronted true) P

-- the tables hold the spelling of p
pub record LaidOut (v p w : List ℕ) (t : Tables) : Type 0 where
  pub listed : Listed w t
  pub holds : HoldsItems w t (spelled (vocabulary_of v) (policy_of p))

-- the policy is written, or it is refused
pub record Filed (P : Policy) (o o' : List ℕ) (r : Result ℕ Refusal) : Type 0 where
  pub answer : filling_answer r ≡ (filed P (length o)).answer
  pub output : o' ≡ output_after (filed P (length o)).words o

-- whichever the tables hold
abbrev pub FiledBy : List ℕ → Tables → List ℕ → List ℕ → Result ℕ Refusal → Type 0
FiledBy w t o o' r = (P : Policy) → HoldsItems w t P → Filed P o o' r
