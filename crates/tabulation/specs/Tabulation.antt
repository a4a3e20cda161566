-- What one term's tables tell: whether the term is possible, by whatever vocabulary is prepared.
use Rattle.std.specs.Prelude.{ℕ, false, not, true, List, ◌≡◌}
use Rattle.frames.specs.Frames.{Only}
use Rattle.functional.specs.declared.Functional.{Functional}
use Rattle.layout.specs.Places.{InTables}
use Rattle.layout.specs.Tables.{Standing, Tabled}
use Rattle.layout.specs.declared.Tables.{Tables}
use Rattle.meaning.specs.Accepted.{ChainOf}
use Rattle.meaning.specs.Lists.{all, counting}
use Rattle.meaning.specs.NormalForm.{normal_form, possible}
use Rattle.meaning.specs.Policy.{Chain}
use Rattle.meaning.specs.Vocabulary.{vocabulary_of}
use Rattle.preparation.specs.Prepared.{Prepared}
use Rattle.tabulation.specs.Clean.{clean_form, non_empty_at}

-- by whatever vocabulary is prepared and has the term's names, the tables hold the term's normal form; where the flag is set the term is
-- impossible, else each constraint has a value, and the term is possible where rules 3 and 7 find nothing
pub record Shaped (c : Chain) (f : Functional) (w w' : List ℕ) (r : Tables) : Type 0 where
  pub tabled : (v : List ℕ) → Prepared v w f → ChainOf v c → Tabled (vocabulary_of v) (normal_form (vocabulary_of v) c) w' r
  pub never : (v : List ℕ) → Prepared v w f → ChainOf v c → r.impossible ≡ true → possible (vocabulary_of v) c ≡ false
  pub clean : (v : List ℕ) → r.impossible ≡ false → possible (vocabulary_of v) c ≡ clean_form (vocabulary_of v) (normal_form (vocabulary_of v) c)
  pub non_empty : r.impossible ≡ false → all (non_empty_at w') (counting 0 r.constraints) ≡ true
  pub standing : Standing w' r
  pub only : Only InTables w w'

-- by whatever vocabulary is prepared and has the term's names, the tables hold the term's normal form, and the flag tells whether the term
-- is impossible
pub record Tabulated (c : Chain) (f : Functional) (w w' : List ℕ) (r : Tables) : Type 0 where
  pub impossible : (v : List ℕ) → Prepared v w f → ChainOf v c → r.impossible ≡ not (possible (vocabulary_of v) c)
  pub tabled : (v : List ℕ) → Prepared v w f → ChainOf v c → Tabled (vocabulary_of v) (normal_form (vocabulary_of v) c) w' r
  pub standing : Standing w' r
  pub only : Only InTables w w'
