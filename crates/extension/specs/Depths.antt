-- How deep a policy's chains are, and the order of their records: a role's is right once those of the chain below it are.
use Rattle.std.specs.Prelude.{◌+◌, ◌<◌, ◌≤◌, max, suc, ℕ, Bool, ◌&&◌, cond, false, List, ◌≡◌, eqb, ltb, get_or}
use Rattle.extension.specs.Sets.{Charted, onward, own}
use Rattle.frames.specs.Frames.{Only, Span}
use Rattle.meaning.specs.Accepted.{depth}
use Rattle.meaning.specs.Limits.{most_depth}
use Rattle.meaning.specs.Model.{facts_of, individual_count}
use Rattle.meaning.specs.ModelCheck.{holds}
use Rattle.meaning.specs.Policy.{child_of, kind_of, next_of}
use Rattle.meaning.specs.Records.{Name}
use Rattle.policy.specs.Terms.{conjuncts_at}
use Rattle.satisfaction.specs.Classes.{Interpreted}
use Rattle.satisfaction.specs.Places.{height_place, heights_at, records_of, sets_end}
use Rattle.words.specs.Sets.{in_set}

-- ---- the table of depths

abbrev pub height_of : List ℕ → ℕ → ℕ
height_of w k = get_or w (height_place k) 0

abbrev pub own_height : List ℕ → List ℕ → ℕ → ℕ
own_height p w k =
    cond (eqb (kind_of p k) 3)
    (cond (ltb (height_of w (onward p k (child_of p k))) most_depth) (height_of w (onward p k (child_of p k)) + 1) most_depth) 1

abbrev pub height_at : List ℕ → List ℕ → ℕ → ℕ
height_at p w k = max (own_height p w k) (height_of w (onward p k (next_of p k)))

-- the table is right from record n on, and at the end of a chain
pub record MeasuredFrom (p : List ℕ) (n : ℕ) (w : List ℕ) : Type 0 where
  pub none : height_of w 0 ≡ 0
  pub tells : (k : ℕ) → n < k → Charted p k → height_of w k ≡ depth (conjuncts_at p k)

-- no chain from a record past n is deeper
pub record ToppedFrom (p : List ℕ) (n top : ℕ) : Type 0 where
  pub deepest : (k : ℕ) → n < k → Charted p k → depth (conjuncts_at p k) ≤ top

abbrev pub Measured : List ℕ → List ℕ → Type 0
Measured p w = MeasuredFrom p 0 w

abbrev pub Topped : List ℕ → ℕ → Type 0
Topped p top = ToppedFrom p 0 top

pub record AllMeasured (p w w' : List ℕ) (top : ℕ) : Type 0 where
  pub only : Only (Span heights_at sets_end) w w'
  pub measured : Measured p w'
  pub topped : Topped p top

-- ---- the rounds

-- how many rounds record k waits
abbrev pub rank : List ℕ → ℕ → ℕ
rank p k = cond (eqb (kind_of p k) 3) (suc (depth (conjuncts_at p (child_of p k)))) 0

-- after n rounds the records that wait no longer are right, and the others in no set
pub record Known (p m : List ℕ) (n : ℕ) (w : List ℕ) : Type 0 where
  pub right : (k i : ℕ) → (k ≡ 0 → ⊥) → Charted p k → rank p k ≤ n → Name (individual_count m) i → in_set (records_of w i) k ≡ own p m k i
  pub blank : (k i : ℕ) → (k ≡ 0 → ⊥) → Charted p k → n < rank p k → Name (individual_count m) i → in_set (records_of w i) k ≡ false

pub record Settled (p m : List ℕ) (n : ℕ) (w : List ℕ) : Type 0 where
  pub interpreted : Interpreted m w
  pub measured : Measured p w
  pub known : Known p m n w

-- r tells whether the chain from record k on holds of individual i, where its records are right
pub record Passes (p w : List ℕ) (i k : ℕ) (r : Bool) : Type 0 where
  pub tells : (m : List ℕ) (n : ℕ) → Known p m n w → Charted p k → depth (conjuncts_at p k) ≤ n → Name (individual_count m) i →
      r ≡ holds (facts_of m) (conjuncts_at p k) i

-- a role's record, with a chain n deep below it
abbrev pub is_due : List ℕ → List ℕ → ℕ → ℕ → Bool
is_due p w k n = eqb (kind_of p k) 3 && eqb (height_of w (onward p k (child_of p k))) n

-- of the records up to l none's turn has come
pub record NoneDueTo (p w : List ℕ) (n l : ℕ) : Type 0 where
  pub undue : (k : ℕ) → Name l k → is_due p w k n ≡ false
