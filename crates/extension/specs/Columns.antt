-- The tables beside the work slice: a role's records, and the records that hold below an individual; and what an edge makes of them.
use Rattle.std.specs.Prelude.{◌*◌, ◌+◌, ◌-◌, ◌<◌, ◌≤◌, ℕ, Bool, ◌&&◌, ◌||◌, cond, false, true, List, ◌≡◌, eqb, length}
use Rattle.extension.specs.Depths.{Known, Passes, is_due, rank}
use Rattle.extension.specs.Sets.{Charted, Sized, onward}
use Rattle.frames.specs.Frames.{Only, Span}
use Rattle.frames.specs.Rows.{row_at}
use Rattle.meaning.specs.Limits.{most_individuals, most_records, most_roles, work_size}
use Rattle.meaning.specs.Model.{Fact, edge, facts_of, individual_count, member, value}
use Rattle.meaning.specs.ModelCheck.{holds}
use Rattle.meaning.specs.Policy.{child_of, name_of}
use Rattle.meaning.specs.Records.{Name, is_name, last_of}
use Rattle.model.specs.Chain.{Readable, Stated}
use Rattle.policy.specs.Terms.{conjuncts_at}
use Rattle.satisfaction.specs.Classes.{Interpreted}
use Rattle.satisfaction.specs.Places.{put_in, record_words}
use Rattle.spans.specs.Joining.{AllHanded, Handed}
use Rattle.words.specs.Sets.{in_set}

abbrev pub mask_place : ℕ → ℕ
mask_place r = (r - 1) * record_words

abbrev pub mask_of : List ℕ → ℕ → List ℕ
mask_of c r = row_at record_words c (mask_place r)

abbrev pub columns_at : ℕ
columns_at = most_roles * record_words

abbrev pub column_place : ℕ → ℕ
column_place j = columns_at + (j - 1) * record_words

abbrev pub column_of : List ℕ → ℕ → List ℕ
column_of c j = row_at record_words c (column_place j)

abbrev pub columns_end : ℕ
columns_end = columns_at + most_individuals * record_words

-- ---- one record

pub record Fillable (p m w c : List ℕ) (k : ℕ) : Type 0 where
  pub sized : Sized p
  pub conjunct : Name most_records k
  pub interpreted : Interpreted m w
  pub room : columns_end ≤ length c

pub record CellFillable (p w c : List ℕ) (j : ℕ) : Type 0 where
  pub sized : Sized p
  pub individual : Name most_individuals j
  pub long : work_size ≤ length w
  pub room : columns_end ≤ length c

-- in the column of individual j, where the chain below holds of it
pub record CellFilled (p w : List ℕ) (k j : ℕ) (c c' : List ℕ) : Type 0 where
  pub test : Bool
  pub passes : Passes p w j (onward p k (child_of p k)) test
  pub words : c' ≡ cond test (put_in record_words c (column_place j) k) c

-- the chain below record k holds of individual j
abbrev pub below : List ℕ → List ℕ → ℕ → ℕ → Bool
below p m k j = holds (facts_of m) (conjuncts_at p (child_of p k)) j

-- in the columns of all of which it holds, where its turn has come
pub record ColumnFilled (p m w : List ℕ) (k : ℕ) (c c' : List ℕ) : Type 0 where
  pub only : Only (Span columns_at columns_end) c c'
  pub tells : (n : ℕ) → Known p m n w → Charted p k → rank p k ≡ n + 1 → (j : ℕ) → Name (individual_count m) j →
      in_set (column_of c' j) k ≡ in_set (column_of c j) k || below p m k j
  pub others : (j d : ℕ) → Name most_individuals j → (d ≡ k → ⊥) → in_set (column_of c' j) d ≡ in_set (column_of c j) d

-- in the set of its role
pub record MaskFilled (p : List ℕ) (k : ℕ) (c c' : List ℕ) : Type 0 where
  pub only : Only (Span 0 columns_at) c c'
  pub tells : (r : ℕ) → Name most_roles r → in_set (mask_of c' r) k ≡ in_set (mask_of c r) k || eqb r (name_of p k)
  pub others : (r d : ℕ) → Name most_roles r → (d ≡ k → ⊥) → in_set (mask_of c' r) d ≡ in_set (mask_of c r) d

-- in both, where its turn has come
pub record RecordFilled (p m w : List ℕ) (k n : ℕ) (c c' : List ℕ) : Type 0 where
  pub size : length c' ≡ length c
  pub column : is_due p w k n ≡ true → Known p m n w → Charted p k → rank p k ≡ n + 1 →
      (j : ℕ) → Name (individual_count m) j →
      in_set (column_of c' j) k ≡ in_set (column_of c j) k || below p m k j
  pub columns : (j d : ℕ) → Name most_individuals j → (d ≡ k → ⊥) → in_set (column_of c' j) d ≡ in_set (column_of c j) d
  pub mask : (a : ℕ) → Name most_roles a → in_set (mask_of c' a) k ≡ in_set (mask_of c a) k || (is_due p w k n && eqb a (name_of p k))
  pub masks : (a d : ℕ) → Name most_roles a → (d ≡ k → ⊥) → in_set (mask_of c' a) d ≡ in_set (mask_of c a) d

-- the tables of the records up to l whose turn is the n-th
pub record FilledTo (p m w : List ℕ) (n l : ℕ) (c : List ℕ) : Type 0 where
  pub room : columns_end ≤ length c
  pub column : Known p m n w → (k : ℕ) → Name l k → Charted p k → is_due p w k n ≡ true → rank p k ≡ n + 1 → (j : ℕ) →
      Name (individual_count m) j →
      in_set (column_of c j) k ≡ below p m k j
  pub mask : (k : ℕ) → Name l k → (a : ℕ) → Name most_roles a → in_set (mask_of c a) k ≡ is_due p w k n && eqb a (name_of p k)
  pub columns : (k : ℕ) → l < k → (j : ℕ) → Name (individual_count m) j → in_set (column_of c j) k ≡ false
  pub masks : (k : ℕ) → l < k → (a : ℕ) → Name most_roles a → in_set (mask_of c a) k ≡ false

abbrev pub AllFilled : List ℕ → List ℕ → List ℕ → ℕ → List ℕ → Type 0
AllFilled p m w n c = FilledTo p m w n (last_of 6 p) c

-- ---- the edges

-- a fact hands record k to individual i
abbrev pub hands : List ℕ → ℕ → ℕ → Fact → Bool
hands c i k (member a o) = false
hands c i k (edge r o j) = eqb i o && (is_name most_roles r && (in_set (column_of c j) k && in_set (mask_of c r) k))
hands c i k (value f o v) = false

pub record EdgeMarkable (m w c : List ℕ) (f : ℕ) : Type 0 where
  pub stated : Stated m f
  pub readable : Readable m
  pub long : work_size ≤ length w
  pub room : columns_end ≤ length c

abbrev pub EdgeMarked : List ℕ → Fact → List ℕ → List ℕ → Type 0
EdgeMarked c x w w' = Handed (hands c) x w w'

abbrev pub EdgesMarked : List ℕ → List ℕ → List ℕ → List ℕ → Type 0
EdgesMarked m c w w' = AllHanded (hands c) m w w'
