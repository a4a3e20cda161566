-- The header, and the records of entry after entry behind it. Assumes nothing.
use Prim.Native.Nat.{◌*◌, ◌+◌, ◌<◌, ◌≤◌, suc, ℕ}
use mathlib.Core.List.{List, [], ◌++◌, ◌∷◌}
use mathlib.Core.Path.{◌∙◌, ◌≡◌, ap, ap₂, refl, sym}
use lib.ListN.{drop, get_or, length}
use native.Mathlib.Nat.{zero-add}
use native.Mathlib.Omega.{arith}
use Rattle.entries.specs.Entries.{Item, item_at, items_of}
use Rattle.frames.proofs.Rows.{put_append, put_nil}
use Rattle.frames.specs.Rows.{put_at}
use Rattle.meaning.specs.Operations.{output_after}
use Rattle.meaning.specs.PolicyWords.{record_words}
use Rattle.meaning.specs.Records.{link_to}
use Rattle.writing.proofs.Counting.{from_first, from_none, from_start, items_from}
use Rattle.writing.proofs.Words.{record_then}
use Rattle.writing.specs.Written.{CountsEntry, RoomFrom, Writable, class_records, first_records, item_records, item_words}
use Rattle.writing.specs.Written.{link_below, record_count, records_in, where_any}

-- ---- how many words

class_words_lem : (k : ℕ) (cs : List ℕ) (last : ℕ) (rest : List ℕ) → length (class_records k cs last rest) ≡ 6 * length cs + length rest
class_words_lem k [] last rest = omega arith
class_words_lem k (c ∷ cs) last rest = omega (arith, class_words_lem (suc k) cs last rest)

first_words : (k : ℕ) (x : Item) (l : List Item) (rest : List ℕ) → length (first_records k x l rest) ≡ 6 * record_count x + length rest
unfolding first_records
first_words k x l rest = omega (arith, class_words_lem (suc k) x.classes (link_below (k + record_count x) x.fields.depth l) rest)

records_words : (k : ℕ) (l : List Item) → length (item_records k l) ≡ 6 * records_in l
unfolding item_records
records_words k [] = refl
records_words k (x ∷ l) = omega (arith, first_words k x l (item_records (k + record_count x) l), records_words (k + record_count x) l)

pub words_count : (l : List Item) → length (item_words l) ≡ 6 * (records_in l + 1)
unfolding item_words
words_count l = omega (arith, records_words 1 l)

-- ---- an item's records, and what is put behind them

class_append : (k : ℕ) (cs : List ℕ) (last : ℕ) (rest : List ℕ) → class_records k cs last rest ≡ class_records k cs last [] ++ rest
class_append k [] last rest = refl
class_append k (c ∷ cs) last rest = ap (record_words 1 c 0 0 0 (where_any cs (suc k) last)) (class_append (suc k) cs last rest)

first_append : (k : ℕ) (x : Item) (l : List Item) (rest : List ℕ) → first_records k x l [] ++ rest ≡ first_records k x l rest
unfolding first_records
first_append k x l rest = rw (class_append (suc k) x.classes (link_below (k + record_count x) x.fields.depth l) rest)

first_then : (o : List ℕ) (k : ℕ) (x : Item) (l : List Item) (rest : List ℕ) → 6 * (k + record_count x) ≤ length o →
    put_at (put_at o (6 * k) (first_records k x l [])) (6 * (k + record_count x)) rest ≡ put_at o (6 * k) (first_records k x l rest)
first_then o k x l rest h =
    let n = first_words k x l [] in
    let e : 6 * (k + record_count x) ≡ 6 * k + length (first_records k x l []) = omega arith in
    ap (λ (at : ℕ). put_at (put_at o (6 * k) (first_records k x l [])) at rest) e
    ∙ put_append o (6 * k) (first_records k x l []) (omega arith) rest
    ∙ ap (put_at o (6 * k)) (first_append k x l rest)

records_more : (k : ℕ) (x : Item) (l : List Item) → first_records k x l (item_records (k + record_count x) l) ≡ item_records k (x ∷ l)
unfolding item_records
records_more k x l = refl

-- ---- at place i, record k the entries from there on are left

pub record Writing (w ds o out₀ : List ℕ) (i k : ℕ) (out : List ℕ) : Type 0 where
  pub count : records_in (items_from w ds o i) + k ≡ records_in (items_of w ds o) + 1
  pub long : length out ≡ length out₀
  pub says : put_at out (6 * k) (item_records k (items_from w ds o i)) ≡ put_at out₀ 6 (item_records 1 (items_of w ds o))

pub writing_starts : (w ds o out : List ℕ) → Writing w ds o out 0 1 out
writing_starts w ds o out =
    let e = from_start w ds o in
    record { count = ap (λ (l : List Item). records_in l + 1) e; long = refl; says = ap (λ (l : List Item). put_at out 6 (item_records 1 l)) e }

module _ {w ds o out₀ : List ℕ} {i k : ℕ} {out o₀ : List ℕ} (x : Writing w ds o out₀ i k out) (room : Writable w ds o o₀) (same : length out₀ ≡ length o₀) where
  module _ {e : ℕ} (h : i < length o) (p : e ≡ get_or o i 0) where
    left : items_from w ds o i ≡ item_at w ds e ∷ items_from w ds o (i + 1)
    left = from_first w ds o i p h

    pub writing_room : RoomFrom k (record_count (item_at w ds e)) out
    writing_room =
        let n = ap records_in left in
        record { long = omega (arith, x.count, x.long, room.long); few = omega (arith, x.count, room.few) }

    pub writing_more : {m : ℕ} {out' : List ℕ} → CountsEntry w e m → length out' ≡ length out →
        out' ≡ put_at out (6 * k) (first_records k (item_at w ds e) (items_from w ds o (i + 1)) []) → Writing w ds o out₀ (i + 1) (k + m) out'
    writing_more {m} q g v =
        let y = item_at w ds e in
        let l = items_from w ds o (i + 1) in
        let c : m ≡ record_count y = q.says ds in
        let n = ap records_in left in
        record {
          count = omega (arith, x.count);
          long = g ∙ x.long;
          says =
              ap₂ (λ (z : List ℕ) (j : ℕ). put_at z (6 * (k + j)) (item_records (k + j) l)) v c
              ∙ first_then out k y l (item_records (k + record_count y) l) (omega (arith, writing_room.long))
              ∙ ap (put_at out (6 * k)) (records_more k y l ∙ ap (item_records k) (sym left))
              ∙ x.says;
        }

  pub writing_ends : {first : ℕ} → length o ≤ i → first ≡ link_to 1 (items_of w ds o) → out₀ ≡ put_at o₀ 0 (record_words first 0 0 0 0 0 []) →
      out ≡ output_after (item_words (items_of w ds o)) o₀
  unfolding item_words item_records output_after
  writing_ends {first} h p v =
      let ws = item_records 1 (items_of w ds o) in
      sym (put_nil out (6 * k))
      ∙ ap (λ (l : List Item). put_at out (6 * k) (item_records k l)) (sym (from_none w ds o i h))
      ∙ x.says
      ∙ ap (λ (z : List ℕ). put_at z 6 ws) v
      ∙ record_then o₀ 0 first 0 0 0 0 0 (omega (arith, room.long)) ws
      ∙ ap₂ (λ (f n : ℕ). record_words f 0 0 0 0 0 ws ++ drop n o₀) p (zero-add (length (record_words first 0 0 0 0 0 ws)))
