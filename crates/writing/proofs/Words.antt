-- Records written one after another into the output. Assumes nothing.
use Prim.Native.Nat.{◌*◌, ◌+◌, ◌<◌, ◌≤◌, suc, zero, ℕ}
use mathlib.Core.Bool.{cond}
use mathlib.Core.List.{List, [], ◌∷◌}
use mathlib.Core.Path.{◌∙◌, ◌≡◌, ap, refl, sym}
use lib.Dec.{eqb, eqb-suc-zero}
use lib.ListN.{length}
use native.Mathlib.Numerals.{add-one}
use native.Mathlib.Omega.{arith}
use Rattle.entries.specs.Entries.{Item, classes_at, fields_at, item_at}
use Rattle.entries.specs.declared.Fields.{Fields}
use Rattle.frames.proofs.Rows.{length_put, put_append, put_nil}
use Rattle.frames.specs.Rows.{put_at}
use Rattle.meaning.specs.Limits.{most_records}
use Rattle.meaning.specs.PolicyWords.{record_words}
use Rattle.words.proofs.Listing.{from_end, from_more, from_start}
use Rattle.words.specs.Members.{members, members_from, next_member}
use Rattle.writing.specs.Written.{RoomFrom, class_records, first_records, link_below, link_beside, record_count, where_any}

-- ---- one record

module _ (o : List ℕ) (k kind a lo hi child next : ℕ) (h : 6 * (k + 1) ≤ length o) where
  pub record_length : length (put_at o (6 * k) (record_words kind a lo hi child next [])) ≡ length o
  record_length = length_put o (6 * k) (record_words kind a lo hi child next []) (omega arith)

  -- what is put behind it
  pub record_then : (us : List ℕ) →
      put_at (put_at o (6 * k) (record_words kind a lo hi child next [])) (6 * (k + 1)) us ≡ put_at o (6 * k) (record_words kind a lo hi child next us)
  record_then us =
      let e : 6 * (k + 1) ≡ 6 * k + 6 = omega arith in
      ap (λ (n : ℕ). put_at (put_at o (6 * k) (record_words kind a lo hi child next [])) n us) e
      ∙ put_append o (6 * k) (record_words kind a lo hi child next []) (omega arith) us

-- ---- the classes of a set: at class c it and those above it are left

class_link : (ws : List ℕ) (c x none : ℕ) → cond (eqb c 0) none x ≡ where_any (members_from ws c) x none
unfolding members_from
class_link ws zero x none = refl
class_link ws (suc i) x none = rw (eqb-suc-zero i)

pub record ClassesLeft (ws : List ℕ) (first last : ℕ) (o₀ : List ℕ) (k c : ℕ) (o : List ℕ) : Type 0 where
  pub count : length (members_from ws c) + k ≡ length (members ws) + first
  pub long : length o ≡ length o₀
  pub says : put_at o (6 * k) (class_records k (members_from ws c) last []) ≡ put_at o₀ (6 * first) (class_records first (members ws) last [])

pub classes_start : (ws : List ℕ) (first last : ℕ) (o : List ℕ) {c : ℕ} → c ≡ next_member ws 0 → ClassesLeft ws first last o first c o
classes_start ws first last o {c} e =
    let s : members_from ws c ≡ members ws = ap (members_from ws) e ∙ from_start ws in
    record { count = rw s; long = refl; says = rw s }

module _ {ws : List ℕ} {first last : ℕ} {o₀ : List ℕ} {k c : ℕ} {o : List ℕ} (x : ClassesLeft ws first last o₀ k c o)
    (room : RoomFrom first (length (members ws)) o₀) where
  module _ {next : ℕ} (n : c ≡ 0 → ⊥) (e : next ≡ next_member ws c) where
    left : members_from ws c ≡ c ∷ members_from ws next
    left = from_more ws c n ∙ ap (λ (d : ℕ). c ∷ members_from ws d) (sym e)

    pub classes_room : 6 * (k + 1) ≤ length o
    classes_room = omega (arith, ap length left, x.count, x.long, room.long)

    pub classes_less : length (members_from ws next) < length (members_from ws c)
    classes_less = omega (arith, ap length left)

    pub classes_more : {link : ℕ} {o' : List ℕ} → link ≡ cond (eqb next 0) last (k + 1) →
        o' ≡ put_at o (6 * k) (record_words 1 c 0 0 0 link []) → ClassesLeft ws first last o₀ (k + 1) next o'
    classes_more {link} {o'} p q =
        let rest = class_records (k + 1) (members_from ws next) last [] in
        let words : record_words 1 c 0 0 0 link rest ≡ class_records k (members_from ws c) last [] =
        rw (left, p ∙ class_link ws next (k + 1) last, add-one k) in
        record {
          count = omega (arith, ap length left, x.count);
          long = ap length q ∙ record_length o k 1 c 0 0 0 link classes_room ∙ x.long;
          says =
              ap (λ (l : List ℕ). put_at l (6 * (k + 1)) rest) q
              ∙ record_then o k 1 c 0 0 0 link classes_room rest
              ∙ ap (put_at o (6 * k)) words
              ∙ x.says;
        }

  pub classes_end_lem : c ≡ 0 → o ≡ put_at o₀ (6 * first) (class_records first (members ws) last [])
  classes_end_lem z =
      sym (put_nil o (6 * k))
      ∙ ap (λ (l : List ℕ). put_at o (6 * k) (class_records k l last [])) (sym (from_end ws c z))
      ∙ x.says

-- ---- an entry: its own record, then its classes'

any_cond : (cs : List ℕ) (x none : ℕ) → cond (eqb (length cs) 0) none x ≡ where_any cs x none
any_cond [] x none = refl
any_cond (c ∷ cs) x none = rw (eqb-suc-zero (length cs))

module _ (w ds : List ℕ) (e : ℕ) {k n : ℕ} {s out : List ℕ} (room : RoomFrom k (record_count (item_at w ds e)) out)
    (q : s ≡ classes_at w e) (r : n ≡ length (members s)) where
  entry_classes : members s ≡ (item_at w ds e).classes
  unfolding item_at
  entry_classes = rw q

  pub entry_few : k + 1 + n ≤ most_records + 1
  entry_few = omega (arith, room.few, r, ap length entry_classes)

  pub entry_room : 6 * (k + 1) ≤ length out
  entry_room = omega (arith, room.long)

  pub entry_rest : {o₁ : List ℕ} → length o₁ ≡ length out → RoomFrom (k + 1) (length (members s)) o₁
  entry_rest h = let z = ap length entry_classes in record { long = omega (arith, room.long); few = omega (arith, room.few) }

  module _ (l : List Item) {f : Fields} {kind below beside child : ℕ} (t : f ≡ fields_at w ds e) (b : below ≡ link_below (k + 1 + n) f.depth l)
      (g : beside ≡ link_beside (k + 1 + n) f.depth l) (h : kind ≡ cond (eqb f.depth 0) 5 f.kind)
      (c : child ≡ cond (eqb n 0) below (k + 1)) where
    abbrev rest : List ℕ
    rest = class_records (k + 1) (members s) below []

    entry_fields : f ≡ (item_at w ds e).fields
    unfolding item_at
    entry_fields = rw t

    entry_words : record_words kind f.name f.lo f.hi child beside rest ≡ first_records k (item_at w ds e) l []
    unfolding first_records
    entry_words =
        let cs = (item_at w ds e).classes in
        let m : k + 1 + length cs ≡ k + suc (length cs) = omega arith in
        rw (h, c, g, b, r, entry_classes, entry_fields, m, any_cond cs, add-one k)

    pub entry_put : {o₁ o₂ : List ℕ} → o₁ ≡ put_at out (6 * k) (record_words kind f.name f.lo f.hi child beside []) →
        o₂ ≡ put_at o₁ (6 * (k + 1)) rest → o₂ ≡ put_at out (6 * k) (first_records k (item_at w ds e) l [])
    entry_put u v =
        v
        ∙ ap (λ (z : List ℕ). put_at z (6 * (k + 1)) rest) u
        ∙ record_then out k kind f.name f.lo f.hi child beside entry_room rest
        ∙ ap (put_at out (6 * k)) entry_words
