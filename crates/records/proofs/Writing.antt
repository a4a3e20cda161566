-- Records written one after another into an output. Assumes nothing.
use Prim.Native.Nat.{◌*◌, ◌+◌, ◌<◌, ◌≤◌, suc, ℕ}
use mathlib.Core.List.{List, [], ◌++◌, ◌∷◌, append_assoc, append-nil}
use mathlib.Core.Path.{◌∙◌, ◌≡◌, ap, refl, sym}
use native.Mathlib.Nat.{add-zero, le_refl, le_trans, mul-add, mul-le-mul, mul-suc, zero-add}
use native.Mathlib.Omega.{arith}
use lib.ListN.{length, length-append}
use borrow.Author.Tests.{eq-eqb, ne_eqb}
use Rattle.frames.proofs.Rows.{length_put, put_append, put_nil}
use Rattle.frames.specs.Rows.{put_at}
use Rattle.meaning.specs.Operations.{output_after}
use Rattle.meaning.specs.Records.{chained_words, link_to}
use Rattle.records.specs.Written.{Format, Room, RoomFor, Wide, Written, link_at, linked_words, recorded}

-- ---- records after records

module _ {A : Type 0} (words : A → ℕ → List ℕ) where
  linked_append : (last k : ℕ) (l m : List A) → linked_words words last k (l ++ m) ≡ linked_words words last k l ++ linked_words words last (k + length l) m
  linked_append last k [] m = rw (add-zero k)
  linked_append last k (x ∷ l) m =
      let e : suc k + length l ≡ k + suc (length l) = omega arith in
      rw (linked_append last (suc k) l m, e) (sym (append_assoc (words x (link_at last k)) (linked_words words last (suc k) l) _))

  pub link_last : (last k : ℕ) (l : List A) → k + length l ≡ last → link_at last k ≡ link_to (suc k) l
  link_last last k [] h = rw (eq-eqb k last (omega arith))
  link_last last k (y ∷ l) h = rw (ne_eqb k last (λ p. omega arith)) (omega arith)

  -- where the last record is known the links are those of the definition
  pub linked_chained : (last k : ℕ) (l : List A) → k + length l ≡ last + 1 → linked_words words last k l ≡ chained_words words k l
  linked_chained last k [] h = refl
  linked_chained last k (x ∷ l) h = rw (link_last last k l (omega arith), linked_chained last (suc k) l (omega arith))

module _ {A : Type 0} (f : Format A) (wide : Wide f) where
  linked_length : (last k : ℕ) (l : List A) → length (linked_words f.words last k l) ≡ f.width * length l
  linked_length last k [] = omega arith
  linked_length last k (x ∷ l) =
      rw (length-append (f.words x (link_at last k)) (linked_words f.words last (suc k) l), wide x (link_at last k), linked_length last (suc k) l, mul-suc)
      (omega arith)

  -- where the items end
  ends : (last k : ℕ) (l : List A) → f.width * (k + length l) ≡ f.width * k + length (linked_words f.words last k l)
  ends last k l = mul-add f.width k (length l) ∙ ap (λ (n : ℕ). f.width * k + n) (sym (linked_length last k l))

  module _ (last k : ℕ) (l : List A) (o : List ℕ) (fits : f.width * (k + length l) ≤ length o) where
    pub recorded_length : length (recorded f last k l o) ≡ length o
    unfolding recorded
    recorded_length = length_put o (f.width * k) (linked_words f.words last k l) (omega (arith, ends last k l))

    pub recorded_more : (m : List A) → recorded f last (k + length l) m (recorded f last k l o) ≡ recorded f last k (l ++ m) o
    unfolding recorded
    recorded_more m =
        rw (ends last k l, linked_append f.words last k l m)
        (put_append o (f.width * k) (linked_words f.words last k l) (omega (arith, ends last k l)) (linked_words f.words last (k + length l) m))

recorded_none : {A : Type 0} (f : Format A) (last k : ℕ) (o : List ℕ) → recorded f last k [] o ≡ o
unfolding recorded
recorded_none f last k o = put_nil o (f.width * k)

pub room_same : {width last : ℕ} {o o' : List ℕ} → length o' ≡ length o → Room width last o → Room width last o'
room_same e r = record { long = rw e r.long; few = r.few }

-- ---- a walk that writes the items l from record k₀ on: at record k the items m are left

pub record Left {A : Type 0} (f : Format A) (last k₀ : ℕ) (l : List A) (o₀ : List ℕ) (k : ℕ) (m : List A) (o : List ℕ) : Type 0 where
  pub same : recorded f last k m o ≡ recorded f last k₀ l o₀
  pub count : k + length m ≡ k₀ + length l
  pub long : length o ≡ length o₀

pub left_start : {A : Type 0} {f : Format A} (last k : ℕ) (l : List A) (o : List ℕ) (m : List A) → m ≡ l → Left f last k l o k m o
left_start last k l o m e = record { same = rw e; count = rw e; long = refl }

module _ {A : Type 0} {f : Format A} {last k₀ : ℕ} {l : List A} {o₀ : List ℕ} {k : ℕ} {o : List ℕ} where
  -- items that are in front of those left have room
  fits : (n : ℕ) {m : List A} → Left f last k₀ l o₀ k m o → RoomFor f.width last k₀ l o₀ → n ≤ length m → f.width * (k + n) ≤ length o
  fits n w room h =
      let inside : k + n ≤ last + 1 = omega (arith, w.count, room.within) in
      le_trans (mul-le-mul (le_refl f.width) inside) (rw w.long room.room.long)

  pub left_more : Wide f → (xs m rest : List A) (o' : List ℕ) (k' : ℕ) → Left f last k₀ l o₀ k rest o → rest ≡ xs ++ m → RoomFor f.width last k₀ l o₀ →
      Written f last k xs o o' k' → Left f last k₀ l o₀ k' m o'
  left_more wide xs m rest o' k' w e room x =
      let n : length rest ≡ length xs + length m = ap length e ∙ length-append xs m in
      record {
        same = rw (x.words, x.count, recorded_more f wide last k xs o (fits (length xs) w room (omega arith)) m, ← e) w.same;
        count = omega (arith, x.count, w.count);
        long = x.same ∙ w.long;
      }

  pub left_end : (m : List A) → Left f last k₀ l o₀ k m o → m ≡ [] → Written f last k₀ l o₀ o k
  left_end m w e =
      let n : length m ≡ 0 = ap length e in
      record {
        words = sym (recorded_none f last k o) ∙ ap (λ (r : List A). recorded f last k r o) (sym e) ∙ w.same;
        count = omega (arith, w.count);
        same = w.long;
      }

-- three lists, one after another
pub three_written : {A : Type 0} {f : Format A} → Wide f → {last k k₁ k₂ k₃ : ℕ} {xs ys zs l : List A} {o o₁ o₂ o₃ : List ℕ} → l ≡ xs ++ (ys ++ zs) →
    RoomFor f.width last k l o → Written f last k xs o o₁ k₁ → Written f last k₁ ys o₁ o₂ k₂ → Written f last k₂ zs o₂ o₃ k₃ → Written f last k l o o₃ k₃
three_written wide {last} {k} {k₁} {k₂} {k₃} {xs} {ys} {zs} {l} {o} {o₁} {o₂} {o₃} e room a b c =
    let first = left_more wide xs (ys ++ zs) l o₁ k₁ (left_start last k l o l refl) e room a in
    let second = left_more wide ys zs (ys ++ zs) o₂ k₂ first refl room b in
    left_end [] (left_more wide zs [] zs o₃ k₃ second (sym (append-nil zs)) room c) refl

-- one record is one item
pub one_written : {A : Type 0} {f : Format A} → Wide f → (last k : ℕ) (x : A) (o o' : List ℕ) → f.width * (k + 1) ≤ length o →
    o' ≡ put_at o (f.width * k) (f.words x (link_at last k)) → Written f last k (x ∷ []) o o' (k + 1)
unfolding recorded
one_written {f = f} wide last k x o o' h e =
    let all : o' ≡ put_at o (f.width * k) (linked_words f.words last k (x ∷ [])) =
    e ∙ ap (put_at o (f.width * k)) (sym (append-nil (f.words x (link_at last k)))) in
    record { words = all; count = refl; same = ap length all ∙ recorded_length f wide last k (x ∷ []) o h }

-- ---- a turn of such a walk: the first item that is left is written

module _ {A : Type 0} {f : Format A} {last k₀ : ℕ} {l : List A} {o₀ : List ℕ} {k : ℕ} {m : List A} {o : List ℕ} (w : Left f last k₀ l o₀ k m o)
    (room : RoomFor f.width last k₀ l o₀) (x : A) (rest : List A) (e : m ≡ x ∷ rest) where
  pub turn_room : (k ≤ last) × Room f.width last o
  turn_room = let n = ap length e in (omega (arith, w.count, room.within), room_same w.long room.room)

  pub turn_less : length rest < length m
  turn_less = omega (arith, ap length e)

  pub turn_more : Wide f → (o' : List ℕ) → o' ≡ put_at o (f.width * k) (f.words x (link_at last k)) → Left f last k₀ l o₀ (k + 1) rest o'
  turn_more wide o' q =
      left_more wide (x ∷ []) rest m o' (k + 1) w e room (one_written wide last k x o o' (fits 1 w room (omega (arith, ap length e))) q)

-- ---- a header, and all records behind it

pub headed_written : {A : Type 0} (f : Format A) (h : List ℕ) (last : ℕ) (l : List A) (o : List ℕ) → length h ≡ f.width → last ≡ length l → f.width ≤ length o →
    recorded f last 1 l (put_at o 0 h) ≡ output_after (h ++ chained_words f.words 1 l) o
unfolding recorded output_after
headed_written f h last l o e size room =
    let at : f.width * 1 ≡ 0 + length h = omega arith in
    rw (at, put_append o 0 h (omega arith) (linked_words f.words last 1 l), linked_chained f.words last 1 l (omega arith), zero-add)
