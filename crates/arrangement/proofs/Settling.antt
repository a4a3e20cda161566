-- The run at the front of the order goes to its place: moved, left where it is, or dropped. Assumes nothing.
use Prim.Native.Nat.{◌*◌, ◌+◌, ◌-◌, ◌<◌, ◌≤◌, suc, zero, ℕ}
use mathlib.Core.List.{List, [], ◌++◌, ◌∷◌, append_assoc, map, map-append}
use mathlib.Core.Path.{◌∙◌, ◌≡◌, ap, ap₂, refl, subst, sym}
use lib.ListN.{drop, get_or, length, length-append, length-drop, take}
use lib.Seq.{drop_at, length-take-le, take_all}
use native.Mathlib.Omega.{arith}
use Rattle.arrangement.specs.Steps.{BelongsAt, Ready, Rotatable, RunEnds, Settled, StandsAt, rotated}
use Rattle.entries.proofs.Runs.{items_none, items_split}
use Rattle.entries.specs.Entries.{Item, item_at, items_in}
use Rattle.frames.proofs.Rows.{length_put, length_row}
use Rattle.frames.specs.Rows.{put_at, row_at}
use Rattle.meaning.specs.Limits.{most_records}
use Rattle.meaning.specs.Lists.{All, cons, nil}
use Rattle.theory.proofs.Rules.{all_append}

-- ---- every word below a number, as a list

module _ (n : ℕ) where
  known_all : (o : List ℕ) → ((j : ℕ) → get_or o j 0 < n) → All (λ e. e < n) o
  known_all [] h = nil
  known_all (x ∷ o) h = cons {x = x} (h 0) (known_all o (λ j. h (suc j)))

  all_known : {o : List ℕ} → 0 < n → All (λ e. e < n) o → (j : ℕ) → get_or o j 0 < n
  all_known p nil j = p
  all_known p (cons {x = x} h a) zero = h
  all_known p (cons {x = x} h a) (suc j) = all_known p a j

  all_take : (k : ℕ) {o : List ℕ} → All (λ e. e < n) o → All (λ e. e < n) (take k o)
  all_take zero a = nil
  all_take (suc k) nil = nil
  all_take (suc k) (cons {x = x} h a) = cons {x = x} h (all_take k a)

  all_drop : (k : ℕ) {o : List ℕ} → All (λ e. e < n) o → All (λ e. e < n) (drop k o)
  all_drop zero a = a
  all_drop (suc k) nil = nil
  all_drop (suc k) (cons {x = x} h a) = all_drop k a

-- all items from a place on
pub items_all : (w ds o : List ℕ) (a : ℕ) → items_in w ds o a (length o) ≡ map (item_at w ds) (drop a o)
items_all w ds o a = ap (map (item_at w ds)) (take_all (length o - a) (drop a o) (let e = length-drop a o in omega arith))

module _ {w ds o : List ℕ} {top : ℕ} (g : Ready w o top) {b : ℕ} (x : RunEnds w ds o top b) {at : ℕ} where
  pub settled_dropped : StandsAt w ds o top b at → Settled w ds top o o b
  settled_dropped f = record {
    items = sym f.standing;
    low = (let l = x.first in omega arith);
    high = x.within;
    known = g.items.known;
    same = refl;
  }

  pub place_rotatable : BelongsAt w ds o top b at → Rotatable o top b at
  place_rotatable f = record { first = (let l = x.first in omega arith); second = f.low; within = f.high; few = g.few }

  pub settled_left : BelongsAt w ds o top b at → at ≤ b → Settled w ds top o o top
  settled_left f h =
      let l = x.first in
      let n = x.within in
      let z : at ≡ b = (let k = f.low in omega arith) in
      record {
        items =
            items_split w ds o top b (length o) (omega arith) n
            ∙ ap (λ (m : List Item). m ++ (items_in w ds o top b ++ items_in w ds o b (length o))) (sym (items_none w ds o b b (omega arith)))
            ∙ ap (λ (i : ℕ). items_in w ds o b i ++ (items_in w ds o top b ++ items_in w ds o i (length o))) (sym z)
            ∙ sym f.missing;
        low = omega arith;
        high = omega arith;
        known = g.items.known;
        same = refl;
      }

  pub settled_moved : {o' : List ℕ} → BelongsAt w ds o top b at → o' ≡ rotated o top b at → Settled w ds top o o' top
  unfolding rotated
  settled_moved {o'} f z = record {
    items = moved ∙ sym f.missing;
    low = omega arith;
    high = (let s = size in let l = x.first in let n = x.within in omega arith);
    known = all_known (2 * most_records) (omega arith) (subst (λ (l : List ℕ). All (λ e. e < 2 * most_records) l) (sym z) kept);
    same = size;
  }
    where
      upper : List ℕ
      upper = row_at (at - b) o b

      lower : List ℕ
      lower = row_at (b - top) o top

      tb : top < b
      tb = x.first

      ba : b ≤ at
      ba = f.low

      an : at ≤ length o
      an = f.high

      many : length (upper ++ lower) ≡ at - top
      many =
          let l = length-append upper lower in
          let u = length_row (at - b) o b (let i = ba in let j = an in omega arith) in
          let v = length_row (b - top) o top (let i = tb in let j = x.within in omega arith) in
          let i = ba in
          let j = tb in
          omega arith

      size : length o' ≡ length o
      size = ap length z ∙ length_put o top (upper ++ lower) (let m = many in let i = an in let j = tb in let k = ba in omega arith)

      kept : All (λ e. e < 2 * most_records) (put_at o top (upper ++ lower))
      kept =
          let a = known_all (2 * most_records) o g.items.known in
          all_append (all_take (2 * most_records) top a)
          (all_append (all_append (all_take (2 * most_records) (at - b) (all_drop (2 * most_records) b a)) (all_take (2 * most_records) (b - top) (all_drop (2 * most_records) top a)))
          (all_drop (2 * most_records) (top + length (upper ++ lower)) a))

      -- behind place top
      dropped : drop top o' ≡ (upper ++ lower) ++ drop at o
      dropped =
          ap (drop top) z
          ∙ drop_at (take top o) ((upper ++ lower) ++ drop (top + length (upper ++ lower)) o) top (length-take-le top o (let i = tb in let j = x.within in omega arith))
          ∙ ap (λ (n : ℕ). (upper ++ lower) ++ drop n o) (let m = many in let i = tb in let j = ba in let e : top + length (upper ++ lower) ≡ at = omega arith in e)

      moved : items_in w ds o' top (length o') ≡ items_in w ds o b at ++ (items_in w ds o top b ++ items_in w ds o at (length o))
      moved =
          items_all w ds o' top
          ∙ ap (map (item_at w ds)) dropped
          ∙ map-append (item_at w ds) (upper ++ lower) (drop at o)
          ∙ ap₂ ◌++◌ (map-append (item_at w ds) upper lower) (sym (items_all w ds o at))
          ∙ append_assoc (items_in w ds o b at) (items_in w ds o top b) (items_in w ds o at (length o))
