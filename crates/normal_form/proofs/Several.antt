-- Several terms at once: `normalise_all`.
use Prim.Native.Nat.{◌+◌, ◌-◌, ◌≤◌, suc, zero, ℕ}
use mathlib.Core.Bool.{Bool, cond, false}
use mathlib.Core.List.{List, [], ◌∷◌, map}
use mathlib.Core.Logic.{inr}
use mathlib.Core.Path.{◌∙◌, ◌≡◌, ap, ap₂, refl, subst, sym}
use lib.ListN.{get_or, length, length-map, take}
use lib.Seq.{drop-cons}
use native.Mathlib.Omega.{arith}
use borrow.Author.Tests.{ne_eqb}
use Rattle.frames.proofs.Frames.{only_none, only_put, only_then}
use Rattle.frames.proofs.Rows.{length_put, put_row}
use Rattle.frames.specs.Frames.{Only}
use Rattle.frames.specs.Rows.{put_at, row_at}
use Rattle.functional.specs.declared.Functional.{Functional}
use Rattle.layout.specs.Places.{InTables, pending_at}
use Rattle.layout.specs.declared.Tables.{Tables}
use Rattle.meaning.specs.Lists.{All, cons, nil}
use Rattle.normal_form.proofs.Laws.{in_tables}
use Rattle.normal_form.specs.Parts.{Arm, arm_at, live, weigh, words_at}
use Rattle.normal_form.specs.Steps.{Built, Entry, Room, Sure, rest_at}
use Rattle.normal_form.specs.Tables.{FitAll, NormalisedAll}
use Rattle.preparation.proofs.Laws.{prepared_kept}
use Rattle.theory.proofs.Rules.{head, tail}

words_row : (w : List ℕ) (b n : ℕ) → b + n ≤ length w → words_at w b n ≡ row_at n w b
words_row w b zero h = refl
words_row w b (suc n) h = ap (λ (l : List ℕ). get_or w b 0 ∷ l) (words_row w (suc b) n (omega arith)) ∙ ap (take (suc n)) (sym (drop-cons w b 0 (omega arith)))

live_all : (p ts : List ℕ) → All (λ k. k ≡ 0 → ⊥) ts → live p ts ≡ map (arm_at p) ts
live_all p [] a = refl
live_all p (k ∷ ts) a =
    ap₂ (λ (b : Bool) (l : List Arm). cond b l (arm_at p k ∷ l)) (ne_eqb k 0 (head a)) (live_all p ts (tail a))

sure_all : (p ts : List ℕ) → All (Entry p) ts → Sure p ts
sure_all p [] a = nil
sure_all p (k ∷ ts) a = cons {x = k} (inr (head a)) (sure_all p ts (tail a))

module _ (p w ts : List ℕ) (fit : FitAll p w ts) where
  -- with the records pending
  abbrev put : List ℕ
  put = put_at w pending_at ts

  room_put : pending_at + length ts ≤ length w
  room_put = let f = fit.few in let l = fit.long in omega arith

  size : length put ≡ length w
  size = length_put w pending_at ts room_put

  pending_words : words_at put pending_at (pending_at + length ts - pending_at) ≡ ts
  pending_words =
      let e : pending_at + length ts - pending_at ≡ length ts = omega arith in
      ap (words_at put pending_at) e ∙ words_row put pending_at (length ts) (let s = size in let r = room_put in omega arith) ∙ put_row w pending_at ts room_put

  all_pending : rest_at p put pending_at (pending_at + length ts) ≡ map (arm_at p) ts
  all_pending = ap (live p) pending_words ∙ live_all p ts fit.here

  all_room : Room p put pending_at (pending_at + length ts) 0 0
  all_room =
      let w' : weigh (rest_at p put pending_at (pending_at + length ts)) ≡ weigh (map (arm_at p) ts) = ap weigh all_pending in
      let n : length (rest_at p put pending_at (pending_at + length ts)) ≡ length ts = ap length all_pending ∙ length-map ts (arm_at p) in
      let f = fit.few in
      record {
        long = (let s = size in let l = fit.long in omega arith);
        low = omega arith;
        order = omega arith;
        sure = subst (Sure p) (sym pending_words) (sure_all p ts fit.entries);
        pending = omega arith;
        rows = omega arith;
        constraints = omega arith;
      }

  all_normalised : (f : Functional) {w' : List ℕ} {u : Tables} → Built f (rest_at p put pending_at (pending_at + length ts)) pending_at 0 0 0 false put w' u →
      NormalisedAll f p ts w w' u
  all_normalised f {w'} {u} built = record {
    grown = λ v q n. b.grown v (prepared_kept before q) n;
    individuals = (let a = b.few in let m = length-map ts (arm_at p) in let k = fit.few in omega arith);
    constraints = (let a = b.fewer in let k = fit.few in omega arith);
    only = only_then before (in_tables b.only);
  }
    where
      b : Built f (map (arm_at p) ts) pending_at 0 0 0 false put w' u
      b = subst (λ (l : List Arm). Built f l pending_at 0 0 0 false put w' u) all_pending built

      before : Only InTables w put
      before = only_put pending_at ts room_put (λ i h g. record { low = h; high = (let f = fit.few in omega arith) }) only_none

  -- the same of the slice as it is after the copy, and of how many there are
  pub room_copied : {w₁ : List ℕ} {n : ℕ} → w₁ ≡ put_at w pending_at ts → length ts ≡ n → Room p w₁ pending_at (pending_at + n) 0 0
  room_copied {w₁} e l = subst (λ (n : ℕ). Room p w₁ pending_at (pending_at + n) 0 0) l (subst (λ (x : List ℕ). Room p x pending_at (pending_at + length ts) 0 0) (sym e) all_room)

  pub copied_normalised : (f : Functional) {w₁ w' : List ℕ} {n : ℕ} {u : Tables} → w₁ ≡ put_at w pending_at ts → length ts ≡ n →
      Built f (rest_at p w₁ pending_at (pending_at + n)) pending_at 0 0 0 false w₁ w' u → NormalisedAll f p ts w w' u
  copied_normalised f {w₁} {w'} {n} {u} e l b =
      all_normalised f
      (subst (λ (x : List ℕ). Built f (rest_at p x pending_at (pending_at + length ts)) pending_at 0 0 0 false x w' u) e
      (subst (λ (k : ℕ). Built f (rest_at p w₁ pending_at (pending_at + k)) pending_at 0 0 0 false w₁ w' u) (sym l) b))

  pub copied_same : {w₁ : List ℕ} → w₁ ≡ put_at w pending_at ts → length w₁ ≡ length w
  copied_same e = ap length e ∙ size
