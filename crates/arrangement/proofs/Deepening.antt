-- The depths of individuals' conjuncts, one individual after another. Assumes nothing.
use Prim.Native.Nat.{◌+◌, ◌<◌, ◌≤◌, ℕ}
use mathlib.Core.Bool.{Bool, false, true}
use mathlib.Core.List.{List}
use mathlib.Core.Path.{◌∙◌, ◌≡◌, ap, refl, sym}
use lib.Dec.{eqb}
use lib.ListN.{get_or, length, length-set, set}
use lib.Seq.{get_or-set_other, get_or-set_same}
use native.Mathlib.Omega.{arith}
use borrow.Author.Tests.{eqb-false, eqb-true}
use Rattle.arrangement.specs.Steps.{Depths, Listable}
use Rattle.layout.specs.Tables.{parent_at}

-- the first i individuals have their depths, none greater than its number
pub record Deepened (w : List ℕ) (n i : ℕ) (ds : List ℕ) : Type 0 where
  pub few : i ≤ n
  pub room : n < length ds
  pub first : get_or ds 0 0 ≡ 0
  pub later : (j : ℕ) → j < i → get_or ds (j + 1) 0 ≡ get_or ds (parent_at w j) 0 + 1
  pub low : (k : ℕ) → k ≤ i → get_or ds k 0 ≤ k

pub depth_read : (w ds : List ℕ) {i at p n d : ℕ} → at ≡ i → p ≡ parent_at w at → n ≡ p → d ≡ get_or ds n 0 → d ≡ get_or ds (parent_at w i) 0
depth_read w ds e f g h = h ∙ ap (λ (k : ℕ). get_or ds k 0) (g ∙ f ∙ ap (parent_at w) e)

module _ {w : List ℕ} {n : ℕ} {ds₀ : List ℕ} (g : Listable w n ds₀) where
  -- a word that is set, and the others
  elsewhere : (ds : List ℕ) (i x k : ℕ) → (k ≡ i → ⊥) → get_or (set ds i x) k 0 ≡ get_or ds k 0
  elsewhere ds i x k h = get_or-set_other ds i k x 0 h

  pub deepened_starts : Deepened w n 0 (set ds₀ 0 0)
  deepened_starts =
      let at = get_or-set_same ds₀ 0 0 0 (let r = g.room in omega arith) in
      record {
        few = omega arith;
        room = (let e = length-set ds₀ 0 0 in let r = g.room in omega arith);
        first = at;
        later = λ j h. absurd (omega arith);
        low = λ k h. let z : k ≡ 0 = omega arith in rw z (omega arith);
      }

  module _ {i : ℕ} {ds : List ℕ} (x : Deepened w n i ds) (h : i < n) {d : ℕ} (e : d ≡ get_or ds (parent_at w i) 0) where
    -- it is at most the individual's number
    pub depth_low : d ≤ i
    depth_low = let p = g.before i h in let l = x.low (parent_at w i) p in omega arith

    whole : Deepened w n (i + 1) (set ds (i + 1) (d + 1))
    whole = record {
      few = omega arith;
      room = (let f = length-set ds (i + 1) (d + 1) in let r = x.room in omega arith);
      first = elsewhere ds (i + 1) (d + 1) 0 (λ z. omega arith) ∙ x.first;
      later = λ j k. after j k (eqb j i) refl;
      low = λ k l. lower k l (eqb k (i + 1)) refl;
    }
      where
        here : get_or (set ds (i + 1) (d + 1)) (i + 1) 0 ≡ d + 1
        here = get_or-set_same ds (i + 1) (d + 1) 0 (let r = x.room in omega arith)

        -- a parent stands before
        parent : (j : ℕ) → j ≤ i → get_or (set ds (i + 1) (d + 1)) (parent_at w j) 0 ≡ get_or ds (parent_at w j) 0
        parent j k = elsewhere ds (i + 1) (d + 1) (parent_at w j) (λ z. let p = g.before j (omega arith) in omega arith)

        after : (j : ℕ) → j < i + 1 → (b : Bool) → eqb j i ≡ b →
            get_or (set ds (i + 1) (d + 1)) (j + 1) 0 ≡ get_or (set ds (i + 1) (d + 1)) (parent_at w j) 0 + 1
        after j k true f =
            let z = eqb-true j i f in
            let q = parent i (omega arith) in
            rw z (omega (arith, here, q, e))
        after j k false f =
            let z = eqb-false j i f in
            elsewhere ds (i + 1) (d + 1) (j + 1) (λ y. omega arith) ∙ x.later j (omega arith) ∙ ap (λ (y : ℕ). y + 1) (sym (parent j (omega arith)))

        lower : (k : ℕ) → k ≤ i + 1 → (b : Bool) → eqb k (i + 1) ≡ b → get_or (set ds (i + 1) (d + 1)) k 0 ≤ k
        lower k l true f = let z = eqb-true k (i + 1) f in let q = depth_low in rw z (omega (arith, here))
        lower k l false f =
            let z = eqb-false k (i + 1) f in
            let s = elsewhere ds (i + 1) (d + 1) k z in
            let t = x.low k (omega arith) in
            omega arith

    pub deepened_more : {k : ℕ} → k ≡ i + 1 → Deepened w n (i + 1) (set ds k (d + 1))
    deepened_more f = rw f whole

  pub deepened_ends : {i : ℕ} {ds : List ℕ} → Deepened w n i ds → n ≤ i → Depths w n ds
  deepened_ends x h = record { first = x.first; later = λ j k. x.later j (omega arith) }
