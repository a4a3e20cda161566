-- Laws of the depths of a policy's chains, from the last record to the first.
use Prim.Native.Nat.{◌+◌, ◌-◌, ◌<◌, ◌≤◌, max, suc, ℕ}
use mathlib.Core.Bool.{Bool, cond, false, true}
use mathlib.Core.List.{List, []}
use mathlib.Core.Logic.{inl, inr}
use mathlib.Core.Path.{◌∙◌, ◌≡◌, ap, refl, sym}
use lib.Dec.{eqb, ltb}
use lib.ListN.{length, length-set, set}
use lib.Seq.{get_or-set_other, get_or-set_same}
use native.Mathlib.Omega.{arith}
use borrow.Author.Tests.{eqb-false, eqb-true, lt-ltb}
use Rattle.extension.proofs.Conjuncts.{Cut, cut, inside, no_more, own_depth}
use Rattle.extension.proofs.Links.{link_same}
use Rattle.extension.specs.Depths.{AllMeasured, MeasuredFrom, ToppedFrom, height_at, height_of, own_height}
use Rattle.extension.specs.Sets.{Charted, Sized, onward}
use Rattle.frames.proofs.Frames.{only_none, only_set, only_then}
use Rattle.frames.specs.Frames.{Only, Span}
use Rattle.meaning.specs.Accepted.{depth}
use Rattle.meaning.specs.Limits.{most_depth, work_size}
use Rattle.meaning.specs.Policy.{child_of, kind_of, next_of}
use Rattle.meaning.specs.Records.{Onward, last_of}
use Rattle.policy.specs.Terms.{conjuncts_at}
use Rattle.satisfaction.specs.Places.{height_place, heights_at, sets_end}

-- ---- what is reached

-- the depth at a link
pub measured_at : {p w : List ℕ} {k j : ℕ} → MeasuredFrom p k w → Onward (last_of 6 p) k j → Charted p j → height_of w j ≡ depth (conjuncts_at p j)
measured_at {p} {w} {k} {j} t (inl e) c = rw (e, no_more p) t.none
measured_at {p} {w} {k} {j} t (inr h) c = t.tells j h.0 c

module _ {p w : List ℕ} {k : ℕ} (z : k ≡ 0 → ⊥) (t : MeasuredFrom p k w) (c : Charted p k) where
  abbrev here : Cut p [] k (conjuncts_at p k)
  here = cut [] z c

  own_right : own_height p w k ≡ own_depth p k
  own_right = go (eqb (kind_of p k) 3) refl
    where
      deeper : kind_of p k ≡ 3 → depth (conjuncts_at p k) ≡ max (own_depth p k) (depth (conjuncts_at p (next_of p k))) → depth (conjuncts_at p k) ≤ most_depth →
          depth (conjuncts_at p (child_of p k)) < most_depth
      deeper d m s = let q : own_depth p k ≡ suc (depth (conjuncts_at p (child_of p k))) = rw d in omega arith

      go : (b : Bool) → eqb (kind_of p k) 3 ≡ b →
          cond b (cond (ltb (height_of w (onward p k (child_of p k))) most_depth) (height_of w (onward p k (child_of p k)) + 1) most_depth) 1 ≡ cond b (suc (depth (conjuncts_at p (child_of p k)))) 1
      go true e =
          let d = eqb-true (kind_of p k) 3 e in
          let x = here.child d in
          let o = here.here.child in
          let h : height_of w (onward p k (child_of p k)) ≡ depth (conjuncts_at p (child_of p k)) = rw (link_same p k (child_of p k) o) (measured_at t o x) in
          let s = c.shallow in
          let m = here.deep in
          let less : depth (conjuncts_at p (child_of p k)) < most_depth = deeper d m s in
          rw (h, lt-ltb (depth (conjuncts_at p (child_of p k))) most_depth less) (omega arith)
      go false e = refl

  height_right : height_at p w k ≡ depth (conjuncts_at p k)
  height_right =
      let o = here.here.next in
      rw (own_right, link_same p k (next_of p k) o, measured_at t o here.next) (sym here.deep)

-- ---- the loop

pub record Measuring (p w₀ w : List ℕ) (top k : ℕ) : Type 0 where
  pub bound : k ≤ last_of 6 p
  pub long : work_size ≤ length w
  pub only : Only (Span heights_at sets_end) w₀ w
  pub measured : MeasuredFrom p k w
  pub topped : ToppedFrom p k top

module _ {p : List ℕ} (w : List ℕ) (long : work_size ≤ length w) where
  pub measuring_starts : {k : ℕ} → k ≡ last_of 6 p → Measuring p (set w heights_at 0) (set w heights_at 0) 0 k
  measuring_starts {k} e = record {
    bound = omega arith;
    long = let q = length-set w heights_at 0 in omega arith;
    only = only_none;
    measured = record { none = get_or-set_same w heights_at 0 0 (omega arith); tells = λ j h c. absurd (omega (arith, inside c)) };
    topped = record { deepest = λ j h c. absurd (omega (arith, inside c)) };
  }

  pub measuring_ends : {w₂ : List ℕ} {top k : ℕ} → Measuring p (set w heights_at 0) w₂ top k → k ≡ 0 → AllMeasured p w w₂ top
  measuring_ends x z = record {
    only = only_then (only_set heights_at 0 (record { low = omega arith; high = omega arith }) only_none) x.only;
    measured = rw z at x.measured;
    topped = rw z at x.topped;
  }

module _ {p w₀ w : List ℕ} {top k : ℕ} (s : Sized p) (x : Measuring p w₀ w top k) where
  module _ (n : k ≡ 0 → ⊥) {h q : ℕ} (eh : h ≡ height_at p w k) (eq : q ≡ k) where
    pub measuring_on : {top' : ℕ} → top' ≡ max top h → Measuring p w₀ (set w (heights_at + q) h) top' (k - 1)
    measuring_on {top'} et = record {
      bound = let b = x.bound in omega arith;
      long = let g = x.long in let a = length-set w (heights_at + q) h in omega arith;
      only = let b = x.bound in let f = s.few in only_set (heights_at + q) h (record { low = omega arith; high = omega arith }) x.only;
      measured = record {
        none = get_or-set_other w (heights_at + q) (height_place 0) h 0 (λ d. omega arith) ∙ x.measured.none;
        tells = λ j l c. go j l c (eqb j k) refl;
      };
      topped = record { deepest = λ j l c. up j l c (eqb j k) refl };
    }
      where
        right : Charted p k → h ≡ depth (conjuncts_at p k)
        right c = eh ∙ height_right n x.measured c

        go : (j : ℕ) → k - 1 < j → Charted p j → (b : Bool) → eqb j k ≡ b → height_of (set w (heights_at + q) h) j ≡ depth (conjuncts_at p j)
        go j l c true d =
            let y = eqb-true j k d in
            let b = x.bound in
            let f = s.few in
            let g = x.long in
            ap (λ (i : ℕ). height_of (set w (heights_at + q) h) i) (y ∙ sym eq) ∙ get_or-set_same w (heights_at + q) h 0 (omega arith) ∙ rw y (right (rw y at c))
        go j l c false d =
            let y = eqb-false j k d in
            get_or-set_other w (heights_at + q) (height_place j) h 0 (λ e. omega arith) ∙ x.measured.tells j (omega arith) c

        up : (j : ℕ) → k - 1 < j → Charted p j → (b : Bool) → eqb j k ≡ b → depth (conjuncts_at p j) ≤ top'
        up j l c true d = let y = eqb-true j k d in let r = right (rw y at c) in rw y (omega arith)
        up j l c false d = let y = eqb-false j k d in let r = x.topped.deepest j (omega arith) c in omega arith
