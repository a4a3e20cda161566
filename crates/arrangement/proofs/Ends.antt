-- Where a run ends: at the first entry behind its own that is not deeper. Assumes nothing.
use Prim.Native.Nat.{◌+◌, ◌<◌, ◌≤◌, ℕ}
use mathlib.Core.Bool.{Bool, cond}
use mathlib.Core.List.{List, [], ◌++◌, ◌∷◌, append_assoc, append-nil}
use mathlib.Core.Path.{◌∙◌, ◌≡◌, ap, refl, subst, sym}
use lib.Dec.{eqb, ltb}
use lib.ListN.{get_or, length}
use native.Mathlib.Omega.{arith}
use borrow.Author.Tests.{le-ltb, lt-ltb}
use Rattle.arrangement.specs.Insertion.{behind, deeper}
use Rattle.arrangement.specs.Steps.{RunEnds, is_next}
use Rattle.entries.proofs.Runs.{item_depth, items_first, items_none, items_split}
use Rattle.entries.specs.Entries.{Item, depth_at, item_at, items_in}

pub next_past : (w ds o : List ℕ) (at d : ℕ) → length o ≤ at → ltb at (length o) ≡ is_next w ds o at d
next_past w ds o at d h = rw (le-ltb at (length o) h)

pub next_told : (w ds o : List ℕ) (at d : ℕ) {e n : ℕ} → at < length o → e ≡ get_or o at 0 → n ≡ depth_at w ds e → eqb n d ≡ is_next w ds o at d
next_told w ds o at d h e f = rw (lt-ltb at (length o) h) (ap (λ (n : ℕ). eqb n d) (f ∙ ap (depth_at w ds) e))

module _ (w ds o : List ℕ) where
  module _ (d at : ℕ) (h : at < length o) where
    first : items_in w ds o at (length o) ≡ item_at w ds (get_or o at 0) ∷ items_in w ds o (at + 1) (length o)
    first = items_first w ds o at (length o) h (omega arith)

    deeper_on : d < depth_at w ds (get_or o at 0) → deeper d (items_in w ds o at (length o)) ≡ item_at w ds (get_or o at 0) ∷ deeper d (items_in w ds o (at + 1) (length o))
    deeper_on g = ap (deeper d) first ∙ rw (item_depth w ds o (get_or o at 0), lt-ltb d (depth_at w ds (get_or o at 0)) g)

    behind_on : d < depth_at w ds (get_or o at 0) → behind d (items_in w ds o at (length o)) ≡ behind d (items_in w ds o (at + 1) (length o))
    behind_on g = ap (behind d) first ∙ rw (item_depth w ds o (get_or o at 0), lt-ltb d (depth_at w ds (get_or o at 0)) g)

    deeper_not : depth_at w ds (get_or o at 0) ≤ d → deeper d (items_in w ds o at (length o)) ≡ []
    deeper_not g = ap (deeper d) first ∙ rw (item_depth w ds o (get_or o at 0), le-ltb d (depth_at w ds (get_or o at 0)) g)

    behind_not : depth_at w ds (get_or o at 0) ≤ d → behind d (items_in w ds o at (length o)) ≡ items_in w ds o at (length o)
    behind_not g =
        ap (behind d) first
        ∙ ap (λ (b : Bool). cond b (behind d (items_in w ds o (at + 1) (length o))) (item_at w ds (get_or o at 0) ∷ items_in w ds o (at + 1) (length o)))
        (ap (ltb d) (item_depth w ds o (get_or o at 0)) ∙ le-ltb d (depth_at w ds (get_or o at 0)) g)
        ∙ sym first

  -- all entries from behind place i to before at are deeper than d
  pub record Ending (i d at : ℕ) : Type 0 where
    pub low : i < at
    pub high : at ≤ length o
    pub run : items_in w ds o (i + 1) at ++ deeper d (items_in w ds o at (length o)) ≡ deeper d (items_in w ds o (i + 1) (length o))
    pub left : behind d (items_in w ds o at (length o)) ≡ behind d (items_in w ds o (i + 1) (length o))

  pub ending_starts : (i d : ℕ) → i < length o → Ending i d (i + 1)
  ending_starts i d h = record { low = omega arith; high = omega arith; run = rw (items_none w ds o (i + 1) (i + 1) (omega arith)); left = refl }

  pub ending_more : {i d at e n : ℕ} → Ending i d at → at < length o → e ≡ get_or o at 0 → n ≡ depth_at w ds e → d < n → Ending i d (at + 1)
  ending_more {i} {d} {at} x h p q g =
      let deep : d < depth_at w ds (get_or o at 0) = (let z = q ∙ ap (depth_at w ds) p in omega arith) in
      let one : items_in w ds o at (at + 1) ≡ item_at w ds (get_or o at 0) ∷ [] = items_one in
      let l = x.low in
      record {
        low = omega arith;
        high = omega arith;
        run =
            ap (λ (m : List Item). m ++ deeper d (items_in w ds o (at + 1) (length o)))
            (items_split w ds o (i + 1) at (at + 1) (omega arith) (omega arith) ∙ ap (λ (m : List Item). items_in w ds o (i + 1) at ++ m) one)
            ∙ append_assoc (items_in w ds o (i + 1) at) (item_at w ds (get_or o at 0) ∷ []) (deeper d (items_in w ds o (at + 1) (length o)))
            ∙ ap (λ (m : List Item). items_in w ds o (i + 1) at ++ m) (sym (deeper_on d at h deep))
            ∙ x.run;
        left = sym (behind_on d at h deep) ∙ x.left;
      }
    where
      items_one : items_in w ds o at (at + 1) ≡ item_at w ds (get_or o at 0) ∷ []
      items_one =
          items_first w ds o at (at + 1) (omega arith) (omega arith)
          ∙ ap (λ (m : List Item). item_at w ds (get_or o at 0) ∷ m) (items_none w ds o (at + 1) (at + 1) (omega arith))

  pub ending_here : {i d at e n : ℕ} → d ≡ depth_at w ds (get_or o i 0) → Ending i d at → at < length o → e ≡ get_or o at 0 → n ≡ depth_at w ds e → n ≤ d → RunEnds w ds o i at
  ending_here {i} {d} {at} s x h p q g =
      let shallow : depth_at w ds (get_or o at 0) ≤ d = (let z = q ∙ ap (depth_at w ds) p in omega arith) in
      record {
        first = x.low;
        within = x.high;
        run =
            sym (append-nil (items_in w ds o (i + 1) at))
            ∙ ap (λ (m : List Item). items_in w ds o (i + 1) at ++ m) (sym (deeper_not d at h shallow))
            ∙ x.run
            ∙ ap (λ (n : ℕ). deeper n (items_in w ds o (i + 1) (length o))) s;
        left = sym (behind_not d at h shallow) ∙ x.left ∙ ap (λ (n : ℕ). behind n (items_in w ds o (i + 1) (length o))) s;
      }

  pub ending_last : {i d at : ℕ} → d ≡ depth_at w ds (get_or o i 0) → Ending i d at → length o ≤ at → RunEnds w ds o i (length o)
  ending_last {i} {d} {at} s x h =
      let none = items_none w ds o at (length o) h in
      let l = x.low in
      let e : at ≡ length o = (let k = x.high in omega arith) in
      subst (RunEnds w ds o i) e (record {
        first = l;
        within = x.high;
        run =
            sym (append-nil (items_in w ds o (i + 1) at))
            ∙ ap (λ (m : List Item). items_in w ds o (i + 1) at ++ deeper d m) (sym none)
            ∙ x.run
            ∙ ap (λ (n : ℕ). deeper n (items_in w ds o (i + 1) (length o))) s;
        left = none ∙ ap (behind d) (sym none) ∙ x.left ∙ ap (λ (n : ℕ). behind n (items_in w ds o (i + 1) (length o))) s;
      })
