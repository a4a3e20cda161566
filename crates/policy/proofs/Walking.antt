-- Laws of the walk: the fault at a record, the child chain, and the next record of a chain.
use Prim.Native.Nat.{◌-◌, ◌<◌, ◌≤◌, suc, zero, ℕ}
use mathlib.Core.Bool.{Bool, ◌||◌, cond, false, not, true}
use mathlib.Core.List.{List, ◌∷◌}
use mathlib.Core.Path.{◌∙◌, ◌≡◌, refl, sym}
use lib.Dec.{eqb}
use native.Mathlib.Omega.{arith}
use borrow.Author.Tests.{eq-eqb, eqb-false, ne_eqb, not-false, not-true}
use Rattle.meaning.specs.Accepted.{Here}
use Rattle.meaning.specs.Limits.{most_records}
use Rattle.meaning.specs.Operations.{unless}
use Rattle.meaning.specs.Policy.{Walk, child_of, fault, next_of, onward, sound_record, walk}
use Rattle.meaning.specs.Records.{Enough, falling, last_of}
use Rattle.policy.specs.Trails.{Arrived, Follows, Marks, depth_at, fault_at, going, levels, stopped}
use Rattle.theory.proofs.Links.{enough_end, falls, onward_le, tests}
use Rattle.theory.proofs.Refusals.{unless_some}
use Rattle.theory.proofs.Terms.{child_enough, next_enough}
use Rattle.words.proofs.Laws.{in_including, length_including, named_within}
use Rattle.words.specs.Sets.{capacity, in_set, including}

-- the fault at record k: b tells whether it was reached before, and t whether it is sound
module _ (v p : List ℕ) (left k : ℕ) (s : List ℕ) {b : Bool} (eb : b ≡ in_set s k) where
  pub fault_twice : b ≡ true → 7 ≡ fault_at v p (depth_at left) k s
  unfolding fault_at
  fault_twice e = rw (sym eb ∙ e)

  module _ {t : Bool} (e : b ≡ false) (et : t ≡ sound_record v p (depth_at left) k) where
    pub fault_bad : not t ≡ true → 6 ≡ fault_at v p (depth_at left) k s
    unfolding fault_at
    fault_bad h = rw (sym eb ∙ e, sym et ∙ not-true t h)

    pub fault_deep : not t ≡ false → left ≡ 0 → 8 ≡ fault_at v p (depth_at left) k s
    unfolding fault_at
    fault_deep h z = rw (sym eb ∙ e, sym et ∙ not-false t h, eq-eqb (depth_at left) levels (omega arith))

    pub fault_none : not t ≡ false → (left ≡ 0 → ⊥) → 0 ≡ fault_at v p (depth_at left) k s
    unfolding fault_at
    fault_none h z = rw (sym eb ∙ e, sym et ∙ not-false t h, ne_eqb (depth_at left) levels (λ q. omega arith))

-- record k is marked
marks_more : {ws seen : List ℕ} (k : ℕ) → Marks ws seen → Marks (including ws k) (k ∷ seen)
marks_more {ws} {seen} k m = record {
  whole = length_including ws k ∙ m.whole;
  same = λ j l h. in_including ws k j ∙ go (eqb j k) (named_within (capacity ws) j l (omega (arith, m.whole))) (m.same j l h);
}
  where
    go : {n x y : Bool} (b : Bool) → n ≡ true → x ≡ y → cond b n x ≡ b || y
    go true e f = e
    go false e f = f

-- the walk's tests of a record, as the number of its fault; and where that is 0
tested : (b s d : Bool) (on : Walk) → cond b (fault 7) (cond s (cond d (fault 8) on) (fault 6)) ≡ unless fault (cond b 7 (cond s (cond d 8 0) 6)) on
tested true s d on = refl
tested false true true on = refl
tested false true false on = refl
tested false false d on = refl

clear : (b s d : Bool) → ◌≡◌ {A = ℕ} (cond b 7 (cond s (cond d 8 0) 6)) 0 → (s ≡ true) × (d ≡ false)
clear true s d h = absurd (omega arith)
clear false true true h = absurd (omega arith)
clear false true false h = (refl, refl)
clear false false d h = absurd (omega arith)

-- what a walk ends with, and what the walk after it does
ended : {s : List ℕ} {n : ℕ} {q : Walk} (on : List ℕ → Walk) → (n ≡ 0 → ⊥) → Arrived s n q → Arrived s n (onward q on)
ended on z (going e m) = absurd (z e)
ended on z (stopped e) = stopped e

then : {s s' : List ℕ} {n r : ℕ} {q : Walk} (on : List ℕ → Walk) → n ≡ 0 → Arrived s n q →
    ((seen : List ℕ) → Marks s seen → Arrived s' r (on seen)) → Arrived s' r (onward q on)
then on z (going {seen = seen} e m) later = later seen m
then on z (stopped e) later = absurd (e z)

-- where a chain ends nothing is reached
walk_none : {v p : List ℕ} {left k : ℕ} {s : List ℕ} → k ≡ 0 → Follows v p left k s s 0
unfolding walk
walk_none {v} {p} {left} {k} {s} e = record { arrives = go }
  where
    go : (f : ℕ) (seen : List ℕ) → Enough (last_of 6 p) f k → Marks s seen → Arrived s 0 (walk f v p (depth_at left) k seen)
    go zero seen h m = going refl m
    go (suc f) seen h m = rw e (going refl m)

-- the walk of a chain has come to record k with the bits s: what is known of the walk from there is known of the whole
pub record Going (v p : List ℕ) (left first : ℕ) (s₀ : List ℕ) (k : ℕ) (s : List ℕ) : Type 0 where
  pub inside : k ≤ last_of 6 p
  pub whole : {s' : List ℕ} {n : ℕ} → Follows v p left k s s' n → Follows v p left first s₀ s' n

pub walk_starts : {v p : List ℕ} {left k : ℕ} {s : List ℕ} → k ≤ last_of 6 p → Going v p left k s k s
walk_starts h = record { inside = h; whole = λ f. f }

module _ {v p : List ℕ} {left first : ℕ} {s₀ : List ℕ} {k : ℕ} {s : List ℕ} (g : Going v p left first s₀ k s) where
  pub walk_ends : k ≡ 0 → Follows v p left first s₀ s 0
  walk_ends e = g.whole (walk_none e)

  -- n is the fault at record k
  module _ {n : ℕ} (m : k ≡ 0 → ⊥) (en : n ≡ fault_at v p (depth_at left) k s) where
    -- there is none
    module _ (y : n ≡ 0) where
      cleared : (sound_record v p (depth_at left) k ≡ true) × (eqb (depth_at left) levels ≡ false)
      unfolding fault_at
      cleared = clear (in_set s k) (sound_record v p (depth_at left) k) (eqb (depth_at left) levels) (sym en ∙ y)

      here : Here p k
      here = let u = simp tests at cleared.0 in record { inside = (omega arith, g.inside); child = u.1.0; next = u.1.1 }

      pub child_inside : {x : ℕ} → x ≡ child_of p k → x ≤ last_of 6 p
      child_inside e = rw e (onward_le (last_of 6 p) k (child_of p k) here.child)

      pub level : 1 ≤ left
      level = let q = eqb-false (depth_at left) levels cleared.1 in omega arith

      pub level_falls : {t : ℕ} → left ≡ t → left - 1 < t
      level_falls e = omega (arith, level)

      pub next_falls : {x : ℕ} → x ≡ next_of p k → falling (last_of 6 p) x < falling (last_of 6 p) k
      next_falls e = rw e (falls (last_of 6 p) k (next_of p k) here.inside here.next)

    module _ (l : last_of 6 p ≤ most_records) where
      -- some fuel is left
      step : {s' : List ℕ} {r : ℕ} →
          ((f : ℕ) (seen : List ℕ) → Enough (last_of 6 p) (suc f) k → Marks s seen →
          Arrived s' r (unless fault n (onward (walk f v p (suc (depth_at left)) (child_of p k) (k ∷ seen)) (walk f v p (depth_at left) (next_of p k))))) →
          Follows v p left first s₀ s' r
      unfolding walk fault_at
      step {s'} {r} on = g.whole (record { arrives = go })
        where
          go : (f : ℕ) (seen : List ℕ) → Enough (last_of 6 p) f k → Marks s seen → Arrived s' r (walk f v p (depth_at left) k seen)
          go zero seen h a = absurd (m (enough_end _ k h))
          go (suc f) seen h a = rw (ne_eqb k 0 m, sym (a.same k (omega arith) (omega (arith, g.inside))), tested, sym en) (on f seen h a)

      pub walk_faults : (n ≡ 0 → ⊥) → Follows v p left first s₀ s n
      walk_faults z = step (λ f seen h a. rw (← unless_some fault n) (stopped z))

      -- there is none, and the walk of the child chain, with record k marked, has ended with the bits w and the number a
      module _ {x a : ℕ} {u w : List ℕ} (y : n ≡ 0) (d : left ≤ levels) (ex : x ≡ child_of p k) (eu : u ≡ including s k) (inner : Follows v p (left - 1) x u w a) where
        below : {f : ℕ} {seen : List ℕ} → Enough (last_of 6 p) (suc f) k → Marks s seen →
            Arrived w a (walk f v p (suc (depth_at left)) (child_of p k) (k ∷ seen))
        below {f} {seen} h b =
            let e : depth_at (left - 1) ≡ suc (depth_at left) = omega (arith, level y) in
            rw (e, ex) at (inner.arrives f (k ∷ seen) (rw ex (child_enough (here y) h)) (rw eu (marks_more k b)))

        pub walk_stops : (a ≡ 0 → ⊥) → Follows v p left first s₀ w a
        walk_stops z = step (λ f seen h b. rw y (ended (walk f v p (depth_at left) (next_of p k)) z (below h b)))

        pub walk_on : {x : ℕ} → a ≡ 0 → x ≡ next_of p k → Going v p left first s₀ x w
        walk_on z e = record {
          inside = rw e (onward_le (last_of 6 p) k (next_of p k) (here y).next);
          whole = λ later. step (λ f seen h b. rw y (then (walk f v p (depth_at left) (next_of p k)) z (below h b)
              (λ seen b. rw e at (later.arrives f seen (rw e (next_enough (here y) h)) b))));
        }

      -- the same, with no child chain
      pub walk_past : {x y : ℕ} {u : List ℕ} → n ≡ 0 → left ≤ levels → y ≡ child_of p k → y ≡ 0 → u ≡ including s k → x ≡ next_of p k → Going v p left first s₀ x u
      walk_past o d ey z eu e = walk_on o d ey eu (walk_none z) refl e
