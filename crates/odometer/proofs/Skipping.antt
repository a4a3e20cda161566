-- From the last dial back: those that are passed start again, and what is known to pass stays known.
use Prim.Native.Nat.{◌%◌, ◌*◌, ◌+◌, ◌-◌, ◌<◌, ◌≤◌, pred, suc, ℕ}
use mathlib.Core.Bool.{Bool, cond, false, true}
use mathlib.Core.List.{List}
use mathlib.Core.Logic.{◌⊎◌, inl, inr, ⊎_elim}
use mathlib.Core.Path.{◌∙◌, ◌≡◌, ap, fun_ext, refl, subst, sym}
use native.Mathlib.Nat.{mod-le, mod-lt, mul_comm}
use native.Mathlib.Omega.{arith}
use borrow.Author.Tests.{eq-eqb, le-ltb, lt-ltb, ne_eqb}
use lib.Bits.{bit_or}
use lib.Dec.{eqb, ltb}
use lib.ListN.{get_or, length, length-set, set}
use lib.Seq.{get_or-set_other, get_or-set_same}
use Rattle.frames.proofs.Frames.{only_then, only_wider}
use Rattle.frames.specs.Frames.{Only}
use Rattle.layout.proofs.Entries.{piece_same}
use Rattle.layout.specs.Tables.{Pieces, constraint_at, piece_at}
use Rattle.meaning.specs.Limits.{most_combinations}
use Rattle.meaning.specs.Lists.{At}
use Rattle.meaning.specs.Policy.{Policy}
use Rattle.meaning.specs.Splitting.{pieces}
use Rattle.odometer.proofs.Digits.{behind_first, behind_next, behind_same, covers_drop, covers_last, mask_left, mask_out, mask_right}
use Rattle.odometer.proofs.Numbers.{value_moved}
use Rattle.odometer.proofs.Passing.{Passing, alone, behind, between, bound, bound_dial, covered, inside, no_digit}
use Rattle.odometer.proofs.Passing.{restarted, restarted_high, restarted_low, small, weight_some, wide}
use Rattle.odometer.proofs.Weights.{pieces_any, product_span, span_front, span_most}
use Rattle.odometer.specs.Digits.{Behind, Covers, Known, in_mask, span, value}
use Rattle.std.specs.Prelude.{Some}
use Rattle.odometer.specs.Odometer.{Skippable, Skipped, Standing, StandsAt, Turned, next_number}
use Rattle.splitting.proofs.Storing.{constraint_kept}
use Rattle.splitting.specs.Ends.{Ends}
use Rattle.splitting.specs.Constraints.{piece_count}
use Rattle.theory.proofs.Odometer.{at_lt}
use Rattle.theory.proofs.Rules.{order}
use Rattle.words.specs.Sets.{test_bit}

-- the digits c of the constraints before i, the next piece at i, and 0 from there on
abbrev moved : (ℕ → ℕ) → ℕ → ℕ → ℕ
moved c i j = cond (ltb j i) (c j) (cond (eqb j i) (suc (c i)) 0)

moved_low : (c : ℕ → ℕ) (i j : ℕ) → j < i → moved c i j ≡ c j
moved_low c i j h = rw (lt-ltb j i h)

moved_here : (c : ℕ → ℕ) (i : ℕ) → moved c i i ≡ suc (c i)
moved_here c i = rw (le-ltb i i (omega arith), eq-eqb i i refl)

moved_high : (c : ℕ → ℕ) (i j : ℕ) → i < j → moved c i j ≡ 0
moved_high c i j h = rw (le-ltb j i (omega arith), ne_eqb j i (λ z. omega arith))

-- pre is what `skip` asks; dial k is the last of those before d, and has been turned
module _ {e dials counts earlier₀ u : List ℕ} {n q : ℕ} (pre : Skippable e dials counts earlier₀ u n q)
    {reason : ℕ} {earlier w : List ℕ} {mask weight d k : ℕ} (g : Passing e dials earlier₀ earlier u w n reason q mask weight d)
    (last : d ≡ suc k) {relied b : Bool} {w' : List ℕ} {mask' : ℕ} (er : relied ≡ test_bit mask k)
    (em : mask' ≡ cond relied (bit_or mask (get_or earlier k 0)) mask) (t : Turned e (get_or dials k 0) relied w w' b) where
  kept : Only (Pieces n) u w'
  kept = only_then g.only (only_wider (λ j s. record { constraint = get_or dials k 0; few = small pre g last; span = s }) t.only)

  other : (j : ℕ) → (j ≡ get_or dials k 0 → ⊥) → piece_at w' j ≡ piece_at w j
  other j off = piece_same w w' j (λ m x y. t.only.others m (λ s. off (omega (arith, s.low, s.high))))

  same_constraint : (j : ℕ) → constraint_at w' j ≡ constraint_at w j
  same_constraint j = constraint_kept kept j ∙ sym (constraint_kept g.only j)

  -- its digit before
  digit : (Q : Policy) (c : ℕ → ℕ) → StandsAt Q u n c → At (piece_at w (get_or dials k 0)) (pieces Q (constraint_at w (get_or dials k 0))) (c (get_or dials k 0))
  digit Q c s = subst (λ (x : ℕ). At (piece_at w (get_or dials k 0)) (pieces Q (constraint_at w (get_or dials k 0))) x)
      (restarted_low c (bound dials n d) (get_or dials k 0) (wide pre g last).0) (g.stands Q c s (get_or dials k 0) (small pre g last))

  -- those after it are at their first piece
  after : (Q : Policy) (c : ℕ → ℕ) → StandsAt Q u n c → (j : ℕ) → j < n → get_or dials k 0 < j → At (piece_at w' j) (pieces Q (constraint_at w' j)) 0
  after Q c s j h l = rw (other j (λ z. omega arith), same_constraint j)
      (subst (λ (x : ℕ). At (piece_at w j) (pieces Q (constraint_at w j)) x) zero_digit (g.stands Q c s j h))
    where
      zero_digit : restarted c (bound dials n d) j ≡ 0
      zero_digit = ⊎_elim
          (λ x. restarted_low c (bound dials n d) j x ∙ no_digit pre Q c s j h (between pre g last j l x))
          (λ x. restarted_high c (bound dials n d) j x) (order j (bound dials n d))

  earlier_digits : (Q : Policy) (c : ℕ → ℕ) → StandsAt Q u n c → (j : ℕ) → j < get_or dials k 0 → At (piece_at w' j) (pieces Q (constraint_at w' j)) (c j)
  earlier_digits Q c s j l = let x = small pre g last in let y = wide pre g last in rw (other j (λ z. omega arith), same_constraint j)
      (subst (λ (x : ℕ). At (piece_at w j) (pieces Q (constraint_at w j)) x) (restarted_low c (bound dials n d) j (omega arith)) (g.stands Q c s j (omega arith)))

  -- it starts again
  module _ (off : b ≡ false) where
    heavier : (Q : Policy) → Ends Q e → weight * get_or counts k 0 ≡ span (piece_count Q u) (get_or dials k 0) (n - get_or dials k 0)
    heavier Q ends =
        let s = small pre g last in
        let z : n - get_or dials k 0 ≡ suc (n - suc (get_or dials k 0)) = omega arith in
        rw (behind pre g last Q ends, pre.counted.count Q ends k (inside pre g last))
        (mul_comm (span (piece_count Q u) (suc (get_or dials k 0)) (n - suc (get_or dials k 0))) (piece_count Q u (get_or dials k 0))
        ∙ sym (ap (span (piece_count Q u) (get_or dials k 0)) z ∙ span_front (piece_count Q u) (get_or dials k 0) (n - suc (get_or dials k 0))))

    pub weight_fits : weight * get_or counts k 0 ≤ most_combinations
    weight_fits =
        let Q = pre.split.policy in
        let s = small pre g last in
        let m = span_most (piece_count Q u) (pieces_any Q u) (get_or dials k 0) (n - get_or dials k 0) in
        let z : get_or dials k 0 + (n - get_or dials k 0) ≡ n = omega arith in
        let y = ap (span (piece_count Q u) 0) z in
        omega (arith, heavier Q pre.split.ends, product_span Q u n, pre.split.few)

    fewer : (Q : Policy) (P : (ℕ → ℕ) → Bool) (c : ℕ → ℕ) → Ends Q e → Standing Q P dials earlier₀ u n c q →
        Covers (piece_count Q u) n P c n (in_mask dials reason) → Covers (piece_count Q u) n P c (get_or dials k 0) (in_mask dials mask')
    fewer Q P c ends s h = go relied refl
      where
        go : (r : Bool) → relied ≡ r → Covers (piece_count Q u) n P c (get_or dials k 0) (in_mask dials mask')
        go true y =
            let z : mask' ≡ bit_or mask (get_or earlier₀ k 0) = em ∙ rw (y, g.same k (omega arith)) in
            rw z (covers_last (mask_left dials mask (get_or earlier₀ k 0)) (mask_right dials mask (get_or earlier₀ k 0))
            (covered pre g last Q P c ends s h) (s.known k (inside pre g last)) (small pre g last)
            (let l = t.last off y Q (c (get_or dials k 0)) ends (digit Q c s.stands) in
            let v = ap (λ x. length (pieces Q x)) (constraint_kept g.only (get_or dials k 0)) in omega arith))
        go false y =
            let z : mask' ≡ mask = em ∙ rw y in
            rw z (covers_drop (mask_out dials mask (get_or dials k 0) (λ f l v. ap (test_bit mask) (alone pre g last f l v) ∙ sym er ∙ y))
            (covered pre g last Q P c ends s h))

    pub passing_on : Passing e dials earlier₀ (set earlier k 0) u w' n reason q mask' (weight * get_or counts k 0) k
    passing_on =
        let z = bound_dial dials n k (inside pre g last) in
        record {
          few = let x = inside pre g last in omega arith;
          only = kept;
          size = length-set earlier k 0 ∙ g.size;
          same = λ j h. get_or-set_other earlier k j 0 0 (λ v. omega arith) ∙ g.same j (omega arith);
          heavy = λ Q ends. rw z (heavier Q ends);
          covers = λ Q P c ends s h. rw z (fewer Q P c ends s h);
          stands = λ Q c s j h. rw z (at Q c s j h (order j (get_or dials k 0)) (order (get_or dials k 0) j));
        }
      where
        at : (Q : Policy) (c : ℕ → ℕ) → StandsAt Q u n c → (j : ℕ) → j < n → (j < get_or dials k 0) ⊎ (get_or dials k 0 ≤ j) → (get_or dials k 0 < j) ⊎ (j ≤ get_or dials k 0) →
            At (piece_at w' j) (pieces Q (constraint_at w' j)) (restarted c (get_or dials k 0) j)
        at Q c s j h (inl a) x = rw (restarted_low c (get_or dials k 0) j a) (earlier_digits Q c s j a)
        at Q c s j h (inr a) (inl x) = rw (restarted_high c (get_or dials k 0) j a) (after Q c s j h x)
        at Q c s j h (inr a) (inr x) =
            let v : get_or dials k 0 ≡ j = omega arith in
            rw (restarted_high c (get_or dials k 0) j a)
            (subst (λ (m : ℕ). At (piece_at w' m) (pieces Q (constraint_at w' m)) 0) v (rw (same_constraint (get_or dials k 0)) (t.back off Q)))

  -- it goes on
  module _ (goes : b ≡ true) where
    relies : relied ≡ true
    relies = (t.on goes).0

    new_mask : mask' ≡ bit_or mask (get_or earlier₀ k 0)
    new_mask = em ∙ rw (relies, g.same k (omega arith))

    module _ (Q : Policy) (P : (ℕ → ℕ) → Bool) (c : ℕ → ℕ) (ends : Ends Q e) (s : Standing Q P dials earlier₀ u n c q)
        (h : Covers (piece_count Q u) n P c n (in_mask dials reason)) where
      abbrev c' : ℕ → ℕ
      c' = moved c (get_or dials k 0)

      sizes : piece_count Q w' ≡ piece_count Q u
      sizes = fun_ext (λ j. ap (λ x. length (pieces Q x)) (constraint_kept kept j))

      now_stands : StandsAt Q w' n c'
      now_stands j l = at (order j (get_or dials k 0)) (order (get_or dials k 0) j)
        where
          at : (j < get_or dials k 0) ⊎ (get_or dials k 0 ≤ j) → (get_or dials k 0 < j) ⊎ (j ≤ get_or dials k 0) → At (piece_at w' j) (pieces Q (constraint_at w' j)) (c' j)
          at (inl a) x = rw (moved_low c (get_or dials k 0) j a) (earlier_digits Q c s.stands j a)
          at (inr a) (inl x) = rw (moved_high c (get_or dials k 0) j x) (after Q c s.stands j l x)
          at (inr a) (inr x) =
              let v : get_or dials k 0 ≡ j = omega arith in
              subst (λ (m : ℕ). At (piece_at w' m) (pieces Q (constraint_at w' m)) (moved c (get_or dials k 0) m)) v
              (rw (moved_here c (get_or dials k 0), same_constraint (get_or dials k 0)) ((t.on goes).1 Q (c (get_or dials k 0)) ends (digit Q c s.stands)))

      now_number : suc (value (piece_count Q u) c' n) ≡ next_number q weight
      unfolding next_number
      now_number =
          let x = small pre g last in
          let m = n - suc (get_or dials k 0) in
          let z : suc (get_or dials k 0) + m ≡ n = omega arith in
          let a = value_moved (piece_count Q u) c c' (get_or dials k 0) m (λ j l. at_lt (s.stands j (omega arith))) (λ j l. moved_low c (get_or dials k 0) j l)
          (moved_here c (get_or dials k 0)) (λ j l. moved_high c (get_or dials k 0) j l) in
          let p : value (piece_count Q u) c n ≡ pred q = omega (arith, s.number) in
          ap suc (ap (value (piece_count Q u) c') (sym z) ∙ a
          ∙ ap (λ (y : ℕ). y - y % span (piece_count Q u) (suc (get_or dials k 0)) m + span (piece_count Q u) (suc (get_or dials k 0)) m) (ap (value (piece_count Q u) c) z ∙ p)
          ∙ ap (λ (y : ℕ). pred q - pred q % y + y) (sym (behind pre g last Q ends)))

      now_known : Known (piece_count Q u) n P dials (set earlier k mask') c'
      now_known f l = at (order f k) (order k f)
        where
          at : (f < k) ⊎ (k ≤ f) → (k < f) ⊎ (f ≤ k) → Behind (piece_count Q u) n P c' (get_or dials f 0) (in_mask dials (get_or (set earlier k mask') f 0))
          at (inl a) x =
              let r = pre.dialled.rising f k a (inside pre g last) in
              let y : get_or (set earlier k mask') f 0 ≡ get_or earlier₀ f 0 = get_or-set_other earlier k f mask' 0 (λ v. omega arith) ∙ g.same f (omega arith) in
              rw y (behind_same (λ j b. moved_low c (get_or dials k 0) j (omega arith)) (s.known f l))
          at (inr a) (inl x) = let r = pre.dialled.rising k f x l in behind_first (moved_high c (get_or dials k 0) (get_or dials f 0) r)
          at (inr a) (inr x) =
              let v : k ≡ f = omega arith in
              let y : get_or (set earlier k mask') k 0 ≡ bit_or mask (get_or earlier₀ k 0) =
              get_or-set_same earlier k mask' 0 (omega (arith, inside pre g last, g.size, pre.size)) ∙ new_mask in
              subst (λ (m : ℕ). Behind (piece_count Q u) n P c' (get_or dials m 0) (in_mask dials (get_or (set earlier k mask') m 0))) v
              (rw y (behind_next (mask_left dials mask (get_or earlier₀ k 0)) (mask_right dials mask (get_or earlier₀ k 0))
              (covered pre g last Q P c ends s h) (s.known k (inside pre g last))
              c' (λ j b. moved_low c (get_or dials k 0) j b) (moved_here c (get_or dials k 0))))

      now_standing : Standing Q P dials (set earlier k mask') w' n c' (next_number q weight)
      now_standing = record {
        stands = now_stands;
        number = ap (λ (y : ℕ → ℕ). suc (value y c' n)) sizes ∙ now_number;
        known = subst (λ (y : ℕ → ℕ). Known y n P dials (set earlier k mask') c') (sym sizes) now_known;
      }

    rising : q < next_number q weight
    unfolding next_number
    rising =
        let a = weight_some pre g last in
        let l = mod-lt (pred q) a.0 in
        let m = mod-le (pred q) weight in
        omega (arith, pre.number.0)

    pub passing_done : {r : ℕ} → r ≡ next_number q weight → Skipped e dials earlier₀ (set earlier k mask') n reason q u w' (Some r)
    passing_done {r} z = record {
      told = λ Q P c ends s h. (moved c (get_or dials k 0), subst (λ (y : ℕ). Standing Q P dials (set earlier k mask') w' n (moved c (get_or dials k 0)) y) (sym z) (now_standing Q P c ends s h));
      rises = rw z rising;
      only = kept;
      size = length-set earlier k mask' ∙ g.size;
    }
