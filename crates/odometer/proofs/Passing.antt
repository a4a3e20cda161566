-- The dials from d on have been passed: what that says of the dial before them, and of the end.
use Prim.Native.Nat.{◌+◌, ◌-◌, ◌<◌, ◌≤◌, suc, ℕ}
use mathlib.Core.Bool.{Bool, cond}
use mathlib.Core.List.{List}
use mathlib.Core.Logic.{◌⊎◌, inl, inr, ⊎_elim}
use mathlib.Core.Path.{◌∙◌, ◌≡◌, ap, refl, subst, sym}
use native.Mathlib.Omega.{arith}
use borrow.Author.Tests.{le-ltb, lt-ltb}
use lib.Dec.{ltb}
use lib.ListN.{get_or, length}
use Rattle.frames.proofs.Frames.{only_none}
use Rattle.frames.specs.Frames.{Only}
use Rattle.layout.specs.Tables.{Pieces, constraint_at}
use Rattle.meaning.specs.Limits.{most_combinations}
use Rattle.meaning.specs.Policy.{Policy}
use Rattle.meaning.specs.Splitting.{pieces}
use Rattle.odometer.proofs.Dials.{one_piece}
use Rattle.odometer.proofs.Digits.{covers_drops, mask_in, mask_out}
use Rattle.odometer.proofs.Weights.{pieces_any, product_span, span_most, span_skip, span_some}
use Rattle.odometer.specs.Digits.{Covers, in_mask, span}
use Rattle.std.specs.Prelude.{None}
use Rattle.odometer.specs.Odometer.{Dialled, Skippable, Skipped, Split, Standing, StandsAt}
use Rattle.splitting.proofs.Callers.{splittable_kept}
use Rattle.splitting.proofs.Storing.{constraint_kept, constraints_kept}
use Rattle.splitting.specs.Ends.{Ends}
use Rattle.splitting.specs.Constraints.{piece_count}
use Rattle.theory.proofs.Odometer.{at_lt}
use Rattle.theory.proofs.Rules.{order}

-- where dial d stands; behind the last, the end
abbrev pub bound : List ℕ → ℕ → ℕ → ℕ
bound dials n d = cond (ltb d (length dials)) (get_or dials d 0) n

-- the digits c of the constraints before b, and 0 from there on
abbrev pub restarted : (ℕ → ℕ) → ℕ → ℕ → ℕ
restarted c b i = cond (ltb i b) (c i) 0

pub restarted_low : (c : ℕ → ℕ) (b i : ℕ) → i < b → restarted c b i ≡ c i
restarted_low c b i h = rw (lt-ltb i b h)

pub restarted_high : (c : ℕ → ℕ) (b i : ℕ) → b ≤ i → restarted c b i ≡ 0
restarted_high c b i h = rw (le-ltb i b h)

pub bound_dial : (dials : List ℕ) (n d : ℕ) → d < length dials → bound dials n d ≡ get_or dials d 0
bound_dial dials n d h = rw (lt-ltb d (length dials) h)

bound_end : (dials : List ℕ) (n d : ℕ) → length dials ≤ d → bound dials n d ≡ n
bound_end dials n d h = rw (le-ltb d (length dials) h)

-- the dials from d on have been passed: the tables were u
pub record Passing (e dials earlier₀ earlier u w : List ℕ) (n reason q mask weight d : ℕ) : Type 0 where
  pub few : d ≤ length dials
  pub only : Only (Pieces n) u w
  pub size : length earlier ≡ length earlier₀
  pub same : (i : ℕ) → i < d → get_or earlier i 0 ≡ get_or earlier₀ i 0
  pub heavy : (Q : Policy) → Ends Q e → weight ≡ span (piece_count Q u) (bound dials n d) (n - bound dials n d)
  pub covers : (Q : Policy) (P : (ℕ → ℕ) → Bool) (c : ℕ → ℕ) → Ends Q e → Standing Q P dials earlier₀ u n c q →
      Covers (piece_count Q u) n P c n (in_mask dials reason) → Covers (piece_count Q u) n P c (bound dials n d) (in_mask dials mask)
  pub stands : (Q : Policy) (c : ℕ → ℕ) → StandsAt Q u n c → StandsAt Q w n (restarted c (bound dials n d))

module _ {e dials counts earlier₀ u : List ℕ} {n q : ℕ} (pre : Skippable e dials counts earlier₀ u n q) where
  dialled : Dialled dials u n
  dialled = pre.dialled

  pub passing_starts : {reason : ℕ} → Passing e dials earlier₀ earlier₀ u u n reason q reason 1 (length dials)
  passing_starts {reason} =
      let z = bound_end dials n (length dials) (omega arith) in
      let y : n - n ≡ 0 = omega arith in
      record {
        few = omega arith;
        only = only_none;
        size = refl;
        same = λ i h. refl;
        heavy = λ Q ends. rw (z, y);
        covers = λ Q P c ends s h. rw z h;
        stands = λ Q c s i h. rw (z, restarted_low c n i h) (s i h);
      }

  pub passing_split : {reason : ℕ} {earlier w : List ℕ} {mask weight d : ℕ} → Passing e dials earlier₀ earlier u w n reason q mask weight d → Split e w n
  passing_split g = record {
    splittable = splittable_kept g.only pre.split.splittable;
    policy = pre.split.policy;
    ends = pre.split.ends;
    few = rw (constraints_kept g.only n) pre.split.few;
  }

  -- a constraint that is no dial has one piece
  still : (Q : Policy) (j : ℕ) → j < n → ((d : ℕ) → d < length dials → get_or dials d 0 ≡ j → ⊥) → piece_count Q u j ≡ 1
  still Q j h off = go (order (constraint_at u j).lo (constraint_at u j).hi)
    where
      go : ((constraint_at u j).lo < (constraint_at u j).hi) ⊎ ((constraint_at u j).hi ≤ (constraint_at u j).lo) → piece_count Q u j ≡ 1
      go (inl a) = let x = dialled.all j h a in absurd (off x.0 x.1 x.2)
      go (inr a) = let f = pre.split.splittable.full j h in one_piece Q (constraint_at u j) (omega arith)

  pub no_digit : (Q : Policy) (c : ℕ → ℕ) → StandsAt Q u n c → (j : ℕ) → j < n → ((d : ℕ) → d < length dials → get_or dials d 0 ≡ j → ⊥) → c j ≡ 0
  no_digit Q c s j h off = let a = at_lt (s j h) in let b = still Q j h off in omega arith

  module _ {reason : ℕ} {earlier w : List ℕ} {mask weight d k : ℕ} (g : Passing e dials earlier₀ earlier u w n reason q mask weight d) (last : d ≡ suc k) where
    pub inside : k < length dials
    inside = let f = g.few in omega arith

    pub small : get_or dials k 0 < n
    small = (dialled.dial k inside).0

    -- no dial stands between it and the next
    pub between : (j : ℕ) → get_or dials k 0 < j → j < bound dials n d → (f : ℕ) → f < length dials → get_or dials f 0 ≡ j → ⊥
    between j a b f h z = ⊎_elim (λ y. low y) (λ y. high y) (order f d)
      where
        low : f < d → ⊥
        low y = ⊎_elim (λ x. let r = dialled.rising f k x inside in omega arith) (λ x. let v : f ≡ k = omega arith in let p = ap (λ (m : ℕ). get_or dials m 0) v in omega arith) (order f k)

        high : d ≤ f → ⊥
        high y = let p = bound_dial dials n d (omega arith) in
            ⊎_elim (λ x. let r = dialled.rising d f x h in omega arith) (λ x. let v : f ≡ d = omega arith in let r = ap (λ (m : ℕ). get_or dials m 0) v in omega arith) (order d f)

    pub wide : (get_or dials k 0 < bound dials n d) × (bound dials n d ≤ n)
    wide = ⊎_elim
        (λ h. let p = bound_dial dials n d h in let r = dialled.rising k d (omega arith) h in let x = dialled.dial d h in (omega arith, omega arith))
        (λ h. let p = bound_end dials n d h in let x = small in (omega arith, omega arith)) (order d (length dials))

    -- the constraints behind it have so many combinations
    pub behind : (Q : Policy) → Ends Q e → weight ≡ span (piece_count Q u) (suc (get_or dials k 0)) (n - suc (get_or dials k 0))
    behind Q ends =
        let x = wide in
        let a = bound dials n d - suc (get_or dials k 0) in
        let b = n - bound dials n d in
        let y : a + b ≡ n - suc (get_or dials k 0) = omega arith in
        let z : suc (get_or dials k 0) + a ≡ bound dials n d = omega arith in
        g.heavy Q ends
        ∙ sym (ap (λ (m : ℕ). span (piece_count Q u) (suc (get_or dials k 0)) m) (sym y)
        ∙ span_skip (piece_count Q u) (suc (get_or dials k 0)) a b (λ j p r. still Q j (omega arith) (between j (omega arith) (omega arith)))
        ∙ ap (λ (m : ℕ). span (piece_count Q u) m b) z)

    pub weight_some : (1 ≤ weight) × (weight ≤ most_combinations)
    weight_some =
        let Q = pre.split.policy in
        let b = behind Q pre.split.ends in
        let p = span_some (piece_count Q u) (pieces_any Q u) (suc (get_or dials k 0)) (n - suc (get_or dials k 0)) in
        let m = span_most (piece_count Q u) (pieces_any Q u) (suc (get_or dials k 0)) (n - suc (get_or dials k 0)) in
        let s = small in
        let z : suc (get_or dials k 0) + (n - suc (get_or dials k 0)) ≡ n = omega arith in
        let y = ap (span (piece_count Q u) 0) z in
        (omega arith, omega (arith, product_span Q u n, pre.split.few))

    -- what is covered behind it
    pub covered : (Q : Policy) (P : (ℕ → ℕ) → Bool) (c : ℕ → ℕ) → Ends Q e → Standing Q P dials earlier₀ u n c q →
        Covers (piece_count Q u) n P c n (in_mask dials reason) → Covers (piece_count Q u) n P c (suc (get_or dials k 0)) (in_mask dials mask)
    covered Q P c ends s h =
        let x = wide in
        let z : bound dials n d ≡ suc (get_or dials k 0) + (bound dials n d - suc (get_or dials k 0)) = omega arith in
        covers_drops (bound dials n d - suc (get_or dials k 0))
        (λ j a b. mask_out dials mask j (λ f l v. absurd (between j (omega arith) (omega arith) f l v)))
        (subst (λ (m : ℕ). Covers (piece_count Q u) n P c m (in_mask dials mask)) z (g.covers Q P c ends s h))

    -- only dial k stands there
    pub alone : (f : ℕ) → f < length dials → get_or dials f 0 ≡ get_or dials k 0 → f ≡ k
    alone f h z = ⊎_elim (λ x. let r = dialled.rising f k x inside in absurd (omega arith))
        (λ x. ⊎_elim (λ y. let r = dialled.rising k f y h in absurd (omega arith)) (λ y. omega arith) (order k f)) (order f k)

  -- none is left: all pass
  pub passing_ends : {reason : ℕ} {earlier w : List ℕ} {mask weight d : ℕ} → Passing e dials earlier₀ earlier u w n reason q mask weight d → d ≤ 0 →
      Skipped e dials earlier₀ earlier n reason q u w None
  passing_ends {reason} {earlier} {w} {mask} {weight} {d} g z = record {
    told = λ Q P c ends s h f v. (g.covers Q P c ends s h).pass f (λ j l. rw (sym (ap (λ x. length (pieces Q x)) (constraint_kept g.only j))) (v j l))
        (λ j l t. let a = mask_in dials mask j t in absurd (before j l a.0 a.1 a.2));
    rises = tt;
    only = g.only;
    size = g.size;
  }
    where
      before : (j : ℕ) → j < bound dials n d → (f : ℕ) → f < length dials → get_or dials f 0 ≡ j → ⊥
      before j l f h y =
          let x : d ≡ 0 = omega arith in
          let b = bound_dial dials n d (omega arith) in
          ⊎_elim (λ a. let r = dialled.rising d f a h in omega arith) (λ a. let v : f ≡ d = omega arith in let r = ap (λ (m : ℕ). get_or dials m 0) v in omega arith) (order d f)
