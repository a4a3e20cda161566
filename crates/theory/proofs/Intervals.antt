-- The laws of intervals: proofs use these, and do not look at the ends themselves.
use Prim.Native.Nat.{◌≤◌, ℕ}
use mathlib.Core.Bool.{not}
use mathlib.Core.Logic.{◌↔◌}
use mathlib.Core.Path.{◌≡◌}
use lib.Dec.{T, leb, leb→le, le→leb, nleb→lt}
use native.Mathlib.Omega.{arith}
use Rattle.meaning.specs.Intervals.{Constraint, Empty, NonEmpty, Within, is_inside, is_non_empty, is_within, meet, value_of}
use Rattle.theory.proofs.Rules.{T_and, and_T}

module _ (lo hi : ℕ) where
  pub is_within_iff : (v : ℕ) → T (is_within lo hi v) ↔ Within lo hi v
  is_within_iff v = (
    λ t. let u = T_and (leb lo v) (leb v hi) t in (leb→le lo v u.0, leb→le v hi u.1),
    λ w. and_T (leb lo v) (leb v hi) (le→leb lo v w.0) (le→leb v hi w.1),
  )

  pub is_non_empty_iff : T (is_non_empty lo hi) ↔ NonEmpty lo hi
  is_non_empty_iff = (leb→le lo hi, le→leb lo hi)

  pub not_is_non_empty : T (not (is_non_empty lo hi)) → Empty lo hi
  not_is_non_empty t = nleb→lt lo hi t

  pub empty_non_empty : Empty lo hi → NonEmpty lo hi → ⊥
  empty_non_empty e n = omega arith

  pub within_non_empty : (v : ℕ) → Within lo hi v → NonEmpty lo hi
  within_non_empty v w = omega arith

  pub inside_of : (lo' hi' : ℕ) → lo ≤ lo' → hi' ≤ hi → T (is_inside lo hi lo' hi')
  inside_of lo' hi' a b = and_T (leb lo lo') (leb hi' hi) (le→leb lo lo' a) (le→leb hi' hi b)

  -- one inside another has no value that the other has not
  pub inside_within : (lo' hi' v : ℕ) → T (is_inside lo hi lo' hi') → Within lo' hi' v → Within lo hi v
  inside_within lo' hi' v t w =
      let u = T_and (leb lo lo') (leb hi' hi) t in
      let a = leb→le lo lo' u.0 in
      let b = leb→le hi' hi u.1 in
      (omega arith, omega arith)

  pub is_inside_trans : (lo' hi' lo'' hi'' : ℕ) → T (is_inside lo hi lo' hi') → T (is_inside lo' hi' lo'' hi'') → T (is_inside lo hi lo'' hi'')
  is_inside_trans lo' hi' lo'' hi'' s t =
      let a = T_and (leb lo lo') (leb hi' hi) s in
      let b = T_and (leb lo' lo'') (leb hi'' hi') t in
      let w = leb→le lo lo' a.0 in
      let x = leb→le hi' hi a.1 in
      let y = leb→le lo' lo'' b.0 in
      let z = leb→le hi'' hi' b.1 in
      inside_of lo'' hi'' (omega arith) (omega arith)

  pub is_inside_refl : T (is_inside lo hi lo hi)
  is_inside_refl = inside_of lo hi (omega arith) (omega arith)

-- the interval of one value
pub within_only : (v : ℕ) → Within v v v
within_only v = (omega arith, omega arith)

pub only_within : (v w : ℕ) → Within v v w → w ≡ v
only_within v w h = omega arith

-- the values of both of two constraints
module _ (s t : Constraint) (v : ℕ) where
  pub within_meet : Within s.lo s.hi v → Within t.lo t.hi v → Within (meet s t).lo (meet s t).hi v
  within_meet a b = (omega arith, omega arith)

  pub meet_within : Within (meet s t).lo (meet s t).hi v → Within s.lo s.hi v × Within t.lo t.hi v
  meet_within w = ((omega arith, omega arith), (omega arith, omega arith))

-- the value of a piece lies in it
pub value_within_lem : (p : Constraint) → NonEmpty p.lo p.hi → Within p.lo p.hi (value_of p)
unfolding value_of
value_within_lem p a = (omega arith, omega arith)
