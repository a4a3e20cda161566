-- Laws of a product that stays within a bound.
use Prim.Native.Nat.{◌≤◌, ℕ}

pub record Within (most round : ℕ) : Type 0 where
  pub some : 1 ≤ round
  pub fits : round ≤ most
