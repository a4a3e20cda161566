-- A piece put beside a constraint: what stays.
use Prim.Native.Nat.{◌≤◌, suc, zero, ℕ}
use mathlib.Core.List.{List, ◌∷◌, map}
use mathlib.Core.Path.{◌≡◌, ap, ap₂, refl}
use native.Mathlib.Omega.{arith}
use Rattle.frames.proofs.Frames.{only_wider}
use Rattle.frames.specs.Frames.{Only}
use Rattle.layout.proofs.Entries.{held_same, piece_same}
use Rattle.layout.specs.Tables.{Held, PiecePut, Pieces, constraint_at, piece_at}
use Rattle.meaning.specs.Lists.{counting}
use Rattle.splitting.specs.Constraints.{Full, first_constraints}

-- ---- pieces of the first n constraints

module _ {n : ℕ} {w v : List ℕ} (k : Only (Pieces n) w v) where
  -- the constraints stay, however many
  pub constraint_kept : (j : ℕ) → constraint_at v j ≡ constraint_at w j
  constraint_kept j =
      ap (λ (h : Held). h.constraint) (held_same w v j (λ i a b. k.others i (λ s. omega (arith, s.span.low, s.span.high))))

  pub constraints_kept : (m : ℕ) → first_constraints v m ≡ first_constraints w m
  constraints_kept m = go 0 m
    where
      go : (o m : ℕ) → map (constraint_at v) (counting o m) ≡ map (constraint_at w) (counting o m)
      go o zero = refl
      go o (suc m) = ap₂ (λ x l. x ∷ l) (constraint_kept o) (go (suc o) m)

  pub full_kept : (m : ℕ) → Full w m → Full v m
  full_kept m f j h = rw (constraint_kept j) (f j h)

  pub pieces_more : {m : ℕ} → n ≤ m → Only (Pieces m) w v
  pieces_more h = only_wider (λ i s. record { constraint = s.constraint; few = omega (arith, s.few); span = s.span }) k

-- ---- one piece

module _ {i a b : ℕ} {w v : List ℕ} (p : PiecePut i a b w v) where
  pub put_kept : Only (Pieces (suc i)) w v
  put_kept = only_wider (λ k s. record { constraint = i; few = omega arith; span = s }) p.only

  pub piece_other : (j : ℕ) → (j ≡ i → ⊥) → piece_at v j ≡ piece_at w j
  piece_other j n = piece_same w v j (λ k c d. p.only.others k (λ s. n (omega (arith, s.low, s.high))))
