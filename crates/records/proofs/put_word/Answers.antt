use Prim.Native.Nat.{◌≤◌, suc, zero, ℕ}
use mathlib.Core.List.{List, [], ◌∷◌}
use mathlib.Core.Path.{◌≡◌, ap, refl, sym}
use native.Mathlib.Omega.{arith}
use lib.ListN.{length, set}
use Rattle.records.proofs.put_word.Goals as goal

set_past : (l : List ℕ) (i a : ℕ) → length l ≤ i → set l i a ≡ l
set_past [] i a h = refl
set_past (x ∷ l) zero a h = absurd (omega arith)
set_past (x ∷ l) (suc i) a h = ap (λ (m : List ℕ). x ∷ m) (set_past l i a (omega arith))

pub returns-else-i-l : goal.returns-else-i-l
returns-else-i-l c = sym (set_past _ _ _ c.if-i-l.false)
