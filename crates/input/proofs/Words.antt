-- The words of the input and its parts: a loop's next element, and where the parts stand. Assumes nothing.
use Prim.Native.Nat.{◌*◌, ◌+◌, ◌-◌, ◌<◌, suc, zero, ℕ}
use lib.Dec.{eqb}
use lib.ListN.{drop, get_or, length, set, take}
use lib.Seq.{take-suc-set}
use mathlib.Core.List.{List, [], ◌++◌, ◌∷◌, map}
use mathlib.Core.Path.{◌∙◌, ◌≡◌, ap}
use native.Mathlib.Nat.{add-suc, add-zero, suc-add, zero-add}
use native.Mathlib.Numerals.{add-one}
use native.Mathlib.Omega.{arith}
use Rattle.input.specs.Input.{exact}
use Rattle.meaning.specs.Lists.{counting}
use Rattle.meaning.specs.Program.{next_part, part_at, word_at}

-- one more of what is counted
pub counted : {A : Type 0} (f : ℕ → A) (k n : ℕ) → map f (counting k (suc n)) ≡ map f (counting k n) ++ (f (k + n) ∷ [])
counted f k zero = rw add-zero
counted f k (suc n) = rw (counted f (suc k) n, add-suc k n, suc-add k n)

pub decode_more : (b ws : List ℕ) (i : ℕ) → i < length ws → take i ws ≡ map (word_at b) (counting 0 i) →
    take (i + 1) (set ws i (word_at b i)) ≡ map (word_at b) (counting 0 (i + 1))
decode_more b ws i h e = rw (add-one i, take-suc-set ws i (word_at b i) h, e, counted (word_at b) 0 i, zero-add i)

pub exact_parts : (ws : List ℕ) (p q e bytes : ℕ) → p ≡ next_part ws 0 → q ≡ next_part ws p → e ≡ next_part ws q → eqb bytes (4 * e) ≡ exact bytes ws
exact_parts ws p q e bytes h₁ h₂ h₃ = ap (λ (k : ℕ). eqb bytes (4 * k)) (h₃ ∙ ap (next_part ws) (h₂ ∙ ap (next_part ws) h₁))

pub part_taken : (ws : List ℕ) (i to : ℕ) → to ≡ next_part ws i → take (to - (i + 1)) (drop (i + 1) ws) ≡ part_at ws i
part_taken ws i to e =
    let size : to - (i + 1) ≡ get_or ws i 0 = omega arith in
    rw (size, add-one)
