-- Combinations by digits: the digit of a constraint is the place of its piece, counted from 0. What is known to pass, and by which
-- constraints.
use Rattle.std.specs.Prelude.{◌*◌, ◌+◌, ◌<◌, suc, zero, ℕ, Bool, ◌&&◌, true, List, ◌≡◌, eqb, get_or, length}
use Rattle.meaning.specs.Lists.{any, counting}
use Rattle.words.specs.Sets.{test_bit}

-- the first n digits as one number, the last varying fastest (SPECIFICATION 7.3); constraint i has s i pieces
abbrev pub value : (ℕ → ℕ) → (ℕ → ℕ) → ℕ → ℕ
value s c zero = 0
value s c (suc m) = value s c m * s m + c m

-- how many combinations the k constraints from m on have
abbrev pub span : (ℕ → ℕ) → ℕ → ℕ → ℕ
span s m zero = 1
span s m (suc k) = span s m k * s (m + k)

-- each of the first n digits names a piece
abbrev pub Valid : (ℕ → ℕ) → ℕ → (ℕ → ℕ) → Type 0
Valid s n e = (i : ℕ) → i < n → e i < s i

-- e and c have the same digits at the constraints before i that are in R
abbrev pub Agree : ℕ → (ℕ → Bool) → (ℕ → ℕ) → (ℕ → ℕ) → Type 0
Agree i R e c = (j : ℕ) → j < i → R j ≡ true → e j ≡ c j

-- all that agree with c at the constraints before i in R pass
pub record Covers (s : ℕ → ℕ) (n : ℕ) (P : (ℕ → ℕ) → Bool) (c : ℕ → ℕ) (i : ℕ) (R : ℕ → Bool) : Type 0 where
  pub pass : (e : ℕ → ℕ) → Valid s n e → Agree i R e c → P e ≡ true

-- so do those with a smaller digit at i that agree with c at the constraints before it in A
pub record Behind (s : ℕ → ℕ) (n : ℕ) (P : (ℕ → ℕ) → Bool) (c : ℕ → ℕ) (i : ℕ) (A : ℕ → Bool) : Type 0 where
  pub pass : (e : ℕ → ℕ) → Valid s n e → Agree i A e c → e i < c i → P e ≡ true

-- the constraints of the dials in a mask
abbrev pub in_mask : List ℕ → ℕ → ℕ → Bool
in_mask dials mask i = any (λ d. eqb (get_or dials d 0) i && test_bit mask d) (counting 0 (length dials))

-- for each dial a mask of the dials that its earlier pieces rely on
abbrev pub Known : (ℕ → ℕ) → ℕ → ((ℕ → ℕ) → Bool) → List ℕ → List ℕ → (ℕ → ℕ) → Type 0
Known s n P dials earlier c = (d : ℕ) → d < length dials → Behind s n P c (get_or dials d 0) (in_mask dials (get_or earlier d 0))
