-- The tests of a byte, and prints, as the functions return them.
use Prim.Native.Nat.{◌%◌, ◌*◌, ◌+◌, ℕ}
use mathlib.Core.Bool.{Bool, ◌&&◌, ◌||◌, false, true}
use mathlib.Core.List.{List, [], ◌∷◌}
use mathlib.Core.Path.{◌≡◌, refl}
use lib.Dec.{leb}
use native.Mathlib.Omega.{arith}
use Rattle.std.specs.Char.{is_ascii_alphanumeric}
use Rattle.std.specs.List.{fold}
use Rattle.tokens.specs.Places.{print_from, print_of}
use Rattle.tokens.specs.Tokens.{is_letter, is_sign}

either : (d u l : Bool) → d || u || l ≡ u || l || d
either true true l = refl
either true false true = refl
either true false false = refl
either false true l = refl
either false false true = refl
either false false false = refl

pub sign_alphanumeric : (b : ℕ) → is_ascii_alphanumeric b ≡ is_sign b
unfolding is_sign is_letter
sign_alphanumeric b = either (leb 48 b && leb b 57) (leb 65 b && leb b 90) (leb 97 b && leb b 122)

step_lem : (h b : ℕ) → ((h * 31) % 4294967296 + b) % 4294967296 ≡ (h * 31 + b) % 4294967296
step_lem h b = omega arith

fold_lem : (h : ℕ) (t : List ℕ) → fold (λ (h b : ℕ). ((h * 31) % 4294967296 + b) % 4294967296) h t ≡ print_from h t
fold_lem h [] = refl
fold_lem h (b ∷ t) = rw (step_lem h b) (fold_lem ((h * 31 + b) % 4294967296) t)

pub print_folded : (t : List ℕ) → fold (λ (h b : ℕ). ((h * 31) % 4294967296 + b) % 4294967296) 0 t ≡ print_of t
unfolding print_of
print_folded t = fold_lem 0 t
