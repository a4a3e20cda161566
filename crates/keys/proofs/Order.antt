-- Keys rise by feature, then by value: two with one key are one, and those between two keys of a feature are of that feature.
use Prim.Native.Nat.{◌<◌, ◌≤◌, ℕ}
use mathlib.Core.Bool.{Bool, ◌&&◌, false, true}
use mathlib.Core.Logic.{◌⊎◌, inl, inr}
use mathlib.Core.Path.{◌≡◌, refl, sym}
use native.Mathlib.Omega.{arith}
use lib.Dec.{eqb}
use Rattle.keys.specs.Keys.{key_of, value_count}
use Rattle.meaning.specs.Intervals.{is_within}
use Rattle.theory.proofs.Links.{tests}
use Rattle.theory.proofs.Rules.{order}

pub same_key : (f x g y : ℕ) → x < value_count → y < value_count → key_of f x ≡ key_of g y → (f ≡ g) × (x ≡ y)
same_key f x g y a b e = go (order f g) (order g f)
  where
    go : (f < g) ⊎ (g ≤ f) → (g < f) ⊎ (f ≤ g) → (f ≡ g) × (x ≡ y)
    go (inl i) j = absurd (omega arith)
    go (inr i) (inl j) = absurd (omega arith)
    go (inr i) (inr j) = (omega arith, omega arith)

pub same_truth : (a b : Bool) → (a ≡ true → b ≡ true) → (b ≡ true → a ≡ true) → a ≡ b
same_truth true b f g = sym (f refl)
same_truth false true f g = g refl
same_truth false false f g = refl

pub key_within : (f lo hi g x : ℕ) → lo < value_count → hi < value_count → x < value_count →
    is_within (key_of f lo) (key_of f hi) (key_of g x) ≡ eqb f g && is_within lo hi x
key_within f lo hi g x a b c = same_truth (is_within (key_of f lo) (key_of f hi) (key_of g x)) (eqb f g && is_within lo hi x) into out
  where
    into : is_within (key_of f lo) (key_of f hi) (key_of g x) ≡ true → eqb f g && is_within lo hi x ≡ true
    into h = let u = simp tests at h in let e = one u.0 u.1 (order f g) (order g f) in simp tests (e, (omega arith, omega arith))
      where
        one : key_of f lo ≤ key_of g x → key_of g x ≤ key_of f hi → (f < g) ⊎ (g ≤ f) → (g < f) ⊎ (f ≤ g) → f ≡ g
        one p q (inl i) j = absurd (omega arith)
        one p q (inr i) (inl j) = absurd (omega arith)
        one p q (inr i) (inr j) = omega arith

    out : eqb f g && is_within lo hi x ≡ true → is_within (key_of f lo) (key_of f hi) (key_of g x) ≡ true
    out h = let u = simp tests at h in let e = u.0 in simp tests (omega arith, omega arith)
