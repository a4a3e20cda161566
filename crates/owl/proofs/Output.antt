-- The names of a set as records.
use Prim.Native.Nat.{ℕ}
use mathlib.Core.List.{List, ◌∷◌}
use mathlib.Core.Path.{◌≡◌, refl}
use Rattle.owl.specs.Passes.{naming}
use Rattle.records.specs.Written.{Wide}
use Rattle.words.proofs.Listing.{from_more, from_start}
use Rattle.words.specs.Members.{members, members_from, next_member}

pub name_length : (kind : ℕ) → Wide (naming kind)
name_length kind x next = refl

module _ (names : List ℕ) where
  pub names_start : {x : ℕ} → x ≡ next_member names 0 → members_from names x ≡ members names
  names_start e = rw e (from_start names)

  pub names_more : {x y : ℕ} → (x ≡ 0 → ⊥) → y ≡ next_member names x → members_from names x ≡ x ∷ members_from names y
  names_more {x} n e = rw e (from_more names x n)
