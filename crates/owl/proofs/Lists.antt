-- Lists that are made of lists.
use Prim.Native.Nat.{ℕ}
use mathlib.Core.Bool.{Bool}
use mathlib.Core.List.{List, [], ◌∷◌, map}
use mathlib.Core.Path.{◌≡◌, refl}
use Rattle.meaning.specs.Lists.{filter, flat_map}

pub filter_alike : (p q : ℕ → Bool) → ((x : ℕ) → p x ≡ q x) → (l : List ℕ) → filter p l ≡ filter q l
filter_alike p q h [] = refl
filter_alike p q h (x ∷ l) = rw (h x, filter_alike p q h l)

-- what was put in is found again, or nothing is
module _ {A B : Type 0} (f : B → List A) (g : A → B) where
  pub flat_map_again : ((x : A) → f (g x) ≡ x ∷ []) → (l : List A) → flat_map f (map g l) ≡ l
  flat_map_again h [] = refl
  flat_map_again h (x ∷ l) = rw (h x, flat_map_again h l)

  pub flat_map_none : ((x : A) → f (g x) ≡ []) → (l : List A) → flat_map f (map g l) ≡ []
  flat_map_none h [] = refl
  flat_map_none h (x ∷ l) = rw (h x, flat_map_none h l)
