-- Which of two lists of numbers goes first.
use Rattle.std.specs.Cmp.Lexicographic.{slice_cmp}
use Rattle.std.specs.Ordering.{nat_cmp}
use Rattle.std.specs.Prelude.{◌<◌, ℕ, Bool, false, true, List, [], ◌∷◌, ◌≡◌}
use Rattle.std.specs.declared.cmp.Ordering.{Ordering}

-- number by number, a shorter beginning first
abbrev pub order_of : List ℕ → List ℕ → Ordering
order_of l m = slice_cmp nat_cmp l m

-- numbers behind those of a class: none, or those of a record of a later kind
abbrev pub Continues : Bool → List ℕ → Type 0
Continues false l = l ≡ []
Continues true [] = ⊥
Continues true (k ∷ l) = 1 < k
