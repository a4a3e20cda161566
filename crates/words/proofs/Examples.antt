-- Two words, by computation: the definitions run.
use Prim.Native.Nat.{ℕ}
use mathlib.Core.List.{List, [], ◌∷◌}
use mathlib.Core.Path.{◌≡◌, refl}
use lib.Count.{ones_in}
use Rattle.words.specs.Members.{listing, members, members_above, next_member, set_bits}
use Rattle.words.specs.Sets.{in_set, including, union_of}

abbrev two : List ℕ
two = 5 ∷ 3 ∷ []

pub lists : members two ≡ 1 ∷ 3 ∷ 33 ∷ 34 ∷ []
unfolding in_set members
lists = refl

pub counts : set_bits two ≡ 4
unfolding set_bits ones_in
counts = refl

pub goes_on_lem : next_member two 3 ≡ 33
unfolding in_set members members_above
goes_on_lem = refl

pub visits : listing 64 two 0 ≡ members two
unfolding in_set members members_above listing
visits = refl

pub puts_in : including two 64 ≡ 5 ∷ 2147483651 ∷ []
unfolding including
puts_in = refl

pub joins : members (union_of two (2 ∷ 1 ∷ [])) ≡ 1 ∷ 2 ∷ 3 ∷ 33 ∷ 34 ∷ []
unfolding in_set members union_of
joins = refl
