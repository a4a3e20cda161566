-- The members of a set of numbers, in rising order.
use Rattle.std.specs.Prelude.{◌+◌, suc, zero, ℕ, cond, not, List, [], ◌∷◌, eqb, ltb, get_or}
use Rattle.std.specs.Int.Count.{ones_in}
use Rattle.meaning.specs.Lists.{counting, filter}
use Rattle.words.specs.Sets.{capacity, in_set}

-- the members, rising
unfoldable pub members : List ℕ → List ℕ
members ws = filter (in_set ws) (counting 1 (capacity ws))

-- the numbers from 1 to n that are no members, rising
unfoldable pub others_of : List ℕ → ℕ → List ℕ
others_of ws n = filter (λ x. not (in_set ws x)) (counting 1 n)

-- the members above c, rising
unfoldable pub members_above : List ℕ → ℕ → List ℕ
members_above ws c = filter (ltb c) (members ws)

-- the least member above c; 0 where there is none
abbrev pub next_member : List ℕ → ℕ → ℕ
next_member ws c = get_or (members_above ws c) 0 0

-- the member c and those above it, rising; none at 0, which stands for none
unfoldable pub members_from : List ℕ → ℕ → List ℕ
members_from ws zero = []
members_from ws (suc i) = suc i ∷ members_above ws (suc i)

-- the answers of next_member from c on, each asked above the one before; at most so many
unfoldable pub listing : ℕ → List ℕ → ℕ → List ℕ
listing zero ws c = []
listing (suc most) ws c =
    let x = next_member ws c in
    let rest = x ∷ listing most ws x in
    cond (eqb x 0) [] rest

-- how many bits are set, word by word
unfoldable pub set_bits : List ℕ → ℕ
set_bits [] = 0
set_bits (w ∷ ws) = ones_in 32 w + set_bits ws
