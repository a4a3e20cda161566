-- Tokens as places of a text, which is how the functions hand them on.
use Rattle.std.specs.Prelude.{◌%◌, ◌*◌, ◌+◌, ◌-◌, ◌<◌, ◌≤◌, ℕ, List, [], ◌∷◌, ◌≡◌, Option, Some, None, drop, length, take}
use Rattle.tokens.specs.declared.Token.{Token as Place}
use Rattle.tokens.specs.Tokens.{Token, tokens}

-- the bytes of a text from a place to another
abbrev pub part : List ℕ → ℕ → ℕ → List ℕ
part text from to = take (to - from) (drop from text)

-- the bytes of a token that was read
abbrev pub bytes_of : List ℕ → Place → List ℕ
bytes_of text t = part text t.from t.to

-- a token stands in a text
pub record Within (text : List ℕ) (t : Place) : Type 0 where
  pub rises : t.from < t.to
  pub ends : t.to ≤ length text

-- the tokens from one that was read on
abbrev pub headed : List ℕ → Place → List Token
headed text t = bytes_of text t ∷ tokens (drop t.to text)

-- a token is the first from a place on
pub record First (text : List ℕ) (at : ℕ) (t : Place) : Type 0 where
  pub begins : at ≤ t.from
  pub within : Within text t
  pub same : tokens (drop at text) ≡ headed text t

-- what reading a token at a place gives
abbrev pub Read : List ℕ → ℕ → Option Place → Type 0
Read text at None = tokens (drop at text) ≡ []
Read text at (Some t) = First text at t

-- a name's print: the sum of its bytes in base 31 modulo 2^32
abbrev pub print_from : ℕ → List ℕ → ℕ
print_from h [] = h
print_from h (b ∷ t) = print_from ((h * 31 + b) % 4294967296) t

unfoldable pub print_of : List ℕ → ℕ
print_of t = print_from 0 t
