-- SPECIFICATION 3.4, the tokens of a text. No byte is wrong here: what begins no token of the syntax is a token that no form takes.
use Rattle.std.specs.Prelude.{suc, zero, ℕ, Bool, ◌&&◌, ◌||◌, cond, false, true, List, [], ◌∷◌, eqb, leb, length}
use Rattle.meaning.specs.Limits.{most_name_bytes}

-- letters and digits are ASCII's
unfoldable pub is_letter : ℕ → Bool
is_letter b = (leb 65 b && leb b 90) || (leb 97 b && leb b 122)

unfoldable pub is_sign : ℕ → Bool
is_sign b = is_letter b || (leb 48 b && leb b 57)

-- space, tab and line feed
unfoldable pub is_space : ℕ → Bool
is_space b = eqb b 32 || (eqb b 9 || eqb b 10)

-- the colon that begins a name
abbrev pub colon : ℕ
colon = 58

-- whether x goes on the token that begins with b: a letter's goes on by letters, a colon's by letters and digits, no other's
unfoldable pub goes_on : ℕ → ℕ → Bool
goes_on b x = cond (is_letter b) (is_letter x) (eqb b colon && is_sign x)

-- the longest beginning of a text whose bytes all pass, and what stands behind it
abbrev pub run : (ℕ → Bool) → List ℕ → List ℕ
run p [] = []
run p (b ∷ t) = let more = b ∷ run p t in cond (p b) more []

abbrev pub behind : (ℕ → Bool) → List ℕ → List ℕ
behind p [] = []
behind p (b ∷ t) = let more = behind p t in cond (p b) more (b ∷ t)

-- a token is its bytes
abbrev pub Token : Type 0
Token = List ℕ

abbrev pub tokens_from : ℕ → List ℕ → List Token
tokens_from zero t = []
tokens_from (suc f) [] = []
tokens_from (suc f) (b ∷ t) =
    let spaced = tokens_from f t in
    let token = (b ∷ run (goes_on b) t) ∷ tokens_from f (behind (goes_on b) t) in
    cond (is_space b) spaced token

unfoldable pub tokens : List ℕ → List Token
tokens t = tokens_from (length t) t

-- two tokens are the same bytes
abbrev pub same_bytes : List ℕ → List ℕ → Bool
same_bytes [] [] = true
same_bytes [] (y ∷ t) = false
same_bytes (x ∷ s) [] = false
same_bytes (x ∷ s) (y ∷ t) = eqb x y && same_bytes s t

-- a colon and 1 to 32 letters or digits: behind a token's colon there is nothing else (`name_signs` of proofs/)
abbrev pub is_name_token : Token → Bool
is_name_token [] = false
is_name_token (b ∷ t) = eqb b colon && (leb 1 (length t) && leb (length t) most_name_bytes)
