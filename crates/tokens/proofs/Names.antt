-- Behind the colon of a token there are letters and digits alone, so that `is_name_token` need only count them.
use Prim.Native.Nat.{suc, zero, ℕ}
use mathlib.Core.Bool.{Bool, cond, false, true}
use mathlib.Core.List.{List, [], ◌∷◌}
use mathlib.Core.Path.{◌∙◌, ◌≡◌, refl, sym}
use lib.ListN.{length}
use Rattle.meaning.specs.Lists.{All, all, cons, nil}
use Rattle.tokens.specs.Tokens.{Token, behind, colon, goes_on, is_letter, is_sign, is_space, run, tokens, tokens_from}

abbrev pub Signed : Token → Type 0
Signed [] = Unit {0}
Signed (b ∷ t) = b ≡ colon → all is_sign t ≡ true

run_passes : (p : ℕ → Bool) (t : List ℕ) → all p (run p t) ≡ true
run_passes p [] = refl
run_passes p (b ∷ t) = go (p b) refl (run_passes p t)
  where
    go : (c : Bool) → p b ≡ c → all p (run p t) ≡ true → all p (cond c (b ∷ run p t) []) ≡ true
    go true e h = rw (e, h)
    go false e h = refl

colon_goes_on : (x : ℕ) → goes_on colon x ≡ is_sign x
unfolding goes_on is_letter
colon_goes_on x = refl

all_same : (p q : ℕ → Bool) → ((x : ℕ) → p x ≡ q x) → (t : List ℕ) → all p t ≡ all q t
all_same p q h [] = refl
all_same p q h (x ∷ t) = rw (h x, all_same p q h t)

signed : (b : ℕ) (t : List ℕ) → Signed (b ∷ run (goes_on b) t)
signed b t e = rw e (sym (all_same (goes_on colon) is_sign colon_goes_on (run (goes_on colon) t)) ∙ run_passes (goes_on colon) t)

from_signed : (f : ℕ) (t : List ℕ) → All Signed (tokens_from f t)
from_signed zero t = nil
from_signed (suc f) [] = nil
from_signed (suc f) (b ∷ t) = go (is_space b) (from_signed f t) (from_signed f (behind (goes_on b) t))
  where
    go : (c : Bool) → All Signed (tokens_from f t) → All Signed (tokens_from f (behind (goes_on b) t)) →
        All Signed (cond c (tokens_from f t) ((b ∷ run (goes_on b) t) ∷ tokens_from f (behind (goes_on b) t)))
    go true h k = h
    go false h k = cons (signed b t) k

pub name_signs : (t : List ℕ) → All Signed (tokens t)
unfolding tokens
name_signs t = from_signed (length t) t
