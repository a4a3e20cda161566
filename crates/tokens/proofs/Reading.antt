-- The tokens of a text, one after another: the fuel does not matter, space before a token is passed, a token is a run.
use Prim.Native.Nat.{◌+◌, ◌-◌, ◌<◌, ◌≤◌, suc, zero, ℕ}
use mathlib.Core.Bool.{Bool, cond, false, true}
use mathlib.Core.List.{List, [], ◌∷◌}
use mathlib.Core.Path.{◌∙◌, ◌≡◌, ap, refl}
use lib.ListN.{drop, drop_of_length-le, get_or, length, length-drop, take}
use Rattle.std.proofs.lemmas.List.{drop-drop}
use Rattle.std.proofs.lemmas.List.Sums.{prefix_len-le-length, prefix_len_stops}
use lib.Seq.{drop-cons, get_or-drop, take-length}
use native.Mathlib.Numerals.{add-one}
use native.Mathlib.Omega.{arith}
use Rattle.std.specs.List.{prefix_len}
use Rattle.std.proofs.Common.{None}
use Rattle.tokens.specs.Places.{First, Read, part}
use Rattle.tokens.specs.Tokens.{behind, goes_on, is_space, run, tokens, tokens_from}

one_more : {n : ℕ} → 1 + n ≡ suc n
one_more {n} = omega arith

behind_le : (p : ℕ → Bool) (t : List ℕ) → length (behind p t) ≤ length t
behind_le p [] = omega arith
behind_le p (b ∷ t) = go (p b) (behind_le p t)
  where
    go : (c : Bool) → length (behind p t) ≤ length t → length (cond c (behind p t) (b ∷ t)) ≤ suc (length t)
    go true h = omega arith
    go false h = omega arith

fuel : (f g : ℕ) (t : List ℕ) → length t ≤ f → length t ≤ g → tokens_from f t ≡ tokens_from g t
fuel zero zero [] h k = refl
fuel zero (suc g) [] h k = refl
fuel (suc f) zero [] h k = refl
fuel (suc f) (suc g) [] h k = refl
fuel zero zero (b ∷ t) h k = refl
fuel zero (suc g) (b ∷ t) h k = absurd (omega arith)
fuel (suc f) zero (b ∷ t) h k = absurd (omega arith)
fuel (suc f) (suc g) (b ∷ t) h k =
    let l = behind_le (goes_on b) t in
    rw (fuel f g t (omega arith) (omega arith), fuel f g (behind (goes_on b) t) (omega arith) (omega arith))

pub tokens_none : tokens [] ≡ []
unfolding tokens
tokens_none = refl

pub tokens_space : (b : ℕ) (t : List ℕ) → is_space b ≡ true → tokens (b ∷ t) ≡ tokens t
unfolding tokens
tokens_space b t h = rw h

pub tokens_more : (b : ℕ) (t : List ℕ) → is_space b ≡ false → tokens (b ∷ t) ≡ (b ∷ run (goes_on b) t) ∷ tokens (behind (goes_on b) t)
unfolding tokens
tokens_more b t h =
    rw (h, fuel (length t) (length (behind (goes_on b) t)) (behind (goes_on b) t) (behind_le (goes_on b) t) (omega arith))

pub tokens_skip : (t : List ℕ) → tokens t ≡ tokens (behind is_space t)
tokens_skip [] = refl
tokens_skip (b ∷ t) = go (is_space b) refl (tokens_skip t)
  where
    go : (c : Bool) → is_space b ≡ c → tokens t ≡ tokens (behind is_space t) → tokens (b ∷ t) ≡ tokens (cond c (behind is_space t) (b ∷ t))
    go true h e = tokens_space b t h ∙ e
    go false h e = refl

-- what stands behind space is no space
behind_first : (p : ℕ → Bool) (t : List ℕ) (b : ℕ) (u : List ℕ) → behind p t ≡ b ∷ u → p b ≡ false
behind_first p [] b u e = cc
behind_first p (x ∷ t) b u e = go (p x) refl (behind_first p t b u) e
  where
    go : (c : Bool) → p x ≡ c → (behind p t ≡ b ∷ u → p b ≡ false) → cond c (behind p t) (x ∷ t) ≡ b ∷ u → p b ≡ false
    go true h r e = r e
    go false h r e = let d : x ≡ b = cc in rw (← d) h

-- ---- how many bytes in front pass a test

behind_cut : (p : ℕ → Bool) (t : List ℕ) → behind p t ≡ drop (prefix_len p t) t
behind_cut p [] = refl
behind_cut p (b ∷ t) = go (p b) (behind_cut p t)
  where
    go : (c : Bool) → behind p t ≡ drop (prefix_len p t) t → cond c (behind p t) (b ∷ t) ≡ drop (cond c (1 + prefix_len p t) 0) (b ∷ t)
    go true e = rw one_more e
    go false e = refl

run_cut : (p : ℕ → Bool) (t : List ℕ) → run p t ≡ take (prefix_len p t) t
run_cut p [] = refl
run_cut p (b ∷ t) = go (p b) (run_cut p t)
  where
    go : (c : Bool) → run p t ≡ take (prefix_len p t) t → cond c (b ∷ run p t) [] ≡ take (cond c (1 + prefix_len p t) 0) (b ∷ t)
    go true e = rw (one_more, e)
    go false e = refl

-- a slice from a place to the end
pub whole : (at : ℕ) (text : List ℕ) → take (length text - at) (drop at text) ≡ drop at text
whole at text = rw (← length-drop at text) (take-length (drop at text))

module _ (text : List ℕ) (at : ℕ) {n : ℕ} (h : at ≤ length text) (e : n ≡ prefix_len is_space (drop at text)) where
  pub space_small : at + n ≤ length text
  space_small = omega (arith, length-drop at text, prefix_len-le-length is_space (drop at text))

  skipped : tokens (drop at text) ≡ tokens (drop (at + n) text)
  skipped = tokens_skip (drop at text) ∙ ap tokens (behind_cut is_space (drop at text) ∙ rw (← e) (drop-drop n at text))

  pub read_none : length text ≤ at + n → Read text at None
  read_none l = skipped ∙ rw (drop_of_length-le text l) tokens_none

  module _ (l : at + n < length text) {b m : ℕ} (d : b ≡ get_or text (at + n) 0) (q : m ≡ prefix_len (goes_on b) (drop (at + n + 1) text)) where
    pub token_small : at + n + 1 + m ≤ length text
    token_small = omega (arith, length-drop (at + n + 1) text, prefix_len-le-length (goes_on b) (drop (at + n + 1) text))

    solid : is_space b ≡ false
    solid =
        let k = get_or-drop at text n 0 in
        let s = prefix_len_stops is_space (drop at text) 0 (omega (arith, length-drop at text)) in
        rw (d, ← k, e) s

    token_bytes : b ∷ run (goes_on b) (drop (at + n + 1) text) ≡ part text (at + n) (at + n + 1 + m)
    token_bytes =
        let size : at + n + 1 + m - (at + n) ≡ suc m = omega arith in
        rw (size, drop-cons text (at + n) 0 l, run_cut (goes_on b) (drop (at + n + 1) text), ← q, d, add-one (at + n))

    rest : behind (goes_on b) (drop (at + n + 1) text) ≡ drop (at + n + 1 + m) text
    rest = behind_cut (goes_on b) (drop (at + n + 1) text) ∙ rw (← q) (drop-drop m (at + n + 1) text)

    first_cut : drop (at + n) text ≡ b ∷ drop (at + n + 1) text
    first_cut = drop-cons text (at + n) 0 l ∙ rw (d, add-one (at + n))

    pub read_token : First text at (record { from = at + n; to = at + n + 1 + m })
    read_token =
        record {
          begins = omega arith;
          within = record { rises = omega arith; ends = token_small };
          same = skipped ∙ ap tokens first_cut ∙ tokens_more b (drop (at + n + 1) text) solid ∙ rw (token_bytes, rest);
        }
