-- A feature and a value of it as one number, and lists of such keys that rise.
use Rattle.std.specs.Prelude.{◌*◌, ◌+◌, ◌<◌, ◌≤◌, suc, ℕ, List, [], ◌++◌, ◌≡◌, get_or, length, take}
use Rattle.meaning.specs.Splitting.{insert_all}

-- how many values a feature may have
abbrev pub value_count : ℕ
value_count = 4294967296

-- a feature and a value of it as one number
abbrev pub key_of : ℕ → ℕ → ℕ
key_of f x = f * value_count + x

-- the first n words are the keys ks, rising, each once
abbrev pub Holds : List ℕ → ℕ → List ℕ → Type 0
Holds ks n e = take n e ≡ insert_all ks []

-- r is a place for the key among the first n: a smaller one stands before it, and none at it
pub record Ranked (e : List ℕ) (n key r : ℕ) : Type 0 where
  pub within : r ≤ n
  pub before : (j : ℕ) → r ≡ suc j → get_or e j 0 < key
  pub at : r < n → key ≤ get_or e r 0

-- the keys a are added to the first n words
pub record Gathered (a : List ℕ) (n : ℕ) (e e' : List ℕ) (r : ℕ) : Type 0 where
  pub same : length e' ≡ length e
  pub long : r ≤ n + length a
  pub keys : (ks : List ℕ) → Holds ks n e → Holds (ks ++ a) r e'
