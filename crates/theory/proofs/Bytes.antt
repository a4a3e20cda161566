-- Words as bytes are read back as the words. Assumes nothing.
use Prim.Native.Nat.{◌%◌, ◌*◌, ◌+◌, ◌/◌, ◌<◌, suc, ℕ}
use mathlib.Core.List.{List, [], ◌∷◌, map}
use mathlib.Core.Path.{◌≡◌, refl}
use lib.ListN.{drop, length}
use native.Mathlib.Nat.{add-zero}
use native.Mathlib.Omega.{arith}
use Rattle.meaning.specs.Lists.{All, cons, counting, nil}
use Rattle.meaning.specs.Program.{bytes_of, word_at, words_of}
use Rattle.theory.proofs.Chained.{record_after, word_at_lem}

pub bytes_length : (ws : List ℕ) → length (bytes_of ws) ≡ 4 * length ws
unfolding bytes_of
bytes_length [] = refl
bytes_length (w ∷ ws) = omega (arith, bytes_length ws)

-- a word of its four bytes
four_bytes : (w : ℕ) → w < 4294967296 → w % 256 + 256 * (w / 256 % 256) + 65536 * (w / 65536 % 256) + 16777216 * (w / 16777216 % 256) ≡ w
four_bytes w h =
    let second : w / 65536 ≡ w / 256 / 256 = omega arith in
    let third : w / 16777216 ≡ w / 65536 / 256 = omega arith in
    let high : w / 16777216 % 256 ≡ w / 16777216 = omega arith in
    omega arith

-- from word k on the bytes are those of the words
words_from_lem : (b : List ℕ) (k : ℕ) {ws : List ℕ} → All (λ w. w < 4294967296) ws → drop (4 * k) b ≡ bytes_of ws → map (word_at b) (counting k (length ws)) ≡ ws
unfolding bytes_of
words_from_lem b k nil e = refl
words_from_lem b k (cons {x = w} {l = ws} h t) e =
    let first = rw add-zero at (word_at_lem 4 b k e 0) in
    let one : word_at b k ≡ w = rw (first, word_at_lem 4 b k e 1, word_at_lem 4 b k e 2, word_at_lem 4 b k e 3) (four_bytes w h) in
    rw (one, words_from_lem b (suc k) t (record_after 4 b k e))

pub words_of_bytes : {ws : List ℕ} → All (λ w. w < 4294967296) ws → words_of (bytes_of ws) ≡ ws
words_of_bytes {ws} h =
    let count : length (bytes_of ws) / 4 ≡ length ws = omega (arith, bytes_length ws) in
    rw count (words_from_lem (bytes_of ws) 0 h refl)
