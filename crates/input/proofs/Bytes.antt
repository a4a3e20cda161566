-- The bytes of words put one word after another. Assumes nothing.
use Prim.Native.Nat.{◌*◌, ◌+◌, ◌<◌, ◌≤◌, ℕ}
use mathlib.Core.List.{List, ◌++◌}
use mathlib.Core.Path.{◌≡◌, ap}
use native.Mathlib.Numerals.{add-one}
use native.Mathlib.Omega.{arith}
use lib.ListN.{drop, drop_of_length-le, get_or, length, length-append}
use lib.Seq.{drop-cons}
use Rattle.frames.proofs.Puts.{Rest, rest_end, rest_more, rest_start}
use Rattle.frames.specs.Rows.{Put}
use Rattle.meaning.specs.Program.{bytes_of, word_bytes}
use Rattle.theory.proofs.Bytes.{bytes_length}

-- those of word i stand before those of the words behind it
bytes_split : (ws : List ℕ) (i : ℕ) → i < length ws → bytes_of (drop i ws) ≡ word_bytes (get_or ws i 0) ++ bytes_of (drop (i + 1) ws)
unfolding bytes_of
bytes_split ws i h = rw (drop-cons ws i 0 h, add-one i)

-- ---- the loop: the words from word i on are left

abbrev pub BytesLeft : List ℕ → List ℕ → List ℕ → ℕ → ℕ → Type 0
BytesLeft ws b₀ b at i = Rest b₀ 0 (bytes_of ws) b at (bytes_of (drop i ws))

pub bytes_start : (ws b : List ℕ) → BytesLeft ws b b 0 0
bytes_start ws b = rest_start b 0 (bytes_of ws)

module _ (ws : List ℕ) {b₀ b : List ℕ} {at i : ℕ} (g : BytesLeft ws b₀ b at i) (h : i < length ws) where
  pub bytes_room : 4 * length ws ≤ length b₀ → at + 4 ≤ length b
  bytes_room room =
      omega (
        arith,
        g.ends,
        g.size,
        bytes_length ws,
        ap length (bytes_split ws i h),
        length-append (word_bytes (get_or ws i 0)) (bytes_of (drop (i + 1) ws)),
      )

  pub bytes_more : {b' : List ℕ} {r : ℕ} → Put b at (word_bytes (get_or ws i 0)) b' r → BytesLeft ws b₀ b' r (i + 1)
  bytes_more p = rest_more g (word_bytes (get_or ws i 0)) (bytes_of (drop (i + 1) ws)) (bytes_split ws i h) p

pub bytes_put : (ws : List ℕ) {b₀ b : List ℕ} {at i : ℕ} → BytesLeft ws b₀ b at i → length ws ≤ i → Put b₀ 0 (bytes_of ws) b at
unfolding bytes_of
bytes_put ws g h = rest_end g (rw (drop_of_length-le ws h))
