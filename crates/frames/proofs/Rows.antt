-- Sets in a longer row of words: a part of a slice, what was put there, and what stands beside it. Assumes nothing.
use Prim.Native.Nat.{◌+◌, ◌-◌, ◌<◌, ◌≤◌, ℕ}
use lib.ListN.{drop, get_or, length, length-append, length-drop, length-take, set, take, take-append-drop}
use lib.Seq.{drop-append-add, drop_at, drop-drop, get_or-drop, get_or-take, length-take-le, paste, paste-suc, take-append-le, take_at, take-length, take-take}
use mathlib.Core.List.{List, [], ◌++◌, append_assoc}
use mathlib.Core.Path.{◌∙◌, ◌≡◌, ap, sym}
use native.Mathlib.Nat.{add-zero}
use native.Mathlib.Numerals.{add-one}
use native.Mathlib.Omega.{arith}
use Rattle.frames.specs.Rows.{put_at, row_at}

pub length_row : (n : ℕ) (ws : List ℕ) (at : ℕ) → at + n ≤ length ws → length (row_at n ws at) ≡ n
length_row n ws at h = length-take n (drop at ws) ∙ omega (arith, length-drop at ws)

-- the part `ws[at .. at + n]` of a slice
pub row_part : (n : ℕ) (ws : List ℕ) (at : ℕ) → take ((at + n) - at) (drop at ws) ≡ row_at n ws at
row_part n ws at = let size : (at + n) - at ≡ n = omega arith in rw size

-- what lies past the first of two lists
back : (xs ys : List ℕ) (i : ℕ) → length xs ≤ i → drop i (xs ++ ys) ≡ drop (i - length xs) ys
back xs ys i l =
    let past : i ≡ length xs + (i - length xs) = omega arith in
    ap (λ (k : ℕ). drop k (xs ++ ys)) past ∙ drop-append-add xs ys (i - length xs)

module _ (ws : List ℕ) (at : ℕ) (vs : List ℕ) (h : at + length vs ≤ length ws) where
  pub length_put : length (put_at ws at vs) ≡ length ws
  length_put = simp (length-append, length-take, length-drop) (omega arith)

  -- what was put stands there
  pub put_row : row_at (length vs) (put_at ws at vs) at ≡ vs
  put_row =
      ap (take (length vs)) (drop_at (take at ws) (vs ++ drop (at + length vs) ws) at (length-take-le at ws (omega arith)))
      ∙ take_at vs (drop (at + length vs) ws) (length vs) (omega arith)

  -- what stands before it and after it is as it was
  pub put_take : (i : ℕ) → i ≤ at → take i (put_at ws at vs) ≡ take i ws
  put_take i l =
      let first : length (take at ws) ≡ at = length-take-le at ws (omega arith) in
      take-append-le i (take at ws) (vs ++ drop (at + length vs) ws) (omega arith) ∙ take-take i at ws l

  pub put_drop : (i : ℕ) → at + length vs ≤ i → drop i (put_at ws at vs) ≡ drop i ws
  put_drop i l =
      let first : length (take at ws) ≡ at = length-take-le at ws (omega arith) in
      let rest = i - length (take at ws) in
      let same : at + length vs + (rest - length vs) ≡ i = omega arith in
      back (take at ws) (vs ++ drop (at + length vs) ws) i (omega arith)
      ∙ back vs (drop (at + length vs) ws) rest (omega arith)
      ∙ drop-drop (rest - length vs) (at + length vs) ws
      ∙ ap (λ (k : ℕ). drop k ws) same

  -- what is put straight after it
  pub put_append : (us : List ℕ) → put_at (put_at ws at vs) (at + length vs) us ≡ put_at ws at (vs ++ us)
  put_append us =
      let rest = drop (at + length vs) ws in
      let first : length (take at ws ++ vs) ≡ at + length vs = simp (length-append, length-take) (omega arith) in
      let front : take (at + length vs) (put_at ws at vs) ≡ take at ws ++ vs =
      ap (take (at + length vs)) (sym (append_assoc (take at ws) vs rest)) ∙ take_at (take at ws ++ vs) rest (at + length vs) first in
      let all : at + length vs + length us ≡ at + length (vs ++ us) = simp length-append (omega arith) in
      rw (front, put_drop (at + length vs + length us) (omega arith), all) (simp append_assoc)

-- no words put
pub put_nil : (ws : List ℕ) (at : ℕ) → put_at ws at [] ≡ ws
put_nil ws at = rw add-zero (take-append-drop at ws)

-- a row put where it stands
pub put_self : (n : ℕ) (ws : List ℕ) (at : ℕ) → at + n ≤ length ws → put_at ws at (row_at n ws at) ≡ ws
put_self n ws at h =
    rw (length_row n ws at h, ← drop-drop n at ws, take-append-drop n (drop at ws)) (take-append-drop at ws)

-- ---- words put one by one, and a copy

pub stored_more : (ws ts : List ℕ) (at : ℕ) (vs : List ℕ) (i : ℕ) → at + length vs ≤ length ws → i < length vs → ts ≡ paste ws at vs i
    → set ts (at + i) (get_or vs i 0) ≡ paste ws at vs (i + 1)
stored_more ws ts at vs i l h e = rw (e, add-one i) (paste-suc ws at vs i 0 (omega arith) h)

pub stored_all : (ws ts : List ℕ) (at : ℕ) (vs : List ℕ) (i : ℕ) → i ≡ length vs → ts ≡ paste ws at vs i → ts ≡ put_at ws at vs
stored_all ws ts at vs i n e = rw (e, n, take-length vs, append_assoc)

module _ (from : List ℕ) (i : ℕ) (to : List ℕ) (j n : ℕ) (f : i + n ≤ length from) (t : j + n ≤ length to) where
  pub copied_more : (ts : List ℕ) (k : ℕ) → k < n → ts ≡ paste to j (row_at n from i) k → set ts (j + k) (get_or from (i + k) 0) ≡ paste to j (row_at n from i) (k + 1)
  copied_more ts k h e =
      let l = length_row n from i f in
      let w : get_or (row_at n from i) k 0 ≡ get_or from (i + k) 0 = get_or-take n (drop i from) k 0 h ∙ get_or-drop i from k 0 in
      ap (λ (x : ℕ). set ts (j + k) x) (sym w) ∙ stored_more to ts j (row_at n from i) k (omega arith) (omega arith) e

  pub copied_all : (ts : List ℕ) (k : ℕ) → k ≡ n → ts ≡ paste to j (row_at n from i) k → ts ≡ put_at to j (row_at n from i)
  copied_all ts k e g = stored_all to ts j (row_at n from i) k (e ∙ sym (length_row n from i f)) g
