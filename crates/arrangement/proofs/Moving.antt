-- The run at a place moved behind others, by way of spare words. Assumes nothing.
use Prim.Native.Nat.{◌+◌, ◌-◌, ◌≤◌, ℕ}
use borrow.Rule.Slice.PartMut.{put_mid}
use mathlib.Core.List.{List, ◌++◌, append-nil}
use mathlib.Core.Path.{◌∙◌, ◌≡◌, ap, ap₂}
use lib.ListN.{drop, length, length-append, length-drop, take}
use lib.Seq.{drop_at, drop-drop, take_at}
use native.Mathlib.Omega.{arith}
use Rattle.std.proofs.lemmas.List.{drop_all}
use Rattle.arrangement.specs.Steps.{Rotatable, rotated}
use Rattle.frames.proofs.Rows.{length_row}
use Rattle.frames.specs.Rows.{row_at}

-- spare words of which the first n become u
abbrev front : ℕ → List ℕ → List ℕ → List ℕ
front n m u = put_mid 0 n m u

-- and all that stand behind these become v
filled : (n : ℕ) (m u v : List ℕ) → length u ≡ n → put_mid n (length (front n m u) - n) (front n m u) v ≡ u ++ v
filled n m u v e =
    let k = length (front n m u) - n in
    let many : length m ≤ n + k = (let x = length-append u (drop n m) in let y = length-drop n m in omega arith) in
    ap₂ (λ (x y : List ℕ). x ++ (v ++ drop k y)) (take_at u (drop n m) n e) (drop_at u (drop n m) n e)
    ∙ ap (λ (x : List ℕ). u ++ (v ++ x)) (drop-drop k n m ∙ drop_all (n + k) m many)
    ∙ ap (λ (x : List ℕ). u ++ x) (append-nil v)

module _ {o : List ℕ} {a b c : ℕ} (g : Rotatable o a b c) where
  ab : a ≤ b
  ab = g.first

  bc : b ≤ c
  bc = g.second

  cn : c ≤ length o
  cn = g.within

  upper : length (row_at (c - b) o b) ≡ c - b
  upper = length_row (c - b) o b (let i = bc in let j = cn in omega arith)

  many : a + length (row_at (c - b) o b ++ row_at (b - a) o a) ≡ c
  many =
      let l = length-append (row_at (c - b) o b) (row_at (b - a) o a) in
      let u = upper in
      let v = length_row (b - a) o a (let i = ab in let j = bc in let k = cn in omega arith) in
      let i = ab in
      let j = bc in
      omega arith

  -- the runs put together in spare words, the other way round, and then in the place of both
  pub rotated_whole : (m : List ℕ) {u v s : List ℕ} → u ≡ row_at (c - b) o b → v ≡ row_at (b - a) o a →
      s ≡ put_mid (c - b) (length (front (c - b) m u) - (c - b)) (front (c - b) m u) v → put_mid a (c - a) o s ≡ rotated o a b c
  unfolding rotated
  rotated_whole m {u} {v} {s} e f h =
      let whole = row_at (c - b) o b ++ row_at (b - a) o a in
      let i : a + (c - a) ≡ a + length whole = (let x = many in let y = ab in let z = bc in omega arith) in
      ap (λ (t : List ℕ). take a o ++ (t ++ drop (c - a) (drop a o))) (h ∙ filled (c - b) m u v (ap length e ∙ upper) ∙ ap₂ ◌++◌ e f)
      ∙ ap (λ (t : List ℕ). take a o ++ (whole ++ t)) (drop-drop (c - a) a o ∙ ap (λ (n : ℕ). drop n o) i)
