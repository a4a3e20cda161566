-- Three parts, one after another, are read back by the rule for the program's input. Assumes nothing.
use Prim.Native.Nat.{◌+◌, suc, ℕ}
use mathlib.Core.List.{List, [], ◌++◌, append_assoc, append-nil}
use mathlib.Core.Path.{◌∙◌, ◌≡◌, ap, refl, sym}
use lib.ListN.{drop, get_or, length, length-append}
use lib.Seq.{drop-append-add, get_or-append-add, take_at}
use native.Mathlib.Nat.{add-zero}
use native.Mathlib.Omega.{arith}
use Rattle.meaning.specs.Program.{next_part, part_at}
use Rattle.rehearsal.specs.Load.{ThreeParts, counted}

-- a part with words before it and behind it
module _ (before ws behind : List ℕ) where
  count_read : get_or (before ++ (counted ws ++ behind)) (length before) 0 ≡ length ws
  count_read = ap (λ (i : ℕ). get_or (before ++ (counted ws ++ behind)) i 0) (sym (add-zero (length before))) ∙ get_or-append-add before (counted ws ++ behind) 0 0

  pub part_read : part_at (before ++ (counted ws ++ behind)) (length before) ≡ ws
  part_read =
      let past : suc (length before) ≡ length before + 1 = omega arith in
      let rest : drop (suc (length before)) (before ++ (counted ws ++ behind)) ≡ ws ++ behind =
      ap (λ (i : ℕ). drop i (before ++ (counted ws ++ behind))) past ∙ drop-append-add before (counted ws ++ behind) 1 in
      rw (count_read, rest) (take_at ws behind (length ws) refl)

  pub part_next : next_part (before ++ (counted ws ++ behind)) (length before) ≡ length (before ++ counted ws)
  part_next = rw count_read (omega (arith, length-append before (counted ws)))

pub three_parts : (v p q : List ℕ) → ThreeParts (counted v ++ (counted p ++ counted q)) v p q
three_parts v p q =
    let ws = counted v ++ (counted p ++ counted q) in
    let one : next_part ws 0 ≡ length (counted v) = part_next [] v (counted p ++ counted q) in
    let two : next_part ws (next_part ws 0) ≡ length (counted v ++ counted p) = ap (next_part ws) one ∙ part_next (counted v) p (counted q) in
    let last : ws ≡ (counted v ++ counted p) ++ (counted q ++ []) = sym (append_assoc (counted v) (counted p) (counted q)) ∙ ap (λ (l : List ℕ). (counted v ++ counted p) ++ l) (sym (append-nil (counted q))) in
    record {
      first = part_read [] v (counted p ++ counted q);
      second = ap (part_at ws) one ∙ part_read (counted v) p (counted q);
      third = ap (part_at ws) two ∙ ap (λ (l : List ℕ). part_at l (length (counted v ++ counted p))) last ∙ part_read (counted v ++ counted p) q [];
      all =
          ap (next_part ws) two
          ∙ ap (λ (l : List ℕ). next_part l (length (counted v ++ counted p))) last
          ∙ part_next (counted v ++ counted p) q []
          ∙ ap length (append_assoc (counted v) (counted p) (counted q));
    }
