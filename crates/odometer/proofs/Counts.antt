-- How many pieces the dials have, one after another.
use Prim.Native.Nat.{◌*◌, ◌+◌, ◌<◌, ◌≤◌, suc, zero, ℕ}
use mathlib.Core.List.{List, map}
use mathlib.Core.Logic.{⊎_elim}
use mathlib.Core.Path.{◌∙◌, ◌≡◌, ap, refl, subst, sym}
use native.Mathlib.Nat.{mul-le-mul_left, mul-le-mul_right, mul-one, one-mul}
use native.Mathlib.Omega.{arith}
use lib.ListN.{get_or, length, length-set, set}
use lib.Seq.{get_or-set_other, get_or-set_same}
use Rattle.layout.specs.Tables.{constraint_at, interval_of}
use Rattle.meaning.specs.Limits.{most_combinations}
use Rattle.meaning.specs.Lists.{counting}
use Rattle.meaning.specs.Policy.{Policy}
use Rattle.meaning.specs.Splitting.{pieces, product}
use Rattle.odometer.specs.Odometer.{Counted, PiecesCountable}
use Rattle.splitting.specs.Ends.{Ends}
use Rattle.splitting.specs.Constraints.{first_constraints, piece_count}
use Rattle.theory.proofs.Count.{pieces_some, product_some}
use Rattle.theory.proofs.Rules.{order}

-- one factor is at most the product
pub factor_most : (Q : Policy) (w : List ℕ) (n i : ℕ) → i < n → piece_count Q w i ≤ product Q (first_constraints w n)
factor_most Q w n i h = go 0 n (omega arith) (omega arith)
  where
    go : (o n : ℕ) → o ≤ i → i < o + n → piece_count Q w i ≤ product Q (map (constraint_at w) (counting o n))
    go o zero a b = absurd (omega arith)
    go o (suc n) a b = ⊎_elim
        (λ c. let r = go (suc o) n c (omega arith) in let m : 1 * product Q (map (constraint_at w) (counting (suc o) n)) ≤ piece_count Q w o * product Q (map (constraint_at w) (counting (suc o) n)) =
        mul-le-mul_right (product Q (map (constraint_at w) (counting (suc o) n))) (pieces_some Q (constraint_at w o)) in
        omega (arith, one-mul (product Q (map (constraint_at w) (counting (suc o) n)))))
        (λ c. let e : o ≡ i = omega arith in
        subst (λ (k : ℕ). piece_count Q w k ≤ piece_count Q w o * product Q (map (constraint_at w) (counting (suc o) n))) e
        (let m : piece_count Q w o * 1 ≤ piece_count Q w o * product Q (map (constraint_at w) (counting (suc o) n)) = mul-le-mul_left (piece_count Q w o) (product_some Q (map (constraint_at w) (counting (suc o) n))) in
        omega (arith, mul-one (piece_count Q w o)))) (order o i)

-- those before d are counted
pub record Counting (e w dials counts₀ counts : List ℕ) (d : ℕ) : Type 0 where
  pub size : length counts ≡ length counts₀
  pub count : (Q : Policy) → Ends Q e → (i : ℕ) → i < d → get_or counts i 0 ≡ piece_count Q w (get_or dials i 0)

pub counting_starts : (e w dials counts : List ℕ) → Counting e w dials counts counts 0
counting_starts e w dials counts = record { size = refl; count = λ Q ends i h. absurd (omega arith) }

module _ {e w dials counts₀ : List ℕ} {n d m : ℕ} (pre : PiecesCountable e dials w counts₀ n) (less : d < length dials)
    (em : m ≡ get_or dials d 0) where
  module _ {f lo hi r : ℕ} (ef : f ≡ (constraint_at w m).feature) (el : lo ≡ (constraint_at w m).lo) (eh : hi ≡ (constraint_at w m).hi)
      (c : (Q : Policy) → Ends Q e → r ≡ length (pieces Q (interval_of f lo hi))) where
    told : (Q : Policy) → Ends Q e → r ≡ piece_count Q w m
    told Q ends = c Q ends ∙ rw (ef, el, eh)

    pub counting_fits : r ≤ most_combinations
    counting_fits =
        let i = pre.dialled.dial d less in
        let t = told pre.split.policy pre.split.ends in
        let b = factor_most pre.split.policy w n m (omega arith) in
        omega (arith, pre.split.few)

    pub counting_on : {counts : List ℕ} → Counting e w dials counts₀ counts d → Counting e w dials counts₀ (set counts d r) (d + 1)
    counting_on {counts} g = record {
      size = length-set counts d r ∙ g.size;
      count = λ Q ends i h. ⊎_elim
          (λ b. get_or-set_other counts d i r 0 (λ q. omega arith) ∙ g.count Q ends i b)
          (λ b. let q : i ≡ d = omega arith in
          ap (λ (k : ℕ). get_or (set counts d r) k 0) q ∙ get_or-set_same counts d r 0 (omega (arith, g.size, pre.size)) ∙ told Q ends ∙ ap (piece_count Q w) em ∙ ap (λ (k : ℕ). piece_count Q w (get_or dials k 0)) (sym q)) (order i d);
    }

pub counting_ends : {e w dials counts₀ counts : List ℕ} {n d : ℕ} → PiecesCountable e dials w counts₀ n → length dials ≤ d →
    Counting e w dials counts₀ counts d → Counted e dials w counts
counting_ends pre h g = record { size = g.size ∙ pre.size; count = λ Q ends i l. g.count Q ends i (omega arith) }
