-- The search finds the first combination to fail, with its number: all before the one that the tables stand at are known to pass.
use Prim.Native.Nat.{◌*◌, ◌+◌, ◌<◌, ◌≤◌, suc, zero, ℕ}
use mathlib.Core.Bool.{Bool, false, true}
use mathlib.Core.List.{List, map}
use mathlib.Core.Logic.{◌⊎◌, inl, inr}
use mathlib.Core.Path.{◌∙◌, ◌≡◌, ap, ap₂, refl, subst, sym}
use native.Mathlib.Nat.{add-mul, add-zero, mul_assoc, mul_comm, zero-mul}
use native.Mathlib.Omega.{arith}
use lib.ListN.{get_or, length}
use Rattle.layout.specs.Tables.{constraint_at}
use Rattle.meaning.specs.Containment.{passes}
use Rattle.meaning.specs.Intervals.{Constraint}
use Rattle.meaning.specs.Lists.{At, counting, first_failing, found, nowhere}
use Rattle.meaning.specs.NormalForm.{Form}
use Rattle.meaning.specs.Policy.{Policy}
use Rattle.meaning.specs.Splitting.{combination_count, combinations, constraints_of, pieces, product}
use Rattle.meaning.specs.Vocabulary.{Vocabulary}
use Rattle.odometer.proofs.Numbers.{digits, digits_less, digits_valid, digits_value, first_at, first_none, low, value_split}
use Rattle.odometer.proofs.Weights.{pieces_any, span_front}
use Rattle.odometer.specs.Digits.{Known, Valid, span, value}
use Rattle.odometer.specs.Odometer.{Dialled}
use Rattle.splitting.specs.Constraints.{first_constraints, piece_count}
use Rattle.theory.proofs.Count.{count_combinations}
use Rattle.theory.proofs.Digits.{Takes, fill, number}
use Rattle.theory.proofs.Odometer.{at_get_or, at_lt, combination_at, get_or_at}
use Rattle.theory.proofs.Rules.{order}

-- one element of a list stands at a place
pub at_same : {A : Type 0} {x y : A} {l : List A} {i : ℕ} → At x l i → At y l i → x ≡ y
at_same {x = x} a b = sym (at_get_or a x) ∙ at_get_or b x

-- ---- the pieces that digits name

abbrev nothing : Constraint
nothing = record { feature = 0; lo = 0; hi = 0 }

abbrev pub chosen : Policy → List ℕ → (ℕ → ℕ) → ℕ → Constraint
chosen Q w e i = get_or (pieces Q (constraint_at w i)) (e i) nothing

module _ (Q : Policy) (w : List ℕ) where
  pub chosen_at : (n : ℕ) (e : ℕ → ℕ) → Valid (piece_count Q w) n e → (i : ℕ) → i < n → At (chosen Q w e i) (pieces Q (constraint_at w i)) (e i)
  chosen_at n e v i h = get_or_at (pieces Q (constraint_at w i)) (e i) nothing (v i h) refl

  takes : (e : ℕ → ℕ) (v : ℕ → Constraint) (o n : ℕ) → ((i : ℕ) → i < o + n → At (v i) (pieces Q (constraint_at w i)) (e i)) →
      Takes Q e v o (map (constraint_at w) (counting o n))
  takes e v o zero h = tt
  takes e v o (suc n) h = (h o (omega arith), takes e v (suc o) n (λ i b. h i (omega arith)))

  low_front : (c : ℕ → ℕ) (m k : ℕ) → low (piece_count Q w) c m (suc k) ≡ c m * span (piece_count Q w) (suc m) k + low (piece_count Q w) c (suc m) k
  low_front c m zero = rw add-zero (omega (arith, zero-mul (piece_count Q w m), mul_comm (c m) 1))
  low_front c m (suc k) =
      let e : m + suc k ≡ suc m + k = omega arith in
      let t = piece_count Q w (suc m + k) in
      rw (low_front c m k, e)
      (omega (arith, add-mul (c m * span (piece_count Q w) (suc m) k) (low (piece_count Q w) c (suc m) k) t, mul_assoc (c m) (span (piece_count Q w) (suc m) k) t))

  product_from : (o n : ℕ) → product Q (map (constraint_at w) (counting o n)) ≡ span (piece_count Q w) o n
  product_from o zero = refl
  product_from o (suc n) = ap (λ (x : ℕ). piece_count Q w o * x) (product_from (suc o) n) ∙ sym (span_front (piece_count Q w) o n)

  number_low : (e : ℕ → ℕ) (o n : ℕ) → number Q e o (map (constraint_at w) (counting o n)) ≡ low (piece_count Q w) e o n
  number_low e o zero = refl
  number_low e o (suc n) = ap₂ (λ (a b : ℕ). e o * a + b) (product_from (suc o) n) (number_low e (suc o) n) ∙ sym (low_front e o n)

  -- the digits' number is the place of the combination
  pub number_value : (e : ℕ → ℕ) (n : ℕ) → number Q e 0 (first_constraints w n) ≡ value (piece_count Q w) e n
  number_value e n =
      let z : 0 + n ≡ n = omega arith in
      let a = value_split (piece_count Q w) e 0 n in
      number_low e 0 n ∙ (omega (arith, a, zero-mul (span (piece_count Q w) 0 n)) ∙ ap (value (piece_count Q w) e) z)

module _ (K : Vocabulary) (Q : Policy) (F : Form) (w : List ℕ) (n : ℕ) (same : constraints_of F ≡ first_constraints w n) where
  abbrev s : ℕ → ℕ
  s = piece_count Q w

  -- the combination with these digits passes
  abbrev pub Passes : (ℕ → ℕ) → Bool
  Passes e = passes K Q (fill (chosen Q w e) F)

  pub placed : (e : ℕ → ℕ) (v : ℕ → Constraint) → ((i : ℕ) → i < n → At (v i) (pieces Q (constraint_at w i)) (e i)) → At (fill v F) (combinations Q F) (value s e n)
  placed e v h =
      subst (λ (x : ℕ). At (fill v F) (combinations Q F) x) (ap (number Q e 0) same ∙ number_value Q w e n)
      (combination_at Q e v F (subst (Takes Q e v 0) (sym same) (takes Q w e v 0 n (λ i b. h i (omega arith)))))

  count : length (combinations Q F) ≡ span s 0 n
  unfolding combination_count
  count = count_combinations Q F ∙ ap (product Q) same ∙ product_from Q w 0 n

  -- combination j has digits, and passes where they do
  module _ (j : ℕ) (x : Form) (a : At x (combinations Q F) j) where
    abbrev e : ℕ → ℕ
    e = digits s n j

    valid : Valid s n e
    valid i b = digits_valid s (pieces_any Q w) n j i b

    worth : value s e n ≡ j
    worth = digits_value s (pieces_any Q w) n j (subst (λ (y : ℕ). j < y) count (at_lt a))

    passes_here : Passes e ≡ true → passes K Q x ≡ true
    passes_here p =
        ap (passes K Q) (at_same a (subst (λ (y : ℕ). At (fill (chosen Q w e) F) (combinations Q F) y) worth (placed e (chosen Q w e) (chosen_at Q w n e valid)))) ∙ p

  pub search_ends : ((e : ℕ → ℕ) → Valid s n e → Passes e ≡ true) → first_failing (passes K Q) 1 (combinations Q F) ≡ nowhere
  search_ends p = first_none (passes K Q) (combinations Q F) 1 (λ j x a. passes_here j x a (p (e j x a) (valid j x a)))

  module _ (dials earlier : List ℕ) (dialled : Dialled dials w n) (still : (j : ℕ) → j < n → ((d : ℕ) → d < length dials → get_or dials d 0 ≡ j → ⊥) → s j ≡ 1)
      (c : ℕ → ℕ) (digit : Valid s n c) (known : Known s n Passes dials earlier c) where
    -- the dial at which a smaller number differs first
    dial_of : (i : ℕ) → i < n → 0 < c i → (d : ℕ) × (d < length dials) × (get_or dials d 0 ≡ i)
    dial_of i h p = go (order (constraint_at w i).lo (constraint_at w i).hi)
      where
        go : ((constraint_at w i).lo < (constraint_at w i).hi) ⊎ ((constraint_at w i).hi ≤ (constraint_at w i).lo) → (d : ℕ) × (d < length dials) × (get_or dials d 0 ≡ i)
        go (inl a) = dialled.all i h a
        go (inr a) =
            let b = still i h (λ d l z. let x = dialled.dial d l in let y = subst (λ (k : ℕ). (constraint_at w k).lo < (constraint_at w k).hi) z x.1 in omega arith) in
            let v = digit i h in
            absurd (omega arith)

    pub earlier_passes : (j : ℕ) (x : Form) → j < value s c n → At x (combinations Q F) j → passes K Q x ≡ true
    earlier_passes j x b a =
        let d = digits_less s (e j x a) c n (valid j x a) digit (let y = worth j x a in omega arith) in
        let k = dial_of d.0 d.1 (let l = d.3 in omega arith) in
        passes_here j x a ((known k.0 k.1).pass (e j x a) (valid j x a)
        (λ i h t. d.2 i (rw k.2 at h)) (rw k.2 d.3))

    pub search_fails : (u : Form) → At u (combinations Q F) (value s c n) → passes K Q u ≡ false →
        first_failing (passes K Q) 1 (combinations Q F) ≡ found (suc (value s c n)) u
    search_fails u a f = first_at (passes K Q) (combinations Q F) (value s c n) u earlier_passes a f
