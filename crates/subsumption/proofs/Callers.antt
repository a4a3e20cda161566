-- For callers: the test on the tables is Algorithm 1 on the form that they hold, with whatever is chosen for its constraints.
use Prim.Native.Nat.{◌+◌, ◌<◌, ◌≤◌, suc, zero, ℕ}
use mathlib.Core.Bool.{Bool, ◌&&◌, ◌||◌, cond, false, true}
use mathlib.Core.List.{List, ◌∷◌}
use mathlib.Core.Logic.{◌⊎◌, inl, inr}
use mathlib.Core.Path.{◌∙◌, ◌≡◌, ap, ap₂, refl, subst, sym}
use native.Mathlib.Omega.{arith}
use lib.Dec.{T, eqb, eqb→eq}
use Rattle.layout.proofs.Filling.{combined_by}
use Rattle.layout.proofs.Nesting.{tabled_nested}
use Rattle.layout.proofs.Successors.{kin_child, kin_individual, kin_rest, parents}
use Rattle.layout.specs.Combination.{IndividualBy, Kin, chosen_from}
use Rattle.layout.specs.Nesting.{Nested}
use Rattle.layout.specs.Tables.{Tabled, holder_at, parent_at, role_at}
use Rattle.layout.specs.declared.Tables.{Tables}
use Rattle.meaning.specs.Countermodel.{size}
use Rattle.meaning.specs.Intervals.{Constraint}
use Rattle.meaning.specs.Lists.{any, counting}
use Rattle.meaning.specs.NormalForm.{Form, Node, Successors, none, successor}
use Rattle.meaning.specs.Policy.{Chain, class, end, impossible, interval, some}
use Rattle.meaning.specs.Subsumption.{any_successor, includes, subsumed}
use Rattle.meaning.specs.Vocabulary.{Vocabulary}
use Rattle.subsumption.specs.Tests.{has_piece, has_successor, holds_at, is_passing, is_piece_inside}
use Rattle.theory.proofs.Counting.{below_some, some_below}
use Rattle.theory.proofs.Digits.{fill}
use Rattle.theory.proofs.Rules.{T_and, T_or, and_T, eqb_of, is_true, or_left, or_right, order, same_test}

-- ---- the constraints of an individual

module _ (v : ℕ → Constraint) (w : List ℕ) (x f lo hi : ℕ) where
  chosen_any : (n o : ℕ) → any (is_piece_inside v w x f lo hi) (counting o n) ≡ any (includes f lo hi) (chosen_from v w x n o)
  unfolding chosen_from
  chosen_any zero o = refl
  chosen_any (suc n) o = ap (λ (b : Bool). is_piece_inside v w x f lo hi o || b) (chosen_any n (suc o)) ∙ go (eqb (holder_at w o) x)
    where
      go : (b : Bool) → ((b && includes f lo hi (v o)) || any (includes f lo hi) (chosen_from v w x n (suc o)))
          ≡ any (includes f lo hi) (cond b (v o ∷ chosen_from v w x n (suc o)) (chosen_from v w x n (suc o)))
      go true = refl
      go false = refl

-- ---- its successors

module _ {v : ℕ → Constraint} {K : Vocabulary} {w : List ℕ} {t : Tables} (nest : Nested w t) (x r : ℕ) (f : ℕ → Bool) (g : Node → Successors → Bool)
    (same : (p : ℕ) (m : Node) (under next : Successors) (i : ℕ) → x ≤ i → Kin v K w t x i (successor p m under next) → f (suc i) ≡ g m under) where
  -- a row of a successor that passes
  found : (ks : Successors) (i : ℕ) → x ≤ i → Kin v K w t x i ks → (j : ℕ) → i ≤ j → j < t.individuals → T (is_passing w x r f j) → T (any_successor r g ks)
  found none i own k j a b h = absurd (go (order i j))
    where
      p : parent_at w j ≡ x
      p = eqb→eq (parent_at w j) x (T_and (eqb (parent_at w j) x) (eqb (role_at w j) r && f (suc j)) h).0

      e : parent_at w (i + 0) < x
      e = k.ends (omega arith)

      z : i + 0 ≡ i
      z = omega arith

      go : (i < j) ⊎ (j ≤ i) → ⊥
      go (inl c) = let d = ap (parent_at w) z in let y = e in let q = p in let u = nest.between i j c b (omega arith) in omega arith
      go (inr c) = let l : j ≡ i + 0 = omega arith in let d = ap (parent_at w) l in let y = e in let q = p in omega arith
  found (successor q m under next) i own k j a b h =
      go (order i j) (order j (suc i + size under)) (λ c. found next (suc i + size under) (omega arith) (kin_rest k) j c b h)
    where
      s : T (eqb (parent_at w j) x) × T (eqb (role_at w j) r && f (suc j))
      s = T_and (eqb (parent_at w j) x) (eqb (role_at w j) r && f (suc j)) h

      u : T (eqb (role_at w j) r) × T (f (suc j))
      u = T_and (eqb (role_at w j) r) (f (suc j)) s.1

      go : (i < j) ⊎ (j ≤ i) → (j < suc i + size under) ⊎ (suc i + size under ≤ j) → (suc i + size under ≤ j → T (any_successor r g next)) →
          T ((eqb r q && g m under) || any_successor r g next)
      go (inr c) d y =
          let e : j ≡ i = omega arith in
          or_left (eqb r q && g m under) _ (and_T (eqb r q) (g m under)
          (eqb_of r q (sym (eqb→eq (role_at w j) r u.0) ∙ ap (role_at w) e ∙ k.below.1))
          (subst T (ap (λ (n : ℕ). f (suc n)) e ∙ same q m under next i own k) u.1))
      go (inl c) (inl d) y =
          let l = parents v K w t.constraints under (suc i) (suc i) (omega arith) k.below.3 j c d in
          let p = eqb→eq (parent_at w j) x s.0 in
          absurd (omega arith)
      go (inl c) (inr d) y = or_right (eqb r q && g m under) _ (y d)

  -- a successor that passes has a row
  placed : (ks : Successors) (i : ℕ) → x ≤ i → Kin v K w t x i ks → T (any_successor r g ks) → any (is_passing w x r f) (counting 0 t.individuals) ≡ true
  placed none i own k h = absurd h
  placed (successor q m under next) i own k h =
      go (T_or (eqb r q && g m under) (any_successor r g next) h) (placed next (suc i + size under) (omega arith) (kin_rest k))
    where
      go : T (eqb r q && g m under) ⊎ T (any_successor r g next) → (T (any_successor r g next) → any (is_passing w x r f) (counting 0 t.individuals) ≡ true) →
          any (is_passing w x r f) (counting 0 t.individuals) ≡ true
      go (inr d) y = y d
      go (inl d) y =
          let s = T_and (eqb r q) (g m under) d in
          let passes : T (is_passing w x r f i) = and_T (eqb (parent_at w i) x) (eqb (role_at w i) r && f (suc i)) (eqb_of (parent_at w i) x k.below.0)
          (and_T (eqb (role_at w i) r) (f (suc i)) (eqb_of (role_at w i) r (k.below.1 ∙ sym (eqb→eq r q s.0))) (subst T (sym (same q m under next i own k)) s.1)) in
          some_below (is_passing w x r f) t.individuals i (omega arith) (same_test (is_passing w x r f i) true (λ _. tt) (λ _. passes))

  successor_any : (ks : Successors) → Kin v K w t x x ks → has_successor w t.individuals x r f ≡ any_successor r g ks
  unfolding has_successor
  successor_any ks k =
      same_test (any (is_passing w x r f) (counting 0 t.individuals)) (any_successor r g ks) out (λ h. is_true (placed ks x (omega arith) k h))
    where
      out : T (any (is_passing w x r f) (counting 0 t.individuals)) → T (any_successor r g ks)
      out h =
          let a = below_some (is_passing w x r f) t.individuals (same_test (any (is_passing w x r f) (counting 0 t.individuals)) true (λ _. tt) (λ _. h)) in
          found ks x (omega arith) k a.0 (after a.0 a.1 (is_true a.2)) a.1 (is_true a.2)
        where
          after : (j : ℕ) → j < t.individuals → T (is_passing w x r f j) → x ≤ j
          after j l h =
              let p = eqb→eq (parent_at w j) x (T_and (eqb (parent_at w j) x) (eqb (role_at w j) r && f (suc j)) h).0 in
              let b = nest.before j l in
              omega arith

-- ---- the whole

module _ (v : ℕ → Constraint) (K : Vocabulary) (w : List ℕ) (t : Tables) (nest : Nested w t) where
  holds_subsumed : (c : Chain) (n : ℕ) (m : Node) (under : Successors) → IndividualBy v K w t.constraints n m → Kin v K w t (suc n) (suc n) under →
      holds_at v w t c (suc n) ≡ subsumed K c m under
  unfolding has_piece
  holds_subsumed end n m under i k = refl
  holds_subsumed (class a next) n m under i k = ap₂ (λ (x y : Bool). x && y) (i.classes a) (holds_subsumed next n m under i k)
  holds_subsumed (impossible next) n m under i k = refl
  holds_subsumed (some r child next) n m under i k =
      ap₂ (λ (x y : Bool). x && y)
      (successor_any nest (suc n) r (holds_at v w t child) (subsumed K child) (λ p l un ne j own kin. holds_subsumed child j l un (kin_individual kin) (kin_child kin own)) under k)
      (holds_subsumed next n m under i k)
  holds_subsumed (interval f lo hi next) n m under i k =
      ap₂ (λ (x y : Bool). x && y) (chosen_any v w (suc n) f lo hi t.constraints 0 ∙ ap (λ (l : List Constraint). any (includes f lo hi) l) i.pieces)
      (holds_subsumed next n m under i k)

-- of the form that the tables hold
pub holds_filled : {K : Vocabulary} {F : Form} {w : List ℕ} {t : Tables} → Tabled K F w t → (v : ℕ → Constraint) (c : Chain) →
    holds_at v w t c 1 ≡ subsumed K c (fill v F).node (fill v F).successors
holds_filled {K} {F} {w} {t} s v c =
    let d = combined_by v K F w t s in
    holds_subsumed v K w t (tabled_nested s) c 0 (fill v F).node (fill v F).successors d.root (record { below = d.below; fits = omega arith; ends = λ h. absurd (omega arith) })
