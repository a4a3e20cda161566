-- The next end, and the upper end of the piece that it parts from the next.
use Prim.Native.Nat.{◌+◌, ◌-◌, ◌<◌, ◌≤◌, pred, suc, ℕ}
use mathlib.Core.Bool.{Bool, cond, false, true}
use mathlib.Core.List.{List, [], ◌∷◌}
use mathlib.Core.Logic.{◌⊎◌, inl, inr, ⊎_elim}
use mathlib.Core.Path.{◌∙◌, ◌≡◌, ap, refl, subst, sym}
use native.Mathlib.Omega.{arith}
use lib.Dec.{ltb}
use lib.ListN.{get_or, length}
use lib.Seq.{take-length}
use borrow.Author.Tests.{eq-eqb, ltb-false, ltb-true, ne_eqb}
use Rattle.keys.proofs.Ranking.{get_or_in, nearest}
use Rattle.keys.specs.Keys.{Ranked, key_of, value_count}
use Rattle.meaning.specs.Lists.{All, ◌∈◌, here, there}
use Rattle.meaning.specs.Policy.{Policy}
use Rattle.meaning.specs.Splitting.{Sorted}
use Rattle.splitting.specs.Ends.{Ends, NextEnd, ends_on, least, up_to, upper}
use Rattle.theory.proofs.Rules.{all_of, any_none, head, tail}

-- ---- the least member

-- y is the least: a member of l or h itself, above x, with no member between
pub least_is : (l : List ℕ) (x h y : ℕ) → x < y → y ≤ h → (y ≡ h) ⊎ (y ∈ l) → All (λ e. x < e → y ≤ e) l → least l x h ≡ y
unfolding least
least_is [] x h y a b (inl c) d = sym c
least_is [] x h y a b (inr c) d = absurd (any_none c)
least_is (e ∷ l) x h y a b c d = go (ltb x e) (ltb e h) refl refl c (λ k i j. least_is l x k y a i j (tail d))
  where
    old : (h ≤ e) ⊎ (e ≤ x) → (y ≡ h) ⊎ (y ∈ e ∷ l) → (y ≡ h) ⊎ (y ∈ l)
    old g (inl i) = inl i
    old g (inr (here i)) = inl (⊎_elim (λ j. omega arith) (λ j. omega arith) g)
    old g (inr (there i)) = inr i

    new : x < e → e < h → (y ≡ h) ⊎ (y ∈ e ∷ l) → (y ≡ e) ⊎ (y ∈ l)
    new g j (inl i) = let k = head d g in absurd (omega arith)
    new g j (inr (here i)) = inl i
    new g j (inr (there i)) = inr i

    go : (s t : Bool) → ltb x e ≡ s → ltb e h ≡ t → (y ≡ h) ⊎ (y ∈ e ∷ l) → ((k : ℕ) → y ≤ k → (y ≡ k) ⊎ (y ∈ l) → least l x k ≡ y) →
        least l x (cond s (cond t e h) h) ≡ y
    go true true p q c f = f e (head d (ltb-true x e p)) (new (ltb-true x e p) (ltb-true e h q) c)
    go true false p q c f = f h b (old (inl (ltb-false e h q)) c)
    go false t p q c f = f h b (old (inr (ltb-false x e p)) c)

-- ---- among the keys

-- r is the place of the key after that of x on f
module _ {e : List ℕ} (f x hi : ℕ) {base r : ℕ} (h : x < hi) (eb : base ≡ key_of f 0) (p : Ranked e (length e) (base + x + 1) r) where
  -- an end after x has its key there or later
  after : {Q : Policy} → Ends Q e → {z : ℕ} → z ∈ ends_on Q f → x < z → (r < length e) × (get_or e r 0 ≤ key_of f z)
  after n {z} m i =
      nearest (subst Sorted (sym (take-length e)) n.rising) (omega arith) p
      (subst (λ (l : List ℕ). key_of f z ∈ l) (sym (take-length e)) (n.all f z m)) (omega arith)

  -- so y is the next end, where none after x is before it
  next_is_lem : (y : ℕ) → x < y → y ≤ hi → ((Q : Policy) → Ends Q e → (y ≡ hi) ⊎ (y ∈ ends_on Q f)) →
      ((z : ℕ) → x < z → r < length e → get_or e r 0 ≤ key_of f z → y ≤ z) → NextEnd e f x hi y
  next_is_lem y a b m l Q n =
      sym (least_is (ends_on Q f) x hi y a b (m Q n) (all_of (ends_on Q f) (λ z i c. let k = after n i c in l z c k.0 k.1)))

  pub next_none : length e ≤ r → NextEnd e f x hi hi
  next_none l = next_is_lem hi h (omega arith) (λ Q n. inl refl) (λ z c i k. absurd (omega arith))

  module _ {y : ℕ} (ey : y ≡ get_or e r 0) where
    pub next_beyond : base + hi ≤ y → NextEnd e f x hi hi
    next_beyond l = next_is_lem hi h (omega arith) (λ Q n. inl refl) (λ z c i k. omega arith)

    pub next_found : hi < value_count → r < length e → y < base + hi → NextEnd e f x hi (y - base)
    next_found s l b =
        let a = p.at l in
        let z : get_or e r 0 ≡ key_of f (y - base) = omega arith in
        next_is_lem (y - base) (omega arith) (omega arith)
        (λ Q n. inr (n.only f (y - base) (omega arith) (subst (λ (i : ℕ). i ∈ e) z (get_or_in e r l)))) (λ z c i k. omega arith)

-- ---- the upper end

pub upper_near : (l : List ℕ) (h p y : ℕ) → y ≡ least l p h → y ≡ p + 1 → y ≡ upper l h p
unfolding upper
upper_near l h p y e n = rw (sym e, eq-eqb y (suc p) (omega arith))

pub upper_far : (l : List ℕ) (h p y r : ℕ) → y ≡ least l p h → (y ≡ p + 1 → ⊥) → r ≡ y - 1 → r ≡ upper l h p
unfolding upper
upper_far l h p y r e n g = let z : r ≡ pred y = omega arith in rw (sym e, ne_eqb y (suc p) (λ i. n (omega arith))) z

pub upper_is : (l : List ℕ) (h p y u : ℕ) → least l p h ≡ y → up_to p y ≡ u → upper l h p ≡ u
unfolding upper
upper_is l h p y u e g = ap (up_to p) e ∙ g

pub near_up : (p y : ℕ) → y ≡ suc p → up_to p y ≡ y
near_up p y e = rw (eq-eqb y (suc p) e)

pub far_up : (p y : ℕ) → suc p < y → up_to p y ≡ pred y
far_up p y h = rw (ne_eqb y (suc p) (λ e. omega arith))
