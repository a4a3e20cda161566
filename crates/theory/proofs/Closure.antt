-- ⊑* is the reflexive and transitive closure of the records of kind 1.
use Prim.Native.Nat.{ℕ}
use mathlib.Core.Bool.{◌&&◌}
use mathlib.Core.List.{List, [], ◌∷◌}
use mathlib.Core.Logic.{◌↔◌, ◌⊎◌, inl, inr}
use mathlib.Core.Path.{◌≡◌, refl, subst}
use lib.Dec.{T, eqb_refl, eqb→eq}
use Rattle.meaning.specs.Interpretation.{Interpretation, Satisfies}
use Rattle.meaning.specs.Lists.{◌∈◌, here, there}
use Rattle.meaning.specs.Normal.{Bounded}
use Rattle.meaning.specs.Records.{Name}
use Rattle.meaning.specs.Stated.{closure, is_below, subclasses}
use Rattle.meaning.specs.Vocabulary.{Vocabulary}
use Rattle.theory.proofs.Rules.{T_and, T_or, and_T, eqb_of, or_left, or_right}
use Rattle.theory.proofs.Stated.{all_stated}

-- ---- the closure of a list of pairs

pub closure_refl : (l : List (ℕ × ℕ)) (a : ℕ) → T (closure l a a)
closure_refl [] a = eqb_refl a
closure_refl ((x, y) ∷ l) a = or_left (closure l a a) _ (closure_refl l a)

-- the two ways from a to b, where x is below y
abbrev Ways : List (ℕ × ℕ) → ℕ → ℕ → ℕ → ℕ → Type 0
Ways l x y a b = T (closure l a b) ⊎ (T (closure l a x) × T (closure l y b))

ways : (l : List (ℕ × ℕ)) (x y a b : ℕ) → T (closure ((x, y) ∷ l) a b) → Ways l x y a b
ways l x y a b t = go (T_or (closure l a b) (closure l a x && closure l y b) t)
  where
    go : T (closure l a b) ⊎ T (closure l a x && closure l y b) → Ways l x y a b
    go (inl h) = inl h
    go (inr h) = inr (T_and (closure l a x) (closure l y b) h)

joined : (l : List (ℕ × ℕ)) (x y a b : ℕ) → Ways l x y a b → T (closure ((x, y) ∷ l) a b)
joined l x y a b (inl h) = or_left (closure l a b) _ h
joined l x y a b (inr h) = or_right (closure l a b) _ (and_T (closure l a x) (closure l y b) h.0 h.1)

compose : (l : List (ℕ × ℕ)) (x y a b c : ℕ) → ((a b c : ℕ) → T (closure l a b) → T (closure l b c) → T (closure l a c)) →
    Ways l x y a b → Ways l x y b c → Ways l x y a c
compose l x y a b c tr (inl p) (inl q) = inl (tr a b c p q)
compose l x y a b c tr (inl p) (inr q) = inr (tr a b x p q.0, q.1)
compose l x y a b c tr (inr p) (inl q) = inr (p.0, tr y b c p.1 q)
compose l x y a b c tr (inr p) (inr q) = inr (p.0, q.1)

pub closure_trans : (l : List (ℕ × ℕ)) (a b c : ℕ) → T (closure l a b) → T (closure l b c) → T (closure l a c)
closure_trans [] a b c s t = eqb_of a c (subst (λ (k : ℕ). a ≡ k) (eqb→eq b c t) (eqb→eq a b s))
closure_trans ((x, y) ∷ l) a b c s t = joined l x y a c (compose l x y a b c (λ d e f. closure_trans l d e f) (ways l x y a b s) (ways l x y b c t))

pub closure_pair : {a b : ℕ} {l : List (ℕ × ℕ)} → (a, b) ∈ l → T (closure l a b)
closure_pair {a = a} {b = b} (here {l = l} e) =
    subst (λ (p : ℕ × ℕ). T (closure (p ∷ l) a b)) e (or_right (closure l a b) _ (and_T (closure l a a) (closure l b b) (closure_refl l a) (closure_refl l b)))
closure_pair {a = a} {b = b} (there {x = p} {l = l} m) = or_left (closure l a b) _ (closure_pair m)

-- along the pairs of a list, from a on
pub data Steps (l : List (ℕ × ℕ)) (a : ℕ) : ℕ → Type 0 where
  start : {b : ℕ} → a ≡ b → Steps l a b
  then : {b c : ℕ} → Steps l a b → (b, c) ∈ l → Steps l a c

more : {p : ℕ × ℕ} {l : List (ℕ × ℕ)} {a b : ℕ} → Steps l a b → Steps (p ∷ l) a b
more (start e) = start e
more (then s m) = then (more s) (there m)

followed : {l : List (ℕ × ℕ)} {a b c : ℕ} → Steps l a b → Steps l b c → Steps l a c
followed {l} {a} s (start e) = subst (λ (z : ℕ). Steps l a z) e s
followed s (then t m) = then (followed s t) m

steps : (l : List (ℕ × ℕ)) (a b : ℕ) → T (closure l a b) → Steps l a b
steps [] a b t = start (eqb→eq a b t)
steps ((x, y) ∷ l) a b t = go (λ c d. steps l c d) (ways l x y a b t)
  where
    go : ((c d : ℕ) → T (closure l c d) → Steps l c d) → Ways l x y a b → Steps ((x, y) ∷ l) a b
    go f (inl p) = more (f a b p)
    go f (inr p) = followed (then (more (f a x p.0)) (here refl)) (more (f y b p.1))

reached : (l : List (ℕ × ℕ)) (a b : ℕ) → Steps l a b → T (closure l a b)
reached l a b (start e) = subst (λ (z : ℕ). T (closure l a z)) e (closure_refl l a)
reached l a b (then {b = c} s m) = closure_trans l a c b (reached l a c s) (closure_pair m)

-- ---- of a vocabulary

module _ (K : Vocabulary) where
  pub below_refl : (a : ℕ) → T (is_below K a a)
  unfolding is_below
  below_refl a = closure_refl (subclasses K) a

  pub below_trans : (a b c : ℕ) → T (is_below K a b) → T (is_below K b c) → T (is_below K a c)
  unfolding is_below
  below_trans a b c s t = closure_trans (subclasses K) a b c s t

  pub below_subclass : (a b : ℕ) → (a, b) ∈ subclasses K → T (is_below K a b)
  unfolding is_below
  below_subclass a b m = closure_pair m

  pub below_iff : (a b : ℕ) → T (is_below K a b) ↔ Steps (subclasses K) a b
  unfolding is_below
  below_iff a b = (steps (subclasses K) a b, reached (subclasses K) a b)

pub below_sound : (I : Interpretation) (K : Vocabulary) → Satisfies I K → (a b i : ℕ) → T (is_below K a b) → I.in_class a i → I.in_class b i
below_sound I K s a b i t h = go ((below_iff K a b).0 t)
  where
    go : {c : ℕ} → Steps (subclasses K) a c → I.in_class c i
    go (start e) = subst (λ (z : ℕ). I.in_class z i) e h
    go (then {b = c} {c = d} p m) = (all_stated K s.obeyed).subclass c d m i (go p)

-- what lies above a class that the vocabulary counts is one too
pub below_bounded : (K : Vocabulary) → Bounded K → (a b : ℕ) → Name K.classes a → T (is_below K a b) → Name K.classes b
below_bounded K w a b h t = go ((below_iff K a b).0 t)
  where
    go : {c : ℕ} → Steps (subclasses K) a c → Name K.classes c
    go (start e) = subst (λ (z : ℕ). Name K.classes z) e h
    go (then {b = c} {c = d} s m) = w.above c d m
