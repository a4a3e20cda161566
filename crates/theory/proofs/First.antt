-- The first element of a list that fails a test: every earlier one passes.
use Prim.Native.Nat.{◌+◌, suc, ℕ}
use mathlib.Core.Bool.{Bool, cond, false, not, true}
use mathlib.Core.List.{List, [], ◌∷◌}
use mathlib.Core.Path.{◌≡◌, ap, refl, subst, sym}
use lib.Dec.{T}
use native.Mathlib.Omega.{arith}
use Rattle.meaning.specs.Lists.{All, Found, cons, first_failing, found, nil, nowhere}
use Rattle.meaning.specs.Promises.{First}
use Rattle.theory.proofs.Rules.{is_true}

pub data Searched {A : Type 0} (p : A → Bool) (s : ℕ) (l : List A) : Found A → Type 0 where
  never : All (λ x. T (p x)) l → Searched p s l nowhere
  first : {k : ℕ} {x : A} → First p l k x → Searched p s l (found (s + k) x)

later : {A : Type 0} (p : A → Bool) (s : ℕ) (x : A) (l : List A) (r : Found A) → T (p x) → Searched p (suc s) l r → Searched p s (x ∷ l) r
later p s x l r t (never h) = never (cons t h)
later {A} p s x l r t (first {k = k} {x = y} h) =
    subst (λ (n : ℕ). Searched p s (x ∷ l) (found n y)) (omega arith) (first {k = suc k} {x = y} (record {
      before = x ∷ h.before;
      after = h.after;
      split = ap (λ (z : List A). x ∷ z) h.split;
      place = ap suc h.place;
      passed = cons t h.passed;
      fails = h.fails;
    }))

pub searched : {A : Type 0} (p : A → Bool) (s : ℕ) (l : List A) → Searched p s l (first_failing p s l)
searched p s [] = never nil
searched {A} p s (x ∷ l) = go (p x) refl (searched p (suc s) l)
  where
    now : T (not (p x)) → Searched p s (x ∷ l) (found s x)
    now t =
        subst (λ (n : ℕ). Searched p s (x ∷ l) (found n x)) (omega arith)
        (first {k = 0} {x = x} (record { before = []; after = l; split = refl; place = refl; passed = nil; fails = t }))

    go : (b : Bool) → p x ≡ b → Searched p (suc s) l (first_failing p (suc s) l) → Searched p s (x ∷ l) (cond b (first_failing p (suc s) l) (found s x))
    go true e r = later p s x l (first_failing p (suc s) l) (is_true e) r
    go false e r = now (subst (λ b. T (not b)) (sym e) tt)
