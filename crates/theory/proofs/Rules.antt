-- The laws of Any, All and the tests.
use Prim.Native.Nat.{◌<◌, ◌≤◌, ℕ}
use mathlib.Core.Bool.{Bool, ◌&&◌, ◌||◌, cond, false, not, or_assoc, true}
use mathlib.Core.List.{List, [], ◌++◌, ◌∷◌, append_assoc, map}
use mathlib.Core.Logic.{◌⊎◌, inl, inr, ⊎_elim}
use mathlib.Core.Path.{◌≡◌, refl, subst, sym}
use lib.Dec.{T, eqb, eqb_refl, leb, leb→le, nleb→lt}
use Rattle.meaning.specs.Lists.{All, Any, ◌∈◌, all, any, cons, filter, flat_map, here, nil, there}

pub T_and : (a b : Bool) → T (a && b) → T a × T b
T_and true b t = (tt, t)
T_and false b t = absurd t

pub and_T : (a b : Bool) → T a → T b → T (a && b)
and_T true b s t = t
and_T false b s t = s

pub T_or : (a b : Bool) → T (a || b) → T a ⊎ T b
T_or true b t = inl t
T_or false b t = inr t

pub or_left : (a b : Bool) → T a → T (a || b)
or_left true b t = tt
or_left false b t = absurd t

pub or_right : (a b : Bool) → T b → T (a || b)
or_right true b t = tt
or_right false b t = t

pub not_or : (a b : Bool) → T (not (a || b)) → T (not a) × T (not b)
not_or true b t = absurd t
not_or false b t = (tt, t)

pub and_not : (a b : Bool) → T (not a) → T (not b) → T (not (a || b))
and_not true b s t = s
and_not false b s t = t

pub not_and : (a b : Bool) → T (not (a && b)) → T (not a) ⊎ T (not b)
not_and true b t = inr t
not_and false b t = inl tt

pub not_not : (a : Bool) → T (not (not a)) → T a
not_not true t = tt
not_not false t = t

pub eqb_of : (a b : ℕ) → a ≡ b → T (eqb a b)
eqb_of a b e = subst (λ (k : ℕ). T (eqb a k)) e (eqb_refl a)

pub is_true : {b : Bool} → b ≡ true → T b
is_true e = subst T (sym e) tt

pub not_true : {b : Bool} → b ≡ false → T b → ⊥
not_true e t = subst T e t

pub is_false : (b : Bool) → (T b → ⊥) → b ≡ false
is_false true f = absurd (f tt)
is_false false f = refl

pub same_test : (a b : Bool) → (T a → T b) → (T b → T a) → a ≡ b
same_test true true f g = refl
same_test true false f g = absurd (f tt)
same_test false true f g = absurd (g tt)
same_test false false f g = refl

pub imp_out : (a b : Bool) → T (not a || b) → T a → T b
imp_out true b t u = t
imp_out false b t u = absurd u

pub imp_in : (a b : Bool) → (T a → T b) → T (not a || b)
imp_in true b f = f tt
imp_in false b f = tt

pub order : (a b : ℕ) → (a < b) ⊎ (b ≤ a)
order a b = go (leb b a) (λ t. leb→le b a t) (λ t. nleb→lt b a t)
  where
    go : (t : Bool) → (T t → b ≤ a) → (T (not t) → a < b) → (a < b) ⊎ (b ≤ a)
    go true f g = inr (f tt)
    go false f g = inl (g tt)

module _ {A : Type 0} {P : A → Type 0} where
  pub head : {x : A} {l : List A} → All P (x ∷ l) → P x
  head (cons h t) = h

  pub tail : {x : A} {l : List A} → All P (x ∷ l) → All P l
  tail (cons h t) = t

  pub any_none : Any P [] → ⊥
  any_none h = elim h [ ]

  pub any_cases : {x : A} {l : List A} → Any P (x ∷ l) → P x ⊎ Any P l
  any_cases (here h) = inl h
  any_cases (there h) = inr h

module _ {A : Type 0} where
  pub any_out : (p : A → Bool) (l : List A) → T (any p l) → Any (λ x. T (p x)) l
  any_out p [] t = absurd t
  any_out p (x ∷ l) t = go (λ h. any_out p l h) (T_or (p x) (any p l) t)
    where
      go : (T (any p l) → Any (λ y. T (p y)) l) → T (p x) ⊎ T (any p l) → Any (λ y. T (p y)) (x ∷ l)
      go f (inl h) = here h
      go f (inr h) = there (f h)

  pub any_in : (p : A → Bool) {l : List A} → Any (λ x. T (p x)) l → T (any p l)
  any_in p (here {x = x} {l = l} h) = or_left (p x) (any p l) h
  any_in p (there {x = x} {l = l} h) = or_right (p x) (any p l) (any_in p h)

  pub all_out : (p : A → Bool) (l : List A) → T (all p l) → All (λ x. T (p x)) l
  all_out p [] t = nil
  all_out p (x ∷ l) t = let s = T_and (p x) (all p l) t in cons s.0 (all_out p l s.1)

  pub all_in : (p : A → Bool) {l : List A} → All (λ x. T (p x)) l → T (all p l)
  all_in p nil = tt
  all_in p (cons {x = x} {l = l} h t) = and_T (p x) (all p l) h (all_in p t)

  pub not_all : (p : A → Bool) (l : List A) → T (not (all p l)) → Any (λ x. T (not (p x))) l
  not_all p [] t = absurd t
  not_all p (x ∷ l) t = ⊎_elim here (λ h. there (not_all p l h)) (not_and (p x) (all p l) t)

  module _ {P R : A → Type 0} where
    pub any_mono : ((x : A) → P x → R x) → {l : List A} → Any P l → Any R l
    any_mono f (here {x = x} h) = here (f x h)
    any_mono f (there h) = there (any_mono f h)

    pub all_mono : ((x : A) → P x → R x) → {l : List A} → All P l → All R l
    all_mono f nil = nil
    all_mono f (cons {x = x} h t) = cons (f x h) (all_mono f t)

    pub all_any : {l : List A} → All P l → Any R l → (x : A) × P x × R x
    all_any (cons {x = x} h t) k = go h (λ m. all_any t m) (any_cases k)
      where
        go : {x : A} {l : List A} → P x → (Any R l → (y : A) × P y × R y) → R x ⊎ Any R l → (y : A) × P y × R y
        go {x} h f (inl k) = (x, h, k)
        go h f (inr k) = f k
    all_any nil k = absurd (any_none k)

    pub any_both : {l : List A} → All P l → Any R l → Any (λ x. P x × R x) l
    any_both h (here k) = here (head h, k)
    any_both h (there k) = there (any_both (tail h) k)

  module _ {P : A → Type 0} where
    pub any_at : {l : List A} → Any P l → (x : A) × (x ∈ l) × P x
    any_at (here {x = x} h) = (x, here refl, h)
    any_at (there h) = let r = any_at h in (r.0, there r.1, r.2)

    pub all_at : {l : List A} {x : A} → All P l → x ∈ l → P x
    all_at h m = let r = all_any h m in subst P (sym r.2) r.1

    pub at_any : {l : List A} {x : A} → x ∈ l → P x → Any P l
    at_any {x = x} m h = any_mono (λ y e. subst P e h) m

    pub all_of : (l : List A) → ((x : A) → x ∈ l → P x) → All P l
    all_of [] f = nil
    all_of (x ∷ l) f = cons (f x (here refl)) (all_of l (λ y m. f y (there m)))

    pub all_append : {l m : List A} → All P l → All P m → All P (l ++ m)
    all_append nil k = k
    all_append (cons h t) k = cons h (all_append t k)

    pub all_fst : (l m : List A) → All P (l ++ m) → All P l
    all_fst [] m h = nil
    all_fst (x ∷ l) m h = cons (head h) (all_fst l m (tail h))

    pub all_snd : (l m : List A) → All P (l ++ m) → All P m
    all_snd [] m h = h
    all_snd (x ∷ l) m h = all_snd l m (tail h)

    pub any_left : {l : List A} (m : List A) → Any P l → Any P (l ++ m)
    any_left m (here h) = here h
    any_left m (there h) = there (any_left m h)

    pub any_right : (l : List A) {m : List A} → Any P m → Any P (l ++ m)
    any_right [] h = h
    any_right (x ∷ l) h = there (any_right l h)

    pub any_append : (l m : List A) → Any P (l ++ m) → Any P l ⊎ Any P m
    any_append [] m h = inr h
    any_append (x ∷ l) m h = go (λ k. any_append l m k) (any_cases h)
      where
        go : (Any P (l ++ m) → Any P l ⊎ Any P m) → P x ⊎ Any P (l ++ m) → Any P (x ∷ l) ⊎ Any P m
        go f (inl k) = inl (here k)
        go f (inr k) = ⊎_elim (λ y. inl (there y)) (λ y. inr y) (f k)

    pub any_single : {x : A} → Any P (x ∷ []) → P x
    any_single h = ⊎_elim (λ k. k) (λ k. absurd (any_none k)) (any_cases h)

  pub in_filter : (p : A → Bool) {x : A} {l : List A} → x ∈ l → T (p x) → x ∈ filter p l
  in_filter p {x = x} (here {x = y} {l = l} h) t = go (p y) refl
    where
      go : (b : Bool) → p y ≡ b → x ∈ cond b (y ∷ filter p l) (filter p l)
      go true e = here h
      go false e = absurd (not_true e (subst (λ z. T (p z)) h t))
  in_filter p {x = x} (there {x = y} {l = l} h) t = go (p y) (in_filter p h t)
    where
      go : (b : Bool) → x ∈ filter p l → x ∈ cond b (y ∷ filter p l) (filter p l)
      go true m = there m
      go false m = m

  pub all_filter : (p : A → Bool) (l : List A) → All (λ x. T (p x)) (filter p l)
  all_filter p [] = nil
  all_filter p (y ∷ l) = go (p y) refl (all_filter p l)
    where
      go : (b : Bool) → p y ≡ b → All (λ x. T (p x)) (filter p l) → All (λ x. T (p x)) (cond b (y ∷ filter p l) (filter p l))
      go true e r = cons (is_true e) r
      go false e r = r

module _ {A B : Type 0} {P : B → Type 0} where
  pub all_flat_map : (f : A → List B) {l : List A} → All (λ x. All P (f x)) l → All P (flat_map f l)
  all_flat_map f nil = nil
  all_flat_map f (cons h t) = all_append h (all_flat_map f t)

  pub any_flat_map : (f : A → List B) {l : List A} → Any (λ x. Any P (f x)) l → Any P (flat_map f l)
  any_flat_map f (here {l = l} h) = any_left (flat_map f l) h
  any_flat_map f (there {x = x} h) = any_right (f x) (any_flat_map f h)

  pub flat_map_any : (f : A → List B) (l : List A) → Any P (flat_map f l) → Any (λ x. Any P (f x)) l
  flat_map_any f [] h = absurd (any_none h)
  flat_map_any f (x ∷ l) h = ⊎_elim here (λ k. there (flat_map_any f l k)) (any_append (f x) (flat_map f l) h)

  pub all_map : (f : A → B) {l : List A} → All (λ x. P (f x)) l → All P (map f l)
  all_map f nil = nil
  all_map f (cons h t) = cons h (all_map f t)

  pub any_map : (f : A → B) {l : List A} → Any (λ x. P (f x)) l → Any P (map f l)
  any_map f (here h) = here h
  any_map f (there h) = there (any_map f h)

  pub flat_map_all : (f : A → List B) (l : List A) → All P (flat_map f l) → All (λ x. All P (f x)) l
  flat_map_all f [] h = nil
  flat_map_all f (x ∷ l) h = cons (all_fst (f x) (flat_map f l) h) (flat_map_all f l (all_snd (f x) (flat_map f l) h))

  pub map_all : (f : A → B) (l : List A) → All P (map f l) → All (λ x. P (f x)) l
  map_all f [] h = nil
  map_all f (x ∷ l) h = cons (head h) (map_all f l (tail h))

-- what a function makes of two lists
pub flat_map_append : {A B : Type 0} (f : A → List B) (l m : List A) → flat_map f (l ++ m) ≡ flat_map f l ++ flat_map f m
flat_map_append f [] m = refl
flat_map_append f (x ∷ l) m = rw (flat_map_append f l m) (sym (append_assoc (f x) (flat_map f l) (flat_map f m)))

-- a test of some of two lists
pub any_join : {A : Type 0} (p : A → Bool) (l m : List A) → any p (l ++ m) ≡ any p l || any p m
any_join p [] m = refl
any_join p (x ∷ l) m = rw (any_join p l m) (sym (or_assoc (p x) (any p l) (any p m)))
