-- Lists that rise by a key: insertion adds one member, and two rising lists with the same members are equal.
use Prim.Native.Nat.{◌<◌, ℕ}
use mathlib.Core.Bool.{Bool, ◌&&◌, cond, false, true}
use mathlib.Core.List.{List, [], ◌∷◌}
use mathlib.Core.Logic.{◌↔◌, ◌⊎◌, inl, inr, ⊎_elim}
use mathlib.Core.Path.{◌≡◌, refl, subst, sym}
use lib.Dec.{T, eqb, eqb→eq, ltb, ltb→lt, lt→ltb}
use native.Mathlib.Omega.{arith}
use Rattle.meaning.specs.Lists.{All, ◌∈◌, cons, here, nil, there}
use Rattle.spelling.specs.Order.{is_before, place, sorted}
use Rattle.spelling.specs.Ordered.{Rising}
use Rattle.theory.proofs.Rules.{T_and, T_or, all_at, all_mono, all_of, and_T, any_cases, any_none, eqb_of, is_true, not_true, or_left}
use Rattle.theory.proofs.Rules.{or_right, order}

-- ---- the comparison of lists is a total order

pub before_self : (l : List ℕ) → T (is_before l l) → ⊥
before_self [] t = t
before_self (x ∷ l) t =
    ⊎_elim (λ h. let e = ltb→lt x x h in omega arith) (λ h. before_self l (T_and (eqb x x) (is_before l l) h).1) (T_or (ltb x x) (eqb x x && is_before l l) t)

-- what it is for two heads
heads : (x y : ℕ) (l m : List ℕ) → T (is_before (x ∷ l) (y ∷ m)) → (x < y) ⊎ ((x ≡ y) × T (is_before l m))
heads x y l m t =
    ⊎_elim (λ h. inl (ltb→lt x y h)) (λ h. let w = T_and (eqb x y) (is_before l m) h in inr (eqb→eq x y w.0, w.1))
    (T_or (ltb x y) (eqb x y && is_before l m) t)

by_head : (x y : ℕ) (l m : List ℕ) → x < y → T (is_before (x ∷ l) (y ∷ m))
by_head x y l m h = or_left (ltb x y) (eqb x y && is_before l m) (lt→ltb x y h)

by_tail : (x y : ℕ) (l m : List ℕ) → x ≡ y → T (is_before l m) → T (is_before (x ∷ l) (y ∷ m))
by_tail x y l m e t = or_right (ltb x y) (eqb x y && is_before l m) (and_T (eqb x y) (is_before l m) (eqb_of x y e) t)

pub before_trans : (l m n : List ℕ) → T (is_before l m) → T (is_before m n) → T (is_before l n)
before_trans [] [] n s t = absurd s
before_trans [] (y ∷ m) [] s t = absurd t
before_trans [] (y ∷ m) (z ∷ n) s t = tt
before_trans (x ∷ l) [] n s t = absurd s
before_trans (x ∷ l) (y ∷ m) [] s t = absurd t
before_trans (x ∷ l) (y ∷ m) (z ∷ n) s t = go (heads x y l m s) (heads y z m n t) (before_trans l m n)
  where
    go : (x < y) ⊎ ((x ≡ y) × T (is_before l m)) → (y < z) ⊎ ((y ≡ z) × T (is_before m n)) → (T (is_before l m) → T (is_before m n) → T (is_before l n)) →
        T (is_before (x ∷ l) (z ∷ n))
    go (inl a) (inl b) f = by_head x z l n (omega arith)
    go (inl a) (inr b) f = by_head x z l n (omega arith)
    go (inr a) (inl b) f = by_head x z l n (omega arith)
    go (inr a) (inr b) f = by_tail x z l n (omega arith) (f a.1 b.1)

pub before_total : (l m : List ℕ) → T (is_before l m) ⊎ ((l ≡ m) ⊎ T (is_before m l))
before_total [] [] = inr (inl refl)
before_total [] (y ∷ m) = inl tt
before_total (x ∷ l) [] = inr (inr tt)
before_total (x ∷ l) (y ∷ m) = go (order x y) (order y x) (before_total l m)
  where
    go : (x < y) ⊎ (Prim.Native.Nat.◌≤◌ y x) → (y < x) ⊎ (Prim.Native.Nat.◌≤◌ x y) → T (is_before l m) ⊎ ((l ≡ m) ⊎ T (is_before m l)) →
        T (is_before (x ∷ l) (y ∷ m)) ⊎ (((x ∷ l) ≡ (y ∷ m)) ⊎ T (is_before (y ∷ m) (x ∷ l)))
    go (inl a) b f = inl (by_head x y l m a)
    go (inr a) (inl b) f = inr (inr (by_head y x m l b))
    go (inr a) (inr b) (inl h) = inl (by_tail x y l m (omega arith) h)
    go (inr a) (inr b) (inr (inl h)) = inr (inl (let e : x ≡ y = omega arith in cc))
    go (inr a) (inr b) (inr (inr h)) = inr (inr (by_tail y x m l (omega arith) h))

-- ---- lists with the same members

abbrev pub Same : {A : Type 0} → List A → List A → Type 0
Same {A} l m = (x : A) → (x ∈ l) ↔ (x ∈ m)

pub same_refl : {A : Type 0} (l : List A) → Same l l
same_refl l x = (λ h. h, λ h. h)

pub same_sym : {A : Type 0} {l m : List A} → Same l m → Same m l
same_sym s x = ((s x).1, (s x).0)

pub same_trans : {A : Type 0} {l m n : List A} → Same l m → Same m n → Same l n
same_trans s t x = (λ h. (t x).0 ((s x).0 h), λ h. (s x).1 ((t x).1 h))

-- ---- lists that rise by a key which tells any two elements apart

module _ {A : Type 0} (k : A → List ℕ) (apart : (x y : A) → k x ≡ k y → x ≡ y) where
  -- the three outcomes of an insertion in front of y
  data Placing (x y : A) (l further : List A) : List A → Type 0 where
    first : T (is_before (k x) (k y)) → Placing x y l further (x ∷ (y ∷ l))
    later : T (is_before (k y) (k x)) → Placing x y l further further
    equal : x ≡ y → Placing x y l further (y ∷ l)

  placing : (x y : A) (l further : List A) →
      Placing x y l further (cond (is_before (k x) (k y)) (x ∷ (y ∷ l)) (cond (is_before (k y) (k x)) further (y ∷ l)))
  placing x y l further = go (is_before (k x) (k y)) (is_before (k y) (k x)) refl refl (before_total (k x) (k y))
    where
      go : (a b : Bool) → is_before (k x) (k y) ≡ a → is_before (k y) (k x) ≡ b → T (is_before (k x) (k y)) ⊎ ((k x ≡ k y) ⊎ T (is_before (k y) (k x))) →
          Placing x y l further (cond a (x ∷ (y ∷ l)) (cond b further (y ∷ l)))
      go true b e f t = first (is_true e)
      go false true e f t = later (is_true f)
      go false false e f (inl t) = absurd (not_true e t)
      go false false e f (inr (inl t)) = equal (apart x y t)
      go false false e f (inr (inr t)) = absurd (not_true f t)

  -- insertion adds exactly one member
  pub place_in : (x : A) (l : List A) (z : A) → (z ≡ x) ⊎ (z ∈ l) → z ∈ place k x l
  place_in x [] z (inl e) = here e
  place_in x [] z (inr h) = absurd (any_none h)
  place_in x (y ∷ l) z h = go _ (placing x y l (y ∷ place k x l)) h (λ w. place_in x l z w)
    where
      go : (m : List A) → Placing x y l (y ∷ place k x l) m → (z ≡ x) ⊎ (z ∈ y ∷ l) → ((z ≡ x) ⊎ (z ∈ l) → z ∈ place k x l) → z ∈ m
      go m (first t) (inl e) f = here e
      go m (first t) (inr w) f = there w
      go m (later t) (inl e) f = there (f (inl e))
      go m (later t) (inr w) f = ⊎_elim (λ e. here e) (λ v. there (f (inr v))) (any_cases w)
      go m (equal t) (inl e) f = here {x = y} (cc)
      go m (equal t) (inr w) f = w

  pub place_out : (x : A) (l : List A) (z : A) → z ∈ place k x l → (z ≡ x) ⊎ (z ∈ l)
  place_out x [] z h = ⊎_elim (λ e. inl e) (λ w. inr w) (any_cases h)
  place_out x (y ∷ l) z h = go _ (placing x y l (y ∷ place k x l)) h (place_out x l z)
    where
      go : (m : List A) → Placing x y l (y ∷ place k x l) m → z ∈ m → (z ∈ place k x l → (z ≡ x) ⊎ (z ∈ l)) → (z ≡ x) ⊎ (z ∈ y ∷ l)
      go m (first t) h f = any_cases h
      go m (later t) h f = ⊎_elim (λ e. inr (here e)) (λ w. ⊎_elim (λ e. inl e) (λ v. inr (there v)) (f w)) (any_cases h)
      go m (equal t) h f = inr h

  pub sorted_same : (l : List A) → Same l (sorted k l)
  sorted_same [] z = (λ h. h, λ h. h)
  sorted_same (x ∷ l) z =
      let s = sorted_same l z in (
        λ h. place_in x (sorted k l) z (⊎_elim (λ e. inl e) (λ w. inr (s.0 w)) (any_cases h)),
        λ h. ⊎_elim (λ e. here e) (λ w. there (s.1 w)) (place_out x (sorted k l) z h),
      )

  -- and keeps the order
  pub place_rising : (x : A) (l : List A) → Rising k l → Rising k (place k x l)
  place_rising x [] r = (nil, tt)
  place_rising x (y ∷ l) r = go _ (placing x y l (y ∷ place k x l)) (place_rising x l r.1)
    where
      go : (m : List A) → Placing x y l (y ∷ place k x l) m → Rising k (place k x l) → Rising k m
      go m (first t) g = (cons t (all_mono (λ z h. before_trans (k x) (k y) (k z) t h) r.0), r)
      go m (later t) g = (
        all_of (place k x l) (λ z w. ⊎_elim (λ e. rw e t) (λ v. all_at r.0 v) (place_out x l z w)),
        g,
      )
      go m (equal t) g = r

  pub sorted_rising : (l : List A) → Rising k (sorted k l)
  sorted_rising [] = tt
  sorted_rising (x ∷ l) = place_rising x (sorted k l) (sorted_rising l)

  -- two rising lists with the same members are equal
  pub rising_same : (l m : List A) → Rising k l → Rising k m → Same l m → l ≡ m
  rising_same [] [] r s e = refl
  rising_same [] (y ∷ m) r s e = absurd (any_none ((e y).1 (here refl)))
  rising_same (x ∷ l) [] r s e = absurd (any_none ((e x).0 (here refl)))
  rising_same (x ∷ l) (y ∷ m) r s e =
      ap₂' same_head (rising_same l m r.1 s.1
      (λ z. (λ h. only h r.0 ((e z).0 (there h)) (sym same_head), λ h. only h s.0 ((e z).1 (there h)) same_head)))
    where
      ap₂' : {u v : A} {a b : List A} → u ≡ v → a ≡ b → (u ∷ a) ≡ (v ∷ b)
      ap₂' p q = cc

      ordered : (u v : A) → u ≡ v → T (is_before (k u) (k v)) → ⊥
      ordered u v p t = before_self (k v) (subst (λ (w : A). T (is_before (k w) (k v))) p t)

      -- u in front of a, and a among those behind u
      front : (u v : A) (a : List A) → T (is_before (k u) (k v)) → All (λ w. T (is_before (k v) (k w))) a → u ∈ (v ∷ a) → ⊥
      front u v a t b h =
          ⊎_elim (λ p. ordered u v p t) (λ w. before_self (k u) (before_trans (k u) (k v) (k u) t (all_at b w))) (any_cases h)

      same_head : x ≡ y
      same_head =
          ⊎_elim (λ t. absurd (front x y m t s.0 ((e x).0 (here refl))))
          (⊎_elim (λ p. apart x y p) (λ t. absurd (front y x l t r.0 ((e y).1 (here refl))))) (before_total (k x) (k y))

      only : {z u v : A} {a b : List A} → z ∈ a → All (λ w. T (is_before (k u) (k w))) a → z ∈ (v ∷ b) → v ≡ u → z ∈ b
      only {z} {u} {v} h g w p = ⊎_elim (λ q. absurd (ordered u z (cc) (all_at g h))) (λ i. i) (any_cases w)

  pub sorted_eq : (l m : List A) → Same l m → sorted k l ≡ sorted k m
  sorted_eq l m s =
      rising_same (sorted k l) (sorted k m) (sorted_rising l) (sorted_rising m)
      (same_trans {m = m} (same_trans {m = l} (same_sym {l = l} (sorted_same l)) s) (sorted_same m))

  pub sorted_again : (l : List A) → Rising k l → sorted k l ≡ l
  sorted_again l r = rising_same (sorted k l) l (sorted_rising l) r (same_sym {l = l} (sorted_same l))

  pub sorted_inv : (l m : List A) → sorted k l ≡ sorted k m → Same l m
  sorted_inv l m e =
      same_trans {m = sorted k l} (sorted_same l) (subst (λ (w : List A). Same w m) (sym e) (same_sym {l = m} (sorted_same m)))
