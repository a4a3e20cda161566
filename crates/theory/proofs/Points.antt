-- X rises; the pieces cover the constraint, lie inside it, and no end of the second policy parts one of them.
use Prim.Native.Nat.{◌<◌, ◌≤◌, pred, suc, ℕ}
use mathlib.Core.Bool.{Bool, cond, false, not, true}
use mathlib.Core.List.{List, [], ◌++◌, ◌∷◌}
use mathlib.Core.Logic.{◌⊎◌, inl, inr}
use mathlib.Core.Path.{◌≡◌, refl, subst, sym}
use lib.Dec.{T, eqb, eqb→eq, ltb, ltb→lt, lt→ltb, nltb→le}
use native.Mathlib.Omega.{arith}
use Rattle.meaning.specs.Intervals.{Constraint, NonEmpty, Within, is_inside, is_within}
use Rattle.meaning.specs.Lists.{All, Any, ◌∈◌, cons, filter, flat_map, here, nil, there}
use Rattle.meaning.specs.Policy.{Policy}
use Rattle.meaning.specs.Splitting.{Rising, Sorted, ends, gap, insert, insert_all, only, pieces, pieces_at, pieces_from, points}
use Rattle.theory.proofs.Intervals.{inside_of, is_within_iff}
use Rattle.theory.proofs.Rules.{all_append, all_at, all_filter, all_mono, all_of, any_cases, any_left, any_none, any_right}
use Rattle.theory.proofs.Rules.{eqb_of, head, in_filter, order, tail}

-- no end at e parts the piece: formula (9) makes the query interval safe
abbrev pub Unparted : Constraint → ℕ → Type 0
Unparted p e = (e ≤ p.hi → e ≤ p.lo) × (p.lo ≤ e → p.hi ≤ e)

-- an interval with a value in the piece, whose ends do not part the piece, has all of it
pub unparted_inside : (p : Constraint) (lo hi v : ℕ) → Unparted p lo → Unparted p hi → Within lo hi v → Within p.lo p.hi v → T (is_inside lo hi p.lo p.hi)
unparted_inside p lo hi v a b w h = inside_of lo hi p.lo p.hi (a.0 (omega arith)) (b.1 (omega arith))

-- p lies inside s, and is not empty
pub record Inside (s p : Constraint) : Type 0 where
  pub same : p.feature ≡ s.feature
  pub inside : T (is_inside s.lo s.hi p.lo p.hi)
  pub non_empty : NonEmpty p.lo p.hi

-- p is a piece of s against Q
pub record Part (Q : Policy) (s p : Constraint) : Type 0 where
  pub inside : Inside s p
  pub safe : (e : ℕ) → e ∈ flat_map (ends s.feature) Q → Unparted p e

any_cond : {A : Type 0} {P : A → Type 0} (b : Bool) {l : List A} → T b → Any P l → Any P (cond b l [])
any_cond true t h = h
any_cond false t h = absurd t

all_cond : {A : Type 0} {P : A → Type 0} (b : Bool) {l : List A} → (T b → All P l) → All P (cond b l [])
all_cond true h = h tt
all_cond false h = nil

-- the three cases of an insertion
data Place (e x : ℕ) (l : List ℕ) : List ℕ → Type 0 where
  front : e < x → Place e x l (e ∷ (x ∷ l))
  again : e ≡ x → Place e x l (x ∷ l)
  behind : x < e → Place e x l (x ∷ insert e l)

place : (e x : ℕ) (l : List ℕ) → Place e x l (insert e (x ∷ l))
place e x l = go (ltb e x) (eqb e x) (λ t. ltb→lt e x t) (λ t. nltb→le e x t) (λ t. eqb→eq e x t) (λ q. eqb_of e x q) (order x e)
  where
    go : (a b : Bool) → (T a → e < x) → (T (not a) → x ≤ e) → (T b → e ≡ x) → (e ≡ x → T b) → (x < e) ⊎ (e ≤ x) → Place e x l (cond a (e ∷ (x ∷ l)) (cond b (x ∷ l) (x ∷ insert e l)))
    go true b f g h i k = front (f tt)
    go false true f g h i k = again (h tt)
    go false false f g h i (inl k) = behind k
    go false false f g h i (inr k) = let c = g tt in absurd (i (omega arith))

insert_rising : (y e : ℕ) (l : List ℕ) → y < e → Rising y l → Rising y (insert e l)
insert_rising y e [] a r = (a, tt)
insert_rising y e (x ∷ l) a r = go (insert e (x ∷ l)) (place e x l) (λ b. insert_rising x e l b r.1)
  where
    go : (m : List ℕ) → Place e x l m → (x < e → Rising x (insert e l)) → Rising y m
    go m (front b) f = (a, (b, r.1))
    go m (again b) f = r
    go m (behind b) f = (r.0, f b)

pub insert_sorted : (e : ℕ) (l : List ℕ) → Sorted l → Sorted (insert e l)
insert_sorted e [] r = tt
insert_sorted e (x ∷ l) r = go (insert e (x ∷ l)) (place e x l)
  where
    go : (m : List ℕ) → Place e x l m → Sorted m
    go m (front b) = (b, r)
    go m (again b) = r
    go m (behind b) = insert_rising x e l b r

module _ {P : ℕ → Type 0} where
  pub insert_all_lem : (e : ℕ) (l : List ℕ) → P e → All P l → All P (insert e l)
  insert_all_lem e [] h k = cons h nil
  insert_all_lem e (x ∷ l) h k = go (insert e (x ∷ l)) (place e x l) (insert_all_lem e l h (tail k))
    where
      go : (m : List ℕ) → Place e x l m → All P (insert e l) → All P m
      go m (front b) f = cons h k
      go m (again b) f = k
      go m (behind b) f = cons (head k) f

pub insert_here : (e : ℕ) (l : List ℕ) → e ∈ insert e l
insert_here e [] = here refl
insert_here e (x ∷ l) = go (insert e (x ∷ l)) (place e x l) (insert_here e l)
  where
    go : (m : List ℕ) → Place e x l m → e ∈ insert e l → e ∈ m
    go m (front b) f = here refl
    go m (again b) f = here b
    go m (behind b) f = there f

pub insert_there : (e : ℕ) (l : List ℕ) {z : ℕ} → z ∈ l → z ∈ insert e l
insert_there e [] k = absurd (any_none k)
insert_there e (x ∷ l) {z} k = go (insert e (x ∷ l)) (place e x l) (insert_there e l) (any_cases k)
  where
    go : (m : List ℕ) → Place e x l m → (z ∈ l → z ∈ insert e l) → (z ≡ x) ⊎ (z ∈ l) → z ∈ m
    go m (front b) f c = there k
    go m (again b) f c = k
    go m (behind b) f (inl c) = here c
    go m (behind b) f (inr c) = there (f c)

pub inserts_sorted : (es l : List ℕ) → Sorted l → Sorted (insert_all es l)
inserts_sorted [] l r = r
inserts_sorted (e ∷ es) l r = inserts_sorted es (insert e l) (insert_sorted e l r)

pub inserts_all : {P : ℕ → Type 0} (es l : List ℕ) → All P es → All P l → All P (insert_all es l)
inserts_all [] l h k = k
inserts_all (e ∷ es) l h k = inserts_all es (insert e l) (tail h) (insert_all_lem e l (head h) k)

pub inserts_there : (es l : List ℕ) {z : ℕ} → z ∈ l → z ∈ insert_all es l
inserts_there [] l k = k
inserts_there (e ∷ es) l k = inserts_there es (insert e l) (insert_there e l k)

pub inserts_here : (es l : List ℕ) {z : ℕ} → z ∈ es → z ∈ insert_all es l
inserts_here [] l k = absurd (any_none k)
inserts_here (e ∷ es) l {z} k = go (λ c. inserts_here es (insert e l) c) (any_cases k)
  where
    go : (z ∈ es → z ∈ insert_all es (insert e l)) → (z ≡ e) ⊎ (z ∈ es) → z ∈ insert_all es (insert e l)
    go f (inl c) = inserts_there es (insert e l) (subst (λ (y : ℕ). y ∈ insert e l) (sym c) (insert_here e l))
    go f (inr c) = f c

pub above : (x : ℕ) (l : List ℕ) {z : ℕ} → Rising x l → z ∈ l → x < z
above x [] r k = absurd (any_none k)
above x (y ∷ l) {z} r k = go (λ c. above y l r.1 c) (any_cases k)
  where
    go : (z ∈ l → y < z) → (z ≡ y) ⊎ (z ∈ l) → x < z
    go f (inl c) = let b = r.0 in omega arith
    go f (inr c) = let b = r.0 in let d = f c in omega arith

-- e lies outside each gap between neighbours
abbrev Beside : ℕ → ℕ → List ℕ → Type 0
Beside e x [] = Unit {0}
Beside e x (y ∷ l) = ((e ≤ x) ⊎ (y ≤ e)) × Beside e y l

beside : (e x : ℕ) (l : List ℕ) → Rising x l → (e ≤ x) ⊎ ((e ∈ l) ⊎ All (λ z. z ≤ e) l) → Beside e x l
beside e x [] r p = tt
beside e x (y ∷ l) r (inl a) = let b = r.0 in (inl a, beside e y l r.1 (inl (omega arith)))
beside e x (y ∷ l) r (inr (inl m)) = go (beside e y l r.1) (any_cases m)
  where
    go : ((e ≤ y) ⊎ ((e ∈ l) ⊎ All (λ z. z ≤ e) l) → Beside e y l) → (e ≡ y) ⊎ (e ∈ l) → Beside e x (y ∷ l)
    go f (inl a) = (inr (omega arith), f (inl (omega arith)))
    go f (inr a) = let b = above y l r.1 a in (inr (omega arith), f (inr (inl a)))
beside e x (y ∷ l) r (inr (inr a)) = (inr (head a), beside e y l r.1 (inr (inr (tail a))))

unparted_from : (f e x : ℕ) (l : List ℕ) → Beside e x l → All (λ p. Unparted p e) (pieces_from f x l)
unparted_from f e x [] b = cons {x = only f x} (λ a. a, λ a. a) nil
unparted_from f e x (y ∷ l) b = cons {x = only f x} (λ a. a, λ a. a) (all_append (all_cond (ltb (suc x) y) (λ t. cons (between b.0) nil)) (unparted_from f e y l b.1))
  where
    between : (e ≤ x) ⊎ (y ≤ e) → Unparted (record { feature = f; lo = suc x; hi = pred y }) e
    between (inl a) = (λ c. omega arith, λ c. omega arith)
    between (inr a) = (λ c. omega arith, λ c. omega arith)

-- a value from x to a later point lies in a piece
abbrev Covers : ℕ → ℕ → Constraint → Type 0
Covers f w p = (p.feature ≡ f) × Within p.lo p.hi w

cover_from : (f w x : ℕ) (l : List ℕ) → x ≤ w → (m : ℕ) → (m ≡ x) ⊎ (m ∈ l) → w ≤ m → Any (Covers f w) (pieces_from f x l)
cover_from f w x [] a m (inl b) c = here {x = only f x} (refl, (a, omega arith))
cover_from f w x [] a m (inr b) c = absurd (any_none b)
cover_from f w x (y ∷ l) a m b c = go (cover_from f w y l) (order w y) (order x w) (later b)
  where
    later : (m ≡ x) ⊎ (m ∈ y ∷ l) → (m ≡ x) ⊎ ((m ≡ y) ⊎ (m ∈ l))
    later (inl d) = inl d
    later (inr d) = inr (any_cases d)

    go : (y ≤ w → (m : ℕ) → (m ≡ y) ⊎ (m ∈ l) → w ≤ m → Any (Covers f w) (pieces_from f y l)) →
        (w < y) ⊎ (y ≤ w) → (x < w) ⊎ (w ≤ x) → (m ≡ x) ⊎ ((m ≡ y) ⊎ (m ∈ l)) → Any (Covers f w) (only f x ∷ (gap f x y ++ pieces_from f y l))
    go ih d (inr g) h = here {x = only f x} (refl, (a, g))
    go ih (inl d) (inl g) h =
        there (any_left (pieces_from f y l) (any_cond (ltb (suc x) y) (lt→ltb (suc x) y (omega arith))
        (here {x = record { feature = f; lo = suc x; hi = pred y }} (refl, (g, omega arith)))))
    go ih (inr d) (inl g) (inl h) = absurd (omega arith)
    go ih (inr d) (inl g) (inr h) = there (any_right (gap f x y) (ih d m h c))

-- a piece lies between its points
between_points : (s : Constraint) (lo hi : ℕ) → s.lo ≤ lo → NonEmpty lo hi → hi ≤ s.hi → Inside s (record { feature = s.feature; lo = lo; hi = hi })
between_points s lo hi a b c = record {
  same = refl;
  inside = inside_of s.lo s.hi lo hi a c;
  non_empty = b;
}

inside_from : (s : Constraint) (x : ℕ) (l : List ℕ) → Rising x l → All (Within s.lo s.hi) (x ∷ l) → All (Inside s) (pieces_from s.feature x l)
inside_from s x [] r h = cons {x = only s.feature x} (between_points s x x (head h).0 (omega arith) (head h).1) nil
inside_from s x (y ∷ l) r h =
    cons {x = only s.feature x} (between_points s x x (head h).0 (omega arith) (head h).1)
    (all_append (all_cond (ltb (suc x) y) (λ t. cons (between (ltb→lt (suc x) y t) (head h) (head (tail h))) nil)) (inside_from s y l r.1 (tail h)))
  where
    between : suc x < y → Within s.lo s.hi x → Within s.lo s.hi y → Inside s (record { feature = s.feature; lo = suc x; hi = pred y })
    between a b c = between_points s (suc x) (pred y) (omega arith) (omega arith) (omega arith)

module _ (Q : Policy) (s : Constraint) where
  relevant : List ℕ
  relevant = filter (is_within s.lo s.hi) (flat_map (ends s.feature) Q)

  pub points_sorted : Sorted (points Q s)
  unfolding relevant
  points_sorted = inserts_sorted relevant (insert s.hi (s.lo ∷ [])) (insert_sorted s.hi (s.lo ∷ []) tt)

  points_inside : NonEmpty s.lo s.hi → All (Within s.lo s.hi) (points Q s)
  unfolding relevant
  points_inside a =
      inserts_all relevant _ (all_mono (λ e t. (is_within_iff s.lo s.hi e).0 t)
      (all_filter (is_within s.lo s.hi) (flat_map (ends s.feature) Q)))
      (insert_all_lem s.hi (s.lo ∷ []) (a, omega arith) (cons (omega arith, a) nil))

  pub lo_point : s.lo ∈ points Q s
  unfolding relevant
  lo_point = inserts_there relevant (insert s.hi (s.lo ∷ [])) (insert_there s.hi (s.lo ∷ []) (here refl))

  hi_point : s.hi ∈ points Q s
  unfolding relevant
  hi_point = inserts_there relevant (insert s.hi (s.lo ∷ [])) (insert_here s.hi (s.lo ∷ []))

  end_point : (l : ℕ) → l ∈ flat_map (ends s.feature) Q → Within s.lo s.hi l → l ∈ points Q s
  unfolding relevant
  end_point l m w =
      inserts_here relevant (insert s.hi (s.lo ∷ []))
      (in_filter (is_within s.lo s.hi) m ((is_within_iff s.lo s.hi l).1 w))

  -- an end of Q lies before X, in it, or after it
  end_beside : NonEmpty s.lo s.hi → (e x : ℕ) (l : List ℕ) → points Q s ≡ x ∷ l → e ∈ flat_map (ends s.feature) Q → (e ≤ x) ⊎ ((e ∈ l) ⊎ All (λ z. z ≤ e) l)
  end_beside a e x l q m = go (order e s.lo) (order s.hi e)
    where
      inside : All (Within s.lo s.hi) (x ∷ l)
      inside = subst (All (Within s.lo s.hi)) q (points_inside a)

      among : (e ≡ x) ⊎ (e ∈ l) → (e ≤ x) ⊎ ((e ∈ l) ⊎ All (λ z. z ≤ e) l)
      among (inl d) = inl (omega arith)
      among (inr d) = inr (inl d)

      go : (e < s.lo) ⊎ (s.lo ≤ e) → (s.hi < e) ⊎ (e ≤ s.hi) → (e ≤ x) ⊎ ((e ∈ l) ⊎ All (λ z. z ≤ e) l)
      go (inl b) c = let d = head inside in inl (omega arith)
      go (inr b) (inl c) = inr (inr (all_mono (λ z d. omega arith) (tail inside)))
      go (inr b) (inr c) = among (any_cases (subst (λ k. e ∈ k) q (end_point e m (b, c))))

  pub pieces_part : NonEmpty s.lo s.hi → All (Part Q s) (pieces Q s)
  pieces_part a = go (points Q s) refl points_sorted (points_inside a)
    where
      go : (X : List ℕ) → points Q s ≡ X → Sorted X → All (Within s.lo s.hi) X → All (Part Q s) (pieces_at s.feature X)
      go [] q r h = nil
      go (x ∷ l) q r h =
          all_of (pieces_from s.feature x l) (λ p m. record {
            inside = all_at (inside_from s x l r h) m;
            safe = λ e n. all_at (unparted_from s.feature e x l (beside e x l r (end_beside a e x l q n))) m;
          })

  pub pieces_cover : (w : ℕ) → Within s.lo s.hi w → Any (Covers s.feature w) (pieces Q s)
  pieces_cover w b = go (points Q s) points_sorted lo_point hi_point
    where
      first : (x : ℕ) (l : List ℕ) → Rising x l → (s.lo ≡ x) ⊎ (s.lo ∈ l) → x ≤ w
      first x l r (inl c) = let d = b.0 in omega arith
      first x l r (inr c) = let d = above x l r c in let e = b.0 in omega arith

      go : (X : List ℕ) → Sorted X → s.lo ∈ X → s.hi ∈ X → Any (Covers s.feature w) (pieces_at s.feature X)
      go [] r c d = absurd (any_none c)
      go (x ∷ l) r c d = cover_from s.feature w x l (first x l r (any_cases c)) s.hi (any_cases d) b.1
