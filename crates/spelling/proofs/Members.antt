-- A spelling is its members: forms with one spelling keep one spelling, whatever is added to them.
use Prim.Native.Nat.{◌+◌, ℕ}
use mathlib.Core.Bool.{Bool, ◌&&◌, cond, false, true}
use mathlib.Core.List.{List, [], ◌++◌, ◌∷◌, map}
use mathlib.Core.Logic.{◌⊎◌, inl, inr, ⊎_elim}
use mathlib.Core.Path.{◌∙◌, ◌≡◌, ap, refl, subst, sym}
use lib.Dec.{T, eqb, eqb→eq}
use native.Mathlib.Omega.{arith}
use Rattle.meaning.specs.Intervals.{Constraint, meet}
use Rattle.meaning.specs.Lists.{All, ◌∈◌, cons, here, nil, there}
use Rattle.meaning.specs.Normal.{Distinct, Fresh}
use Rattle.meaning.specs.NormalForm.{Form, Successors, add, bare, none, successor, with_class}
use Rattle.meaning.specs.Policy.{Chain, class, end, impossible, interval, some}
use Rattle.meaning.specs.Stated.{is_functional_feature, is_functional_role, ranges}
use Rattle.meaning.specs.Vocabulary.{Vocabulary}
use Rattle.spelling.proofs.Keys.{key_apart}
use Rattle.spelling.proofs.Placing.{Placed, Tidy, TidyBelow, add_one, classes_slots, constraints_slots, functional_slot, is_functional}
use Rattle.spelling.proofs.Placing.{meet_at, other_constraints, other_roles, placed, roles_slots, slot, start_at, tidy_add_one}
use Rattle.spelling.proofs.Placing.{tidy_start}
use Rattle.spelling.proofs.Rising.{Same, sorted_eq, sorted_inv}
use Rattle.spelling.specs.Order.{sorted}
use Rattle.spelling.specs.Ordered.{conjuncts}
use Rattle.spelling.specs.Spelling.{Conjunct, conjuncts_of, is_in, key, put_all, put_in_order, reaches, roles_of, spelling, stated, within}
use Rattle.spelling.specs.Spelling.{within_of}
use Rattle.theory.proofs.Rules.{T_and, all_append, all_at, all_of, and_T, any_append, any_cases, any_left, any_none, any_right, eqb_of}
use Rattle.theory.proofs.Rules.{head, is_true, not_true, tail}

-- ---- a spelling is its members

-- what is put together is read off again
pub conjuncts_put_all : (l : List Conjunct) → conjuncts (put_all l) ≡ l
conjuncts_put_all [] = refl
conjuncts_put_all (is_in a ∷ l) = ap (λ (m : List Conjunct). is_in a ∷ m) (conjuncts_put_all l)
conjuncts_put_all (within f lo hi ∷ l) = ap (λ (m : List Conjunct). within f lo hi ∷ m) (conjuncts_put_all l)
conjuncts_put_all (reaches r child ∷ l) = ap (λ (m : List Conjunct). reaches r child ∷ m) (conjuncts_put_all l)

pub put_in_order_same : (l m : List Conjunct) → Same l m → put_in_order l ≡ put_in_order m
put_in_order_same l m s = ap put_all (sorted_eq key key_apart l m s)

pub put_in_order_inv : (l m : List Conjunct) → put_in_order l ≡ put_in_order m → Same l m
put_in_order_inv l m e =
    sorted_inv key key_apart l m (sym (conjuncts_put_all (sorted key l)) ∙ ap conjuncts e ∙ conjuncts_put_all (sorted key m))

pub spelling_same : (t u : Form) → Same (conjuncts_of t) (conjuncts_of u) → spelling t ≡ spelling u
unfolding spelling
spelling_same t u s = put_in_order_same (conjuncts_of t) (conjuncts_of u) s

pub spelling_inv : (t u : Form) → spelling t ≡ spelling u → Same (conjuncts_of t) (conjuncts_of u)
unfolding spelling
spelling_inv t u e = put_in_order_inv (conjuncts_of t) (conjuncts_of u) e

-- ---- a functional name stands once

-- which conjuncts an individual's parts are
in_roles : (t : Form) (r : ℕ) (c : Chain) → reaches r c ∈ conjuncts_of t → reaches r c ∈ roles_of t.successors
in_roles t r c h =
    ⊎_elim (λ w. absurd (let e = all_at (classes_slots t.node.classes) w in omega arith))
    (λ w. ⊎_elim (λ v. absurd (let e = all_at (constraints_slots t.node.constraints) v in omega arith)) (λ v. v)
    (any_append (map within_of t.node.constraints) _ w))
    (any_append (map is_in t.node.classes) _ h)

in_constraints : (t : Form) (f lo hi : ℕ) → within f lo hi ∈ conjuncts_of t → within f lo hi ∈ map within_of t.node.constraints
in_constraints t f lo hi h =
    ⊎_elim (λ w. absurd (let e = all_at (classes_slots t.node.classes) w in omega arith))
    (λ w. ⊎_elim (λ v. v) (λ v. absurd (let e = all_at (roles_slots t.successors) v in omega arith)) (any_append (map within_of t.node.constraints) _ w))
    (any_append (map is_in t.node.classes) _ h)

pub roles_in : (t : Form) (x : Conjunct) → x ∈ roles_of t.successors → x ∈ conjuncts_of t
roles_in t x h = any_right (map is_in t.node.classes) (any_right (map within_of t.node.constraints) h)

pub constraints_in : (t : Form) (x : Conjunct) → x ∈ map within_of t.node.constraints → x ∈ conjuncts_of t
constraints_in t x h = any_right (map is_in t.node.classes) (any_left (roles_of t.successors) h)

fresh_out : {r : ℕ} {c : Chain} (ks : Successors) → Fresh r ks → reaches r c ∈ roles_of ks → ⊥
fresh_out none f h = any_none h
fresh_out (successor q n under next) f h = ⊎_elim (λ e. f.0 (cc)) (λ w. fresh_out next f.1 w) (any_cases h)

-- what a functional role reaches is the individual that conjuncts are added to
start_only : (K : Vocabulary) (r : ℕ) (fresh : Form) (ks : Successors) → TidyBelow K ks → T (is_functional_role K r) → (c : Chain) → reaches r c ∈ roles_of ks →
    c ≡ spelling (start_at (is_functional_role K r) r fresh ks)
unfolding spelling
start_only K r fresh none h t c m = absurd (any_none m)
start_only K r fresh (successor q n under next) h t c m = go (is_functional_role K r && eqb r q) refl (any_cases m) (start_only K r fresh next h.4 t c)
  where
    go : (z : Bool) → (is_functional_role K r && eqb r q) ≡ z → (reaches r c ≡ reaches q (put_in_order (stated n (roles_of under)))) ⊎ (reaches r c ∈ roles_of next) →
        (reaches r c ∈ roles_of next → c ≡ spelling (start_at (is_functional_role K r) r fresh next)) →
        c ≡ spelling (cond z (record { node = n; successors = under }) (start_at (is_functional_role K r) r fresh next))
    go true e (inl p) f = cc
    go true e (inr w) f =
        let i : r ≡ q = eqb→eq r q (T_and (is_functional_role K r) (eqb r q) (is_true e)).1 in
        absurd (fresh_out next (h.0 (subst (λ (z : ℕ). T (is_functional_role K z)) i t)) (subst (λ (z : ℕ). reaches z c ∈ roles_of next) i w))
    go false e (inl p) f = let i : r ≡ q = cc in absurd (not_true e (and_T (is_functional_role K r) (eqb r q) t (eqb_of r q i)))
    go false e (inr w) f = f w

-- it stands there, or there is none
pub start_there : (b : Bool) (r : ℕ) (fresh : Form) (ks : Successors) →
    (reaches r (spelling (start_at b r fresh ks)) ∈ roles_of ks) ⊎ (start_at b r fresh ks ≡ fresh)
unfolding spelling
start_there b r fresh none = inr refl
start_there b r fresh (successor q n under next) = go (b && eqb r q) (λ u. eqb→eq r q (T_and b (eqb r q) u).1) (start_there b r fresh next)
  where
    go : (z : Bool) → (T z → r ≡ q) → (reaches r (spelling (start_at b r fresh next)) ∈ roles_of next) ⊎ (start_at b r fresh next ≡ fresh) →
        (reaches r (spelling (cond z (record { node = n; successors = under }) (start_at b r fresh next))) ∈ roles_of (successor q n under next))
        ⊎ (cond z (record { node = n; successors = under }) (start_at b r fresh next) ≡ fresh)
    go true f s = inl (here (ap (λ (z : ℕ). reaches z (spelling (record { node = n; successors = under }))) (f tt)))
    go false f (inl w) = inl (there w)
    go false f (inr e) = inr e

pub start_many : (r : ℕ) (fresh : Form) (ks : Successors) → start_at false r fresh ks ≡ fresh
start_many r fresh none = refl
start_many r fresh (successor q n under next) = start_many r fresh next

-- forms with one spelling have one such individual, up to the spelling
start_same : (K : Vocabulary) (r : ℕ) (fresh : Form) (t u : Form) → Tidy K t → Tidy K u → Same (conjuncts_of t) (conjuncts_of u) →
    spelling (start_at (is_functional_role K r) r fresh t.successors) ≡ spelling (start_at (is_functional_role K r) r fresh u.successors)
start_same K r fresh t u h k s =
    go (is_functional_role K r) refl (start_there (is_functional_role K r) r fresh t.successors) (start_there (is_functional_role K r) r fresh u.successors)
  where
    S : Form
    S = start_at (is_functional_role K r) r fresh t.successors

    U : Form
    U = start_at (is_functional_role K r) r fresh u.successors

    go : (b : Bool) → is_functional_role K r ≡ b → (reaches r (spelling S) ∈ roles_of t.successors) ⊎ (S ≡ fresh) →
        (reaches r (spelling U) ∈ roles_of u.successors) ⊎ (U ≡ fresh) → spelling S ≡ spelling U
    go false e p q = ap spelling (ap (λ (b : Bool). start_at b r fresh t.successors) e ∙ start_many r fresh t.successors
        ∙ sym (start_many r fresh u.successors) ∙ ap (λ (b : Bool). start_at b r fresh u.successors) (sym e))
    go true e (inl p) q =
        start_only K r fresh u.successors k.successors (is_true e) (spelling S)
        (in_roles u r (spelling S) ((s (reaches r (spelling S))).0 (roles_in t (reaches r (spelling S)) p)))
    go true e (inr p) (inl q) =
        sym (start_only K r fresh t.successors h.successors (is_true e) (spelling U)
        (in_roles t r (spelling U) ((s (reaches r (spelling U))).1 (roles_in u (reaches r (spelling U)) q))))
    go true e (inr p) (inr q) = ap spelling (p ∙ sym q)

-- a functional name stands once in a list
abbrev pub Once : Vocabulary → List Conjunct → Type 0
Once K [] = Unit {0}
Once K (x ∷ l) = (T (is_functional K x) → All (λ y. slot y ≡ slot x → ⊥) l) × Once K l

once_append : (K : Vocabulary) (l m : List Conjunct) → Once K l → Once K m → All (λ x. T (is_functional K x) → All (λ y. slot y ≡ slot x → ⊥) m) l →
    Once K (l ++ m)
once_append K [] m h k a = k
once_append K (x ∷ l) m h k a = (λ t. all_append (h.0 t) (head a t), once_append K l m h.1 k (tail a))

once_classes : (K : Vocabulary) (cs : List ℕ) (m : List Conjunct) → Once K m → Once K (map is_in cs ++ m)
once_classes K [] m h = h
once_classes K (c ∷ cs) m h = (λ t. absurd t, once_classes K cs m h)

once_constraints : (K : Vocabulary) (l : List Constraint) → Distinct K l → Once K (map within_of l)
once_constraints K [] d = tt
once_constraints K (s ∷ l) d = (λ t. other_constraints (d.0 t), once_constraints K l d.1)

once_roles : (K : Vocabulary) (ks : Successors) → TidyBelow K ks → Once K (roles_of ks)
once_roles K none h = tt
once_roles K (successor r n under next) h = (λ t. other_roles r next (h.0 t), once_roles K next h.4)

pub once_all : (K : Vocabulary) (t : Form) → Tidy K t → Once K (conjuncts_of t)
once_all K t h =
    once_classes K t.node.classes (map within_of t.node.constraints ++ roles_of t.successors)
    (once_append K (map within_of t.node.constraints) (roles_of t.successors) (once_constraints K t.node.constraints h.node.distinct)
    (once_roles K t.successors h.successors)
    (all_of (map within_of t.node.constraints) (λ x m u. all_of (roles_of t.successors) (λ y w e.
    let a = all_at (constraints_slots t.node.constraints) m in
    let b = all_at (roles_slots t.successors) w in
    omega arith))))

-- by members
abbrev pub Lone : Vocabulary → List Conjunct → Type 0
Lone K l = (x y : Conjunct) → x ∈ l → y ∈ l → T (is_functional K x) → slot y ≡ slot x → x ≡ y

pub once_lone : (K : Vocabulary) (l : List Conjunct) → Once K l → Lone K l
once_lone K [] h x y a b t e = absurd (any_none a)
once_lone K (z ∷ l) h x y a b t e = go (any_cases a) (any_cases b) (once_lone K l h.1 x y)
  where
    go : (x ≡ z) ⊎ (x ∈ l) → (y ≡ z) ⊎ (y ∈ l) → (x ∈ l → y ∈ l → T (is_functional K x) → slot y ≡ slot x → x ≡ y) → x ≡ y
    go (inl p) (inl q) f = cc
    go (inl p) (inr q) f = absurd (all_at (h.0 (subst (λ (w : Conjunct). T (is_functional K w)) p t)) q (e ∙ ap slot p))
    go (inr p) (inl q) f = absurd (all_at (h.0 (subst T (functional_slot K x z (sym e ∙ ap slot q)) t)) p (sym e ∙ ap slot q))
    go (inr p) (inr q) f = f p q t e

-- ---- forms with one spelling keep one spelling

placed_same : (b : Bool) (s : ℕ) {n n' : Conjunct} {l l' m m' : List Conjunct} → Placed b s n l m → Placed b s n' l' m' → n ≡ n' → Same l l' → Same m m'
placed_same b s p q e h x = (
  λ w. (q x).1 (⊎_elim (λ i. inl (i ∙ e)) (λ v. inr ((h x).0 v.0, v.1)) ((p x).0 w)),
  λ w. (p x).1 (⊎_elim (λ i. inl (i ∙ sym e)) (λ v. inr ((h x).1 v.0, v.1)) ((q x).0 w)),
)

-- a constraint of a functional feature: met with the one that stands there, or alone
pub data Met (b : Bool) (s : Constraint) (l : List Constraint) : Constraint → Type 0 where
  met : (u : Constraint) → T b → within_of u ∈ map within_of l → u.feature ≡ s.feature → Met b s l (meet u s)
  alone : (T b → All (λ x. slot x ≡ s.feature + s.feature + 1 → ⊥) (map within_of l)) → Met b s l s

met_there : (b : Bool) (s t : Constraint) (l : List Constraint) (u : Constraint) → (T b → t.feature ≡ s.feature → ⊥) → Met b s l u → Met b s (t ∷ l) u
met_there b s t l _ f (met u k h e) = met u k (there h) e
met_there b s t l _ f (alone a) = alone (λ k. cons {x = within_of t} (λ e. f k (omega arith)) (a k))

pub meet_view : (b : Bool) (s : Constraint) (l : List Constraint) → Met b s l (meet_at b s l)
meet_view b s [] = alone (λ t. nil)
meet_view b s (t ∷ l) = go (b && eqb t.feature s.feature) refl (meet_view b s l)
  where
    go : (z : Bool) → (b && eqb t.feature s.feature) ≡ z → Met b s l (meet_at b s l) → Met b s (t ∷ l) (cond z (meet t s) (meet_at b s l))
    go true e v =
        let w = T_and b (eqb t.feature s.feature) (is_true e) in
        met t w.0 (here refl) (eqb→eq t.feature s.feature w.1)
    go false e v = met_there b s t l (meet_at b s l) (λ k p. not_true e (and_T b (eqb t.feature s.feature) k (eqb_of t.feature s.feature p))) v

meet_cong : (a b s : Constraint) → within_of a ≡ within_of b → within_of (meet a s) ≡ within_of (meet b s)
meet_cong a b s e =
    let f : a.feature ≡ b.feature = cc in
    let l : a.lo ≡ b.lo = cc in
    let h : a.hi ≡ b.hi = cc in
    cc

meet_same : (K : Vocabulary) (s : Constraint) (t u : Form) → Tidy K t → Tidy K u → Same (conjuncts_of t) (conjuncts_of u) →
    let b = is_functional_feature K s.feature in
    within_of (meet_at b s t.node.constraints) ≡ within_of (meet_at b s u.node.constraints)
meet_same K s t u h k same = go _ _ (meet_view b s t.node.constraints) (meet_view b s u.node.constraints)
  where
    b : Bool
    b = is_functional_feature K s.feature

    go : (i j : Constraint) → Met b s t.node.constraints i → Met b s u.node.constraints j → within_of i ≡ within_of j
    go _ _ (met i t₁ m e) (met j t₂ n f) =
        meet_cong i j s (once_lone K (conjuncts_of u) (once_all K u k) (within_of i) (within_of j)
        ((same (within_of i)).0 (constraints_in t (within_of i) m)) (constraints_in u (within_of j) n)
        (subst (λ (z : ℕ). T (is_functional_feature K z)) (sym e) t₁) (omega arith))
    go _ _ (met i t₁ m e) (alone a) =
        absurd (all_at (a t₁) (in_constraints u i.feature i.lo i.hi ((same (within_of i)).0 (constraints_in t (within_of i) m))) (omega arith))
    go _ _ (alone a) (met j t₂ n f) =
        absurd (all_at (a t₂) (in_constraints t j.feature j.lo j.hi ((same (within_of j)).1 (constraints_in u (within_of j) n))) (omega arith))
    go _ _ (alone a) (alone c) = refl

module _ (K : Vocabulary) (t u : Form) (h : Tidy K t) (k : Tidy K u) (e : spelling t ≡ spelling u) where
  pub class_same : (a : ℕ) → spelling (with_class a t) ≡ spelling (with_class a u)
  class_same a =
      spelling_same (add_one K (is_in a) t) (add_one K (is_in a) u)
      (placed_same false 0 (placed K (is_in a) t h) (placed K (is_in a) u k) refl (spelling_inv t u e))

  pub constraint_same : (f lo hi : ℕ) → spelling (add_one K (within f lo hi) t) ≡ spelling (add_one K (within f lo hi) u)
  constraint_same f lo hi =
      spelling_same (add_one K (within f lo hi) t) (add_one K (within f lo hi) u)
      (placed_same (is_functional_feature K f) (f + f + 1) (placed K (within f lo hi) t h) (placed K (within f lo hi) u k)
      (meet_same K (record { feature = f; lo = lo; hi = hi }) t u h k (spelling_inv t u e)) (spelling_inv t u e))

  -- with inner conjuncts that are added to one effect
  pub role_same : (r : ℕ) (c d : Chain) → ((v w : Form) → Tidy K v → Tidy K w → spelling v ≡ spelling w → spelling (add K c v) ≡ spelling (add K d w)) →
      spelling (add_one K (reaches r c) t) ≡ spelling (add_one K (reaches r d) u)
  role_same r c d grow =
      spelling_same (add_one K (reaches r c) t) (add_one K (reaches r d) u)
      (placed_same (is_functional_role K r) (r + r + 2) (placed K (reaches r c) t h) (placed K (reaches r d) u k)
      (ap (λ (z : Chain). reaches r z)
      (grow (start_at (is_functional_role K r) r (bare (ranges K r)) t.successors) (start_at (is_functional_role K r) r (bare (ranges K r)) u.successors)
      (tidy_start K (is_functional_role K r) r (ranges K r) t.successors h.successors)
      (tidy_start K (is_functional_role K r) r (ranges K r) u.successors k.successors)
      (start_same K r (bare (ranges K r)) t u h k (spelling_inv t u e)))) (spelling_inv t u e))

pub add_same : (K : Vocabulary) (c : Chain) (t u : Form) → Tidy K t → Tidy K u → spelling t ≡ spelling u → spelling (add K c t) ≡ spelling (add K c u)
add_same K end t u h k e = e
add_same K (class a next) t u h k e =
    add_same K next (with_class a t) (with_class a u) (tidy_add_one K (is_in a) t h) (tidy_add_one K (is_in a) u k) (class_same K t u h k e a)
add_same K (impossible next) t u h k e = add_same K next t u h k e
add_same K (some r child next) t u h k e =
    add_same K next (add_one K (reaches r child) t) (add_one K (reaches r child) u) (tidy_add_one K (reaches r child) t h) (tidy_add_one K (reaches r child) u k)
    (role_same K t u h k e r child child (add_same K child))
add_same K (interval f lo hi next) t u h k e =
    add_same K next (add_one K (within f lo hi) t) (add_one K (within f lo hi) u) (tidy_add_one K (within f lo hi) t h)
    (tidy_add_one K (within f lo hi) u k) (constraint_same K t u h k e f lo hi)
