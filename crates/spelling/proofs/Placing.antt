-- What adding one conjunct does to a normal form's conjuncts: it takes its place, and one of the same functional name goes.
use Prim.Native.Nat.{◌+◌, ℕ}
use mathlib.Core.Bool.{Bool, ◌&&◌, cond, false, true}
use mathlib.Core.List.{List, [], ◌++◌, ◌∷◌, map}
use mathlib.Core.Logic.{◌↔◌, ◌⊎◌, inl, inr, ⊎_elim}
use mathlib.Core.Path.{◌∙◌, ◌≡◌, ap, refl, subst, sym}
use lib.Dec.{T, eqb, eqb→eq}
use native.Mathlib.Omega.{arith}
use Rattle.meaning.specs.Intervals.{Constraint, meet}
use Rattle.meaning.specs.Lists.{All, ◌∈◌, cons, here, nil, there}
use Rattle.meaning.specs.Normal.{Distinct, Fresh, Normal, NormalSuccessors}
use Rattle.meaning.specs.NormalForm.{Form, Successors, add, bare, graft, none, place_constraint, place_successor, successor, with_class}
use Rattle.meaning.specs.NormalForm.{with_constraint, with_successor}
use Rattle.meaning.specs.Policy.{Chain, end}
use Rattle.meaning.specs.Stated.{is_functional_feature, is_functional_role, ranges}
use Rattle.meaning.specs.Vocabulary.{Vocabulary}
use Rattle.spelling.specs.Spelling.{Conjunct, conjuncts_of, is_in, put, put_in_order, reaches, roles_of, spelling, stated, within}
use Rattle.spelling.specs.Spelling.{within_of}
use Rattle.theory.proofs.Normal.{add_normal, unbounded}
use Rattle.theory.proofs.Rules.{T_and, all_at, all_of, and_T, any_append, any_cases, any_left, any_none, any_right, eqb_of, not_true}

-- ---- steps

-- one conjunct, added to a form
abbrev pub add_one : Vocabulary → Conjunct → Form → Form
add_one K (is_in a) t = with_class a t
add_one K (within f lo hi) t = with_constraint K (record { feature = f; lo = lo; hi = hi }) t
add_one K (reaches r child) t = with_successor K r (add K child) t

pub add_put : (K : Vocabulary) (x : Conjunct) (c : Chain) (t : Form) → add K (put x c) t ≡ add K c (add_one K x t)
add_put K (is_in a) c t = refl
add_put K (within f lo hi) c t = refl
add_put K (reaches r child) c t = refl

-- a number for what a conjunct is of: a class, a feature, a role
abbrev pub slot : Conjunct → ℕ
slot (is_in a) = 0
slot (within f lo hi) = f + f + 1
slot (reaches r child) = r + r + 2

-- it is of a functional name
abbrev pub is_functional : Vocabulary → Conjunct → Bool
is_functional K (is_in a) = false
is_functional K (within f lo hi) = is_functional_feature K f
is_functional K (reaches r child) = is_functional_role K r

pub functional_slot : (K : Vocabulary) (x y : Conjunct) → slot x ≡ slot y → is_functional K x ≡ is_functional K y
functional_slot K (is_in a) (is_in b) e = refl
functional_slot K (is_in a) (within g lo hi) e = absurd (omega arith)
functional_slot K (is_in a) (reaches q d) e = absurd (omega arith)
functional_slot K (within f lo hi) (is_in b) e = absurd (omega arith)
functional_slot K (within f lo hi) (within g lo' hi') e = let h : f ≡ g = omega arith in ap (is_functional_feature K) h
functional_slot K (within f lo hi) (reaches q d) e = absurd (omega arith)
functional_slot K (reaches r c) (is_in b) e = absurd (omega arith)
functional_slot K (reaches r c) (within g lo hi) e = absurd (omega arith)
functional_slot K (reaches r c) (reaches q d) e = let h : r ≡ q = omega arith in ap (is_functional_role K) h

-- ---- a conjunct that takes its place

abbrev pub Free : Bool → ℕ → Conjunct → Type 0
Free b s x = T b → slot x ≡ s → ⊥

-- at the first one's place, or behind
data Puts (b : Bool) (s : ℕ) (new : Conjunct) : List Conjunct → List Conjunct → Type 0 where
  at_end : Puts b s new [] (new ∷ [])
  at_this : {y : Conjunct} {l : List Conjunct} → T b → slot y ≡ s → All (λ x. slot x ≡ s → ⊥) l → Puts b s new (y ∷ l) (new ∷ l)
  further : {y : Conjunct} {l m : List Conjunct} → Free b s y → Puts b s new l m → Puts b s new (y ∷ l) (y ∷ m)

-- by members
abbrev pub Placed : Bool → ℕ → Conjunct → List Conjunct → List Conjunct → Type 0
Placed b s new l m = (x : Conjunct) → (x ∈ m) ↔ ((x ≡ new) ⊎ ((x ∈ l) × Free b s x))

puts_placed : {b : Bool} {s : ℕ} {new : Conjunct} {l m : List Conjunct} → Puts b s new l m → Placed b s new l m
puts_placed at_end x = (λ h. ⊎_elim (λ e. inl e) (λ w. absurd (any_none w)) (any_cases h), λ h. ⊎_elim (λ e. here e) (λ w. absurd (any_none w.0)) h)
puts_placed {b} {s} {new} (at_this {y = y} {l = l} t e a) x = (
  λ h. ⊎_elim (λ p. inl p) (λ w. inr (there w, λ u p. all_at a w p)) (any_cases h),
  λ h. ⊎_elim (λ p. here p) (λ w. there (⊎_elim (λ p. absurd (w.1 t (ap slot p ∙ e))) (λ v. v) (any_cases w.0))) h,
)
puts_placed {b} {s} {new} (further {y = y} {l = l} {m = m} f p) x =
    let r = puts_placed p x in (
      λ h. ⊎_elim (λ q. inr (here q, λ u v. f u (ap slot (sym q) ∙ v))) (λ w. ⊎_elim (λ q. inl q) (λ v. inr (there v.0, v.1)) (r.0 w)) (any_cases h),
      λ h. ⊎_elim (λ q. there (r.1 (inl q))) (λ w. ⊎_elim (λ q. here q) (λ v. there (r.1 (inr (v, w.1)))) (any_cases w.0)) h,
    )

module _ (b : Bool) (s : ℕ) (new : Conjunct) where
  placed_behind : {l m : List Conjunct} (front : List Conjunct) → All (Free b s) front → Placed b s new l m → Placed b s new (front ++ l) (front ++ m)
  placed_behind {l} {m} front a p x = (
    λ h. ⊎_elim (λ w. inr (any_left l w, all_at a w)) (λ w. ⊎_elim (λ e. inl e) (λ v. inr (any_right front v.0, v.1)) ((p x).0 w)) (any_append front _ h),
    λ h. ⊎_elim (λ e. any_right front ((p x).1 (inl e)))
        (λ w. ⊎_elim (λ v. any_left m v) (λ v. any_right front ((p x).1 (inr (v, w.1)))) (any_append front _ w.0)) h,
  )

  placed_before : {l m : List Conjunct} (back : List Conjunct) → All (Free b s) back → Placed b s new l m → Placed b s new (l ++ back) (m ++ back)
  placed_before {l} {m} back a p x = (
    λ h. ⊎_elim (λ w. ⊎_elim (λ e. inl e) (λ v. inr (any_left back v.0, v.1)) ((p x).0 w)) (λ w. inr (any_right l w, all_at a w)) (any_append m _ h),
    λ h. ⊎_elim (λ e. any_left back ((p x).1 (inl e)))
        (λ w. ⊎_elim (λ v. any_left back ((p x).1 (inr (v, w.1)))) (λ v. any_right m v) (any_append l _ w.0)) h,
  )

-- ---- the parts of a form

pub classes_slots : (cs : List ℕ) → All (λ x. slot x ≡ 0) (map is_in cs)
classes_slots [] = nil
classes_slots (c ∷ cs) = cons {x = is_in c} refl (classes_slots cs)

pub constraints_slots : (l : List Constraint) → All (λ x. (f : ℕ) × (slot x ≡ f + f + 1)) (map within_of l)
constraints_slots [] = nil
constraints_slots (s ∷ l) = cons {x = within_of s} (s.feature, refl) (constraints_slots l)

pub roles_slots : (ks : Successors) → All (λ x. (r : ℕ) × (slot x ≡ r + r + 2)) (roles_of ks)
roles_slots none = nil
roles_slots (successor r n under next) = cons (r, refl) (roles_slots next)

-- ---- rule 5

-- the constraint that s becomes
abbrev pub meet_at : Bool → Constraint → List Constraint → Constraint
meet_at b s [] = s
meet_at b s (t ∷ l) = cond (b && eqb t.feature s.feature) (meet t s) (meet_at b s l)

pub other_constraints : {f : ℕ} {l : List Constraint} → All (λ x. f ≡ x.feature → ⊥) l → All (λ x. slot x ≡ f + f + 1 → ⊥) (map within_of l)
other_constraints nil = nil
other_constraints {f} (cons {x = s} h t) = cons {x = within_of s} (λ e. h (omega arith)) (other_constraints t)

puts_constraint : (K : Vocabulary) (s : Constraint) (l : List Constraint) → Distinct K l →
    let b = is_functional_feature K s.feature in
    Puts b (s.feature + s.feature + 1) (within_of (meet_at b s l)) (map within_of l) (map within_of (place_constraint b s l))
puts_constraint K s [] d = at_end
puts_constraint K s (t ∷ l) d = go (b && eqb t.feature s.feature) refl (puts_constraint K s l d.1)
  where
    b : Bool
    b = is_functional_feature K s.feature

    go : (z : Bool) → (b && eqb t.feature s.feature) ≡ z →
        Puts b (s.feature + s.feature + 1) (within_of (meet_at b s l)) (map within_of l) (map within_of (place_constraint b s l)) →
        Puts b (s.feature + s.feature + 1) (within_of (cond z (meet t s) (meet_at b s l))) (within_of t ∷ map within_of l)
        (map within_of (cond z (meet t s ∷ l) (t ∷ place_constraint b s l)))
    go true e p =
        let w = T_and b (eqb t.feature s.feature) (subst T (sym e) tt) in
        let q : t.feature ≡ s.feature = eqb→eq t.feature s.feature w.1 in
        at_this {y = within_of t} w.0 (omega arith)
        (subst (λ (f : ℕ). All (λ x. slot x ≡ f + f + 1 → ⊥) (map within_of l)) q
        (other_constraints (d.0 (subst (λ (f : ℕ). T (is_functional_feature K f)) (sym q) w.0))))
    go false e p = further {y = within_of t} (λ u v. not_true e (and_T b (eqb t.feature s.feature) u (eqb_of t.feature s.feature (omega arith)))) p

-- ---- rules 4 and 6

-- the individual that conjuncts by r are added to
abbrev pub start_at : Bool → ℕ → Form → Successors → Form
start_at b r fresh none = fresh
start_at b r fresh (successor q n under next) = cond (b && eqb r q) (record { node = n; successors = under }) (start_at b r fresh next)

pub other_roles : (r : ℕ) (ks : Successors) → Fresh r ks → All (λ x. slot x ≡ r + r + 2 → ⊥) (roles_of ks)
other_roles r none h = nil
other_roles r (successor q n under next) h = cons {x = reaches q (put_in_order (stated n (roles_of under)))} (λ e. h.0 (omega arith)) (other_roles r next h.1)

-- normal, with no bound on the classes
abbrev pub Tidy : Vocabulary → Form → Type 0
Tidy K t = Normal (λ c. Unit {0}) K t

abbrev pub TidyBelow : Vocabulary → Successors → Type 0
TidyBelow K ks = NormalSuccessors (λ c. Unit {0}) K ks

puts_successor : (K : Vocabulary) (r : ℕ) (fresh : Form) (grow : Form → Form) (ks : Successors) → TidyBelow K ks →
    let b = is_functional_role K r in
    Puts b (r + r + 2) (reaches r (spelling (grow (start_at b r fresh ks)))) (roles_of ks) (roles_of (place_successor b r fresh grow ks))
unfolding spelling
puts_successor K r fresh grow none h = at_end
puts_successor K r fresh grow (successor q n under next) h = go (b && eqb r q) refl (puts_successor K r fresh grow next h.4)
  where
    b : Bool
    b = is_functional_role K r

    go : (z : Bool) → (b && eqb r q) ≡ z →
        Puts b (r + r + 2) (reaches r (spelling (grow (start_at b r fresh next)))) (roles_of next) (roles_of (place_successor b r fresh grow next)) →
        Puts b (r + r + 2) (reaches r (spelling (grow (cond z (record { node = n; successors = under }) (start_at b r fresh next)))))
        (reaches q (spelling (record { node = n; successors = under })) ∷ roles_of next)
        (roles_of (cond z (graft q (grow (record { node = n; successors = under })) next) (successor q n under (place_successor b r fresh grow next))))
    go true e p =
        let w = T_and b (eqb r q) (subst T (sym e) tt) in
        let i : r ≡ q = eqb→eq r q w.1 in
        subst (λ (z : ℕ). Puts b (r + r + 2) (reaches r (spelling (grow (record { node = n; successors = under }))))
        (reaches q (spelling (record { node = n; successors = under })) ∷ roles_of next)
        (reaches z (spelling (grow (record { node = n; successors = under }))) ∷ roles_of next)) i
        (at_this {y = reaches q (put_in_order (stated n (roles_of under)))} w.0 (omega arith)
        (subst (λ (z : ℕ). All (λ x. slot x ≡ z + z + 2 → ⊥) (roles_of next)) (sym i)
        (other_roles q next (h.0 (subst (λ (z : ℕ). T (is_functional_role K z)) i w.0)))))
    go false e p = further {y = reaches q (put_in_order (stated n (roles_of under)))} (λ u v. not_true e (and_T b (eqb r q) u (eqb_of r q (omega arith)))) p

-- ---- one step

-- the conjunct that x becomes
abbrev pub new_of : Vocabulary → Conjunct → Form → Conjunct
new_of K (is_in a) t = is_in a
new_of K (within f lo hi) t = within_of (meet_at (is_functional_feature K f) (record { feature = f; lo = lo; hi = hi }) t.node.constraints)
new_of K (reaches r child) t = reaches r (spelling (add K child (start_at (is_functional_role K r) r (bare (ranges K r)) t.successors)))

meet_feature : (b : Bool) (s : Constraint) (l : List Constraint) → (meet_at b s l).feature ≡ s.feature
meet_feature b s [] = refl
meet_feature b s (t ∷ l) = go (b && eqb t.feature s.feature) (λ u. eqb→eq _ _ (T_and b (eqb t.feature s.feature) u).1) (meet_feature b s l)
  where
    go : (z : Bool) → (T z → t.feature ≡ s.feature) → (meet_at b s l).feature ≡ s.feature → (cond z (meet t s) (meet_at b s l)).feature ≡ s.feature
    go true f h = f tt
    go false f h = h

pub new_slot : (K : Vocabulary) (x : Conjunct) (t : Form) → slot (new_of K x t) ≡ slot x
new_slot K (is_in a) t = refl
new_slot K (within f lo hi) t = let e = meet_feature (is_functional_feature K f) (record { feature = f; lo = lo; hi = hi }) t.node.constraints in omega arith
new_slot K (reaches r child) t = refl

pub placed : (K : Vocabulary) (x : Conjunct) (t : Form) → Tidy K t →
    Placed (is_functional K x) (slot x) (new_of K x t) (conjuncts_of t) (conjuncts_of (add_one K x t))
placed K (is_in a) t h = λ x. (
  λ m. ⊎_elim (λ e. inl e) (λ w. inr (w, λ u. absurd u)) (any_cases m),
  λ m. ⊎_elim (λ e. here e) (λ w. there w.0) m,
)
placed K (within f lo hi) t h =
    placed_behind (is_functional_feature K f) _ _ (map is_in t.node.classes)
    (all_of (map is_in t.node.classes) (λ x m u v. let e = all_at (classes_slots t.node.classes) m in omega arith))
    (placed_before (is_functional_feature K f) _ _ (roles_of t.successors)
    (all_of (roles_of t.successors) (λ x m u v. let e = all_at (roles_slots t.successors) m in omega arith))
    (puts_placed (puts_constraint K (record { feature = f; lo = lo; hi = hi }) t.node.constraints h.node.distinct)))
placed K (reaches r child) t h =
    placed_behind (is_functional_role K r) _ _ (map is_in t.node.classes)
    (all_of (map is_in t.node.classes) (λ x m u v. let e = all_at (classes_slots t.node.classes) m in omega arith))
    (placed_behind (is_functional_role K r) _ _ (map within_of t.node.constraints)
    (all_of (map within_of t.node.constraints) (λ x m u v. let e = all_at (constraints_slots t.node.constraints) m in omega arith))
    (puts_placed (puts_successor K r (bare (ranges K r)) (add K child) t.successors h.successors)))

-- ---- forms stay tidy

pub tidy_add : (K : Vocabulary) (c : Chain) (t : Form) → Tidy K t → Tidy K (add K c t)
tidy_add K c t h = add_normal (λ z. Unit {0}) K (λ r z m. tt) c (unbounded c) t h

pub tidy_add_one : (K : Vocabulary) (x : Conjunct) (t : Form) → Tidy K t → Tidy K (add_one K x t)
tidy_add_one K (is_in a) t h = tidy_add K (put (is_in a) end) t h
tidy_add_one K (within f lo hi) t h = tidy_add K (put (within f lo hi) end) t h
tidy_add_one K (reaches r child) t h = tidy_add K (put (reaches r child) end) t h

pub tidy_bare : (K : Vocabulary) (cs : List ℕ) → Tidy K (bare cs)
tidy_bare K cs = record { node = record { bounded = all_of cs (λ c m. tt); distinct = tt }; successors = tt }

pub tidy_start : (K : Vocabulary) (b : Bool) (r : ℕ) (cs : List ℕ) (ks : Successors) → TidyBelow K ks → Tidy K (start_at b r (bare cs) ks)
tidy_start K b r cs none h = tidy_bare K cs
tidy_start K b r cs (successor q n under next) h = go (b && eqb r q) (tidy_start K b r cs next h.4)
  where
    go : (z : Bool) → Tidy K (start_at b r (bare cs) next) → Tidy K (cond z (record { node = n; successors = under }) (start_at b r (bare cs) next))
    go true g = record { node = h.2; successors = h.3 }
    go false g = g
