-- Two conjuncts added in either order, and two chains: one spelling.
use Prim.Native.Nat.{ℕ}
use mathlib.Core.Bool.{Bool, ◌&&◌, cond, false, true}
use mathlib.Core.List.{List, [], ◌∷◌}
use mathlib.Core.Logic.{inl, inr, ⊎_elim}
use mathlib.Core.Path.{◌∙◌, ◌≡◌, ap, refl, subst, sym}
use lib.Dec.{T, eqb, eqb→eq}
use native.Mathlib.Omega.{arith}
use Rattle.meaning.specs.Intervals.{Constraint, meet}
use Rattle.meaning.specs.Lists.{◌∈◌}
use Rattle.meaning.specs.NormalForm.{Form, Successors, add, bare, graft, none, place_constraint, place_successor, successor}
use Rattle.meaning.specs.Policy.{Chain, class, end, impossible, interval, some}
use Rattle.meaning.specs.Stated.{is_functional_feature, is_functional_role, ranges}
use Rattle.meaning.specs.Vocabulary.{Vocabulary}
use Rattle.spelling.proofs.Members.{add_same, spelling_same}
use Rattle.spelling.proofs.Placing.{Placed, Tidy, add_one, functional_slot, is_functional, meet_at, new_slot, new_of, placed, slot}
use Rattle.spelling.proofs.Placing.{start_at, tidy_add, tidy_add_one, tidy_start}
use Rattle.spelling.specs.Spelling.{Conjunct, conjuncts_of, is_in, reaches, spelling, within, within_of}
use Rattle.theory.proofs.Rules.{T_and, and_T, eqb_of, is_false, is_true, not_true}

-- ---- conjuncts of different names

-- where a test fails, and where it holds
off : (b : Bool) (m n : ℕ) → (T b → m ≡ n → ⊥) → (b && eqb m n) ≡ false
off b m n f = is_false (b && eqb m n) (λ t. let w = T_and b (eqb m n) t in f w.0 (eqb→eq m n w.1))

on : (b : Bool) (m n : ℕ) → T b → m ≡ n → (b && eqb m n) ≡ true
on true m n t e = yes_true (eqb m n) (eqb_of m n e)
  where
    yes_true : (z : Bool) → T z → z ≡ true
    yes_true true u = refl
    yes_true false u = absurd u
on false m n t e = absurd t

meet_apart : (b c : Bool) (s u : Constraint) → (T b → u.feature ≡ s.feature → ⊥) → (l : List Constraint) → meet_at b s (place_constraint c u l) ≡ meet_at b s l
meet_apart b c s u f [] = rw (off b u.feature s.feature f)
meet_apart b c s u f (t ∷ l) = go (c && eqb t.feature u.feature) refl (meet_apart b c s u f l)
  where
    go : (z : Bool) → (c && eqb t.feature u.feature) ≡ z → meet_at b s (place_constraint c u l) ≡ meet_at b s l →
        meet_at b s (cond z (meet t u ∷ l) (t ∷ place_constraint c u l)) ≡ cond (b && eqb t.feature s.feature) (meet t s) (meet_at b s l)
    go true e h =
        let q : t.feature ≡ u.feature = eqb→eq t.feature u.feature (T_and c (eqb t.feature u.feature) (is_true e)).1 in
        rw (off b t.feature s.feature (λ k p. f k (sym q ∙ p)))
    go false e h = ap (λ (x : Constraint). cond (b && eqb t.feature s.feature) (meet t s) x) h

start_apart : (b c : Bool) (r q : ℕ) (fresh new : Form) (grow : Form → Form) → (T b → r ≡ q → ⊥) → (ks : Successors) →
    start_at b r fresh (place_successor c q new grow ks) ≡ start_at b r fresh ks
start_apart b c r q fresh new grow f none = rw (off b r q f)
start_apart b c r q fresh new grow f (successor p n under next) = go (c && eqb q p) refl (start_apart b c r q fresh new grow f next)
  where
    go : (z : Bool) → (c && eqb q p) ≡ z → start_at b r fresh (place_successor c q new grow next) ≡ start_at b r fresh next →
        start_at b r fresh (cond z (graft p (grow (record { node = n; successors = under })) next) (successor p n under (place_successor c q new grow next)))
        ≡ cond (b && eqb r p) (record { node = n; successors = under }) (start_at b r fresh next)
    go true e h =
        let i : q ≡ p = eqb→eq q p (T_and c (eqb q p) (is_true e)).1 in
        rw (off b r p (λ k j. f k (j ∙ sym i)))
    go false e h = ap (λ (x : Form). cond (b && eqb r p) (record { node = n; successors = under }) x) h

pub new_apart : (K : Vocabulary) (x y : Conjunct) (t : Form) → (T (is_functional K x) → slot y ≡ slot x → ⊥) → new_of K x (add_one K y t) ≡ new_of K x t
new_apart K (is_in a) y t f = refl
new_apart K (within f lo hi) (is_in b) t n = refl
new_apart K (within f lo hi) (within g lo' hi') t n =
    ap within_of (meet_apart (is_functional_feature K f) (is_functional_feature K g) (record { feature = f; lo = lo; hi = hi })
    (record { feature = g; lo = lo'; hi = hi' }) (λ k p. n k (omega arith)) t.node.constraints)
new_apart K (within f lo hi) (reaches q d) t n = refl
new_apart K (reaches r c) (is_in b) t n = refl
new_apart K (reaches r c) (within g lo hi) t n = refl
new_apart K (reaches r c) (reaches q d) t n =
    ap (λ (x : Form). reaches r (spelling (add K c x)))
    (start_apart (is_functional_role K r) (is_functional_role K q) r q (bare (ranges K r)) (bare (ranges K q)) (add K d) (λ k p. n k (omega arith)) t.successors)

-- ---- conjuncts of one functional name

pub meet_joined : (b : Bool) (s u : Constraint) → T b → u.feature ≡ s.feature → (l : List Constraint) →
    meet_at b s (place_constraint b u l) ≡ meet (meet_at b u l) s
meet_joined b s u k e [] = rw (on b u.feature s.feature k e)
meet_joined b s u k e (t ∷ l) = go (b && eqb t.feature u.feature) refl (meet_joined b s u k e l)
  where
    go : (z : Bool) → (b && eqb t.feature u.feature) ≡ z → meet_at b s (place_constraint b u l) ≡ meet (meet_at b u l) s →
        meet_at b s (cond z (meet t u ∷ l) (t ∷ place_constraint b u l)) ≡ meet (cond z (meet t u) (meet_at b u l)) s
    go true p h =
        let q : t.feature ≡ u.feature = eqb→eq t.feature u.feature (T_and b (eqb t.feature u.feature) (is_true p)).1 in
        rw (on b t.feature s.feature k (q ∙ e))
    go false p h =
        rw (off b t.feature s.feature (λ j i. not_true p (and_T b (eqb t.feature u.feature) j (eqb_of t.feature u.feature (i ∙ sym e))))) h

pub same_within : {f g a b c d : ℕ} → f ≡ g → a ≡ b → c ≡ d → within f a c ≡ within g b d
same_within p q r = cc

meet_swap : (b : Bool) (s u : Constraint) → u.feature ≡ s.feature → (l : List Constraint) →
    within_of (meet (meet_at b u l) s) ≡ within_of (meet (meet_at b s l) u)
meet_swap b s u e [] = same_within e (omega arith) (omega arith)
meet_swap b s u e (t ∷ l) =
    subst (λ (f : ℕ). within_of (meet (cond (b && eqb t.feature u.feature) (meet t u) (meet_at b u l)) s)
    ≡ within_of (meet (cond (b && eqb t.feature f) (meet t s) (meet_at b s l)) u)) e
    (go (b && eqb t.feature u.feature) (meet_swap b s u e l))
  where
    go : (z : Bool) → within_of (meet (meet_at b u l) s) ≡ within_of (meet (meet_at b s l) u) →
        within_of (meet (cond z (meet t u) (meet_at b u l)) s) ≡ within_of (meet (cond z (meet t s) (meet_at b s l)) u)
    go true h = same_within refl (omega arith) (omega arith)
    go false h = h

pub start_joined : (b : Bool) (r : ℕ) (fresh : Form) (grow : Form → Form) → T b → (ks : Successors) →
    start_at b r fresh (place_successor b r fresh grow ks) ≡ grow (start_at b r fresh ks)
start_joined b r fresh grow k none = rw (on b r r k refl)
start_joined b r fresh grow k (successor p n under next) = go (b && eqb r p) refl (start_joined b r fresh grow k next)
  where
    go : (z : Bool) → (b && eqb r p) ≡ z → start_at b r fresh (place_successor b r fresh grow next) ≡ grow (start_at b r fresh next) →
        start_at b r fresh (cond z (graft p (grow (record { node = n; successors = under })) next) (successor p n under (place_successor b r fresh grow next)))
        ≡ grow (cond z (record { node = n; successors = under }) (start_at b r fresh next))
    go true e h = rw e
    go false e h = rw e h

-- what is reached may be added in either order
abbrev pub Yield : Vocabulary → Conjunct → Conjunct → Type 0
Yield K (is_in a) y = Unit {0}
Yield K (within f lo hi) y = Unit {0}
Yield K (reaches r c) (is_in b) = Unit {0}
Yield K (reaches r c) (within g lo hi) = Unit {0}
Yield K (reaches r c) (reaches q d) = (v : Form) → Tidy K v → spelling (add K c (add K d v)) ≡ spelling (add K d (add K c v))

role_joined : (K : Vocabulary) (r : ℕ) (c d : Chain) (t : Form) → Tidy K t → T (is_functional_role K r) → Yield K (reaches r c) (reaches r d) →
    new_of K (reaches r c) (add_one K (reaches r d) t) ≡ new_of K (reaches r d) (add_one K (reaches r c) t)
role_joined K r c d t h k yield =
    let fresh = bare (ranges K r) in
    let S = start_at (is_functional_role K r) r fresh t.successors in
    ap (λ (x : Form). reaches r (spelling (add K c x))) (start_joined (is_functional_role K r) r fresh (add K d) k t.successors)
    ∙ ap (λ (x : Chain). reaches r x) (yield S (tidy_start K (is_functional_role K r) r (ranges K r) t.successors h.successors))
    ∙ ap (λ (x : Form). reaches r (spelling (add K d x))) (sym (start_joined (is_functional_role K r) r fresh (add K c) k t.successors))

constraint_joined : (K : Vocabulary) (f lo hi lo' hi' : ℕ) (t : Form) → T (is_functional_feature K f) →
    new_of K (within f lo hi) (add_one K (within f lo' hi') t) ≡ new_of K (within f lo' hi') (add_one K (within f lo hi) t)
constraint_joined K f lo hi lo' hi' t k =
    let s : Constraint = record { feature = f; lo = lo; hi = hi } in
    let u : Constraint = record { feature = f; lo = lo'; hi = hi' } in
    ap within_of (meet_joined (is_functional_feature K f) s u k refl t.node.constraints)
    ∙ meet_swap (is_functional_feature K f) s u refl t.node.constraints
    ∙ ap within_of (sym (meet_joined (is_functional_feature K f) u s k refl t.node.constraints))

pub new_joined : (K : Vocabulary) (x y : Conjunct) (t : Form) → Tidy K t → T (is_functional K x) → slot x ≡ slot y → Yield K x y →
    new_of K x (add_one K y t) ≡ new_of K y (add_one K x t)
new_joined K (is_in a) y t h k e w = absurd k
new_joined K (within f lo hi) (is_in b) t h k e w = absurd (omega arith)
new_joined K (within f lo hi) (within g lo' hi') t h k e w =
    let i : f ≡ g = omega arith in
    subst (λ (z : ℕ). new_of K (within f lo hi) (add_one K (within z lo' hi') t) ≡ new_of K (within z lo' hi') (add_one K (within f lo hi) t)) i
    (constraint_joined K f lo hi lo' hi' t k)
new_joined K (within f lo hi) (reaches q d) t h k e w = absurd (omega arith)
new_joined K (reaches r c) (is_in b) t h k e w = absurd (omega arith)
new_joined K (reaches r c) (within g lo hi) t h k e w = absurd (omega arith)
new_joined K (reaches r c) (reaches q d) t h k e w =
    let i : r ≡ q = omega arith in
    subst (λ (z : ℕ). new_of K (reaches r c) (add_one K (reaches z d) t) ≡ new_of K (reaches z d) (add_one K (reaches r c) t)) i (role_joined K r c d t h k w)

-- ---- two steps

-- l₁ is l with y, l₁₂ with x behind that; l₂ with x, l₂₁ with y behind that
module _ (b c : Bool) (s r : ℕ) (n₁ n₂ n₃ n₄ : Conjunct) {l l₁ l₂ l₁₂ l₂₁ : List Conjunct} (p₁ : Placed b s n₁ l l₁) (p₂ : Placed c r n₂ l₁ l₁₂)
    (p₃ : Placed c r n₃ l l₂) (p₄ : Placed b s n₄ l₂ l₂₁) where
  apart_half : n₂ ≡ n₃ → n₁ ≡ n₄ → slot n₃ ≡ r → (T b → r ≡ s → ⊥) → (z : Conjunct) → z ∈ l₁₂ → z ∈ l₂₁
  apart_half e f i n z h =
      ⊎_elim (λ j. (p₄ z).1 (inr ((p₃ z).1 (inl (j ∙ e)), λ k q. n k (sym i ∙ ap slot (sym (j ∙ e)) ∙ q))))
      (λ w. ⊎_elim (λ j. (p₄ z).1 (inl (j ∙ f))) (λ v. (p₄ z).1 (inr ((p₃ z).1 (inr (v.0, w.1)), v.1))) ((p₁ z).0 w.0)) ((p₂ z).0 h)

  joined_half : T c → s ≡ r → slot n₁ ≡ s → n₂ ≡ n₄ → (z : Conjunct) → z ∈ l₁₂ → z ∈ l₂₁
  joined_half k e i f z h =
      ⊎_elim (λ j. (p₄ z).1 (inl (j ∙ f)))
      (λ w. ⊎_elim (λ j. absurd (w.1 k (ap slot j ∙ i ∙ e))) (λ v. (p₄ z).1 (inr ((p₃ z).1 (inr (v.0, w.1)), v.1))) ((p₁ z).0 w.0)) ((p₂ z).0 h)

pub add_one_swap : (K : Vocabulary) (x y : Conjunct) (t : Form) → Tidy K t → Yield K x y →
    spelling (add_one K x (add_one K y t)) ≡ spelling (add_one K y (add_one K x t))
add_one_swap K x y t h yield = go (is_functional K x && eqb (slot x) (slot y)) refl
  where
    X : Form
    X = add_one K x t

    Y : Form
    Y = add_one K y t

    pX : Placed (is_functional K x) (slot x) (new_of K x t) (conjuncts_of t) (conjuncts_of X)
    pX = placed K x t h

    pY : Placed (is_functional K y) (slot y) (new_of K y t) (conjuncts_of t) (conjuncts_of Y)
    pY = placed K y t h

    pXY : Placed (is_functional K x) (slot x) (new_of K x Y) (conjuncts_of Y) (conjuncts_of (add_one K x Y))
    pXY = placed K x Y (tidy_add_one K y t h)

    pYX : Placed (is_functional K y) (slot y) (new_of K y X) (conjuncts_of X) (conjuncts_of (add_one K y X))
    pYX = placed K y X (tidy_add_one K x t h)

    go : (z : Bool) → (is_functional K x && eqb (slot x) (slot y)) ≡ z → spelling (add_one K x Y) ≡ spelling (add_one K y X)
    go true e =
        let w = T_and (is_functional K x) (eqb (slot x) (slot y)) (is_true e) in
        let i : slot x ≡ slot y = eqb→eq (slot x) (slot y) w.1 in
        let n = new_joined K x y t h w.0 i yield in
        spelling_same (add_one K x Y) (add_one K y X) (λ z. (
          joined_half (is_functional K y) (is_functional K x) (slot y) (slot x) (new_of K y t) (new_of K x Y) (new_of K x t) (new_of K y X) pY pXY pX pYX
              w.0 (sym i) (new_slot K y t) n z,
          joined_half (is_functional K x) (is_functional K y) (slot x) (slot y) (new_of K x t) (new_of K y X) (new_of K y t) (new_of K x Y) pX pYX pY pXY
              (subst T (functional_slot K x y i) w.0) i (new_slot K x t) (sym n) z,
        ))
    go false e =
        let a : T (is_functional K x) → slot y ≡ slot x → ⊥ = λ k i. not_true e
        (and_T (is_functional K x) (eqb (slot x) (slot y)) k (eqb_of (slot x) (slot y) (sym i))) in
        let b : T (is_functional K y) → slot x ≡ slot y → ⊥ = λ k i. a (subst T (functional_slot K y x (sym i)) k) (sym i) in
        let m = new_apart K x y t a in
        let n = new_apart K y x t b in
        spelling_same (add_one K x Y) (add_one K y X) (λ z. (
          apart_half (is_functional K y) (is_functional K x) (slot y) (slot x) (new_of K y t) (new_of K x Y) (new_of K x t) (new_of K y X) pY pXY pX pYX m
              (sym n) (new_slot K x t) b z,
          apart_half (is_functional K x) (is_functional K y) (slot x) (slot y) (new_of K x t) (new_of K y X) (new_of K y t) (new_of K x Y) pX pYX pY pXY n
              (sym m) (new_slot K y t) a z,
        ))

-- ---- two chains

-- x, whose inner conjuncts may be added before or behind any others
abbrev pub Yields : Vocabulary → Conjunct → Type 0
Yields K (is_in a) = Unit {0}
Yields K (within f lo hi) = Unit {0}
Yields K (reaches r c) = (d : Chain) (v : Form) → Tidy K v → spelling (add K c (add K d v)) ≡ spelling (add K d (add K c v))

pub yields : (K : Vocabulary) (x y : Conjunct) → Yields K x → Yield K x y
yields K (is_in a) y h = tt
yields K (within f lo hi) y h = tt
yields K (reaches r c) (is_in b) h = tt
yields K (reaches r c) (within g lo hi) h = tt
yields K (reaches r c) (reaches q d) h = h d

module _ (K : Vocabulary) (x : Conjunct) (yield : Yields K x) where
  past_one : (y : Conjunct) (c : Chain) (t : Form) → Tidy K t →
      spelling (add_one K x (add K c (add_one K y t))) ≡ spelling (add K c (add_one K x (add_one K y t))) →
      spelling (add_one K x (add K c (add_one K y t))) ≡ spelling (add K c (add_one K y (add_one K x t)))
  past_one y c t h e =
      e ∙ add_same K c (add_one K x (add_one K y t)) (add_one K y (add_one K x t)) (tidy_add_one K x (add_one K y t) (tidy_add_one K y t h))
      (tidy_add_one K y (add_one K x t) (tidy_add_one K x t h))
      (add_one_swap K x y t h (yields K x y yield))

  pub past : (c : Chain) (t : Form) → Tidy K t → spelling (add_one K x (add K c t)) ≡ spelling (add K c (add_one K x t))
  past end t h = refl
  past (class a next) t h = past_one (is_in a) next t h (past next (add_one K (is_in a) t) (tidy_add_one K (is_in a) t h))
  past (impossible next) t h = past next t h
  past (some r child next) t h = past_one (reaches r child) next t h (past next (add_one K (reaches r child) t) (tidy_add_one K (reaches r child) t h))
  past (interval f lo hi next) t h = past_one (within f lo hi) next t h (past next (add_one K (within f lo hi) t) (tidy_add_one K (within f lo hi) t h))

  -- x and the chain behind it
  past_both : (c d : Chain) (t : Form) → Tidy K t → ((v : Form) → Tidy K v → spelling (add K c (add K d v)) ≡ spelling (add K d (add K c v))) →
      spelling (add K c (add_one K x (add K d t))) ≡ spelling (add K d (add K c (add_one K x t)))
  past_both c d t h f =
      add_same K c (add_one K x (add K d t)) (add K d (add_one K x t)) (tidy_add_one K x (add K d t) (tidy_add K d t h))
      (tidy_add K d (add_one K x t) (tidy_add_one K x t h)) (past d t h)
      ∙ f (add_one K x t) (tidy_add_one K x t h)

pub add_swap : (K : Vocabulary) (c d : Chain) (t : Form) → Tidy K t → spelling (add K c (add K d t)) ≡ spelling (add K d (add K c t))
add_swap K end d t h = refl
add_swap K (class a next) d t h = past_both K (is_in a) tt next d t h (add_swap K next d)
add_swap K (impossible next) d t h = add_swap K next d t h
add_swap K (some r child next) d t h = past_both K (reaches r child) (add_swap K child) next d t h (add_swap K next d)
add_swap K (interval f lo hi next) d t h = past_both K (within f lo hi) tt next d t h (add_swap K next d)
