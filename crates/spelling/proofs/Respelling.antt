-- Spelling what is spelled changes nothing.
use Prim.Native.Nat.{ℕ}
use mathlib.Core.Bool.{Bool, cond, false, true}
use mathlib.Core.List.{List, [], ◌++◌, ◌∷◌, map}
use mathlib.Core.Logic.{◌⊎◌, inl, inr, ⊎_elim}
use mathlib.Core.Path.{◌∙◌, ◌≡◌, ap, refl, subst, sym}
use lib.Dec.{T}
use native.Mathlib.Omega.{arith}
use Rattle.meaning.specs.Intervals.{Constraint}
use Rattle.meaning.specs.Lists.{All, ◌∈◌, cons, filter, here, nil, there}
use Rattle.meaning.specs.NormalForm.{Form, Successors, add, bare, none, normal_form, possible, successor}
use Rattle.meaning.specs.Policy.{Chain, Policy}
use Rattle.meaning.specs.Stated.{is_functional_feature, is_functional_role, ranges}
use Rattle.meaning.specs.Vocabulary.{Vocabulary}
use Rattle.spelling.proofs.Clean.{CleanChain, possible_spelling, spelled_open}
use Rattle.spelling.proofs.Equal.{term_of}
use Rattle.spelling.proofs.Keys.{key_apart, term_apart}
use Rattle.spelling.proofs.Lists.{in_map, out_map}
use Rattle.spelling.proofs.Members.{Lone, Met, Once, alone, constraints_in, meet_view, met, once_all, once_lone, put_in_order_same}
use Rattle.spelling.proofs.Members.{roles_in, start_many, start_there}
use Rattle.spelling.proofs.Placing.{Tidy, TidyBelow, add_put, add_one, functional_slot, is_functional, new_of, placed, slot, start_at}
use Rattle.spelling.proofs.Placing.{tidy_add_one, tidy_bare}
use Rattle.spelling.proofs.Rising.{Same, before_self, same_refl, same_trans, sorted_again, sorted_rising, sorted_same}
use Rattle.spelling.specs.Order.{is_before, sorted}
use Rattle.spelling.specs.Ordered.{Rising}
use Rattle.spelling.specs.Spelling.{Conjunct, conjuncts_of, is_in, key, put_all, put_in_order, reaches, roles_of, spelled, spelled_term}
use Rattle.spelling.specs.Spelling.{spelling, stated, term_key, within, within_of}
use Rattle.theory.proofs.Normal.{normal_form_normal_unbounded}
use Rattle.theory.proofs.Rules.{all_append, all_at, all_of, any_append, any_cases, any_left, any_none, any_right, head, is_true, tail}

-- what a role reaches is spelled
abbrev pub Stable : Vocabulary → Conjunct → Type 0
Stable K (is_in a) = Unit {0}
Stable K (within f lo hi) = Unit {0}
Stable K (reaches r c) = spelling (add K c (bare (ranges K r))) ≡ c

-- where no conjunct of its functional name stands it becomes itself
new_vacant : (K : Vocabulary) (x : Conjunct) (t : Form) → (T (is_functional K x) → All (λ y. slot y ≡ slot x → ⊥) (conjuncts_of t)) → Stable K x → new_of K x t ≡ x
new_vacant K (is_in a) t f s = refl
new_vacant K (within f lo hi) t n s = go _ (meet_view (is_functional_feature K f) (record { feature = f; lo = lo; hi = hi }) t.node.constraints)
  where
    go : (i : Constraint) → Met (is_functional_feature K f) (record { feature = f; lo = lo; hi = hi }) t.node.constraints i → within_of i ≡ within f lo hi
    go _ (met u k m e) = absurd (all_at (n k) (constraints_in t (within_of u) m) (omega arith))
    go _ (alone a) = refl
new_vacant K (reaches r c) t n s =
    ap (λ (x : Form). reaches r (spelling (add K c x)))
    (go (is_functional_role K r) refl (start_there (is_functional_role K r) r (bare (ranges K r)) t.successors)) ∙ ap (λ (x : Chain). reaches r x) s
  where
    S : Form
    S = start_at (is_functional_role K r) r (bare (ranges K r)) t.successors

    go : (b : Bool) → is_functional_role K r ≡ b → (reaches r (spelling S) ∈ roles_of t.successors) ⊎ (S ≡ bare (ranges K r)) → S ≡ bare (ranges K r)
    go false e w = ap (λ (b : Bool). start_at b r (bare (ranges K r)) t.successors) e ∙ start_many r (bare (ranges K r)) t.successors
    go true e (inl w) = absurd (all_at (n (is_true e)) (roles_in t (reaches r (spelling S)) w) refl)
    go true e (inr w) = w

-- conjuncts of other names than those that stand there are added as they are
module _ (K : Vocabulary) where
  abbrev Clear : List Conjunct → List Conjunct → Type 0
  Clear l m = All (λ x. T (is_functional K x) → All (λ y. slot y ≡ slot x → ⊥) m) l

  -- one of them
  add_one_same : (x : Conjunct) (t : Form) → Tidy K t → Stable K x → (T (is_functional K x) → All (λ y. slot y ≡ slot x → ⊥) (conjuncts_of t)) →
      Same (conjuncts_of (add_one K x t)) (x ∷ conjuncts_of t)
  add_one_same x t h s n z =
      let p = placed K x t h z in
      let e = new_vacant K x t n s in (
        λ m. ⊎_elim (λ i. here (i ∙ e)) (λ w. there w.0) (p.0 m),
        λ m. p.1 (⊎_elim (λ i. inl (i ∙ sym e)) (λ w. inr (w, λ k. all_at (n k) w)) (any_cases m)),
      )

  put_all_same : (l : List Conjunct) (t : Form) → Tidy K t → All (Stable K) l → Once K l → Clear l (conjuncts_of t) →
      Same (conjuncts_of (add K (put_all l) t)) (l ++ conjuncts_of t)
  put_all_same [] t h s o n = same_refl (conjuncts_of t)
  put_all_same (x ∷ l) t h s o n =
      subst (λ (f : Form). Same (conjuncts_of f) (x ∷ (l ++ conjuncts_of t))) (sym (add_put K x (put_all l) t))
      (same_trans {m = l ++ conjuncts_of (add_one K x t)} (put_all_same l (add_one K x t) (tidy_add_one K x t h) (tail s) o.1 clear) moved)
    where
      one_more_lem : Same (conjuncts_of (add_one K x t)) (x ∷ conjuncts_of t)
      one_more_lem = add_one_same x t h (head s) (head n)

      clear : Clear l (conjuncts_of (add_one K x t))
      clear = all_of l (λ y m k. all_of (conjuncts_of (add_one K x t)) (λ z w e.
          ⊎_elim (λ i. all_at (o.0 (subst T (functional_slot K y x (sym e ∙ ap slot i)) k)) m (sym e ∙ ap slot i))
          (λ v. all_at (all_at (tail n) m k) v e) (any_cases ((one_more_lem z).0 w))))

      moved : Same (l ++ conjuncts_of (add_one K x t)) (x ∷ (l ++ conjuncts_of t))
      moved z = (
        λ m. ⊎_elim (λ w. there (any_left (conjuncts_of t) w)) (λ w. ⊎_elim (λ i. here i) (λ v. there (any_right l v)) (any_cases ((one_more_lem z).0 w)))
            (any_append l _ m),
        λ m.
            ⊎_elim (λ i. any_right l ((one_more_lem z).1 (here i)))
            (λ w. ⊎_elim (λ v. any_left (conjuncts_of (add_one K x t)) v) (λ v. any_right l ((one_more_lem z).1 (there v))) (any_append l _ w)) (any_cases m),
      )

  -- a rising list has no element twice
  rising_once : (l : List Conjunct) → Rising key l → Lone K l → Once K l
  rising_once [] r f = tt
  rising_once (x ∷ l) r f = (
    λ k. all_of l (λ y m e. before_self (key y) (subst (λ (z : Conjunct). T (is_before (key z) (key y))) (f x y (here refl) (there m) k e) (all_at r.0 m))),
    rising_once l r.1 (λ a b m n. f a b (there m) (there n)),
  )

  -- a class is of no functional name
  never : (x : Conjunct) → T (is_functional K x) → slot x ≡ 0 → ⊥
  never (is_in a) k e = k
  never (within f lo hi) k e = omega arith
  never (reaches r c) k e = omega arith

  classes_stable : (cs : List ℕ) → All (Stable K) (map is_in cs)
  classes_stable [] = nil
  classes_stable (c ∷ cs) = cons {x = is_in c} tt (classes_stable cs)

  constraints_stable : (l : List Constraint) → All (Stable K) (map within_of l)
  constraints_stable [] = nil
  constraints_stable (s ∷ l) = cons {x = within_of s} tt (constraints_stable l)

  -- a spelled individual, read from classes that it has, is spelled the same
  form_again : (t : Form) → Tidy K t → All (Stable K) (roles_of t.successors) → (cs : List ℕ) → All (λ c. c ∈ t.node.classes) cs →
      spelling (add K (spelling t) (bare cs)) ≡ spelling t
  unfolding spelling
  form_again t h s cs a =
      put_in_order_same (conjuncts_of (add K (put_all l) (bare cs))) l
      (same_trans {m = l ++ conjuncts_of (bare cs)} (put_all_same l (bare cs) (tidy_bare K cs) stable once clear) known)
      ∙ ap put_all (sorted_again key key_apart l rising)
    where
      l : List Conjunct
      l = sorted key (conjuncts_of t)

      members : Same (conjuncts_of t) l
      members = sorted_same key key_apart (conjuncts_of t)

      rising : Rising key l
      rising = sorted_rising key key_apart (conjuncts_of t)

      stable : All (Stable K) l
      stable =
          all_of l (λ x m. all_at (all_append (classes_stable t.node.classes) (all_append (constraints_stable t.node.constraints) s)) ((members x).1 m))

      once : Once K l
      once = rising_once l rising (λ x y m n. once_lone K (conjuncts_of t) (once_all K t h) x y ((members x).1 m) ((members y).1 n))

      -- the classes are of no functional name, and stand there
      classes_only : (x : Conjunct) → x ∈ conjuncts_of (bare cs) → (c : ℕ) × (c ∈ cs) × (x ≡ is_in c)
      classes_only x m = ⊎_elim (λ w. out_map is_in cs w) (λ w. absurd (any_none w)) (any_append (map is_in cs) _ m)

      clear : Clear l (conjuncts_of (bare cs))
      clear = all_of l (λ x m k. all_of (conjuncts_of (bare cs)) (λ y w e. let c = classes_only y w in never x k (sym e ∙ ap slot c.2)))

      known : Same (l ++ conjuncts_of (bare cs)) l
      known x = (
        λ m.
            ⊎_elim (λ w. w)
            (λ w. let c = classes_only x w in subst (λ (z : Conjunct). z ∈ l) (sym c.2)
            ((members (is_in c.0)).0 (any_left (map within_of t.node.constraints ++ roles_of t.successors) (in_map is_in (all_at a c.1)))))
            (any_append l _ m),
        λ m. any_left (conjuncts_of (bare cs)) m,
      )

  pub roles_stable : (ks : Successors) → TidyBelow K ks → All (Stable K) (roles_of ks)
  unfolding spelling
  roles_stable none h = nil
  roles_stable (successor r n under next) h =
      cons {x = reaches r (put_in_order (stated n (roles_of under)))}
      (form_again (record { node = n; successors = under }) (record { node = h.2; successors = h.3 }) (roles_stable under h.3) (ranges K r)
      h.1) (roles_stable next h.4)

  pub term_again : (p : Chain) → spelled_term K (spelled_term K p) ≡ spelled_term K p
  unfolding spelled_term normal_form
  term_again p =
      let h = normal_form_normal_unbounded K p in
      form_again (normal_form K p) h (roles_stable (normal_form K p).successors h.successors) [] nil

-- a list that a test passes whole, and that a function leaves as it is
all_passed : (f : Chain → Bool) {l : Policy} → All (λ c. T (f c)) l → filter f l ≡ l
all_passed f nil = refl
all_passed f (cons {x = c} {l = l} h t) = go (f c) h (all_passed f t)
  where
    go : (b : Bool) → T b → filter f l ≡ l → cond b (c ∷ filter f l) (filter f l) ≡ c ∷ l
    go true u e = ap (λ (m : Policy). c ∷ m) e
    go false u e = absurd u

all_kept : (f : Chain → Chain) {l : Policy} → All (λ c. f c ≡ c) l → map f l ≡ l
all_kept f nil = refl
all_kept f (cons {x = c} {l = l} h t) = let e = all_kept f t in cc

-- the terms rise
pub spelled_rising : (K : Vocabulary) (P : Policy) → Rising term_key (spelled K P)
unfolding spelled
spelled_rising K P = sorted_rising term_key term_apart (map (spelled_term K) (filter (possible K) P))

-- its terms are possible, and spelled as they stand
spelled_possible : (K : Vocabulary) (P : Policy) → All (λ c. T (possible K c)) (spelled K P)
spelled_possible K P = all_of (spelled K P) (λ c m.
    let p = term_of K P c m in
    subst (λ (q : Chain). T (possible K q)) (sym p.3)
    ((possible_spelling K (spelled_term K p.0)).1
    (spelled_open K p.0, subst (CleanChain K) (sym (term_again K p.0)) ((possible_spelling K p.0).0 p.2).1)))

spelled_terms : (K : Vocabulary) (P : Policy) → All (λ c. spelled_term K c ≡ c) (spelled K P)
spelled_terms K P = all_of (spelled K P) (λ c m. let p = term_of K P c m in ap (spelled_term K) p.3 ∙ term_again K p.0 ∙ sym p.3)

-- a spelling is spelled as it stands
pub spelling_again : (K : Vocabulary) (P : Policy) → spelled K (spelled K P) ≡ spelled K P
spelling_again K P =
    open_spelled (spelled K P)
    ∙ ap (λ (l : Policy). sorted term_key (map (spelled_term K) l)) (all_passed (possible K) (spelled_possible K P))
    ∙ ap (sorted term_key) (all_kept (spelled_term K) (spelled_terms K P))
    ∙ sorted_again term_key term_apart (spelled K P) (spelled_rising K P)
  where
    open_spelled : (Q : Policy) → spelled K Q ≡ sorted term_key (map (spelled_term K) (filter (possible K) Q))
    open_spelled Q = unfold spelled in refl
