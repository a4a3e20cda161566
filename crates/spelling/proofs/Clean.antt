-- Whether a term is possible can be told from its spelling.
use Prim.Native.Nat.{ℕ}
use mathlib.Core.Bool.{Bool, ◌&&◌, not}
use mathlib.Core.List.{List, [], ◌++◌, ◌∷◌, map}
use mathlib.Core.Logic.{◌↔◌, ⊎_elim}
use mathlib.Core.Path.{subst, sym}
use lib.Dec.{T}
use native.Mathlib.Omega.{arith}
use Rattle.meaning.specs.Intervals.{Constraint, is_non_empty}
use Rattle.meaning.specs.Lists.{All, ◌∈◌, all, cons, nil}
use Rattle.meaning.specs.NormalForm.{Form, Node, Successors, are_non_empty, clash, clean_node, clean_successors, compatible, has_bottom, none}
use Rattle.meaning.specs.NormalForm.{normal_form, possible, successor}
use Rattle.meaning.specs.Policy.{Chain, class, end, impossible, interval, some}
use Rattle.meaning.specs.Vocabulary.{Vocabulary}
use Rattle.spelling.proofs.InOrder.{form_ordered}
use Rattle.spelling.proofs.Keys.{key_apart}
use Rattle.spelling.proofs.Lists.{in_map, out_map}
use Rattle.spelling.proofs.Members.{conjuncts_put_all}
use Rattle.spelling.proofs.Placing.{constraints_slots, roles_slots}
use Rattle.spelling.proofs.Rising.{sorted_same}
use Rattle.spelling.specs.Order.{sorted}
use Rattle.spelling.specs.Ordered.{OrderedBelow, conjuncts}
use Rattle.spelling.specs.Spelling.{Conjunct, conjuncts_of, is_in, key, put_all, put_in_order, reaches, roles_of, spelled_term, spelling}
use Rattle.spelling.specs.Spelling.{stated, within, within_of}
use Rattle.theory.proofs.Rules.{T_and, all_append, all_at, all_fst, all_in, all_of, all_out, all_snd, and_T, and_not, any_append, any_left}
use Rattle.theory.proofs.Rules.{head, map_all, tail}

module _ (K : Vocabulary) where
  -- rule 7 at no two classes
  abbrev Apart : List Conjunct → Type 0
  Apart l = (a b : ℕ) → is_in a ∈ l → is_in b ∈ l → T (not (clash K a b))

  -- rule 3 and rule 7 nowhere below or behind
  abbrev CleanBelow : Chain → Type 0
  CleanBelow end = Unit {0}
  CleanBelow (class a next) = CleanBelow next
  CleanBelow (impossible next) = CleanBelow next
  CleanBelow (some r child next) = (Apart (conjuncts child) × CleanBelow child) × CleanBelow next
  CleanBelow (interval f lo hi next) = T (is_non_empty lo hi) × CleanBelow next

  abbrev pub CleanChain : Chain → Type 0
  CleanChain c = Apart (conjuncts c) × CleanBelow c

  abbrev CleanOne : Conjunct → Type 0
  CleanOne (is_in a) = Unit {0}
  CleanOne (within f lo hi) = T (is_non_empty lo hi)
  CleanOne (reaches r c) = CleanChain c

  put_all_in : (l : List Conjunct) → All CleanOne l → CleanBelow (put_all l)
  put_all_in [] h = tt
  put_all_in (is_in a ∷ l) h = put_all_in l (tail h)
  put_all_in (within f lo hi ∷ l) h = (head h, put_all_in l (tail h))
  put_all_in (reaches r c ∷ l) h = (head h, put_all_in l (tail h))

  put_all_out : (l : List Conjunct) → CleanBelow (put_all l) → All CleanOne l
  put_all_out [] h = nil
  put_all_out (is_in a ∷ l) h = cons {x = is_in a} tt (put_all_out l h)
  put_all_out (within f lo hi ∷ l) h = cons {x = within f lo hi} h.0 (put_all_out l h.1)
  put_all_out (reaches r c ∷ l) h = cons {x = reaches r c} h.0 (put_all_out l h.1)

  put_in_order_in : (l : List Conjunct) → Apart l → All CleanOne l → CleanChain (put_in_order l)
  put_in_order_in l a h = (
    subst Apart (sym (conjuncts_put_all (sorted key l)))
        (λ x y m n. a x y ((sorted_same key key_apart l (is_in x)).1 m) ((sorted_same key key_apart l (is_in y)).1 n)),
    put_all_in (sorted key l) (all_of (sorted key l) (λ x m. all_at h ((sorted_same key key_apart l x).1 m))),
  )

  put_in_order_out : (l : List Conjunct) → CleanChain (put_in_order l) → Apart l × All CleanOne l
  put_in_order_out l h =
      let a = subst Apart (conjuncts_put_all (sorted key l)) h.0 in (
        λ x y m n. a x y ((sorted_same key key_apart l (is_in x)).0 m) ((sorted_same key key_apart l (is_in y)).0 n),
        all_of l (λ x m. all_at (put_all_out (sorted key l) h.1) ((sorted_same key key_apart l x).0 m)),
      )

  -- the classes of an individual
  class_of : (n : Node) (ks : Successors) (a : ℕ) → is_in a ∈ stated n (roles_of ks) → a ∈ n.classes
  class_of n ks a h =
      ⊎_elim (λ w. let r = out_map is_in n.classes w in subst (λ (z : ℕ). z ∈ n.classes) (cc) r.1)
      (λ w. ⊎_elim (λ v. absurd (let e = all_at (constraints_slots n.constraints) v in omega arith))
      (λ v. absurd (let e = all_at (roles_slots ks) v in omega arith)) (any_append (map within_of n.constraints) _ w))
      (any_append (map is_in n.classes) _ h)

  abbrev tested : List ℕ → ℕ → Bool
  tested cs a = all (λ b. not (clash K a b)) cs

  stated_in : (n : Node) (ks : Successors) → T (clean_node K n) → All CleanOne (roles_of ks) →
      Apart (stated n (roles_of ks)) × All CleanOne (stated n (roles_of ks))
  stated_in n ks t h =
      let w = T_and (are_non_empty n.constraints) (compatible K n.classes) t in (
        λ a b m k. all_at (all_out (λ z. not (clash K a z)) n.classes
            (all_at (all_out (tested n.classes) n.classes w.1) (class_of n ks a m))) (class_of n ks b k),
        all_append (classes n.classes) (all_append (constraints n.constraints (all_out (λ s. is_non_empty s.lo s.hi) n.constraints w.0)) h),
      )
    where
      classes : (cs : List ℕ) → All CleanOne (map is_in cs)
      classes [] = nil
      classes (c ∷ cs) = cons {x = is_in c} tt (classes cs)

      constraints : (l : List Constraint) → All (λ s. T (is_non_empty s.lo s.hi)) l → All CleanOne (map within_of l)
      constraints [] g = nil
      constraints (s ∷ l) g = cons {x = within_of s} (head g) (constraints l (tail g))

  stated_out : (n : Node) (ks : Successors) → Apart (stated n (roles_of ks)) → All CleanOne (stated n (roles_of ks)) →
      T (clean_node K n) × All CleanOne (roles_of ks)
  stated_out n ks a h =
      let w = all_snd (map is_in n.classes) (map within_of n.constraints ++ roles_of ks) h in
      let rest = map within_of n.constraints ++ roles_of ks in (
        and_T (are_non_empty n.constraints) (compatible K n.classes)
            (all_in (λ s. is_non_empty s.lo s.hi) (map_all within_of n.constraints (all_fst (map within_of n.constraints) (roles_of ks) w)))
            (all_in (tested n.classes) (all_of n.classes (λ x m.
            all_in (λ z. not (clash K x z)) (all_of n.classes (λ y k. a x y (any_left rest (in_map is_in m)) (any_left rest (in_map is_in k))))))),
        all_snd (map within_of n.constraints) (roles_of ks) w,
      )

  roles_in : (ks : Successors) → T (clean_successors K ks) → All CleanOne (roles_of ks)
  roles_in none t = nil
  roles_in (successor r n under next) t =
      let v = T_and (clean_node K n) (clean_successors K under && clean_successors K next) t in
      let w = T_and (clean_successors K under) (clean_successors K next) v.1 in
      let s = stated_in n under v.0 (roles_in under w.0) in
      cons {x = reaches r (put_in_order (stated n (roles_of under)))} (put_in_order_in (stated n (roles_of under)) s.0 s.1) (roles_in next w.1)

  roles_out : (ks : Successors) → All CleanOne (roles_of ks) → T (clean_successors K ks)
  roles_out none h = tt
  roles_out (successor r n under next) h =
      let v = put_in_order_out (stated n (roles_of under)) (head h) in
      let w = stated_out n under v.0 v.1 in
      and_T (clean_node K n) (clean_successors K under && clean_successors K next) w.0
      (and_T (clean_successors K under) (clean_successors K next) (roles_out under w.1) (roles_out next (tail h)))

  -- a form is clean exactly where its spelling is
  pub form_clean : (t : Form) → T (clean_node K t.node && clean_successors K t.successors) ↔ CleanChain (spelling t)
  unfolding spelling
  form_clean t = (
    λ c.
        let v = T_and (clean_node K t.node) (clean_successors K t.successors) c in
        let s = stated_in t.node t.successors v.0 (roles_in t.successors v.1) in
        put_in_order_in (conjuncts_of t) s.0 s.1,
    λ c.
        let v = put_in_order_out (conjuncts_of t) c in
        let w = stated_out t.node t.successors v.0 v.1 in
        and_T (clean_node K t.node) (clean_successors K t.successors) w.0 (roles_out t.successors w.1),
  )

  pub possible_spelling : (p : Chain) → T (possible K p) ↔ (T (not (has_bottom p)) × CleanChain (spelled_term K p))
  unfolding possible spelled_term
  possible_spelling p =
      let c = form_clean (normal_form K p) in
      let b = clean_node K (normal_form K p).node && clean_successors K (normal_form K p).successors in (
        λ t. let v = T_and (not (has_bottom p)) b t in (v.0, c.0 v.1),
        λ h. and_T (not (has_bottom p)) b h.0 (c.1 h.1),
      )

-- a spelling has no impossible concept
ordered_open : (c : Chain) → OrderedBelow c → T (not (has_bottom c))
ordered_open end h = tt
ordered_open (class a next) h = ordered_open next h
ordered_open (impossible next) h = h
ordered_open (some r child next) h = and_not (has_bottom child) (has_bottom next) (ordered_open child h.1) (ordered_open next h.2)
ordered_open (interval f lo hi next) h = ordered_open next h

pub spelled_open : (K : Vocabulary) (p : Chain) → T (not (has_bottom (spelled_term K p)))
unfolding spelled_term
spelled_open K p = ordered_open (spelling (normal_form K p)) (form_ordered (normal_form K p)).1
