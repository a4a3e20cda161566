-- Who takes the constraints whole takes every combination: a piece lies inside its constraint.
use Prim.Native.Nat.{suc, ℕ}
use mathlib.Core.Bool.{Bool, ◌&&◌, ◌||◌, true}
use mathlib.Core.List.{List}
use mathlib.Core.Logic.{◌⊎◌, inl, inr}
use mathlib.Core.Path.{◌∙◌, ◌≡◌, refl, subst, sym}
use lib.Dec.{T, eqb, eqb→eq}
use Rattle.meaning.specs.Containment.{passes}
use Rattle.meaning.specs.Intervals.{Constraint, is_inside}
use Rattle.meaning.specs.Lists.{All, any, cons, first_failing, nil, nowhere}
use Rattle.meaning.specs.NormalForm.{Form, Node, Successors}
use Rattle.meaning.specs.Policy.{Chain, Policy, class, end, impossible, interval, some}
use Rattle.meaning.specs.Splitting.{combinations, constraints_of}
use Rattle.meaning.specs.Stated.{is_below}
use Rattle.meaning.specs.Subsumption.{any_successor, includes, subsumed}
use Rattle.meaning.specs.Vocabulary.{Vocabulary}
use Rattle.theory.proofs.Intervals.{is_inside_trans}
use Rattle.theory.proofs.Picks.{AllNonEmpty, Parts, Picked, PickedForm, PickedNode, combinations_picked, no_parts}
use Rattle.theory.proofs.Picks.{none_picked, parts, picked}
use Rattle.theory.proofs.Points.{Inside}
use Rattle.theory.proofs.Rules.{T_and, T_or, all_mono, and_T, any_in, any_mono, any_out, eqb_of, is_true, or_left, or_right}
use Rattle.theory.proofs.Rules.{same_test}

-- ---- parts of what is taken are taken

inside_includes : (f lo hi : ℕ) (s p : Constraint) → Inside s p → T (includes f lo hi s) → T (includes f lo hi p)
inside_includes f lo hi s p i t =
    let a = T_and (eqb f s.feature) (is_inside lo hi s.lo s.hi) t in
    and_T (eqb f p.feature) (is_inside lo hi p.lo p.hi) (eqb_of f p.feature (eqb→eq f s.feature a.0 ∙ sym i.same))
    (is_inside_trans lo hi s.lo s.hi p.lo p.hi a.1 i.inside)

module _ {Q : Policy} where
  parts_include : (f lo hi : ℕ) {l m : List Constraint} → Parts Q l m → T (any (includes f lo hi) l) → T (any (includes f lo hi) m)
  parts_include f lo hi no_parts t = t
  parts_include f lo hi (parts {s = s} {p = p} {l = l} {m = m} a b) t =
      go (λ u. parts_include f lo hi b u) (T_or (includes f lo hi s) (any (includes f lo hi) l) t)
    where
      go : (T (any (includes f lo hi) l) → T (any (includes f lo hi) m)) → T (includes f lo hi s) ⊎ T (any (includes f lo hi) l) →
          T (includes f lo hi p || any (includes f lo hi) m)
      go g (inl u) = or_left (includes f lo hi p) _ (inside_includes f lo hi s p a.inside u)
      go g (inr u) = or_right (includes f lo hi p) _ (g u)

  successor_picked : (r : ℕ) (f : Node → Successors → Bool) →
      ((n m : Node) (under inner : Successors) → PickedNode Q n m → Picked Q under inner → T (f n under) → T (f m inner)) →
      {under inner : Successors} → Picked Q under inner → T (any_successor r f under) → T (any_successor r f inner)
  successor_picked r f h none_picked t = t
  successor_picked r f h (picked {r = q} {n = n} {m = m} {under = under} {inner = inner} {next = next} {more = more} a b c) t =
      go (λ u. successor_picked r f h c u) (T_or (eqb r q && f n under) (any_successor r f next) t)
    where
      go : (T (any_successor r f next) → T (any_successor r f more)) → T (eqb r q && f n under) ⊎ T (any_successor r f next) →
          T ((eqb r q && f m inner) || any_successor r f more)
      go g (inl u) =
          let v = T_and (eqb r q) (f n under) u in
          or_left (eqb r q && f m inner) _ (and_T (eqb r q) (f m inner) v.0 (h n m under inner a b v.1))
      go g (inr u) = or_right (eqb r q && f m inner) _ (g u)

  module _ (K : Vocabulary) where
    subsumed_picked : (q : Chain) (n m : Node) (under inner : Successors) → PickedNode Q n m → Picked Q under inner →
        T (subsumed K q n under) → T (subsumed K q m inner)
    subsumed_picked end n m under inner a b t = tt
    subsumed_picked (class c next) n m under inner a b t =
        let u = T_and (any (λ d. is_below K d c) n.classes) (subsumed K next n under) t in
        and_T (any (λ d. is_below K d c) m.classes) (subsumed K next m inner)
        (subst (λ (l : List ℕ). T (any (λ d. is_below K d c) l)) a.classes u.0) (subsumed_picked next n m under inner a b u.1)
    subsumed_picked (impossible next) n m under inner a b t = t
    subsumed_picked (some r child next) n m under inner a b t =
        let u = T_and (any_successor r (subsumed K child) under) (subsumed K next n under) t in
        and_T (any_successor r (subsumed K child) inner) (subsumed K next m inner)
        (successor_picked r (subsumed K child) (λ x y xs ys c d v. subsumed_picked child x y xs ys c d v) b u.0)
        (subsumed_picked next n m under inner a b u.1)
    subsumed_picked (interval f lo hi next) n m under inner a b t =
        let u = T_and (any (includes f lo hi) n.constraints) (subsumed K next n under) t in
        and_T (any (includes f lo hi) m.constraints) (subsumed K next m inner)
        (parts_include f lo hi a.constraints u.0) (subsumed_picked next n m under inner a b u.1)

    passes_picked : (P : Policy) (F u : Form) → PickedForm Q F u → T (passes K P F) → T (passes K P u)
    unfolding passes
    passes_picked P F u p t =
        any_in (λ q. subsumed K q u.node u.successors)
        (any_mono (λ q v. subsumed_picked q F.node u.node F.successors u.successors p.node p.successors v)
        (any_out (λ q. subsumed K q F.node F.successors) P t))

-- ---- so none fails

none_fails : {A : Type 0} (p : A → Bool) (k : ℕ) {l : List A} → All (λ x. T (p x)) l → first_failing p k l ≡ nowhere
none_fails p k nil = refl
none_fails p k (cons {x = x} h t) = rw (← same_test true (p x) (λ u. h) (λ u. tt)) (none_fails p (suc k) t)

pub whole_passes : (K : Vocabulary) (Q : Policy) (F : Form) → AllNonEmpty (constraints_of F) → passes K Q F ≡ true →
    first_failing (passes K Q) 1 (combinations Q F) ≡ nowhere
whole_passes K Q F h e =
    none_fails (passes K Q) 1 (all_mono (λ u p. passes_picked K Q F u p (is_true e)) (combinations_picked Q F h))
