-- Normal form is by Table 1: no rule applies to the normal form of a possible term, and a term is impossible exactly where rules make it ⊥.
use Prim.Native.Nat.{ℕ}
use mathlib.Core.Bool.{◌&&◌, false, not}
use mathlib.Core.List.{List}
use mathlib.Core.Logic.{◌↔◌, ◌⊎◌, inl, inr, ⊎_elim, ⊎_map}
use mathlib.Core.Path.{◌∙◌, ◌≡◌, subst, sym}
use lib.Dec.{T, T_not, not_T}
use Rattle.meaning.specs.Intervals.{Constraint, Empty, is_non_empty}
use Rattle.meaning.specs.Lists.{Any, ◌∈◌, all}
use Rattle.meaning.specs.Normal.{Distinct, Fresh, NormalNode, NormalSuccessors}
use Rattle.meaning.specs.NormalForm.{Form, Node, Successors, are_non_empty, clash, clean_node, clean_successors, compatible}
use Rattle.meaning.specs.NormalForm.{has_bottom, none, normal_form, possible, successor}
use Rattle.meaning.specs.Policy.{Chain}
use Rattle.meaning.specs.Stated.{disjoint_pairs, is_below, is_functional_feature}
use Rattle.meaning.specs.TableOne.{Applies, AppliesAt, AppliesIn, ByRole, Two, at_later, at_this, below_this, by_first, by_later}
use Rattle.meaning.specs.TableOne.{collapses, first_of_two, rule3, rule4, rule5, rule6, rule7, two_later}
use Rattle.meaning.specs.Vocabulary.{Vocabulary}
use Rattle.theory.proofs.Intervals.{empty_non_empty, not_is_non_empty}
use Rattle.theory.proofs.Normal.{normal_form_normal_unbounded}
use Rattle.theory.proofs.Picks.{clean_non_empty, no_clash}
use Rattle.theory.proofs.Rules.{T_and, all_any, all_at, any_at, any_mono, any_out, at_any, is_false, not_all, not_and}
use Rattle.theory.proofs.Rules.{not_not, not_true}

-- rule 5 at a functional feature that is constrained once, rule 4 at a functional role that stands once
once : (K : Vocabulary) {f : ℕ} {l : List Constraint} → T (is_functional_feature K f) → Distinct K l → Two (λ s t. (f ≡ s.feature) × (f ≡ t.feature)) l → ⊥
once K t w (first_of_two h) =
    let e = any_at h in
    all_at (w.0 (subst (λ (g : ℕ). T (is_functional_feature K g)) e.2.0 t)) e.1 (sym e.2.0 ∙ e.2.1)
once K t w (two_later h) = once K t w.1 h

not_fresh : {r : ℕ} {under : Successors} → Fresh r under → ByRole r under → ⊥
not_fresh w (by_first e) = w.0 e
not_fresh w (by_later h) = not_fresh w.1 h

-- in a normal form no other rule than 3 and 7 applies
module _ (B : ℕ → Type 0) (K : Vocabulary) where
  normal_at : {k : ℕ} {n : Node} → NormalNode B K n → AppliesAt K k n → T (collapses k)
  normal_at w (rule3 h) = tt
  normal_at w (rule5 t h) = absurd (once K t w.distinct h)
  normal_at w (rule7 m a b) = tt

  normal_in : {k : ℕ} {under : Successors} → NormalSuccessors B K under → AppliesIn K k under → T (collapses k)
  normal_in w (rule4 t h) = absurd (not_fresh (w.0 t) h)
  normal_in w (rule6 m h) = absurd (h (all_at w.1 m))
  normal_in w (at_this h) = normal_at w.2 h
  normal_in w (below_this h) = normal_in w.3 h
  normal_in w (at_later h) = normal_in w.4 h

module _ (K : Vocabulary) where
  -- in a clean form neither of the two does
  clean_at : {k : ℕ} {n : Node} → T (clean_node K n) → AppliesAt K k n → T (not (collapses k))
  clean_at {n = n} t (rule3 h) = let e = all_any (clean_non_empty K n t) h in absurd (empty_non_empty e.0.lo e.0.hi e.2 e.1)
  clean_at t (rule5 u h) = tt
  clean_at {n = n} t (rule7 {x = x} {y = y} m a b) = absurd (no_clash K n t x y m a b)

  clean_in : {k : ℕ} {under : Successors} → T (clean_successors K under) → AppliesIn K k under → T (not (collapses k))
  clean_in t (rule4 u h) = tt
  clean_in t (rule6 m h) = tt
  clean_in t (at_this {n = n} h) = clean_at (T_and (clean_node K n) _ t).0 h
  clean_in t (below_this {n = n} {under = under} h) = clean_in (T_and (clean_successors K under) _ (T_and (clean_node K n) _ t).1).0 h
  clean_in t (at_later {n = n} {under = under} h) = clean_in (T_and (clean_successors K under) _ (T_and (clean_node K n) _ t).1).1 h

  -- in one that is not clean one of them does
  clashing : (n : Node) (a b : ℕ) → a ∈ n.classes → b ∈ n.classes → T (clash K a b) → AppliesAt K 7 n
  clashing n a b p q t =
      let x = any_at (any_out (λ d. is_below K a d.0 && is_below K b d.1) (disjoint_pairs K) t) in
      let w = T_and (is_below K a x.0.0) (is_below K b x.0.1) x.2 in
      rule7 {x = x.0.0} {y = x.0.1} x.1 (at_any p w.0) (at_any q w.1)

  unclean_at : (n : Node) → T (not (clean_node K n)) → AppliesAt K 3 n ⊎ AppliesAt K 7 n
  unclean_at n t = ⊎_map (λ u. rule3 (empty u)) clashes (not_and (are_non_empty n.constraints) (compatible K n.classes) t)
    where
      empty : T (not (are_non_empty n.constraints)) → Any (λ s. Empty s.lo s.hi) n.constraints
      empty u = any_mono (λ s v. not_is_non_empty s.lo s.hi v) (not_all (λ s. is_non_empty s.lo s.hi) n.constraints u)

      clashes : T (not (compatible K n.classes)) → AppliesAt K 7 n
      clashes u =
          let a = any_at (not_all (λ a. all (λ b. not (clash K a b)) n.classes) n.classes u) in
          let b = any_at (not_all (λ b. not (clash K a.0 b)) n.classes a.2) in
          clashing n a.0 b.0 a.1 b.1 (not_not (clash K a.0 b.0) b.2)

  unclean_in : (under : Successors) → T (not (clean_successors K under)) → AppliesIn K 3 under ⊎ AppliesIn K 7 under
  unclean_in none t = absurd t
  unclean_in (successor r n under next) t =
      ⊎_elim (λ u. ⊎_map at_this at_this (unclean_at n u))
      (λ u. ⊎_elim (λ v. ⊎_map below_this below_this (unclean_in under v)) (λ v. ⊎_map at_later at_later (unclean_in next v)) (not_and (clean_successors K under) _ u))
      (not_and (clean_node K n) _ t)

  unclean : (t : Form) → T (not (clean_node K t.node && clean_successors K t.successors)) → Applies K 3 t ⊎ Applies K 7 t
  unclean t u =
      ⊎_elim (λ v. ⊎_map inl inl (unclean_at t.node v)) (λ v. ⊎_map inr inr (unclean_in t.successors v))
      (not_and (clean_node K t.node) (clean_successors K t.successors) u)

  module _ (p : Chain) where
    -- rules 4, 5 and 6 apply nowhere in a normal form
    pub only_collapses : {k : ℕ} → Applies K k (normal_form K p) → T (collapses k)
    only_collapses h = ⊎_elim (normal_at _ K (normal_form_normal_unbounded K p).node) (normal_in _ K (normal_form_normal_unbounded K p).successors) h

    -- SPECIFICATION 6.5: none of the rules applies to the normal form of a possible term
    pub no_rule : T (possible K p) → {k : ℕ} → Applies K k (normal_form K p) → ⊥
    unfolding possible
    no_rule t {k} h =
        let a = T_and (clean_node K (normal_form K p).node) _ (T_and (not (has_bottom p)) _ t).1 in
        T_not (collapses k) (⊎_elim (clean_at a.0) (clean_in a.1) h) (only_collapses h)

    -- a term is impossible exactly where it has the impossible concept, or rule 3 or 7 applies in its normal form
    pub impossible_by_rules : (possible K p ≡ false) ↔ (T (has_bottom p) ⊎ (Applies K 3 (normal_form K p) ⊎ Applies K 7 (normal_form K p)))
    unfolding possible
    impossible_by_rules = (
      λ e. ⊎_map (not_not (has_bottom p)) (unclean (normal_form K p)) (not_and (not (has_bottom p)) _ (not_T (possible K p) (not_true e))),
      λ h. is_false (possible K p) (λ t. ⊎_elim (T_not (has_bottom p) (T_and (not (has_bottom p)) _ t).0) (⊎_elim (no_rule t) (no_rule t)) h),
    )
