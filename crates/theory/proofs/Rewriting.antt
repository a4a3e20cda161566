-- Proposition 1: in an interpretation that satisfies the vocabulary a term and its normal form hold of the same individuals.
use Prim.Native.Nat.{ℕ}
use mathlib.Core.Bool.{Bool, ◌&&◌, cond, false, not, true}
use mathlib.Core.List.{List, [], ◌∷◌}
use mathlib.Core.Path.{◌≡◌, subst, sym}
use lib.Dec.{T, eqb, eqb→eq, not_T}
use Rattle.meaning.specs.Interpretation.{Holds, Interpretation, Obeys, Satisfies}
use Rattle.meaning.specs.Intervals.{Constraint, Within, is_non_empty, meet}
use Rattle.meaning.specs.Lists.{All, all, cons, nil}
use Rattle.meaning.specs.NormalForm.{Form, Node, Successors, add, are_non_empty, bare, clash, clean_node, clean_successors}
use Rattle.meaning.specs.NormalForm.{compatible, graft, has_bottom, none, normal_form, place_constraint, place_successor}
use Rattle.meaning.specs.NormalForm.{possible, successor, with_class, with_constraint, with_successor}
use Rattle.meaning.specs.Policy.{Chain, class, end, impossible, interval, some}
use Rattle.meaning.specs.Stated.{disjoint_pairs, is_below, is_functional_feature, is_functional_role, ranges}
use Rattle.meaning.specs.Vocabulary.{Vocabulary, functional_feature, functional_role}
use Rattle.theory.proofs.Closure.{below_sound}
use Rattle.theory.proofs.Forms.{Has, HoldsForm, HoldsNode, HoldsSuccessors}
use Rattle.theory.proofs.Intervals.{is_non_empty_iff, meet_within, within_meet, within_non_empty}
use Rattle.theory.proofs.Rules.{T_and, all_in, all_mono, all_of, and_T, and_not, any_at, any_out, head, not_or, tail}
use Rattle.theory.proofs.Stated.{all_stated}

in_ranges : (I : Interpretation) (K : Vocabulary) → Satisfies I K → (r d e : ℕ) → I.by_role r d e → All (λ c. I.in_class c e) (ranges K r)
in_ranges I K s r d e h = all_of (ranges K r) (λ c m. (all_stated K s.obeyed).ranged r c m d e h)

-- rule 5
constraint_in : (I : Interpretation) (one : Bool) (s : Constraint) (d : ℕ) → (T one → Obeys I (functional_feature s.feature)) →
    Has I d s → (l : List Constraint) → All (Has I d) l → All (Has I d) (place_constraint one s l)
constraint_in I one s d law h [] k = cons h nil
constraint_in I one s d law h (x ∷ l) k =
    go (one && eqb x.feature s.feature) (λ t. T_and one (eqb x.feature s.feature) t) (constraint_in I one s d law h l (tail k))
  where
    go : (b : Bool) → (T b → T one × T (eqb x.feature s.feature)) → All (Has I d) (place_constraint one s l) →
        All (Has I d) (cond b (meet x s ∷ l) (x ∷ place_constraint one s l))
    go true f r =
        let g = f tt in
        let e : x.feature ≡ s.feature = eqb→eq _ _ g.1 in
        let v = head k in
        let same : v.0 ≡ h.0 = law g.0 d v.0 h.0 (subst (λ (k : ℕ). I.has_value k d v.0) e v.1) h.1 in
        cons {x = meet x s} (v.0, v.1, within_meet x s v.0 v.2 (subst (λ (k : ℕ). Within s.lo s.hi k) (sym same) h.2)) (tail k)
    go false f r = cons (head k) r

constraint_out : (I : Interpretation) (one : Bool) (s : Constraint) (d : ℕ) (l : List Constraint) → All (Has I d) (place_constraint one s l) → Has I d s × All (Has I d) l
constraint_out I one s d [] k = (head k, nil)
constraint_out I one s d (x ∷ l) k =
    go (one && eqb x.feature s.feature) (λ t. eqb→eq _ _ (T_and one (eqb x.feature s.feature) t).1) (constraint_out I one s d l) k
  where
    go : (b : Bool) → (T b → x.feature ≡ s.feature) → (All (Has I d) (place_constraint one s l) → Has I d s × All (Has I d) l) →
        All (Has I d) (cond b (meet x s ∷ l) (x ∷ place_constraint one s l)) → Has I d s × All (Has I d) (x ∷ l)
    go true f r k =
        let v = head k in
        let w = meet_within x s v.0 v.2 in
        ((v.0, subst (λ (k : ℕ). I.has_value k d v.0) (f tt) v.1, w.1), cons {x = x} (v.0, v.1, w.0) (tail k))
    go false f r k = let g = r (tail k) in (g.0, cons (head k) g.1)

-- rules 4 and 6
module _ (I : Interpretation) (one : Bool) (r : ℕ) (fresh : Form) (grow : Form → Form) (H : ℕ → Type 0) where
  successor_in : (T one → Obeys I (functional_role r)) → ((t : Form) (e : ℕ) → H e → HoldsForm I t e → HoldsForm I (grow t) e) → (d e : ℕ) →
      I.by_role r d e → HoldsForm I fresh e → H e → (under : Successors) → HoldsSuccessors I under d → HoldsSuccessors I (place_successor one r fresh grow under) d
  successor_in law step d e link new h none k = let f = step fresh e h new in ((e, link, f.node, f.successors), tt)
  successor_in law step d e link new h (successor q n under next) k =
      go (one && eqb r q) (λ t. T_and one (eqb r q) t) (successor_in law step d e link new h next k.1)
    where
      go : (b : Bool) → (T b → T one × T (eqb r q)) → HoldsSuccessors I (place_successor one r fresh grow next) d →
          HoldsSuccessors I (cond b (graft q (grow (record { node = n; successors = under })) next) (successor q n under (place_successor one r fresh grow next))) d
      go true f g =
          let v = k.0 in
          let link' = subst (λ (k : ℕ). I.by_role k d v.0) (sym (eqb→eq r q (f tt).1)) v.1 in
          let same : e ≡ v.0 = law (f tt).0 d e v.0 link link' in
          let t = step (record { node = n; successors = under }) v.0 (subst H same h) (record { node = v.2; successors = v.3 }) in
          ((v.0, v.1, t.node, t.successors), k.1)
      go false f g = (k.0, g)

  successor_out : ((t : Form) (e : ℕ) → HoldsForm I (grow t) e → H e × HoldsForm I t e) → (d : ℕ) → (under : Successors) →
      HoldsSuccessors I (place_successor one r fresh grow under) d → ((e : ℕ) × I.by_role r d e × H e) × HoldsSuccessors I under d
  successor_out back d none k = let v = k.0 in ((v.0, v.1, (back fresh v.0 (record { node = v.2; successors = v.3 })).0), tt)
  successor_out back d (successor q n under next) k = go (one && eqb r q) (λ t. eqb→eq r q (T_and one (eqb r q) t).1) (successor_out back d next) k
    where
      go : (b : Bool) → (T b → r ≡ q) → (HoldsSuccessors I (place_successor one r fresh grow next) d → ((e : ℕ) × I.by_role r d e × H e) × HoldsSuccessors I next d) →
          HoldsSuccessors I (cond b (graft q (grow (record { node = n; successors = under })) next) (successor q n under (place_successor one r fresh grow next))) d →
          ((e : ℕ) × I.by_role r d e × H e) × HoldsSuccessors I (successor q n under next) d
      go true f g k =
          let v = k.0 in
          let t = back (record { node = n; successors = under }) v.0 (record { node = v.2; successors = v.3 }) in
          ((v.0, subst (λ (k : ℕ). I.by_role k d v.0) (sym (f tt)) v.1, t.0), ((v.0, v.1, t.1.node, t.1.successors), k.1))
      go false f g k = let t = g k.1 in (t.0, (k.0, t.1))

-- the conjuncts of a chain, added to a form
pub add_in : (I : Interpretation) (K : Vocabulary) → Satisfies I K → (p : Chain) (t : Form) (d : ℕ) → Holds I p d → HoldsForm I t d → HoldsForm I (add K p t) d
add_in I K s end t d h k = k
add_in I K s (class c next) t d h k =
    add_in I K s next (with_class c t) d h.1 (record { node = record { classes = cons h.0 k.node.classes; constraints = k.node.constraints }; successors = k.successors })
add_in I K s (impossible next) t d h k = absurd h
add_in I K s (some r child next) t d h k =
    let v = h.0 in
    add_in I K s next (with_successor K r (add K child) t) d h.1 (record {
      node = k.node;
      successors = successor_in I (is_functional_role K r) r _ (add K child) (Holds I child) ((all_stated K s.obeyed).role r) (add_in I K s child) d v.0 v.1
          (record { node = record { classes = in_ranges I K s r d v.0 v.1; constraints = nil }; successors = tt }) v.2 t.successors k.successors;
    })
add_in I K s (interval f lo hi next) t d h k =
    let new : Constraint = record { feature = f; lo = lo; hi = hi } in
    add_in I K s next (with_constraint K new t) d h.1 (record {
      node = record { classes = k.node.classes; constraints = constraint_in I (is_functional_feature K f) new d ((all_stated K s.obeyed).feature f) h.0 t.node.constraints k.node.constraints };
      successors = k.successors;
    })

pub add_out : (I : Interpretation) (K : Vocabulary) (p : Chain) (t : Form) (d : ℕ) → T (not (has_bottom p)) → HoldsForm I (add K p t) d → Holds I p d × HoldsForm I t d
add_out I K end t d u k = (tt, k)
add_out I K (class c next) t d u k =
    let r = add_out I K next (with_class c t) d u k in
    ((head r.1.node.classes, r.0), record { node = record { classes = tail r.1.node.classes; constraints = r.1.node.constraints }; successors = r.1.successors })
add_out I K (impossible next) t d u k = absurd u
add_out I K (some r child next) t d u k =
    let w = not_or (has_bottom child) (has_bottom next) u in
    let g = add_out I K next (with_successor K r (add K child) t) d w.1 k in
    let v = successor_out I (is_functional_role K r) r _ (add K child) (Holds I child) (λ x e. add_out I K child x e w.0) d t.successors g.1.successors in
    ((v.0, g.0), record { node = g.1.node; successors = v.1 })
add_out I K (interval f lo hi next) t d u k =
    let new : Constraint = record { feature = f; lo = lo; hi = hi } in
    let r = add_out I K next (with_constraint K new t) d u k in
    let g = constraint_out I (is_functional_feature K f) new d t.node.constraints r.1.node.constraints in
    let v = g.0 in
    ((v, r.0), record { node = record { classes = r.1.node.classes; constraints = g.1 }; successors = r.1.successors })

-- rules 3 and 7: what holds of an individual is clean
clash_free : (I : Interpretation) (K : Vocabulary) → Satisfies I K → (a b d : ℕ) → I.in_class a d → I.in_class b d → T (not (clash K a b))
clash_free I K s a b d h k =
    not_T (clash K a b) (λ t.
    let r = any_at (any_out (λ p. is_below K a p.0 && is_below K b p.1) (disjoint_pairs K) t) in
    let p = r.0 in
    let w = T_and (is_below K a p.0) (is_below K b p.1) r.2 in
    (all_stated K s.obeyed).apart p.0 p.1 r.1 d (below_sound I K s a p.0 d w.0 h) (below_sound I K s b p.1 d w.1 k))

fits_clean : (I : Interpretation) (K : Vocabulary) → Satisfies I K → (n : Node) (d : ℕ) → HoldsNode I n d → T (clean_node K n)
fits_clean I K s n d h =
    and_T (are_non_empty n.constraints) (compatible K n.classes)
    (all_in (λ x. is_non_empty x.lo x.hi) (all_mono (λ x v. (is_non_empty_iff x.lo x.hi).1 (within_non_empty x.lo x.hi v.0 v.2)) h.constraints))
    (all_in (λ a. all (λ b. not (clash K a b)) n.classes)
    (all_mono (λ a ha. all_in (λ b. not (clash K a b)) (all_mono (λ b hb. clash_free I K s a b d ha hb) h.classes)) h.classes))

grown_clean : (I : Interpretation) (K : Vocabulary) → Satisfies I K → (under : Successors) (d : ℕ) → HoldsSuccessors I under d → T (clean_successors K under)
grown_clean I K s none d h = tt
grown_clean I K s (successor r n under next) d h =
    let v = h.0 in
    and_T (clean_node K n) _ (fits_clean I K s n v.0 v.2) (and_T (clean_successors K under) _ (grown_clean I K s under v.0 v.3) (grown_clean I K s next d h.1))

holds_open : (I : Interpretation) (p : Chain) (d : ℕ) → Holds I p d → T (not (has_bottom p))
holds_open I end d h = tt
holds_open I (class c next) d h = holds_open I next d h.1
holds_open I (impossible next) d h = h
holds_open I (some r child next) d h = and_not (has_bottom child) (has_bottom next) (holds_open I child h.0.0 h.0.2) (holds_open I next d h.1)
holds_open I (interval f lo hi next) d h = holds_open I next d h.1

bare_holds : (I : Interpretation) (d : ℕ) → HoldsForm I (bare []) d
bare_holds I d = record { node = record { classes = nil; constraints = nil }; successors = tt }

-- a term holds where, and only where, its normal form does; and then it is possible
pub normal_in : (I : Interpretation) (K : Vocabulary) → Satisfies I K → (p : Chain) (d : ℕ) → Holds I p d → HoldsForm I (normal_form K p) d
unfolding possible normal_form
normal_in I K s p d h = add_in I K s p (bare []) d h (bare_holds I d)

pub normal_out : (I : Interpretation) (K : Vocabulary) (p : Chain) (d : ℕ) → T (possible K p) → HoldsForm I (normal_form K p) d → Holds I p d
unfolding possible normal_form
normal_out I K p d t h = (add_out I K p (bare []) d (T_and (not (has_bottom p)) _ t).0 h).0

pub holds_possible : (I : Interpretation) (K : Vocabulary) → Satisfies I K → (p : Chain) (d : ℕ) → Holds I p d → T (possible K p)
unfolding possible normal_form
holds_possible I K s p d h =
    let f = normal_in I K s p d h in
    and_T (not (has_bottom p)) _ (holds_open I p d h) (and_T (clean_node K (normal_form K p).node) _ (fits_clean I K s (normal_form K p).node d f.node) (grown_clean I K s (normal_form K p).successors d f.successors))
