-- Algorithm 1: its yes is right in every interpretation; and Lemma 3, on a combination it is truth in the canonical model.
use Prim.Native.Nat.{◌+◌, suc, ℕ}
use mathlib.Core.Bool.{Bool, ◌&&◌, cond, false, true}
use mathlib.Core.List.{List, [], ◌∷◌}
use mathlib.Core.Logic.{◌↔◌, ◌⊎◌, inl, inr}
use mathlib.Core.Path.{◌≡◌, refl, subst, sym}
use lib.Dec.{T, eqb, eqb_refl, eqb→eq}
use Rattle.meaning.specs.Countermodel.{canonical_model, individuals, size}
use Rattle.meaning.specs.Interpretation.{Holds, Interpretation, Satisfies}
use Rattle.meaning.specs.Intervals.{Constraint, NonEmpty, Within, is_inside, value_of}
use Rattle.meaning.specs.Lists.{All, ◌∈◌, any, cons, flat_map, here, nil, there}
use Rattle.meaning.specs.Model.{Fact, stands}
use Rattle.meaning.specs.Normal.{Bounded}
use Rattle.meaning.specs.NormalForm.{Form, Node, Successors, clean_node, clean_successors, none, successor}
use Rattle.meaning.specs.Policy.{Chain, Policy, class, end, impossible, interval, some}
use Rattle.meaning.specs.Splitting.{ends}
use Rattle.meaning.specs.Stated.{is_below}
use Rattle.meaning.specs.Subsumption.{any_successor, includes, subsumed}
use Rattle.meaning.specs.Vocabulary.{Vocabulary}
use Rattle.theory.proofs.Canonical.{formed, satisfied}
use Rattle.theory.proofs.Closure.{below_sound}
use Rattle.theory.proofs.Forms.{HoldsForm, HoldsNode, HoldsSuccessors}
use Rattle.theory.proofs.Intervals.{inside_within, is_inside_refl, value_within_lem}
use Rattle.theory.proofs.Picks.{AllNonEmpty, Parts, Picked, PickedForm, PickedNode, Consistent, clean_non_empty, no_parts}
use Rattle.theory.proofs.Picks.{none_picked, parts, picked}
use Rattle.theory.proofs.Places.{Child, Place, True, places}
use Rattle.theory.proofs.Points.{Unparted, unparted_inside}
use Rattle.theory.proofs.Rules.{T_and, T_or, all_any, all_at, and_T, any_both, any_flat_map, any_in, any_left, any_mono}
use Rattle.theory.proofs.Rules.{any_none, any_out, any_right, at_any, eqb_of, or_left, or_right}

-- a conjunct ∃R.C' that passes is an individual's value
child_of_lem : (I : Interpretation) (r : ℕ) (f : Node → Successors → Bool) (under : Successors) (d : ℕ) → T (any_successor r f under) → HoldsSuccessors I under d →
    (e : ℕ) × (n : Node) × (inner : Successors) × I.by_role r d e × T (f n inner) × HoldsNode I n e × HoldsSuccessors I inner e
child_of_lem I r f none d t h = absurd t
child_of_lem I r f (successor q n under next) d t h = go (λ u. child_of_lem I r f next d u h.1) (T_or (eqb r q && f n under) (any_successor r f next) t)
  where
    Value : Type 0
    Value = (e : ℕ) × (n : Node) × (inner : Successors) × I.by_role r d e × T (f n inner) × HoldsNode I n e × HoldsSuccessors I inner e

    go : (T (any_successor r f next) → Value) → T (eqb r q && f n under) ⊎ T (any_successor r f next) → Value
    go ih (inl u) =
        let a = T_and (eqb r q) (f n under) u in
        let v = h.0 in
        (v.0, n, under, subst (λ (x : ℕ). I.by_role x d v.0) (sym (eqb→eq r q a.0)) v.1, a.1, v.2, v.3)
    go ih (inr u) = ih u

pub subsumed_sound : (I : Interpretation) (K : Vocabulary) → Satisfies I K → (q : Chain) (n : Node) (under : Successors) (d : ℕ) →
    T (subsumed K q n under) → HoldsNode I n d → HoldsSuccessors I under d → Holds I q d
subsumed_sound I K s end n under d t f g = tt
subsumed_sound I K s (class a next) n under d t f g =
    let u = T_and (any (λ c. is_below K c a) n.classes) (subsumed K next n under) t in
    let v = all_any f.classes (any_out (λ c. is_below K c a) n.classes u.0) in
    (below_sound I K s v.0 a d v.2 v.1, subsumed_sound I K s next n under d u.1 f g)
subsumed_sound I K s (impossible next) n under d t f g = t
subsumed_sound I K s (some r child next) n under d t f g =
    let u = T_and (any_successor r (subsumed K child) under) (subsumed K next n under) t in
    let v = child_of_lem I r (subsumed K child) under d u.0 g in
    ((v.0, v.3, subsumed_sound I K s child v.1 v.2 v.0 v.4 v.5 v.6), subsumed_sound I K s next n under d u.1 f g)
subsumed_sound I K s (interval h lo hi next) n under d t f g =
    let u = T_and (any (includes h lo hi) n.constraints) (subsumed K next n under) t in
    let v = all_any f.constraints (any_out (includes h lo hi) n.constraints u.0) in
    let w = T_and (eqb h v.0.feature) (is_inside lo hi v.0.lo v.0.hi) v.2 in
    ((v.1.0, subst (λ (x : ℕ). I.has_value x d v.1.0) (sym (eqb→eq _ _ w.0)) v.1.1, inside_within lo hi v.0.lo v.0.hi v.1.0 w.1 v.1.2), subsumed_sound I K s next n under d u.1 f g)

-- interval safe: no end of Q parts a piece
abbrev pub SafePiece : Policy → Constraint → Type 0
SafePiece Q p = NonEmpty p.lo p.hi × ((e : ℕ) → e ∈ flat_map (ends p.feature) Q → Unparted p e)

abbrev pub Safe : Policy → Successors → Type 0
Safe Q none = Unit {0}
Safe Q (successor r n under next) = All (SafePiece Q) n.constraints × Safe Q under × Safe Q next

parts_safe : {Q : Policy} {l m : List Constraint} → Parts Q l m → All (SafePiece Q) m
parts_safe no_parts = nil
parts_safe {Q} (parts {p = p} a b) =
    cons (a.inside.non_empty, λ e m. a.safe e (subst (λ (f : ℕ). e ∈ flat_map (ends f) Q) a.inside.same m)) (parts_safe b)

pub picked_safe : {Q : Policy} {under inner : Successors} → Picked Q under inner → Safe Q inner
picked_safe none_picked = tt
picked_safe (picked a b c) = (parts_safe a.constraints, picked_safe b, picked_safe c)

-- every end that the chain states is an end of Q
abbrev pub EndsIn : Policy → Chain → Type 0
EndsIn Q q = (f e : ℕ) → e ∈ ends f q → e ∈ flat_map (ends f) Q

pub ends_in : {Q : Policy} {q : Chain} → q ∈ Q → EndsIn Q q
ends_in m f e k = any_flat_map (ends f) (at_any m k)

-- the ends of a constraint at the front
front : (Q : Policy) (f lo hi : ℕ) (next : Chain) → EndsIn Q (interval f lo hi next) → (lo ∈ flat_map (ends f) Q) × (hi ∈ flat_map (ends f) Q) × EndsIn Q next
front Q f lo hi next k = (k f lo (go (eqb f f) (eqb_refl f) (here refl)), k f hi (go (eqb f f) (eqb_refl f) (there (here refl))), λ g e m. k g e (behind g e (eqb g f) m))
  where
    go : {e : ℕ} (b : Bool) → T b → e ∈ lo ∷ (hi ∷ ends f next) → e ∈ cond b (lo ∷ (hi ∷ ends f next)) (ends f next)
    go true t m = m
    go false t m = absurd t

    behind : (g e : ℕ) (b : Bool) → e ∈ ends g next → e ∈ cond b (lo ∷ (hi ∷ ends g next)) (ends g next)
    behind g e true m = there (there m)
    behind g e false m = m

module _ (K : Vocabulary) (Q : Policy) (m : ℕ) (F : List Fact) (h : ℕ → Place K) (true-there : All (True K h) F) where
  child_in : (r j : ℕ) (f : Node → Successors → Bool) (y : Place K) (under : Successors) (s : ℕ) → Child K r j y under s → Safe Q under →
      (All (SafePiece Q) y.node.constraints → Safe Q y.successors → T (f y.node y.successors)) → T (any_successor r f under)
  child_in r j f y none s c a t = c
  child_in r j f y (successor q n under next) s (inl c) a t =
      let b = t (subst (λ (z : Node). All (SafePiece Q) z.constraints) (sym c.2) a.0) (subst (Safe Q) (sym c.3) a.1) in
      or_left (eqb r q && f n under) (any_successor r f next)
      (and_T (eqb r q) (f n under) (eqb_of r q c.0) (subst (λ (z : Successors). T (f n z)) c.3 (subst (λ (z : Node). T (f z y.successors)) c.2 b)))
  child_in r j f y (successor q n under next) s (inr c) a t = or_right (eqb r q && f n under) (any_successor r f next) (child_in r j f y next (suc s + size under) c a.2 t)

  -- a value inside lo..hi is the value of a piece inside lo..hi
  piece_in : (f lo hi v : ℕ) (s : Constraint) → lo ∈ flat_map (ends f) Q → hi ∈ flat_map (ends f) Q → Within lo hi v → SafePiece Q s → (f ≡ s.feature) × (v ≡ value_of s) → T (includes f lo hi s)
  piece_in f lo hi v s l u w a e =
      let x = a.1 lo (subst (λ (g : ℕ). lo ∈ flat_map (ends g) Q) e.0 l) in
      let y = a.1 hi (subst (λ (g : ℕ). hi ∈ flat_map (ends g) Q) e.0 u) in
      and_T (eqb f s.feature) (is_inside lo hi s.lo s.hi) (eqb_of f s.feature e.0)
      (unparted_inside s lo hi v x y w (subst (λ (k : ℕ). Within s.lo s.hi k) (sym e.1) (value_within_lem s a.0)))

  subsumed_at : (q : Chain) → EndsIn Q q → (i : ℕ) → All (SafePiece Q) (h i).node.constraints → Safe Q (h i).successors → Holds (stands m F) q i →
      T (subsumed K q (h i).node (h i).successors)
  subsumed_at end k i a b t = tt
  subsumed_at (class c next) k i a b t =
      and_T (any (λ d. is_below K d c) (h i).node.classes) (subsumed K next (h i).node (h i).successors)
      (any_in (λ d. is_below K d c) (all_at true-there t.0)) (subsumed_at next k i a b t.1)
  subsumed_at (impossible next) k i a b t = t
  subsumed_at (some r child next) k i a b t =
      let v = t.0 in
      and_T (any_successor r (subsumed K child) (h i).successors) (subsumed K next (h i).node (h i).successors)
      (child_in r v.0 (subsumed K child) (h v.0) (h i).successors (h i).start (all_at true-there v.1) b
      (λ c d. subsumed_at child (λ f e o. k f e (any_left (ends f next) o)) v.0 c d v.2))
      (subsumed_at next (λ f e o. k f e (any_right (ends f child) o)) i a b t.1)
  subsumed_at (interval f lo hi next) k i a b t =
      let v = t.0 in
      let g = front Q f lo hi next k in
      and_T (any (includes f lo hi) (h i).node.constraints) (subsumed K next (h i).node (h i).successors)
      (any_in (includes f lo hi) (any_mono (λ s e. piece_in f lo hi v.0 s g.0 g.1 v.2 e.0 e.1) (any_both a (all_at true-there v.1))))
      (subsumed_at next g.2 i a b t.1)

-- from the canonical model to Algorithm 1
pub subsumed_complete : (K : Vocabulary) (Q : Policy) (t u : Form) → Consistent K u → PickedForm Q t u → (q : Chain) → q ∈ Q →
    Holds (stands (individuals u) (canonical_model K u)) q 1 → T (subsumed K q u.node u.successors)
subsumed_complete K Q t u r p q m h =
    let w = places K u r in
    let safe = parts_safe p.node.constraints in
    let e = w.1 in
    subst (λ (x : Place K). T (subsumed K q x.node x.successors)) e
    (subsumed_at K Q (individuals u) (canonical_model K u) w.0 w.2 q (ends_in m) 1
    (subst (λ (x : Place K). All (SafePiece Q) x.node.constraints) (sym e) safe) (subst (λ (x : Place K). Safe Q x.successors) (sym e) (picked_safe p.successors)) h)

-- a form with no empty constraint is a combination of itself against no policy
self_parts : {l : List Constraint} → AllNonEmpty l → Parts [] l l
self_parts nil = no_parts
self_parts (cons {x = s} h k) = parts {s = s} {p = s} (record { inside = record { same = refl; inside = is_inside_refl s.lo s.hi; non_empty = h }; safe = λ e m. absurd (any_none m) }) (self_parts k)

self_node : (K : Vocabulary) (n : Node) → T (clean_node K n) → PickedNode [] n n
self_node K n t = record { classes = refl; constraints = self_parts (clean_non_empty K n t) }

self_picked : (K : Vocabulary) (under : Successors) → T (clean_successors K under) → Picked [] under under
self_picked K none t = none_picked
self_picked K (successor r n under next) t =
    let a = T_and (clean_node K n) _ t in
    let b = T_and (clean_successors K under) _ a.1 in
    picked (self_node K n a.0) (self_picked K under b.0) (self_picked K next b.1)

-- Lemma 3: on a combination Algorithm 1 answers yes exactly where the canonical model has individual 1 in the term
pub lemma3 : (K : Vocabulary) → Bounded K → (Q : Policy) (t u : Form) → Consistent K u → PickedForm Q t u → (q : Chain) → q ∈ Q →
    T (subsumed K q u.node u.successors) ↔ Holds (stands (individuals u) (canonical_model K u)) q 1
lemma3 K w Q t u r p q m = (
  λ s. subsumed_sound (stands (individuals u) (canonical_model K u)) K (satisfied K w u r) q u.node u.successors 1 s itself.node itself.successors,
  subsumed_complete K Q t u r p q m,
)
  where
    itself : HoldsForm (stands (individuals u) (canonical_model K u)) u 1
    itself = formed K w u r u (record { node = self_node K u.node r.clean; successors = self_picked K u.successors r.clean_successors_lem })
