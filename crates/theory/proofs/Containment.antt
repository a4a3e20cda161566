-- The main theorem: the decision is "contained" exactly where the first policy is contained in the second; else it names the
-- first term and its first combination that fail, and the canonical model of that combination refutes the containment.
use Prim.Native.Nat.{◌+◌, suc, ℕ}
use mathlib.Core.Bool.{Bool, cond, false, not, true}
use mathlib.Core.List.{[], ◌∷◌}
use mathlib.Core.Path.{◌≡◌, ap, refl, subst}
use lib.Dec.{T, T_not}
use native.Mathlib.Omega.{arith}
use Rattle.meaning.specs.Containment.{Contained, ContainedFinite, Decision, Refutes, contained, decide, decide_from, escapes}
use Rattle.meaning.specs.Containment.{first_failure, or_escape, passes}
use Rattle.meaning.specs.Countermodel.{canonical_model, individuals}
use Rattle.meaning.specs.Interpretation.{Holds, In, Interpretation, Proper, Satisfies}
use Rattle.meaning.specs.Lists.{All, Found, ◌∈◌, cons, first_failing, found, nil, nowhere}
use Rattle.meaning.specs.Model.{stands}
use Rattle.meaning.specs.Normal.{Bounded}
use Rattle.meaning.specs.NormalForm.{Form, clean_node, has_bottom, normal_form, possible}
use Rattle.meaning.specs.Policy.{Chain, Policy}
use Rattle.meaning.specs.Promises.{Complies, First, FirstFailure}
use Rattle.meaning.specs.Records.{Name}
use Rattle.meaning.specs.Splitting.{combinations}
use Rattle.meaning.specs.Subsumption.{subsumed}
use Rattle.meaning.specs.Vocabulary.{Vocabulary}
use Rattle.theory.proofs.Canonical.{formed, model_proper, satisfied}
use Rattle.theory.proofs.First.{Searched, first, never, searched}
use Rattle.theory.proofs.Forms.{HoldsForm}
use Rattle.theory.proofs.Normal.{BoundedChain, normal_form_normal}
use Rattle.theory.proofs.Picks.{PickedForm, Consistent, clean_non_empty_form, combinations_picked, consistent_picked}
use Rattle.theory.proofs.Pieces.{combinations_held}
use Rattle.theory.proofs.Rewriting.{holds_possible, normal_in, normal_out}
use Rattle.theory.proofs.Rules.{T_and, all_any, all_at, all_of, any_at, any_in, any_mono, any_out, at_any, is_true, not_true}
use Rattle.theory.proofs.Subsumption.{subsumed_complete, subsumed_sound}

pub passes_sound : (I : Interpretation) (K : Vocabulary) → Satisfies I K → (Q : Policy) (u : Form) (d : ℕ) → T (passes K Q u) → HoldsForm I u d → In I Q d
unfolding passes
passes_sound I K s Q u d t h =
    any_mono (λ q v. subsumed_sound I K s q u.node u.successors d v h.node h.successors) (any_out (λ q. subsumed K q u.node u.successors) Q t)

pub sound : (K : Vocabulary) (P Q : Policy) → All (Complies K Q) P → Contained K P Q
sound K P Q c I proper s d i h =
    let a = all_any c h in
    let u = all_any (a.1 (holds_possible I K s a.0 d a.2)) (combinations_held I Q d (normal_form K a.0) (normal_in I K s a.0 d a.2)) in
    passes_sound I K s Q u.0 d u.1 u.2

module _ (K : Vocabulary) (w : Bounded K) where
  normal_consistent : (p : Chain) → BoundedChain K.classes p → T (possible K p) → Consistent K (normal_form K p)
  unfolding possible
  normal_consistent p f t =
      let a = T_and (not (has_bottom p)) _ t in
      let b = T_and (clean_node K (normal_form K p).node) _ a.1 in
      record { normal = normal_form_normal (Name K.classes) K w.ranged p f; clean = b.0; clean_successors_lem = b.1 }

  -- Lemma 1 for a combination of a possible term
  pub record Witness (Q : Policy) (p : Chain) (u : Form) : Type 0 where
    pub ready : Consistent K u
    pub picked : PickedForm Q (normal_form K p) u
    pub proper : Proper (stands (individuals u) (canonical_model K u))
    pub satisfies : Satisfies (stands (individuals u) (canonical_model K u)) K
    pub holds : Holds (stands (individuals u) (canonical_model K u)) p 1

  pub witness : (Q : Policy) (p : Chain) → BoundedChain K.classes p → T (possible K p) → (u : Form) → u ∈ combinations Q (normal_form K p) → Witness Q p u
  witness Q p f t u m =
      let r = normal_consistent p f t in
      let k = all_at (combinations_picked Q (normal_form K p) (clean_non_empty_form K (normal_form K p) r.clean r.clean_successors_lem)) m in
      let v = consistent_picked K (normal_form K p) u k r in
      record {
        ready = v;
        picked = k;
        proper = model_proper K u;
        satisfies = satisfied K w u v;
        holds = normal_out (stands (individuals u) (canonical_model K u)) K p 1 t (formed K w u v (normal_form K p) k);
      }

  -- a combination passes where its canonical model has individual 1 in the second policy
  model_passes : (Q : Policy) (p : Chain) (u : Form) → Witness Q p u → In (stands (individuals u) (canonical_model K u)) Q 1 → T (passes K Q u)
  unfolding passes
  model_passes Q p u v h =
      let a = any_at h in
      any_in (λ q. subsumed K q u.node u.successors) (at_any a.1 (subsumed_complete K Q (normal_form K p) u v.ready v.picked a.0 a.1 a.2))

  -- containment in the finite interpretations is enough
  pub complete : (P Q : Policy) → All (BoundedChain K.classes) P → ContainedFinite K P Q → All (Complies K Q) P
  complete P Q f c =
      all_of P (λ p m t. all_of (combinations Q (normal_form K p)) (λ u k.
      let v = witness Q p (all_at f m) t u k in
      model_passes Q p u v (c (individuals u) (canonical_model K u) v.proper v.satisfies 1 (omega arith, omega arith) (at_any m v.holds))))

  -- a combination that fails refutes the containment
  pub refuted : (P Q : Policy) → All (BoundedChain K.classes) P → (p : Chain) → p ∈ P → T (possible K p) → (u : Form) → u ∈ combinations Q (normal_form K p) →
      T (not (passes K Q u)) → Refutes K P Q (individuals u) (canonical_model K u)
  refuted P Q f p m t u k b =
      let v = witness Q p (all_at f m) t u k in
      record {
        proper = v.proper;
        satisfies = v.satisfies;
        within = at_any m v.holds;
        without = λ h. T_not (passes K Q u) b (model_passes Q p u v h);
      }

pub data Decided (K : Vocabulary) (s : ℕ) (P Q : Policy) : Decision → Type 0 where
  all_comply : All (Complies K Q) P → Decided K s P Q contained
  some_fails : {i q : ℕ} {u : Form} → FirstFailure K P Q i q u → Decided K s P Q (escapes (s + i) (suc q) u)

data Judged (K : Vocabulary) (Q : Policy) (p : Chain) : Found Form → Type 0 where
  passing : Complies K Q p → Judged K Q p nowhere
  failing : {q : ℕ} {u : Form} → T (possible K p) → First (passes K Q) (combinations Q (normal_form K p)) q u → Judged K Q p (found (suc q) u)

judged : (K : Vocabulary) (Q : Policy) (p : Chain) → Judged K Q p (first_failure K Q p)
unfolding first_failure
judged K Q p = go (possible K p) refl
  where
    tried : T (possible K p) → (r : Found Form) → Searched (passes K Q) 1 (combinations Q (normal_form K p)) r → Judged K Q p r
    tried t r (never h) = passing (λ u. h)
    tried t r (first {k = k} {x = u} h) = subst (λ (n : ℕ). Judged K Q p (found n u)) (omega arith) (failing t h)

    go : (b : Bool) → possible K p ≡ b → Judged K Q p (cond b (first_failing (passes K Q) 1 (combinations Q (normal_form K p))) nowhere)
    go true e = tried (is_true e) _ (searched (passes K Q) 1 (combinations Q (normal_form K p)))
    go false e = passing (λ t. absurd (not_true e t))

decided_from : (K : Vocabulary) (Q : Policy) (s : ℕ) (P : Policy) → Decided K s P Q (decide_from K Q s P)
decided_from K Q s [] = all_comply nil
decided_from K Q s (p ∷ P) = go (first_failure K Q p) (judged K Q p) (decided_from K Q (suc s) P)
  where
    pass : Complies K Q p → (r : Decision) → Decided K (suc s) P Q r → Decided K s (p ∷ P) Q r
    pass c r (all_comply h) = all_comply (cons c h)
    pass c r (some_fails {i = i} {q = q} {u = u} h) =
        subst (λ (n : ℕ). Decided K s (p ∷ P) Q (escapes n (suc q) u)) (omega arith) (some_fails {i = suc i} (record {
          before = p ∷ h.before;
          term = h.term;
          after = h.after;
          split = ap (λ (z : Policy). p ∷ z) h.split;
          place = ap suc h.place;
          complied = cons c h.complied;
          is_possible = h.is_possible;
          combination = h.combination;
        }))

    go : (r : Found Form) → Judged K Q p r → Decided K (suc s) P Q (decide_from K Q (suc s) P) → Decided K s (p ∷ P) Q (or_escape s r (decide_from K Q (suc s) P))
    go r (passing c) h = pass c (decide_from K Q (suc s) P) h
    go r (failing {q = q} {u = u} t c) h =
        subst (λ (n : ℕ). Decided K s (p ∷ P) Q (escapes n (suc q) u)) (omega arith)
        (some_fails {i = 0} (record { before = []; term = p; after = P; split = refl; place = refl; complied = nil; is_possible = t; combination = c }))

-- the reported s and q are the first to fail, counted from 1
pub decided : (K : Vocabulary) (P Q : Policy) → Decided K 1 P Q (decide K P Q)
unfolding decide
decided K P Q = decided_from K Q 1 P
