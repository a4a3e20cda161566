-- The model check says what is true of the interpretation that the facts stand for: who is in a term, and what is obeyed.
use Prim.Native.Nat.{ℕ}
use mathlib.Core.Bool.{Bool, ◌&&◌, ◌||◌, not}
use mathlib.Core.List.{List}
use mathlib.Core.Logic.{◌↔◌}
use mathlib.Core.Path.{◌≡◌, ap₂, refl, subst, sym}
use lib.Dec.{T, T_not, eqb, eqb_refl, eqb→eq, not_T}
use Rattle.meaning.specs.Interpretation.{Holds, In, Obeys, Satisfies}
use Rattle.meaning.specs.Intervals.{Within, is_within}
use Rattle.meaning.specs.Lists.{◌∈◌, all, any}
use Rattle.meaning.specs.Model.{Fact, edge, member, stands, value}
use Rattle.meaning.specs.ModelCheck.{has_within, holds, is_in, is_member, is_model, obeys, on_edge, on_member, on_value, reaches}
use Rattle.meaning.specs.ModelCheck.{refutes}
use Rattle.meaning.specs.Policy.{Chain, Policy, class, end, impossible, interval, some}
use Rattle.meaning.specs.Vocabulary.{Axiom, Vocabulary, below, disjoint, functional_feature, functional_role, many_feature, many_role}
use Rattle.meaning.specs.Vocabulary.{range, stated}
use Rattle.theory.proofs.Intervals.{is_within_iff}
use Rattle.theory.proofs.Rules.{T_and, all_at, all_in, all_mono, all_of, all_out, and_T, any_at, any_in, any_mono, any_out}
use Rattle.theory.proofs.Rules.{eqb_of, imp_in, imp_out}

pub member_is : (a i : ℕ) (x : Fact) → T (is_member a i x) → member a i ≡ x
member_is a i (member b j) t = let u = T_and (eqb a b) (eqb i j) t in ap₂ member (eqb→eq a b u.0) (eqb→eq i j u.1)
member_is a i (edge r j k) t = absurd t
member_is a i (value f j v) t = absurd t

pub is_member_lem : (a i : ℕ) (x : Fact) → member a i ≡ x → T (is_member a i x)
is_member_lem a i x e = subst (λ y. T (is_member a i y)) e (and_T (eqb a a) (eqb i i) (eqb_refl a) (eqb_refl i))

pub edge_is : (r i : ℕ) (p : ℕ → Bool) (x : Fact) → T (reaches r i p x) → (e : ℕ) × (edge r i e ≡ x) × T (p e)
edge_is r i p (member b j) t = absurd t
edge_is r i p (edge s j k) t =
    let u = T_and (eqb r s && eqb i j) (p k) t in
    let w = T_and (eqb r s) (eqb i j) u.0 in
    (k, ap₂ (λ x y. edge x y k) (eqb→eq r s w.0) (eqb→eq i j w.1), u.1)
edge_is r i p (value f j v) t = absurd t

pub is_edge : (r i : ℕ) (p : ℕ → Bool) (e : ℕ) → T (p e) → (x : Fact) → edge r i e ≡ x → T (reaches r i p x)
is_edge r i p e t x q = subst (λ y. T (reaches r i p y)) q (and_T (eqb r r && eqb i i) (p e) (and_T (eqb r r) (eqb i i) (eqb_refl r) (eqb_refl i)) t)

pub value_is : (f i lo hi : ℕ) (x : Fact) → T (has_within f i lo hi x) → (v : ℕ) × (value f i v ≡ x) × Within lo hi v
value_is f i lo hi (member b j) t = absurd t
value_is f i lo hi (edge s j k) t = absurd t
value_is f i lo hi (value g j v) t =
    let u = T_and (eqb f g && eqb i j) (is_within lo hi v) t in
    let w = T_and (eqb f g) (eqb i j) u.0 in
    (v, ap₂ (λ x y. value x y v) (eqb→eq f g w.0) (eqb→eq i j w.1), (is_within_iff lo hi v).0 u.1)

pub is_value : (f i lo hi v : ℕ) → Within lo hi v → (x : Fact) → value f i v ≡ x → T (has_within f i lo hi x)
is_value f i lo hi v h x q =
    subst (λ y. T (has_within f i lo hi y)) q
    (and_T (eqb f f && eqb i i) _ (and_T (eqb f f) (eqb i i) (eqb_refl f) (eqb_refl i)) ((is_within_iff lo hi v).1 h))

pub holds_out : (n : ℕ) (F : List Fact) (q : Chain) (i : ℕ) → T (holds F q i) → Holds (stands n F) q i
holds_out n F end i t = tt
holds_out n F (class c next) i t =
    let u = T_and (any (is_member c i) F) _ t in
    (any_mono (λ x m. member_is c i x m) (any_out (is_member c i) F u.0), holds_out n F next i u.1)
holds_out n F (impossible next) i t = t
holds_out n F (some r child next) i t =
    let u = T_and (any (reaches r i (holds F child)) F) _ t in
    let a = any_at (any_out (reaches r i (holds F child)) F u.0) in
    let b = edge_is r i (holds F child) a.0 a.2 in
    ((b.0, subst (λ x. x ∈ F) (sym b.1) a.1, holds_out n F child b.0 b.2), holds_out n F next i u.1)
holds_out n F (interval f lo hi next) i t =
    let u = T_and (any (has_within f i lo hi) F) _ t in
    let a = any_at (any_out (has_within f i lo hi) F u.0) in
    let b = value_is f i lo hi a.0 a.2 in
    ((b.0, subst (λ x. x ∈ F) (sym b.1) a.1, b.2), holds_out n F next i u.1)

pub holds_in : (n : ℕ) (F : List Fact) (q : Chain) (i : ℕ) → Holds (stands n F) q i → T (holds F q i)
holds_in n F end i h = tt
holds_in n F (class c next) i h =
    and_T (any (is_member c i) F) _ (any_in (is_member c i) (any_mono (λ x m. is_member_lem c i x m) h.0)) (holds_in n F next i h.1)
holds_in n F (impossible next) i h = h
holds_in n F (some r child next) i h =
    let v = h.0 in
    and_T (any (reaches r i (holds F child)) F) _
    (any_in (reaches r i (holds F child)) (any_mono (λ x m. is_edge r i (holds F child) v.0 (holds_in n F child v.0 v.2) x m) v.1))
    (holds_in n F next i h.1)
holds_in n F (interval f lo hi next) i h =
    let v = h.0 in
    and_T (any (has_within f i lo hi) F) _ (any_in (has_within f i lo hi) (any_mono (λ x m. is_value f i lo hi v.0 v.2 x m) v.1)) (holds_in n F next i h.1)

module _ (F : List Fact) where
  -- a fact of one kind and name has k
  members : (a : ℕ) (k : ℕ → Bool) → T (all (on_member a k) F) ↔ ((i : ℕ) → member a i ∈ F → T (k i))
  members a k = (λ t i m. imp_out (eqb a a) (k i) (all_at (all_out (on_member a k) F t) m) (eqb_refl a), λ f. all_in (on_member a k) (all_of F (back f)))
    where
      back : ((i : ℕ) → member a i ∈ F → T (k i)) → (x : Fact) → x ∈ F → T (on_member a k x)
      back f (member c i) m = imp_in (eqb a c) (k i) (λ t. f i (subst (λ (z : ℕ). member z i ∈ F) (sym (eqb→eq a c t)) m))
      back f (edge r i j) m = tt
      back f (value g i v) m = tt

  links : (r : ℕ) (k : ℕ → ℕ → Bool) → T (all (on_edge r k) F) ↔ ((i j : ℕ) → edge r i j ∈ F → T (k i j))
  links r k = (λ t i j m. imp_out (eqb r r) (k i j) (all_at (all_out (on_edge r k) F t) m) (eqb_refl r), λ f. all_in (on_edge r k) (all_of F (back f)))
    where
      back : ((i j : ℕ) → edge r i j ∈ F → T (k i j)) → (x : Fact) → x ∈ F → T (on_edge r k x)
      back f (member c i) m = tt
      back f (edge q i j) m = imp_in (eqb r q) (k i j) (λ t. f i j (subst (λ (z : ℕ). edge z i j ∈ F) (sym (eqb→eq r q t)) m))
      back f (value g i v) m = tt

  values : (g : ℕ) (k : ℕ → ℕ → Bool) → T (all (on_value g k) F) ↔ ((i v : ℕ) → value g i v ∈ F → T (k i v))
  values g k = (λ t i v m. imp_out (eqb g g) (k i v) (all_at (all_out (on_value g k) F t) m) (eqb_refl g), λ f. all_in (on_value g k) (all_of F (back f)))
    where
      back : ((i v : ℕ) → value g i v ∈ F → T (k i v)) → (x : Fact) → x ∈ F → T (on_value g k x)
      back f (member c i) m = tt
      back f (edge q i j) m = tt
      back f (value h i v) m = imp_in (eqb g h) (k i v) (λ t. f i v (subst (λ (z : ℕ). value z i v ∈ F) (sym (eqb→eq g h t)) m))

  is_in_lem : (a i : ℕ) → T (any (is_member a i) F) ↔ (member a i ∈ F)
  is_in_lem a i = (λ t. any_mono (λ x m. member_is a i x m) (any_out (is_member a i) F t), λ m. any_in (is_member a i) (any_mono (λ x e. is_member_lem a i x e) m))

  alike : (i j h k : ℕ) → T (not (eqb i h) || eqb j k) ↔ (i ≡ h → j ≡ k)
  alike i j h k = (λ t e. eqb→eq j k (imp_out (eqb i h) (eqb j k) t (eqb_of i h e)), λ f. imp_in (eqb i h) (eqb j k) (λ t. eqb_of j k (f (eqb→eq i h t))))

  pub obeys_iff : (n : ℕ) (x : Axiom) → T (obeys F x) ↔ Obeys (stands n F) x
  obeys_iff n (below a b) = (λ t i m. (is_in_lem b i).0 ((members a _).0 t i m), λ o. (members a _).1 (λ i m. (is_in_lem b i).1 (o i m)))
  obeys_iff n (disjoint a b) =
      (λ t i m k. T_not (any (is_member b i) F) ((members a _).0 t i m) ((is_in_lem b i).1 k), λ o. (members a _).1 (λ i m. not_T (any (is_member b i) F) (λ t. o i m ((is_in_lem b i).0 t))))
  obeys_iff n (functional_role r) = (
    λ t i j k m o. (alike i j i k).0 ((links r _).0 ((links r _).0 t i j m) i k o) refl,
    λ o. (links r _).1 (λ i j m. (links r _).1 (λ h k u. (alike i j h k).1 (λ e. o i j k m (subst (λ (z : ℕ). edge r z k ∈ F) (sym e) u)))),
  )
  obeys_iff n (functional_feature f) = (
    λ t i j k m o. (alike i j i k).0 ((values f _).0 ((values f _).0 t i j m) i k o) refl,
    λ o. (values f _).1 (λ i j m. (values f _).1 (λ h k u. (alike i j h k).1 (λ e. o i j k m (subst (λ (z : ℕ). value f z k ∈ F) (sym e) u)))),
  )
  obeys_iff n (range r c) = (λ t i j m. (is_in_lem c j).0 ((links r _).0 t i j m), λ o. (links r _).1 (λ i j m. (is_in_lem c j).1 (o i j m)))
  obeys_iff n (many_role r) = (λ t. tt, λ o. tt)
  obeys_iff n (many_feature f) = (λ t. tt, λ o. tt)

  pub model_iff : (n : ℕ) (K : Vocabulary) → T (is_model F K) ↔ Satisfies (stands n F) K
  model_iff n K = (
    λ t. record { obeyed = all_mono (λ x u. (obeys_iff n x).0 u) (all_out (obeys F) (stated K) t) },
    λ s. all_in (obeys F) (all_mono (λ x o. (obeys_iff n x).1 o) s.obeyed),
  )

  pub in_iff : (n : ℕ) (P : Policy) (i : ℕ) → T (is_in F P i) ↔ In (stands n F) P i
  in_iff n P i = (λ t. any_mono (λ p u. holds_out n F p i u) (any_out (λ p. holds F p i) P t), λ h. any_in (λ p. holds F p i) (any_mono (λ p u. holds_in n F p i u) h))

  -- demand 2: it satisfies the vocabulary, and individual 1 is in the first policy and outside the second
  pub refutes_iff : (n : ℕ) (K : Vocabulary) (P Q : Policy) →
      T (refutes F K P Q) ↔ (Satisfies (stands n F) K × In (stands n F) P 1 × (In (stands n F) Q 1 → ⊥))
  unfolding refutes
  refutes_iff n K P Q = (
    λ t.
        let a = T_and (is_model F K) (is_in F P 1 && not (is_in F Q 1)) t in
        let b = T_and (is_in F P 1) (not (is_in F Q 1)) a.1 in
        ((model_iff n K).0 a.0, (in_iff n P 1).0 b.0, λ h. T_not (is_in F Q 1) b.1 ((in_iff n Q 1).1 h)),
    λ h.
        and_T (is_model F K) (is_in F P 1 && not (is_in F Q 1)) ((model_iff n K).1 h.0)
        (and_T (is_in F P 1) (not (is_in F Q 1)) ((in_iff n P 1).1 h.1) (not_T (is_in F Q 1) (λ t. h.2 ((in_iff n Q 1).0 t)))),
  )
