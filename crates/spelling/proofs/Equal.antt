-- No interpretation tells a policy and its spelling apart.
use Prim.Native.Nat.{ℕ}
use mathlib.Core.List.{List, [], ◌++◌, ◌∷◌, map}
use mathlib.Core.Path.{◌≡◌, subst}
use lib.Dec.{T}
use Rattle.meaning.specs.Containment.{Indistinct}
use Rattle.meaning.specs.Interpretation.{Holds, Interpretation, Satisfies}
use Rattle.meaning.specs.Intervals.{Within}
use Rattle.meaning.specs.Lists.{All, ◌∈◌, cons, filter, nil}
use Rattle.meaning.specs.NormalForm.{Form, Node, Successors, none, normal_form, possible, successor}
use Rattle.meaning.specs.Policy.{Chain, Policy}
use Rattle.meaning.specs.Vocabulary.{Vocabulary}
use Rattle.spelling.proofs.Keys.{key_apart, term_apart}
use Rattle.spelling.proofs.Lists.{in_map, out_filter, out_map}
use Rattle.spelling.proofs.Rising.{sorted_same}
use Rattle.spelling.specs.Order.{sorted}
use Rattle.spelling.specs.Spelling.{Conjunct, conjuncts_of, is_in, key, put_all, put_in_order, reaches, roles_of, spelled, spelled_term}
use Rattle.spelling.specs.Spelling.{spelling, stated, term_key, within, within_of}
use Rattle.theory.proofs.Forms.{HoldsForm, HoldsNode, HoldsSuccessors}
use Rattle.theory.proofs.Rewriting.{holds_possible, normal_in, normal_out}
use Rattle.theory.proofs.Rules.{all_append, all_at, all_fst, all_map, all_of, all_snd, any_at, at_any, head, in_filter, map_all, tail}

-- ---- an individual

module _ (I : Interpretation) where
  abbrev HoldsOne : ℕ → Conjunct → Type 0
  HoldsOne d (is_in a) = I.in_class a d
  HoldsOne d (within f lo hi) = (v : ℕ) × I.has_value f d v × Within lo hi v
  HoldsOne d (reaches r c) = (e : ℕ) × I.by_role r d e × Holds I c e

  put_all_in : (d : ℕ) (l : List Conjunct) → All (HoldsOne d) l → Holds I (put_all l) d
  put_all_in d [] h = tt
  put_all_in d (is_in a ∷ l) h = (head h, put_all_in d l (tail h))
  put_all_in d (within f lo hi ∷ l) h = (head h, put_all_in d l (tail h))
  put_all_in d (reaches r c ∷ l) h = (head h, put_all_in d l (tail h))

  put_all_out : (d : ℕ) (l : List Conjunct) → Holds I (put_all l) d → All (HoldsOne d) l
  put_all_out d [] h = nil
  put_all_out d (is_in a ∷ l) h = cons {x = is_in a} h.0 (put_all_out d l h.1)
  put_all_out d (within f lo hi ∷ l) h = cons {x = within f lo hi} h.0 (put_all_out d l h.1)
  put_all_out d (reaches r c ∷ l) h = cons {x = reaches r c} h.0 (put_all_out d l h.1)

  put_in_order_in : (d : ℕ) (l : List Conjunct) → All (HoldsOne d) l → Holds I (put_in_order l) d
  put_in_order_in d l h = put_all_in d (sorted key l) (all_of (sorted key l) (λ x m. all_at h ((sorted_same key key_apart l x).1 m)))

  put_in_order_out : (d : ℕ) (l : List Conjunct) → Holds I (put_in_order l) d → All (HoldsOne d) l
  put_in_order_out d l h = all_of l (λ x m. all_at (put_all_out d (sorted key l) h) ((sorted_same key key_apart l x).0 m))

  stated_in : (d : ℕ) (n : Node) (l : List Conjunct) → HoldsNode I n d → All (HoldsOne d) l → All (HoldsOne d) (stated n l)
  stated_in d n l h k = all_append (all_map is_in h.classes) (all_append (all_map within_of h.constraints) k)

  stated_out : (d : ℕ) (n : Node) (l : List Conjunct) → All (HoldsOne d) (stated n l) → HoldsNode I n d × All (HoldsOne d) l
  stated_out d n l h =
      let w = all_snd (map is_in n.classes) (map within_of n.constraints ++ l) h in (
        record {
          classes = map_all is_in n.classes (all_fst (map is_in n.classes) (map within_of n.constraints ++ l) h);
          constraints = map_all within_of n.constraints (all_fst (map within_of n.constraints) l w);
        },
        all_snd (map within_of n.constraints) l w,
      )

  roles_in : (ks : Successors) (d : ℕ) → HoldsSuccessors I ks d → All (HoldsOne d) (roles_of ks)
  roles_in none d h = nil
  roles_in (successor r n under next) d h =
      let v = h.0 in
      cons {x = reaches r (put_in_order (stated n (roles_of under)))}
      (v.0, v.1, put_in_order_in v.0 (stated n (roles_of under)) (stated_in v.0 n (roles_of under) v.2 (roles_in under v.0 v.3)))
      (roles_in next d h.1)

  roles_out : (ks : Successors) (d : ℕ) → All (HoldsOne d) (roles_of ks) → HoldsSuccessors I ks d
  roles_out none d h = tt
  roles_out (successor r n under next) d h =
      let v = head h in
      let w = stated_out v.0 n (roles_of under) (put_in_order_out v.0 (stated n (roles_of under)) v.2) in
      ((v.0, v.1, w.0, roles_out under v.0 w.1), roles_out next d (tail h))

  -- a form and its spelling hold of the same individuals
  pub form_in : (t : Form) (d : ℕ) → HoldsForm I t d → Holds I (spelling t) d
  unfolding spelling
  form_in t d h = put_in_order_in d (conjuncts_of t) (stated_in d t.node (roles_of t.successors) h.node (roles_in t.successors d h.successors))

  pub form_out : (t : Form) (d : ℕ) → Holds I (spelling t) d → HoldsForm I t d
  unfolding spelling
  form_out t d h =
      let w = stated_out d t.node (roles_of t.successors) (put_in_order_out d (conjuncts_of t) h) in
      record { node = w.0; successors = roles_out t.successors d w.1 }

  module _ (K : Vocabulary) (s : Satisfies I K) (p : Chain) (d : ℕ) where
    pub term_in : Holds I p d → Holds I (spelled_term K p) d
    unfolding spelled_term
    term_in h = form_in (normal_form K p) d (normal_in I K s p d h)

    pub term_out : T (possible K p) → Holds I (spelled_term K p) d → Holds I p d
    unfolding spelled_term
    term_out t h = normal_out I K p d t (form_out (normal_form K p) d h)

-- ---- a policy

-- the terms of a spelling are the spellings of the possible terms
pub term_of : (K : Vocabulary) (P : Policy) (c : Chain) → c ∈ spelled K P → (p : Chain) × (p ∈ P) × T (possible K p) × (c ≡ spelled_term K p)
unfolding spelled
term_of K P c h =
    let m = out_map (spelled_term K) (filter (possible K) P) ((sorted_same term_key term_apart (map (spelled_term K) (filter (possible K) P)) c).1 h) in
    let w = out_filter (possible K) P m.1 in
    (m.0, w.0, w.1, m.2)

pub of_term : (K : Vocabulary) (P : Policy) (p : Chain) → p ∈ P → T (possible K p) → spelled_term K p ∈ spelled K P
unfolding spelled
of_term K P p m t =
    (sorted_same term_key term_apart (map (spelled_term K) (filter (possible K) P)) (spelled_term K p)).0 (in_map (spelled_term K) (in_filter (possible K) m t))

-- a policy equals its spelling
pub spelling_equal : (K : Vocabulary) (P : Policy) → Indistinct K P (spelled K P)
spelling_equal K P I proper s d i = (
  λ h. let p = any_at h in at_any (of_term K P p.0 p.1 (holds_possible I K s p.0 d p.2)) (term_in I K s p.0 d p.2),
  λ h.
      let c = any_at h in
      let p = term_of K P c.0 c.1 in
      at_any p.1 (term_out I K s p.0 d p.2 (subst (λ (q : Chain). Holds I q d) p.3 c.2)),
)
