-- The conjuncts of a spelling rise strictly, at every depth.
use mathlib.Core.List.{List, [], ◌∷◌, map}
use mathlib.Core.Path.{subst, sym}
use Prim.Native.Nat.{ℕ}
use Rattle.meaning.specs.Intervals.{Constraint}
use Rattle.meaning.specs.Lists.{All, cons, nil}
use Rattle.meaning.specs.NormalForm.{Form, Node, Successors, none, normal_form, successor}
use Rattle.meaning.specs.Policy.{Policy}
use Rattle.meaning.specs.Vocabulary.{Vocabulary}
use Rattle.spelling.proofs.Equal.{term_of}
use Rattle.spelling.proofs.Keys.{key_apart}
use Rattle.spelling.proofs.Members.{conjuncts_put_all}
use Rattle.spelling.proofs.Rising.{sorted_rising, sorted_same}
use Rattle.spelling.specs.Order.{sorted}
use Rattle.spelling.specs.Ordered.{Ordered, OrderedBelow, Rising}
use Rattle.spelling.specs.Spelling.{Conjunct, conjuncts_of, is_in, key, put_all, put_in_order, reaches, roles_of, spelled, spelled_term}
use Rattle.spelling.specs.Spelling.{spelling, stated, within, within_of}
use Rattle.theory.proofs.Rules.{all_append, all_at, all_of, head, tail}

abbrev OrderedOne : Conjunct → Type 0
OrderedOne (is_in a) = Unit {0}
OrderedOne (within f lo hi) = Unit {0}
OrderedOne (reaches r c) = Ordered c

put_all_ordered : (l : List Conjunct) → All OrderedOne l → OrderedBelow (put_all l)
put_all_ordered [] h = tt
put_all_ordered (is_in a ∷ l) h = put_all_ordered l (tail h)
put_all_ordered (within f lo hi ∷ l) h = put_all_ordered l (tail h)
put_all_ordered (reaches r c ∷ l) h = ((head h).0, (head h).1, put_all_ordered l (tail h))

put_in_order_ordered : (l : List Conjunct) → All OrderedOne l → Ordered (put_in_order l)
put_in_order_ordered l h = (
  subst (Rising key) (sym (conjuncts_put_all (sorted key l))) (sorted_rising key key_apart l),
  put_all_ordered (sorted key l) (all_of (sorted key l) (λ x m. all_at h ((sorted_same key key_apart l x).1 m))),
)

stated_ordered : (n : Node) (l : List Conjunct) → All OrderedOne l → All OrderedOne (stated n l)
stated_ordered n l h = all_append (classes n.classes) (all_append (constraints n.constraints) h)
  where
    classes : (cs : List ℕ) → All OrderedOne (map is_in cs)
    classes [] = nil
    classes (c ∷ cs) = cons {x = is_in c} tt (classes cs)

    constraints : (l : List Constraint) → All OrderedOne (map within_of l)
    constraints [] = nil
    constraints (s ∷ l) = cons {x = within_of s} tt (constraints l)

roles_ordered : (ks : Successors) → All OrderedOne (roles_of ks)
roles_ordered none = nil
roles_ordered (successor r n under next) =
    cons {x = reaches r (put_in_order (stated n (roles_of under)))}
    (put_in_order_ordered (stated n (roles_of under)) (stated_ordered n (roles_of under) (roles_ordered under))) (roles_ordered next)

pub form_ordered : (t : Form) → Ordered (spelling t)
unfolding spelling
form_ordered t = put_in_order_ordered (conjuncts_of t) (stated_ordered t.node (roles_of t.successors) (roles_ordered t.successors))

-- each term of a spelling; `spelled_rising` of Respelling says that the terms rise
pub spelled_ordered : (K : Vocabulary) (P : Policy) → All Ordered (spelled K P)
unfolding spelled_term
spelled_ordered K P = all_of (spelled K P) (λ c m. let p = term_of K P c m in subst Ordered (sym p.3) (form_ordered (normal_form K p.0)))
