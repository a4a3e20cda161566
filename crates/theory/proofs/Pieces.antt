-- Formula (9): where a normal form holds, one of its combinations does.
use Prim.Native.Nat.{ℕ}
use mathlib.Core.List.{List, [], ◌∷◌}
use mathlib.Core.Path.{subst, sym}
use Rattle.meaning.specs.Interpretation.{Interpretation}
use Rattle.meaning.specs.Intervals.{Constraint}
use Rattle.meaning.specs.Lists.{All, Any, cons, here, nil}
use Rattle.meaning.specs.NormalForm.{Form, Node, Successors, none, successor}
use Rattle.meaning.specs.Policy.{Policy}
use Rattle.meaning.specs.Splitting.{choices, combinations, pieces, split_node, split_successors}
use Rattle.theory.proofs.Forms.{Has, HoldsForm, HoldsNode, HoldsSuccessors}
use Rattle.theory.proofs.Points.{pieces_cover}
use Rattle.theory.proofs.Rules.{any_flat_map, any_map, any_mono, head, tail}

pieces_held : (I : Interpretation) (Q : Policy) (d : ℕ) (s : Constraint) → Has I d s → Any (Has I d) (pieces Q s)
pieces_held I Q d s h =
    any_mono (λ p k. (h.0, subst (λ (f : ℕ). I.has_value f d h.0) (sym k.0) h.1, k.1)) (pieces_cover Q s h.0 h.2)

choices_held : (I : Interpretation) (Q : Policy) (d : ℕ) (l : List Constraint) → All (Has I d) l → Any (All (Has I d)) (choices Q l)
choices_held I Q d [] h = here nil
choices_held I Q d (s ∷ l) h =
    any_flat_map _ (any_mono (λ p k. any_map (λ r. p ∷ r) (any_mono (λ r m. cons k m) (choices_held I Q d l (tail h)))) (pieces_held I Q d s (head h)))

node_held : (I : Interpretation) (Q : Policy) (d : ℕ) (n : Node) → HoldsNode I n d → Any (λ m. HoldsNode I m d) (split_node Q n)
node_held I Q d n h = any_map _ (any_mono (λ r k. record { classes = h.classes; constraints = k }) (choices_held I Q d n.constraints h.constraints))

successors_held : (I : Interpretation) (Q : Policy) (d : ℕ) (under : Successors) → HoldsSuccessors I under d → Any (λ m. HoldsSuccessors I m d) (split_successors Q under)
successors_held I Q d none h = here tt
successors_held I Q d (successor r n under next) h =
    let v = h.0 in
    any_flat_map _ (any_mono (λ m a. any_flat_map _ (any_mono (λ bs b. any_map _ (any_mono (λ ns c. ((v.0, v.1, a, b), c))
    (successors_held I Q d next h.1))) (successors_held I Q v.0 under v.3))) (node_held I Q v.0 n v.2))

pub combinations_held : (I : Interpretation) (Q : Policy) (d : ℕ) (t : Form) → HoldsForm I t d → Any (λ u. HoldsForm I u d) (combinations Q t)
unfolding combinations
combinations_held I Q d t h =
    any_flat_map _ (any_mono (λ n a. any_map _ (any_mono (λ ns b. record { node = a; successors = b }) (successors_held I Q d t.successors h.successors)))
    (node_held I Q d t.node h.node))
