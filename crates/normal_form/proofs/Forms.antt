-- The whole form: `normalise`.
use Prim.Native.Nat.{◌+◌, ℕ}
use mathlib.Core.Bool.{false, or-false}
use mathlib.Core.List.{List, [], ◌++◌, ◌∷◌, append-nil}
use mathlib.Core.Logic.{inr}
use mathlib.Core.Path.{◌∙◌, ◌≡◌, ap, refl, subst, sym}
use lib.ListN.{get_or, length-append, length-set, set}
use lib.Seq.{get_or-set_same}
use native.Mathlib.Omega.{arith}
use Rattle.frames.proofs.Frames.{only_none, only_set, only_then}
use Rattle.frames.specs.Frames.{Only}
use Rattle.functional.specs.declared.Functional.{Functional}
use Rattle.layout.specs.Places.{InTables, pending_at}
use Rattle.layout.specs.Tables.{Tabled}
use Rattle.layout.specs.declared.Tables.{Tables}
use Rattle.meaning.specs.Accepted.{ChainOf, count}
use Rattle.meaning.specs.Lists.{cons, nil}
use Rattle.meaning.specs.NormalForm.{Successors, has_bottom, none, normal_form, successor}
use Rattle.meaning.specs.Policy.{Chain, child_of, term_at}
use Rattle.meaning.specs.Splitting.{constraints_below}
use Rattle.meaning.specs.Vocabulary.{vocabulary_of}
use Rattle.normal_form.proofs.Groups.{alike, successors_root, unranged}
use Rattle.normal_form.proofs.Joining.{rest_arm, rest_none, sure_cons}
use Rattle.normal_form.proofs.Laws.{in_tables}
use Rattle.normal_form.specs.Parts.{Arm, arm_at}
use Rattle.policy.specs.Terms.{conjuncts_at}
use Rattle.normal_form.specs.Parts.{successors_of}
use Rattle.normal_form.specs.Steps.{Built, Entry, Grown, Room}
use Rattle.normal_form.specs.Steps.{rest_at}
use Rattle.normal_form.specs.Tables.{Fit, Normalised}
use Rattle.preparation.proofs.Laws.{prepared_kept}
use Rattle.preparation.specs.Prepared.{Prepared}

-- ---- the whole form

module _ (p w : List ℕ) (s : ℕ) (fit : Fit p w s) where
  first : get_or (set w pending_at s) pending_at 0 ≡ s
  first = get_or-set_same w pending_at s 0 (omega arith)

  term : conjuncts_at p (child_of p s) ≡ term_at p s
  term = refl

  one_rest : rest_at p (set w pending_at s) pending_at (pending_at + 1) ≡ arm_at p s ∷ []
  one_rest =
      rest_arm p (set w pending_at s) pending_at (pending_at + 1) (omega arith) s fit.here (sym first)
      ∙ ap (λ (l : List Arm). arm_at p s ∷ l) (rest_none p (set w pending_at s) (pending_at + 1) (pending_at + 1) refl)

  pub root_room : Room p (set w pending_at s) pending_at (pending_at + 1) 0 0
  root_room =
      let e = alike one_rest in
      let d : count (conjuncts_at p (child_of p s)) ≡ count (term_at p s) = ap count term in
      let a = fit.few in
      let b = length-set w pending_at s in
      record {
        long = omega arith;
        low = omega arith;
        order = omega arith;
        sure = sure_cons p (set w pending_at s) pending_at (pending_at + 1) (omega arith) (inr (subst (λ (y : ℕ). Entry p y) (sym first) entry)) nil;
        pending = omega arith;
        rows = omega arith;
        constraints = omega arith;
      }
    where
      entry : Entry p s
      entry = record { role = omega arith; good = record { reads = rw term fit.reads; named = rw term fit.named } }

  pub normalised : (f : Functional) {w' : List ℕ} {u : Tables} →
      Built f (rest_at p (set w pending_at s) pending_at (pending_at + 1)) pending_at 0 0 0 false (set w pending_at s) w' u → Normalised f (term_at p s) w w' u
  normalised f {w'} {u} built = record {
    tabled = tabled;
    bottom = b.bottom ∙ or-false (has_bottom (conjuncts_at p (child_of p s))) ∙ ap has_bottom term;
    most =
        let c1 = b in
        let c4 : count (conjuncts_at p (child_of p s)) ≡ count (term_at p s) = ap count term in
        (omega arith, omega arith);
    only = only_then root (in_tables b.only);
  }
    where
      b : Built f (arm_at p s ∷ []) pending_at 0 0 0 false (set w pending_at s) w' u
      b = subst (λ (l : List Arm). Built f l pending_at 0 0 0 false (set w pending_at s) w' u) one_rest built

      root : Only InTables w (set w pending_at s)
      root = only_set pending_at s (record { low = omega arith; high = omega arith }) only_none

      arm : arm_at p s ≡ record { role = 0; child = term_at p s }
      arm = ap (λ (r : ℕ). record { role = r; child = conjuncts_at p (child_of p s) }) fit.nameless ∙ ap (λ (c : Chain). record { role = 0; child = c }) term

      tabled : (v : List ℕ) → Prepared v w f → ChainOf v (term_at p s) → Tabled (vocabulary_of v) (normal_form (vocabulary_of v) (term_at p s)) w' u
      tabled v q n =
          let K = vocabulary_of v in
          let t = normal_form K (term_at p s) in
          let g : Grown K (successor 0 t.node t.successors none) 0 0 0 w' u =
          subst (λ (y : Successors). Grown K y 0 0 0 w' u) (ap (λ (a : Arm). successors_of K (a ∷ [])) arm ∙ successors_root K (term_at p s) (unranged q))
          (b.grown v (prepared_kept root q) (cons (omega arith, rw term n) nil)) in
          let c6 = length-append t.node.constraints (constraints_below t.successors ++ []) in
          let c7 = length-append (constraints_below t.successors) [] in
          let c8 = length-append t.node.constraints (constraints_below t.successors) in
          record { count = omega arith; top = omega arith; rows = g.rows; held = rw append-nil at g.held }
