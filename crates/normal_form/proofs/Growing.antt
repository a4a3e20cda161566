-- An individual in the tables, followed by those below it and by those of the roles that are pending still.
use Prim.Native.Nat.{◌+◌, ◌-◌, ◌<◌, ◌≤◌, suc, ℕ}
use mathlib.Core.Bool.{Bool, ◌||◌, or_assoc}
use mathlib.Core.List.{List, [], ◌++◌, ◌∷◌}
use mathlib.Core.Logic.{inl}
use mathlib.Core.Path.{◌∙◌, ◌≡◌, ap, fun_ext, refl, subst, sym}
use lib.ListN.{length, length-append}
use native.Mathlib.Omega.{arith}
use Rattle.frames.proofs.Frames.{only_then, only_wider}
use Rattle.functional.specs.declared.Functional.{Functional}
use Rattle.layout.proofs.Entries.{constraints_append, constraints_kept, held_below_length, held_length, row_stays, rows_kept}
use Rattle.layout.specs.Tables.{ConstraintsStand, RowStands, RowsStand, held_below, held_by}
use Rattle.layout.specs.declared.Tables.{Tables}
use Rattle.meaning.specs.Countermodel.{size}
use Rattle.meaning.specs.Limits.{most_records}
use Rattle.meaning.specs.Lists.{All, cons, filter}
use Rattle.meaning.specs.NormalForm.{Node, Successors, has_bottom, successor}
use Rattle.meaning.specs.Policy.{child_of, name_of}
use Rattle.meaning.specs.Splitting.{constraints_below}
use Rattle.meaning.specs.Stated.{ranges}
use Rattle.meaning.specs.Vocabulary.{Vocabulary, vocabulary_of}
use Rattle.normal_form.proofs.Groups.{alike, filter_all, has_bottom_all_filter, has_bottom_all_roles}
use Rattle.normal_form.proofs.Groups.{named_below, successors_cons, told_above}
use Rattle.normal_form.proofs.Joining.{rest_arm, words_same}
use Rattle.normal_form.proofs.Laws.{held_still, in_tables, none_struck, rows_same, word_same, words_eq}
use Rattle.normal_form.specs.Parts.{Arm, arm_at, bottom_here_all, classes_all, has_bottom_all, intervals_all, joins}
use Rattle.policy.specs.Terms.{conjuncts_at}
use Rattle.normal_form.specs.Parts.{live, parts, roles_all, successors_of, weigh, words_at}
use Rattle.normal_form.specs.Steps.{ArmOf, Built, BuiltFrom, Grown, NodedFrom, Room, Waiting}
use Rattle.normal_form.specs.Steps.{Sure, every_at, others_at, rest_at}
use Rattle.normal_form.specs.declared.Draft.{Draft}
use Rattle.preparation.proofs.Laws.{prepared_kept}
use Rattle.preparation.specs.Prepared.{Prepared}
use Rattle.words.specs.Sets.{in_set}
use Rattle.normal_form.proofs.Nodes.{Sums, number, sums}
use Rattle.theory.proofs.Rules.{head, tail}

-- ---- an individual, those below it and those after it

-- what is still to be done: it falls
abbrev pub undone : List ℕ → List ℕ → ℕ → ℕ → ℕ
undone p w j stop = weigh (rest_at p w j stop) + (stop - j)

module _ {f : Functional} {p w : List ℕ} {j k stop i : ℕ} {t : Tables} (wait : Waiting p w j k stop t) {w1 : List ℕ} {g : Draft} (nd : NodedFrom f p j k stop i t w w1 g) where
  abbrev one : ℕ → Bool
  one = in_set f.roles

  abbrev two : ℕ → Bool
  two = in_set f.features

  abbrev room : Room p w j stop t.individuals t.constraints
  room = wait.room

  abbrev less : j < stop
  less = wait.less

  abbrev S : Sums one p w j stop k
  S = sums wait one

  abbrev few : t.individuals < most_records
  few = number wait

  abbrev ev : List Arm
  ev = every_at one p w j stop k

  abbrev ot : List Arm
  ot = others_at one p w j stop k

  wide : g.pending - stop ≡ length (roles_all ev)
  wide = omega (arith, nd.pending)

  new_words : words_at w1 stop (g.pending - stop) ≡ words_at w1 stop (length (roles_all ev))
  new_words = words_eq w1 {b = stop} refl wide

  new_rest : rest_at p w1 stop g.pending ≡ roles_all ev
  new_rest = ap (live p) new_words ∙ nd.arms

  pub child_room : Room p w1 stop g.pending (t.individuals + 1) g.constraints
  child_room =
      let a = S in
      let n = alike new_rest in
      record {
        long = omega arith;
        low = omega arith;
        order = omega arith;
        sure = subst (λ (l : List ℕ). Sure p l) (sym new_words) nd.sure;
        pending = omega arith;
        rows = omega arith;
        constraints = omega arith;
      }

  pub child_falls : undone p w1 stop g.pending < undone p w j stop
  child_falls =
      let a = S in
      let n = alike new_rest in
      omega (arith, wide)

  module _ {w2 : List ℕ} {u : Tables} (ch : Built f (rest_at p w1 stop g.pending) stop (t.individuals + 1) (t.individuals + 1) g.constraints g.impossible w1 w2 u) where
    old_words : words_at w2 (j + 1) (stop - (j + 1)) ≡ words_at w1 (j + 1) (stop - (j + 1))
    old_words = words_same w1 w2 (j + 1) stop (λ h a b. word_same ch.only h (inl b) b)

    old_rest : rest_at p w2 (j + 1) stop ≡ ot
    old_rest = ap (live p) old_words ∙ nd.left

    pub next_room : Room p w2 (j + 1) stop u.individuals u.constraints
    next_room =
        let a = S in
        let n = alike new_rest in
        let m = alike old_rest in
        record {
          long = omega arith;
          low = omega arith;
          order = omega arith;
          sure = subst (λ (l : List ℕ). Sure p l) (sym old_words) nd.left_sure;
          pending = omega arith;
          rows = omega arith;
          constraints = omega arith;
        }

    room_most : u.individuals ≤ most_records
    room_most = let a = next_room.rows in omega arith

    pub next_fewer : undone p w2 (j + 1) stop ≤ undone p w j stop
    next_fewer =
        let a = S in
        let m = alike old_rest in
        omega arith

    module _ {w3 : List ℕ} {u3 : Tables} (nx : BuiltFrom f p (j + 1) stop i u w2 w3 u3) where
      module _ (v : List ℕ) (q : Prepared v w f) (named : All (ArmOf v) (arm_at p k ∷ rest_at p w (j + 1) stop)) where
        abbrev K : Vocabulary
        K = vocabulary_of v

        mine : All (ArmOf v) ev
        mine = cons (head named) (filter_all (joins one (name_of p k)) (tail named))

        under : Successors
        under = successors_of K (roles_all ev)

        next : Successors
        next = successors_of K ot

        me : Node
        me = record { classes = classes_all ev (ranges K (name_of p k)); constraints = intervals_all two ev [] }

        prepared1 : Prepared v w1 f
        prepared1 = prepared_kept (in_tables nd.only) q

        below : Grown K under (t.individuals + 1) (t.individuals + 1) g.constraints w2 u
        unfolding under
        below = subst (λ (l : List Arm). All (ArmOf v) l → Grown K (successors_of K l) (t.individuals + 1) (t.individuals + 1) g.constraints w2 u) new_rest (ch.grown v prepared1) (named_below v ev mine)

        behind : Grown K next i u.individuals u.constraints w3 u3
        unfolding next
        behind =
            subst (λ (l : List Arm). All (ArmOf v) l → Grown K (successors_of K l) i u.individuals u.constraints w3 u3) old_rest
            (nx.grown v (prepared_kept (in_tables ch.only) prepared1)) (filter_all (parts one (name_of p k)) (tail named))

        -- where they stand
        after : suc t.individuals ≡ t.individuals + 1
        after = omega arith

        then : u.individuals ≡ suc t.individuals + size under
        then = let a = below.count in omega arith

        row_me : RowStands K w1 t.individuals i (name_of p k) me.classes
        unfolding me
        row_me = record { parent = nd.parent; role = nd.role; classes = told_above q room.long ev (name_of p k) _ (head named).0 mine nd.classes }

        rows_all : RowsStand K w3 (successor (name_of p k) me under next) i t.individuals
        rows_all = (
          row_stays K w1 w3 (nx.only.size ∙ ch.only.size) t.individuals i (name_of p k) me.classes
              (λ h a b. let f = few in rows_same nx.only h (omega arith) (let c = then in omega arith) (omega arith) ∙ rows_same ch.only h (omega arith) (omega arith) (omega arith)) row_me,
          rows_kept K w2 w3 nx.only.size under (suc t.individuals) (suc t.individuals)
              (λ h a b. let c = then in let d = room_most in rows_same nx.only h (omega arith) (omega arith) (omega arith))
              (subst (λ (y : ℕ). RowsStand K w2 under y y) (sym after) below.rows),
          subst (λ (y : ℕ). RowsStand K w3 next i y) then behind.rows,
        )

        mid : u.constraints ≡ t.constraints + length me.constraints + length (constraints_below under)
        unfolding me
        mid = let a = below.top in omega arith

        me_held : ConstraintsStand w1 t.constraints (held_by (t.individuals + 1) me.constraints)
        unfolding me
        me_held = nd.constraints

        held_all : ConstraintsStand w3 t.constraints (held_below (successor (name_of p k) me under next) (t.individuals + 1))
        held_all =
            let a = held_length (t.individuals + 1) me.constraints in
            let b = held_below_length under (suc (t.individuals + 1)) in
            let c = mid in
            let d : t.individuals + 1 + 1 ≡ suc (t.individuals + 1) = omega arith in
            let e : u.individuals + 1 ≡ suc (t.individuals + 1) + size under = let h = then in omega arith in
            constraints_append w3 t.constraints (held_by (t.individuals + 1) me.constraints) (held_below under (suc (t.individuals + 1)) ++ held_below next (suc (t.individuals + 1) + size under))
            mine_held
            (constraints_append w3 (t.constraints + length (held_by (t.individuals + 1) me.constraints)) (held_below under (suc (t.individuals + 1))) (held_below next (suc (t.individuals + 1) + size under))
            (subst (λ (y : ℕ). ConstraintsStand w3 y (held_below under (suc (t.individuals + 1)))) (let v = nd_top in omega arith)
            (constraints_kept w2 w3 g.constraints (held_below under (suc (t.individuals + 1))) (λ h o l. let v = nd_top in held_still nx.only h (omega arith) (omega arith))
            (subst (λ (y : ℕ). ConstraintsStand w2 g.constraints (held_below under y)) d below.held)))
            (subst (λ (y : ℕ). ConstraintsStand w3 y (held_below next (suc (t.individuals + 1) + size under))) (omega arith)
            (subst (λ (y : ℕ). ConstraintsStand w3 u.constraints (held_below next y)) e behind.held)))
          where
            nd_top : g.constraints ≡ t.constraints + length me.constraints
            nd_top = let a = below.top in let b = mid in omega arith

            mine_held : ConstraintsStand w3 t.constraints (held_by (t.individuals + 1) me.constraints)
            mine_held =
                let a = held_length (t.individuals + 1) me.constraints in
                let b = nd_top in
                let c = mid in
                constraints_kept w1 w3 t.constraints (held_by (t.individuals + 1) me.constraints)
                (λ h o l. held_still nx.only h (omega arith) (omega arith) ∙ held_still ch.only h (omega arith) (omega arith)) me_held

        together : Grown K (successor (name_of p k) me under next) i t.individuals t.constraints w3 u3
        together =
            let a1 = then in
            let a2 = behind in
            let a3 = mid in
            let a5 = length-append me.constraints (constraints_below under ++ constraints_below next) in
            let a6 = length-append (constraints_below under) (constraints_below next) in
            record { count = omega arith; top = omega arith; rows = rows_all; held = held_all }

        node_grown : Grown K (successors_of K (arm_at p k ∷ rest_at p w (j + 1) stop)) i t.individuals t.constraints w3 u3
        unfolding me under next
        node_grown =
            subst (λ (y : Successors). Grown K y i t.individuals t.constraints w3 u3)
            (sym (successors_cons K (fun_ext q.functional.role) (fun_ext q.functional.feature) (arm_at p k) (rest_at p w (j + 1) stop))) together

      bars_all : u3.impossible ≡ t.impossible || has_bottom_all (arm_at p k ∷ rest_at p w (j + 1) stop)
      bars_all =
          nx.bottom ∙ ap (λ (y : Bool). y || has_bottom_all (rest_at p w2 (j + 1) stop)) ch.bottom
          ∙ ap (λ (l : List Arm). (g.impossible || has_bottom_all (rest_at p w1 stop g.pending)) || has_bottom_all l) old_rest
          ∙ ap (λ (l : List Arm). (g.impossible || has_bottom_all l) || has_bottom_all ot) new_rest
          ∙ ap (λ (y : Bool). (y || has_bottom_all (roles_all ev)) || has_bottom_all ot) nd.bottom
          ∙ ap (λ (y : Bool). y || has_bottom_all ot) (or_assoc t.impossible (bottom_here_all ev) (has_bottom_all (roles_all ev)))
          ∙ ap (λ (y : Bool). (t.impossible || y) || has_bottom_all ot) (sym (has_bottom_all_roles ev))
          ∙ or_assoc t.impossible (has_bottom_all ev) (has_bottom_all ot)
          ∙ ap (λ (y : Bool). t.impossible || y) (or_assoc (has_bottom (conjuncts_at p (child_of p k))) (has_bottom_all (filter (joins one (name_of p k)) (rest_at p w (j + 1) stop))) (has_bottom_all ot))
          ∙ ap (λ (y : Bool). t.impossible || (has_bottom (conjuncts_at p (child_of p k)) || y)) (sym (has_bottom_all_filter (joins one (name_of p k)) (rest_at p w (j + 1) stop)))

      pub node_built : BuiltFrom f p j stop i t w w3 u3
      node_built =
          let a = S in
          let n = alike new_rest in
          let m = alike old_rest in
          subst (λ (l : List Arm). Built f l j i t.individuals t.constraints t.impossible w w3 u3) (sym (rest_arm p w j stop less k wait.some wait.here)) (record {
            grown = λ v q h. node_grown v q h;
            more = (omega arith, omega arith);
            few = omega arith;
            fewer = omega arith;
            bottom = bars_all;
            only =
                let l = less in
                only_then nd.only (only_then
                (only_wider (none_struck (omega arith) (omega arith) (omega arith)) ch.only)
                (only_wider (none_struck (omega arith) (omega arith) (omega arith)) nx.only));
          })
