-- The pending roles that join one: the ways of `gather`.
use Prim.Native.Nat.{◌+◌, ◌-◌, ◌<◌, ◌≤◌, ℕ}
use mathlib.Core.Bool.{Bool, cond, false, not, true}
use mathlib.Core.List.{List, [], ◌∷◌}
use mathlib.Core.Logic.{◌⊎◌, inl, inr}
use mathlib.Core.Path.{◌∙◌, ◌≡◌, ap, refl, subst, sym}
use lib.Dec.{eqb}
use lib.ListN.{get_or, length, length-append, set}
use lib.Seq.{get_or-set_same}
use native.Mathlib.Omega.{arith}
use borrow.Author.Tests.{eq-eqb, eqb-false, ne_eqb, not-false, not-true}
use Rattle.frames.proofs.Frames.{only_behind, only_none, only_set, only_span, only_then, only_wider}
use Rattle.frames.specs.Frames.{Only, Span}
use Rattle.functional.specs.declared.Functional.{Functional}
use Rattle.layout.proofs.Entries.{constraints_kept}
use Rattle.layout.specs.Tables.{ConstraintsStand, held_by}
use Rattle.meaning.specs.Intervals.{Constraint}
use Rattle.meaning.specs.Lists.{cons, filter}
use Rattle.meaning.specs.Policy.{Chain, child_of}
use Rattle.normal_form.proofs.Adding.{add_none, adds_then, adds_wider}
use Rattle.normal_form.proofs.Laws.{fresh_in, front_kept, none_struck, word_same, words_eq, words_kept, words_next}
use Rattle.normal_form.specs.Parts.{Arm, arm_at, bottom_here, classes_in, interval_count, intervals_in, joins, live, parts}
use Rattle.policy.specs.Terms.{conjuncts_at}
use Rattle.normal_form.specs.Parts.{roles, roles_all, words_at}
use Rattle.normal_form.specs.Steps.{Adding, Adds, Entry, Gathering, Good, HasRoomFor, HasRoomForAll, Gathered, Gatherable, Sure, front, rest_at}
use Rattle.normal_form.specs.Steps.{struck}
use Rattle.normal_form.specs.declared.Draft.{Draft}
use Rattle.theory.proofs.Rules.{head, tail}
use Rattle.words.specs.Sets.{in_set}

-- ---- the pending words

module _ (p w : List ℕ) (j stop : ℕ) where
  pub rest_none : j ≡ stop → rest_at p w j stop ≡ []
  rest_none e = ap (live p) (words_eq w {b = j} {n = stop - j} {n' = 0} refl (omega arith))

  module _ (less : j < stop) where
    pub rest_zero : get_or w j 0 ≡ 0 → rest_at p w j stop ≡ rest_at p w (j + 1) stop
    rest_zero e = ap (live p) (words_next w j stop less) ∙ rw (eq-eqb (get_or w j 0) 0 e)

    pub rest_arm : (k : ℕ) → (k ≡ 0 → ⊥) → k ≡ get_or w j 0 → rest_at p w j stop ≡ arm_at p k ∷ rest_at p w (j + 1) stop
    rest_arm k n e = ap (live p) (words_next w j stop less) ∙ rw (← e, ne_eqb k 0 n)

    sure_split : Sure p (words_at w j (stop - j)) → Sure p (get_or w j 0 ∷ words_at w (j + 1) (stop - (j + 1)))
    sure_split s = subst (λ (l : List ℕ). Sure p l) (words_next w j stop less) s

    pub sure_tail : Sure p (words_at w j (stop - j)) → Sure p (words_at w (j + 1) (stop - (j + 1)))
    sure_tail s = tail (sure_split s)

    pub sure_entry : Sure p (words_at w j (stop - j)) → (k : ℕ) → (k ≡ 0 → ⊥) → k ≡ get_or w j 0 → Entry p k
    sure_entry s k n e = subst (λ (y : ℕ). Entry p y) (sym e) (go (head (sure_split s)))
      where
        go : (get_or w j 0 ≡ 0) ⊎ Entry p (get_or w j 0) → Entry p (get_or w j 0)
        go (inl z) = absurd (n (e ∙ z))
        go (inr h) = h

    pub sure_cons : (get_or w j 0 ≡ 0) ⊎ Entry p (get_or w j 0) → Sure p (words_at w (j + 1) (stop - (j + 1))) → Sure p (words_at w j (stop - j))
    sure_cons h s = subst (λ (l : List ℕ). Sure p l) (sym (words_next w j stop less)) (cons h s)

pub words_same : (w w' : List ℕ) (j stop : ℕ) → ((i : ℕ) → j ≤ i → i < stop → get_or w' i 0 ≡ get_or w i 0) → words_at w' j (stop - j) ≡ words_at w j (stop - j)
words_same w w' j stop f = words_kept w w' j (stop - j) (λ i a b. f i a (omega arith))

-- ---- those of them that join role r

lower : {p : List ℕ} {x j e m : ℕ} {fc : List ℕ → List ℕ} {rs : List Arm} {fs : List Constraint → List Constraint} {ns : ℕ} {b : Bool} {u u' : List ℕ} {h h' : Draft} →
    Adds p x (j + 1) e m fc rs fs ns b u u' h h' → Adds p x j e m fc rs fs ns b u u' h h'
lower s = adds_wider (fresh_in (λ i z. inl (record { low = omega (arith, z.low); high = z.high })) (omega arith) (omega arith) (omega arith)) s

-- a word that is struck out, as b tells, or whose arm is not of the role stays as it is
module _ (one : ℕ → Bool) (r : ℕ) (a : Arm) (l : List Arm) where
  passed : (b : Bool) → (b ≡ false → joins one r a ≡ false) → filter (joins one r) (cond b l (a ∷ l)) ≡ filter (joins one r) l
  passed true n = refl
  passed false n = rw (n refl)

  kept : (b : Bool) → (b ≡ false → joins one r a ≡ false) →
      cond b (filter (parts one r) l) (a ∷ filter (parts one r) l) ≡ filter (parts one r) (cond b l (a ∷ l))
  kept true n = refl
  kept false n = rw (n refl)

  lighter : (b : Bool) {m : ℕ} {w : List ℕ} {g : Draft} → HasRoomForAll w m g (cond b l (a ∷ l)) → HasRoomForAll w m g l
  lighter true d = d
  lighter false d =
      let e = length-append (roles a.child) (roles_all l) in
      let n = d.pending in
      let c = d.constraints in
      record { long = d.long; low = d.low; pending = omega arith; first = d.first; constraints = omega arith }

-- those before i have been gathered: what is gathered from there on is gathered from j on
pub record Going (f : Functional) (p : List ℕ) (r j stop x m : ℕ) (w₀ : List ℕ) (g₀ : Draft) (w : List ℕ) (g : Draft) (i : ℕ) : Type 0 where
  pub can : Gatherable p w i stop m g
  pub size : length w ≡ length w₀
  pub whole : {w' : List ℕ} {g' : Draft} → Gathered f p r i stop x m w w' g g' → Gathered f p r j stop x m w₀ w' g₀ g'

pub gather_starts : {f : Functional} {p : List ℕ} {r j stop x m : ℕ} {w : List ℕ} {g : Draft} → Gatherable p w j stop m g → Going f p r j stop x m w g w g j
gather_starts h = record { can = h; size = refl; whole = λ t. t }

module _ {f : Functional} {p : List ℕ} {r j stop x m : ℕ} {w₀ : List ℕ} {g₀ : Draft} {w : List ℕ} {g : Draft} {i : ℕ} (s : Going f p r j stop x m w₀ g₀ w g i) where
  -- the functional roles, and the functional features
  abbrev one : ℕ → Bool
  one = in_set f.roles

  abbrev two : ℕ → Bool
  two = in_set f.features

  abbrev can : Gatherable p w i stop m g
  can = s.can

  pub gather_ends : stop ≤ i → Gathered f p r j stop x m w₀ w g₀ g
  gather_ends h =
      let e : i ≡ stop = omega (arith, can.order) in
      let n = rest_none p w i stop e in
      s.whole (record {
        added = subst (λ (l : List Arm). Gathering two p x i stop m (filter (joins one r) l) w w g g) (sym n) (add_none p x m w g i stop);
        left = n ∙ sym (ap (filter (parts one r)) n);
        sure = can.sure;
      })

  -- the word at i
  module _ (less : i < stop) where
    abbrev k : ℕ
    k = get_or w i 0

    rest : (u : List ℕ) → get_or u i 0 ≡ k → rest_at p u i stop ≡ cond (eqb k 0) (rest_at p u (i + 1) stop) (arm_at p k ∷ rest_at p u (i + 1) stop)
    rest u e = ap (live p) (words_next u i stop less) ∙ rw e

    stay : (eqb k 0 ≡ false → joins one r (arm_at p k) ≡ false) → Going f p r j stop x m w₀ g₀ w g (i + 1)
    stay n = record {
      can = record {
        order = omega arith;
        high = can.high;
        low = omega (arith, can.low);
        sure = sure_tail p w i stop less can.sure;
        room = lighter one r (arm_at p k) (rest_at p w (i + 1) stop) (eqb k 0) (rw (rest w refl) at can.room);
      };
      size = s.size;
      whole = λ t. s.whole (go t);
    }
      where
        go : {w' : List ℕ} {g' : Draft} → Gathered f p r (i + 1) stop x m w w' g g' → Gathered f p r i stop x m w w' g g'
        go {w'} {g'} t =
            let e : get_or w' i 0 ≡ k = word_same t.added.only i (inl (omega arith)) (omega (arith, can.high)) in
            record {
              added = subst (λ (l : List Arm). Gathering two p x i stop m l w w' g g')
                  (sym (ap (filter (joins one r)) (rest w refl) ∙ passed one r (arm_at p k) (rest_at p w (i + 1) stop) (eqb k 0) n)) (lower t.added);
              left = rest w' e ∙ rw t.left (kept one r (arm_at p k) (rest_at p w (i + 1) stop) (eqb k 0) n) ∙ sym (ap (filter (parts one r)) (rest w refl));
              sure = sure_cons p w' i stop less (rw e (head (sure_split p w i stop less can.sure))) t.sure;
            }

    pub gather_skip : k ≡ 0 → Going f p r j stop x m w₀ g₀ w g (i + 1)
    gather_skip z = stay (λ e. absurd (eqb-false k 0 e z))

    module _ {b : Bool} (eb : b ≡ joins one r (arm_at p k)) where
      pub gather_pass : not b ≡ true → Going f p r j stop x m w₀ g₀ w g (i + 1)
      gather_pass n = stay (λ e. sym eb ∙ not-true b n)

      -- of the role: u is the words with it struck out
      module _ (nk : k ≡ 0 → ⊥) (yes : not b ≡ false) {y : ℕ} (ey : y ≡ child_of p k) where
        abbrev u : List ℕ
        u = set w i 0

        joined : joins one r (arm_at p k) ≡ true
        joined = sym eb ∙ not-false b yes

        arm : rest_at p w i stop ≡ arm_at p k ∷ rest_at p w (i + 1) stop
        arm = rest_arm p w i stop less k nk refl

        -- room for record k's chain and for the others
        room : HasRoomForAll w m g (arm_at p k ∷ rest_at p w (i + 1) stop)
        room = rw arm at can.room

        entry : Entry p k
        entry = sure_entry p w i stop less can.sure k nk refl

        pub take_good : Good p y
        take_good = rw ey entry.good

        pub take_room : {v : List ℕ} → length v ≡ length w → HasRoomFor v m g (conjuncts_at p y)
        take_room n =
            let e = length-append (roles (conjuncts_at p (child_of p k))) (roles_all (rest_at p w (i + 1) stop)) in
            let a = room in
            rw ey (record { long = omega arith; low = room.low; pending = omega arith; first = room.first; constraints = omega arith })

        u_only : Only (Span i (i + 1)) w u
        u_only = only_set i 0 (record { low = omega arith; high = omega arith }) only_none

        -- v is the words after its chain, h what it has given
        module _ {v : List ℕ} {h : Draft} (c : Adding two p x m (conjuncts_at p y) u v g h) where
          c' : Adding two p x m (conjuncts_at p (child_of p k)) u v g h
          c' = subst (λ (i : ℕ). Adding two p x m (conjuncts_at p i) u v g h) ey c

          v_words : words_at v (i + 1) (stop - (i + 1)) ≡ words_at w (i + 1) (stop - (i + 1))
          v_words = let q = can.high in words_same w v (i + 1) stop (λ j a b. word_same c.only j (inr (omega arith)) (omega arith) ∙ only_behind u_only j (omega arith))

          v_rest : rest_at p v (i + 1) stop ≡ rest_at p w (i + 1) stop
          v_rest = ap (live p) v_words

          abbrev given : Chain
          given = conjuncts_at p (child_of p k)

          struck_chain : Adds p x i stop m (classes_in given) (roles given) (intervals_in two given) (interval_count given) (bottom_here given) w v g h
          struck_chain =
              let n = room.pending in
              let z : front u ≡ front w = front_kept (only_span u_only (omega arith) (omega arith)) in
              let onto : (l : List Constraint) → ConstraintsStand w m (held_by x l) → ConstraintsStand u m (held_by x l) =
              (λ l t. constraints_kept w u m (held_by x l) (λ j a b. only_behind u_only j (omega arith)) t) in
              record {
                classes = λ t cs q. rw z at (c'.classes t cs (rw z q));
                pending = c'.pending;
                arms = c'.arms;
                sure = c'.sure;
                top = λ l q t. c'.top l q (onto l t);
                constraints = λ l q t. c'.constraints l q (onto l t);
                few = c'.few;
                first = c'.first;
                bottom = c'.bottom;
                only = only_then
                    (only_wider (λ j z. struck (record { low = omega (arith, z.low); high = omega (arith, z.high) }) (record { low = z.low; high = omega (arith, z.high) })) u_only)
                    (only_wider (none_struck (omega arith) (omega arith) (omega arith)) c'.only);
              }

          go : {w' : List ℕ} {g' : Draft} → Gathered f p r (i + 1) stop x m v w' h g' → Gathered f p r i stop x m w w' g g'
          go {w'} {g'} t =
              let o = can.high in
              let l = room.long in
              let e : get_or w' i 0 ≡ 0 =
              word_same t.added.only i (inl (omega arith)) (omega arith) ∙ word_same c.only i (inr (omega arith)) (omega arith) ∙ get_or-set_same w i 0 0 (omega arith) in
              let n = ap (filter (joins one r)) arm in
              let d = ap (filter (parts one r)) arm in
              record {
                added = subst (λ (l : List Arm). Gathering two p x i stop m l w w' g g') (sym (rw joined at n)) (adds_then p x i stop m _ _ refl refl o struck_chain
                    (subst (λ (l : List Arm). Gathering two p x i stop m (filter (joins one r) l) v w' h g') v_rest (lower t.added)));
                left = rest_zero p w' i stop less e ∙ t.left ∙ ap (filter (parts one r)) v_rest ∙ sym (rw joined at d);
                sure = sure_cons p w' i stop less (inl e) t.sure;
              }

          pub gather_take : Going f p r j stop x m w₀ g₀ v h (i + 1)
          gather_take =
              let e = length-append (roles (conjuncts_at p (child_of p k))) (roles_all (rest_at p w (i + 1) stop)) in
              let z = u_only.size in
              let a = room in
              let d = c' in
              record {
                can = record {
                  order = omega arith;
                  high = omega arith;
                  low = omega arith;
                  sure = subst (λ (l : List ℕ). Sure p l) (sym v_words) (sure_tail p w i stop less can.sure);
                  room = rw v_rest (record { long = omega arith; low = omega arith; pending = omega arith; first = omega arith; constraints = omega arith });
                };
                size = c.only.size ∙ z ∙ s.size;
                whole = λ t. s.whole (go t);
              }
