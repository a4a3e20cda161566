-- One individual with its row: the ways of `node`.
use Prim.Native.Nat.{◌+◌, ◌-◌, ◌<◌, ◌≤◌, suc, ℕ}
use mathlib.Core.Bool.{Bool}
use mathlib.Core.List.{List, [], ◌∷◌}
use mathlib.Core.Logic.{inr}
use mathlib.Core.Path.{◌∙◌, ◌≡◌, ap, refl, subst, sym}
use lib.ListN.{get_or, length, length-append}
use native.Mathlib.Omega.{arith}
use Rattle.frames.proofs.Frames.{only_before, only_behind, only_then, only_wider}
use Rattle.frames.specs.Frames.{Only}
use Rattle.functional.specs.declared.Functional.{Functional}
use Rattle.layout.proofs.Entries.{constraints_kept}
use Rattle.layout.specs.Places.{individuals_at}
use Rattle.layout.specs.Tables.{HasEntry, IndividualPut, held_by}
use Rattle.layout.specs.declared.Tables.{Tables}
use Rattle.meaning.specs.Accepted.{count}
use Rattle.meaning.specs.Intervals.{Constraint}
use Rattle.meaning.specs.Limits.{most_records, most_roles}
use Rattle.meaning.specs.Lists.{filter}
use Rattle.meaning.specs.Policy.{Chain, child_of, name_of}
use Rattle.normal_form.proofs.Adding.{adds_then, adds_wider}
use Rattle.normal_form.proofs.Groups.{all_count, filter_length, filter_weigh}
use Rattle.normal_form.proofs.Joining.{rest_arm, sure_entry, sure_tail, words_same}
use Rattle.normal_form.proofs.Laws.{fresh_in, none_struck, word_same, words_kept}
use Rattle.normal_form.specs.Parts.{Arm, arm_at, count_all, interval_count, intervals_all, joins}
use Rattle.policy.specs.Terms.{conjuncts_at}
use Rattle.normal_form.specs.Parts.{live, parts, roles, roles_all, weigh, words_at}
use Rattle.normal_form.specs.Steps.{Adding, Adds, Entry, Gatherable, Gathered, Gathering, Good, HasRoomFor, NodedFrom, Room, Sure, Waiting}
use Rattle.normal_form.specs.Steps.{every_at, front, others_at, rest_at, rowed, start_of}
use Rattle.normal_form.specs.declared.Draft.{Draft}
use Rattle.words.specs.Sets.{in_set}
use Rattle.words.specs.declared.ClassSet.{ClassSet}

-- ---- numbers

-- of the arms pending from j on, of which record k's is the first
pub record Sums (one : ℕ → Bool) (p w : List ℕ) (j stop k : ℕ) : Type 0 where
  pub long : length (rest_at p w j stop) ≡ suc (length (rest_at p w (j + 1) stop))
  pub heavy : weigh (rest_at p w j stop) ≡ count (conjuncts_at p (child_of p k)) + weigh (rest_at p w (j + 1) stop)
  pub cut_long : length (filter (joins one (name_of p k)) (rest_at p w (j + 1) stop)) + length (others_at one p w j stop k) ≡ length (rest_at p w (j + 1) stop)
  pub cut_heavy : weigh (filter (joins one (name_of p k)) (rest_at p w (j + 1) stop)) + weigh (others_at one p w j stop k) ≡ weigh (rest_at p w (j + 1) stop)
  pub both : length (roles_all (every_at one p w j stop k)) + count_all (every_at one p w j stop k) + weigh (roles_all (every_at one p w j stop k)) ≤ weigh (every_at one p w j stop k)

-- ---- one individual

-- what it starts with
abbrev start_at : ℕ → Tables → ClassSet → Draft
start_at stop t s = record { classes = s; pending = stop; constraints = t.constraints; impossible = t.impossible }

module _ {p w : List ℕ} {j k stop : ℕ} {t : Tables} (h : Waiting p w j k stop t) where
  abbrev R : List Arm
  R = rest_at p w (j + 1) stop

  abbrev own : Chain
  own = conjuncts_at p (child_of p k)

  abbrev room : Room p w j stop t.individuals t.constraints
  room = h.room

  entry : Entry p k
  entry = sure_entry p w j stop h.less room.sure k h.some h.here

  rest : rest_at p w j stop ≡ arm_at p k ∷ R
  rest = rest_arm p w j stop h.less k h.some h.here

  pub sums : (one : ℕ → Bool) → Sums one p w j stop k
  sums one = record {
    long = ap length rest;
    heavy = ap weigh rest;
    cut_long = filter_length (joins one (name_of p k)) R;
    cut_heavy = filter_weigh (joins one (name_of p k)) R;
    both = all_count (every_at one p w j stop k);
  }

  -- all arms together have room
  fits : length (roles own) + length (roles_all R) + (interval_count own + count_all R) ≤ weigh (rest_at p w j stop)
  fits =
      let e = ap weigh rest in
      let a = all_count (arm_at p k ∷ R) in
      omega (arith, length-append (roles own) (roles_all R))

  pub number : t.individuals < most_records
  number = let s = ap length rest in omega (arith, room.rows)

  -- there is a row for it
  pub row_entry : {P Q : ℕ → Type 0} {n : ℕ} {w1 w2 : List ℕ} → n ≡ t.individuals → Only P w w1 → Only Q w1 w2 → HasEntry n w2
  row_entry e a b = (omega (arith, number), omega (arith, room.long, a.size, b.size))

  pub role_small : {r : ℕ} → r ≡ name_of p k → r ≤ most_roles
  role_small e = omega (arith, entry.role)

  module _ {y : ℕ} (ey : y ≡ child_of p k) where
    pub own_good : Good p y
    own_good = rw ey entry.good

    pub own_room : {s : ClassSet} → HasRoomFor w t.constraints (start_at stop t s) (conjuncts_at p y)
    own_room =
        let a = fits in
        rw ey (record { long = room.long; low = omega arith; pending = omega arith; first = omega arith; constraints = omega arith })

    -- its own conjuncts have been added
    module _ {x : ℕ} {fc : List ℕ → List ℕ} {fs : List Constraint → List Constraint} {b : Bool} {s : ClassSet} {w1 : List ℕ} {mine : Draft}
        (c : Adds p x 0 0 t.constraints fc (roles (conjuncts_at p y)) fs (interval_count (conjuncts_at p y)) b w w1 (start_at stop t s) mine) where
      same_words : words_at w1 (j + 1) (stop - (j + 1)) ≡ words_at w (j + 1) (stop - (j + 1))
      same_words = words_same w w1 (j + 1) stop (λ i a b. word_same c.only i (inr (omega arith)) (omega arith))

      same_rest : rest_at p w1 (j + 1) stop ≡ R
      same_rest = ap (live p) same_words

      pub gather_can : Gatherable p w1 (j + 1) stop t.constraints mine
      gather_can =
          let a = fits in
          let e : length (roles (conjuncts_at p y)) ≡ length (roles own) = rw ey in
          let n : interval_count (conjuncts_at p y) ≡ interval_count own = rw ey in
          record {
            order = omega arith;
            high = omega arith;
            low = omega arith;
            sure = subst (λ (l : List ℕ). Sure p l) (sym same_words) (sure_tail p w j stop h.less room.sure);
            room = rw same_rest (record { long = omega arith; low = omega arith; pending = omega arith; first = omega arith; constraints = omega arith });
          }

    -- and those of the arms that join it
    module _ {f : Functional} {s : ClassSet} {w1 w2 w3 : List ℕ} {mine g : Draft} {r i n : ℕ} (er : r ≡ name_of p k) (es : s.words ≡ start_of (front w) r) (en : n ≡ t.individuals)
        (c : Adding (in_set f.features) p (t.individuals + 1) t.constraints (conjuncts_at p y) w w1 (start_at stop t s) mine)
        (gave : Gathered f p r (j + 1) stop (t.individuals + 1) t.constraints w1 w2 mine g) (put : IndividualPut n i r g.classes.words w2 w3) where
      abbrev every : List Arm
      every = every_at (in_set f.roles) p w j stop k

      q : Gathered f p (name_of p k) (j + 1) stop (t.individuals + 1) t.constraints w1 w2 mine g
      q = rw er at gave

      u : IndividualPut t.individuals i (name_of p k) g.classes.words w2 w3
      u = rw (er, en) at put

      total : Gathering (in_set f.features) p (t.individuals + 1) (j + 1) stop t.constraints every w w2 (start_at stop t s) g
      total =
          adds_then p (t.individuals + 1) (j + 1) stop t.constraints _ _ refl refl (omega arith) (adds_wider (none_struck (omega arith) (omega arith) (omega arith)) (rw ey at c))
          (rw (same_rest c) at q.added)

      pub noded : NodedFrom f p j k stop i t w w3 g
      noded =
          let num = number in
          let kp : (y : ℕ) → y < individuals_at → get_or w3 y 0 ≡ get_or w2 y 0 = (λ y o. only_before u.only y (omega arith)) in
          let tp : g.pending ≡ stop + length (roles_all every) = total.pending in
          let few : stop + length (roles_all every) ≤ individuals_at = let a = sums (in_set f.roles) in omega arith in
          let arms_same : words_at w3 stop (length (roles_all every)) ≡ words_at w2 stop (length (roles_all every)) =
          words_kept w2 w3 stop (length (roles_all every)) (λ y e f. kp y (omega arith)) in
          let left-same : words_at w3 (j + 1) (stop - (j + 1)) ≡ words_at w2 (j + 1) (stop - (j + 1)) = words_same w2 w3 (j + 1) stop (λ y e f. kp y (omega arith)) in
          let none_yet : t.constraints ≡ t.constraints + 0 = omega arith in
          record {
            parent = u.parent;
            role = u.role;
            classes = rw u.classes (total.classes (start_of (front w) (name_of p k)) [] (rw (es ∙ ap (start_of (front w)) er) (λ y. refl)));
            top = total.top [] none_yet tt;
            constraints = constraints_kept w2 w3 t.constraints (held_by (t.individuals + 1) (intervals_all (in_set f.features) every []))
                (λ y e f. only_behind u.only y (omega arith)) (total.constraints [] none_yet tt);
            few = total.few;
            pending = tp;
            arms = ap (live p) arms_same ∙ total.arms;
            sure = subst (λ (l : List ℕ). Sure p l) (sym arms_same) total.sure;
            left = ap (live p) left-same ∙ q.left ∙ ap (filter (parts (in_set f.roles) (name_of p k))) (same_rest c);
            left_sure = subst (λ (l : List ℕ). Sure p l) (sym left-same) q.sure;
            bottom = total.bottom;
            only = only_then
                (only_wider (fresh_in (λ y o. inr (omega (arith, o.low))) (omega arith) (omega arith) (omega arith)) total.only)
                (only_wider (λ y o. rowed (record { low = o.low; high = omega (arith, o.high) }) (omega (arith, o.low))) u.only);
          }
