-- Every normal form is normal: a functional role stands once at an individual, a functional feature once, and each individual is in its role's ranges.
use Prim.Native.Nat.{ℕ}
use mathlib.Core.Bool.{Bool, ◌&&◌, cond, false, true}
use mathlib.Core.List.{List, [], ◌∷◌}
use mathlib.Core.Path.{◌≡◌, refl, subst, sym}
use lib.Dec.{T, eqb}
use Rattle.meaning.specs.Intervals.{Constraint, meet}
use Rattle.meaning.specs.Lists.{All, ◌∈◌, cons, nil, there}
use Rattle.meaning.specs.Normal.{Distinct, Fresh, Normal, NormalSuccessors}
use Rattle.meaning.specs.NormalForm.{Form, Successors, add, bare, graft, none, normal_form, place_constraint, place_successor}
use Rattle.meaning.specs.NormalForm.{successor, with_class, with_constraint, with_successor}
use Rattle.meaning.specs.Policy.{Chain, class, end, impossible, interval, some}
use Rattle.meaning.specs.Records.{Name}
use Rattle.meaning.specs.Stated.{is_functional_feature, is_functional_role, ranges}
use Rattle.meaning.specs.Vocabulary.{Vocabulary}
use Rattle.theory.proofs.Rules.{all_mono, all_of, and_T, eqb_of, head, not_true, tail}

-- the classes of a chain have B
abbrev pub ClassesIn : (ℕ → Type 0) → Chain → Type 0
ClassesIn B end = Unit {0}
ClassesIn B (class c next) = B c × ClassesIn B next
ClassesIn B (impossible next) = ClassesIn B next
ClassesIn B (some r child next) = ClassesIn B child × ClassesIn B next
ClassesIn B (interval f lo hi next) = ClassesIn B next

-- they are among 1 to N
abbrev pub BoundedChain : ℕ → Chain → Type 0
BoundedChain N p = ClassesIn (Name N) p

-- rule 5
away_place : (f : ℕ) (one : Bool) (s : Constraint) → (f ≡ s.feature → ⊥) → (l : List Constraint) →
    All (λ x. f ≡ x.feature → ⊥) l → All (λ x. f ≡ x.feature → ⊥) (place_constraint one s l)
away_place f one s a [] k = cons a nil
away_place f one s a (x ∷ l) k = go (one && eqb x.feature s.feature) (away_place f one s a l (tail k))
  where
    go : (b : Bool) → All (λ x. f ≡ x.feature → ⊥) (place_constraint one s l) → All (λ x. f ≡ x.feature → ⊥) (cond b (meet x s ∷ l) (x ∷ place_constraint one s l))
    go true r = cons (head k) (tail k)
    go false r = cons (head k) r

distinct_place : (K : Vocabulary) (s : Constraint) (l : List Constraint) → Distinct K l → Distinct K (place_constraint (is_functional_feature K s.feature) s l)
distinct_place K s [] k = (λ t. nil, tt)
distinct_place K s (x ∷ l) k = go (one && eqb x.feature s.feature) refl (distinct_place K s l k.1)
  where
    one : Bool
    one = is_functional_feature K s.feature

    apart : (one && eqb x.feature s.feature) ≡ false → T (is_functional_feature K x.feature) → x.feature ≡ s.feature → ⊥
    apart e t q = not_true e (and_T one (eqb x.feature s.feature) (subst (λ (f : ℕ). T (is_functional_feature K f)) q t) (eqb_of x.feature s.feature q))

    go : (b : Bool) → (one && eqb x.feature s.feature) ≡ b → Distinct K (place_constraint one s l) → Distinct K (cond b (meet x s ∷ l) (x ∷ place_constraint one s l))
    go true e r = k
    go false e r = (λ t. away_place x.feature one s (apart e t) l (k.0 t), r)

-- rules 4 and 6
fresh_place : (q : ℕ) (one : Bool) (r : ℕ) (fresh : Form) (grow : Form → Form) → (q ≡ r → ⊥) → (under : Successors) → Fresh q under → Fresh q (place_successor one r fresh grow under)
fresh_place q one r fresh grow a none k = (a, tt)
fresh_place q one r fresh grow a (successor s n under next) k = go (one && eqb r s) (fresh_place q one r fresh grow a next k.1)
  where
    go : (b : Bool) → Fresh q (place_successor one r fresh grow next) →
        Fresh q (cond b (graft s (grow (record { node = n; successors = under })) next) (successor s n under (place_successor one r fresh grow next)))
    go true g = k
    go false g = (k.0, g)

module _ (B : ℕ → Type 0) (K : Vocabulary) (r : ℕ) (grow : Form → Form) (normal : (t : Form) → Normal B K t → Normal B K (grow t))
    (keep : (t : Form) (c : ℕ) → c ∈ t.node.classes → c ∈ (grow t).node.classes) (ranged : (r c : ℕ) → c ∈ ranges K r → B c) where
  abbrev one : Bool
  one = is_functional_role K r

  abbrev grown : Successors → Successors
  grown under = place_successor one r (bare (ranges K r)) grow under

  normal_place : (under : Successors) → NormalSuccessors B K under → NormalSuccessors B K (grown under)
  normal_place none k =
      let g = normal (bare (ranges K r)) (record {
        node = record { bounded = all_of (ranges K r) (λ c m. ranged r c m); distinct = tt };
        successors = tt;
      }) in
      (λ t. tt, all_of (ranges K r) (λ c m. keep (bare (ranges K r)) c m), g.node, g.successors, tt)
  normal_place (successor q n under next) k = go (one && eqb r q) refl (normal_place next k.4)
    where
      t : Form
      t = record { node = n; successors = under }

      apart : (one && eqb r q) ≡ false → T (is_functional_role K q) → q ≡ r → ⊥
      apart e u s = not_true e (and_T one (eqb r q) (subst (λ (x : ℕ). T (is_functional_role K x)) s u) (eqb_of r q (sym s)))

      go : (b : Bool) → (one && eqb r q) ≡ b → NormalSuccessors B K (grown next) → NormalSuccessors B K (cond b (graft q (grow t) next) (successor q n under (grown next)))
      go true e g =
          let m = normal t (record { node = k.2; successors = k.3 }) in
          (k.0, all_mono (λ c a. keep t c a) k.1, m.node, m.successors, k.4)
      go false e g = (λ u. fresh_place q one r (bare (ranges K r)) grow (apart e u) next (k.0 u), k.1, k.2, k.3, g)

add_keeps : (K : Vocabulary) (p : Chain) (t : Form) (c : ℕ) → c ∈ t.node.classes → c ∈ (add K p t).node.classes
add_keeps K end t c m = m
add_keeps K (class a next) t c m = add_keeps K next (with_class a t) c (there m)
add_keeps K (impossible next) t c m = add_keeps K next t c m
add_keeps K (some r child next) t c m = add_keeps K next (with_successor K r (add K child) t) c m
add_keeps K (interval f lo hi next) t c m = add_keeps K next (with_constraint K (record { feature = f; lo = lo; hi = hi }) t) c m

module _ (B : ℕ → Type 0) (K : Vocabulary) (ranged : (r c : ℕ) → c ∈ ranges K r → B c) where
  pub add_normal : (p : Chain) → ClassesIn B p → (t : Form) → Normal B K t → Normal B K (add K p t)
  add_normal end b t k = k
  add_normal (class a next) b t k =
      add_normal next b.1 (with_class a t)
      (record { node = record { bounded = cons b.0 k.node.bounded; distinct = k.node.distinct }; successors = k.successors })
  add_normal (impossible next) b t k = add_normal next b t k
  add_normal (some r child next) b t k =
      add_normal next b.1 (with_successor K r (add K child) t)
      (record { node = k.node; successors = normal_place B K r (add K child) (add_normal child b.0) (add_keeps K child) ranged t.successors k.successors })
  add_normal (interval f lo hi next) b t k =
      let s : Constraint = record { feature = f; lo = lo; hi = hi } in
      add_normal next b (with_constraint K s t)
      (record { node = record { bounded = k.node.bounded; distinct = distinct_place K s t.node.constraints k.node.distinct }; successors = k.successors })

  pub normal_form_normal : (p : Chain) → ClassesIn B p → Normal B K (normal_form K p)
  unfolding normal_form
  normal_form_normal p b = add_normal p b (bare []) (record { node = record { bounded = nil; distinct = tt }; successors = tt })

-- with no bound on the classes
pub unbounded : (p : Chain) → ClassesIn (λ c. Unit {0}) p
unbounded end = tt
unbounded (class a next) = (tt, unbounded next)
unbounded (impossible next) = unbounded next
unbounded (some r child next) = (unbounded child, unbounded next)
unbounded (interval f lo hi next) = unbounded next

pub normal_form_normal_unbounded : (K : Vocabulary) (p : Chain) → Normal (λ c. Unit {0}) K (normal_form K p)
normal_form_normal_unbounded K p = normal_form_normal (λ c. Unit {0}) K (λ r c m. tt) p (unbounded p)
