-- A vocabulary whose records of kind 1 each place a class below itself: normal forms are the same, and below is equality.
use Prim.Native.Nat.{◌<◌, suc, zero, ℕ}
use mathlib.Core.Bool.{Bool, ◌&&◌, ◌||◌, cond, false, not, true}
use mathlib.Core.List.{List, [], ◌++◌, ◌∷◌, map}
use mathlib.Core.Path.{◌∙◌, ◌≡◌, ap, ap₂, fun_ext, refl, sym}
use lib.Dec.{T, eqb, eqb→eq}
use lib.ListN.{get_or, length}
use native.Mathlib.Omega.{arith}
use borrow.Author.Tests.{eqb-false}
use mathlib.Core.Logic.{⊎_elim}
use Rattle.meaning.specs.Intervals.{Constraint}
use Rattle.meaning.specs.Lists.{any, counting, filter, flat_map}
use Rattle.meaning.specs.NormalForm.{Form, add, bare, normal_form, place_constraint, place_successor, with_class, with_constraint, with_successor}
use Rattle.meaning.specs.Policy.{Chain, class, end, impossible, interval, some}
use Rattle.meaning.specs.Records.{is_name, is_onward, last_of}
use Rattle.meaning.specs.Stated.{closure, is_below, is_functional_feature, is_functional_role, range_pair, range_pairs, ranges, ranges_in}
use Rattle.meaning.specs.Stated.{subclass, subclasses}
use Rattle.meaning.specs.Vocabulary.{Axiom, Vocabulary, axiom_at, axiom_fits, axiom_kind, axiom_left, axiom_next, axiom_right, axioms_from}
use Rattle.meaning.specs.Vocabulary.{axioms_of, axioms_refusal, below, class_count, defaults, disjoint, feature_count, first_axiom}
use Rattle.meaning.specs.Vocabulary.{functional_feature, functional_role, is_named, is_opposed, many_feature, many_role, name_by, names_by}
use Rattle.meaning.specs.Vocabulary.{range, role_count, sound_axiom, stated, unnamed, vocabulary_of, vocabulary_refusal}
use Rattle.theory.proofs.Rules.{T_and, T_or, and_T, eqb_of, flat_map_append, or_left, same_test}
use Rattle.theory.proofs.Wellformed.{sound_vocabulary, vocabulary_sound}

abbrev pub flat_one : Axiom → Axiom
flat_one (below a b) = below a a
flat_one (disjoint a b) = disjoint a b
flat_one (functional_role r) = functional_role r
flat_one (functional_feature f) = functional_feature f
flat_one (range r c) = range r c
flat_one (many_role r) = many_role r
flat_one (many_feature f) = many_feature f

abbrev pub flattened : Vocabulary → Vocabulary
flattened K = record { classes = K.classes; roles = K.roles; features = K.features; axioms = map flat_one K.axioms }

-- a successor and a constraint added, by what the vocabulary says of the name
abbrev with_role : Bool → ℕ → List ℕ → (Form → Form) → Form → Form
with_role b r l grow t = record { node = t.node; successors = place_successor b r (bare l) grow t.successors }

abbrev with_bounds : Bool → Constraint → Form → Form
with_bounds b s t = record {
  node = record { classes = t.node.classes; constraints = place_constraint b s t.node.constraints };
  successors = t.successors;
}

-- a normal form asks of a vocabulary what is functional, and the ranges
module _ (K L : Vocabulary) (one : (r : ℕ) → is_functional_role K r ≡ is_functional_role L r)
    (two : (f : ℕ) → is_functional_feature K f ≡ is_functional_feature L f) (reach : (r : ℕ) → ranges K r ≡ ranges L r) where
  add_by : (c : Chain) → add K c ≡ add L c
  add_by end = refl
  add_by (class a next) = fun_ext (λ t. ap (λ (g : Form → Form). g (with_class a t)) (add_by next))
  add_by (impossible next) = add_by next
  add_by (some r child next) =
      fun_ext (λ t.
      ap (λ (g : Form → Form). g (with_successor K r (add K child) t)) (add_by next)
      ∙ ap (λ (b : Bool). add L next (with_role b r (ranges K r) (add K child) t)) (one r)
      ∙ ap (λ (l : List ℕ). add L next (with_role (is_functional_role L r) r l (add K child) t)) (reach r)
      ∙ ap (λ (g : Form → Form). add L next (with_successor L r g t)) (add_by child))
  add_by (interval f lo hi next) =
      fun_ext (λ t.
      let s : Constraint = record { feature = f; lo = lo; hi = hi } in
      ap (λ (g : Form → Form). g (with_constraint K s t)) (add_by next) ∙ ap (λ (b : Bool). add L next (with_bounds b s t)) (two f))

  pub normal_by : (c : Chain) → normal_form K c ≡ normal_form L c
  unfolding normal_form
  normal_by c = ap (λ (g : Form → Form). g (bare [])) (add_by c)

-- what a selector takes that asks nothing of a class above another is the same
module _ {A : Type 0} (f : Axiom → List A) (h : (a b : ℕ) → f (below a a) ≡ f (below a b)) where
  kept_one : (x : Axiom) → f (flat_one x) ≡ f x
  kept_one (below a b) = h a b
  kept_one (disjoint a b) = refl
  kept_one (functional_role r) = refl
  kept_one (functional_feature g) = refl
  kept_one (range r c) = refl
  kept_one (many_role r) = refl
  kept_one (many_feature g) = refl

  kept : (l : List Axiom) → flat_map f (map flat_one l) ≡ flat_map f l
  kept [] = refl
  kept (x ∷ l) = ap₂ ◌++◌ (kept_one x) (kept l)

module _ (kind : ℕ) (h : (a b : ℕ) → name_by kind (below a a) ≡ name_by kind (below a b)) (l : List Axiom) where
  kept_names : names_by kind (map flat_one l) ≡ names_by kind l
  unfolding names_by
  kept_names = kept (name_by kind) h l

  kept_named : is_named kind (map flat_one l) ≡ is_named kind l
  unfolding is_named
  kept_named = fun_ext (λ x. ap (any (eqb x)) kept_names)

  kept_unnamed : (n : ℕ) → unnamed kind (map flat_one l) n ≡ unnamed kind l n
  unfolding unnamed
  kept_unnamed n = ap (λ (p : ℕ → Bool). filter (λ x. not (p x)) (counting 1 n)) kept_named

  -- with more axioms behind them, too
  kept_stated : (d : List Axiom) → is_named kind (map flat_one l ++ d) ≡ is_named kind (l ++ d)
  unfolding is_named names_by
  kept_stated d =
      fun_ext (λ x.
      ap (any (eqb x)) (flat_map_append (name_by kind) (map flat_one l) d ∙ ap (λ (m : List ℕ). m ++ names_by kind d) kept_names ∙ sym (flat_map_append (name_by kind) l d)))

flattened_opposed : (l : List Axiom) → is_opposed (map flat_one l) ≡ is_opposed l
unfolding is_opposed
flattened_opposed l =
    rw (kept_named 6 (λ a b. refl) l, kept_named 7 (λ a b. refl) l, kept_names 3 (λ a b. refl) l, kept_names 4 (λ a b. refl) l)

module _ (K : Vocabulary) where
  flattened_defaults : defaults (flattened K) ≡ defaults K
  unfolding defaults
  flattened_defaults = rw (kept_unnamed 6 (λ a b. refl) K.axioms, kept_unnamed 7 (λ a b. refl) K.axioms)

  flattened_stated : (kind : ℕ) → ((a b : ℕ) → name_by kind (below a a) ≡ name_by kind (below a b)) → (x : ℕ) →
      is_named kind (stated (flattened K)) x ≡ is_named kind (stated K) x
  unfolding stated
  flattened_stated kind h x = rw flattened_defaults (ap (λ (p : ℕ → Bool). p x) (kept_stated kind h K.axioms (defaults K)))

  flattened_role : (r : ℕ) → is_functional_role (flattened K) r ≡ is_functional_role K r
  unfolding is_functional_role
  flattened_role = flattened_stated 3 (λ a b. refl)

  flattened_feature : (f : ℕ) → is_functional_feature (flattened K) f ≡ is_functional_feature K f
  unfolding is_functional_feature
  flattened_feature = flattened_stated 4 (λ a b. refl)

  flattened_ranges : (r : ℕ) → ranges (flattened K) r ≡ ranges K r
  unfolding ranges range_pairs
  flattened_ranges r = ap (λ (l : List (ℕ × ℕ)). ranges_in l r) (kept range_pair (λ a b. refl) K.axioms)

  pub flattened_normal : (c : Chain) → normal_form (flattened K) c ≡ normal_form K c
  flattened_normal c = normal_by (flattened K) K flattened_role flattened_feature flattened_ranges c

-- a class is below itself alone
below_flat : (l : List Axiom) (a b : ℕ) → closure (flat_map subclass (map flat_one l)) a b ≡ eqb a b
below_flat [] a b = refl
below_flat (below x y ∷ l) a b =
    ap₂ ◌||◌ (below_flat l a b) (ap₂ ◌&&◌ (below_flat l a x) (below_flat l x b))
    ∙ same_test (eqb a b || (eqb a x && eqb x b)) (eqb a b)
    (λ t. ⊎_elim (λ h. h) (λ h. let w = T_and (eqb a x) (eqb x b) h in eqb_of a b (eqb→eq a x w.0 ∙ eqb→eq x b w.1))
    (T_or (eqb a b) (eqb a x && eqb x b) t))
    (or_left (eqb a b) (eqb a x && eqb x b))
below_flat (disjoint x y ∷ l) a b = below_flat l a b
below_flat (functional_role q ∷ l) a b = below_flat l a b
below_flat (functional_feature f ∷ l) a b = below_flat l a b
below_flat (range q c ∷ l) a b = below_flat l a b
below_flat (many_role q ∷ l) a b = below_flat l a b
below_flat (many_feature f ∷ l) a b = below_flat l a b

pub flattened_below : (K : Vocabulary) (a b : ℕ) → is_below (flattened K) a b ≡ eqb a b
unfolding is_below subclasses
flattened_below K a b = below_flat K.axioms a b

-- ---- in words

-- u is v with b replaced by a in each record of kind 1
pub record Flat (v u : List ℕ) : Type 0 where
  pub long : length u ≡ length v
  pub header : (i : ℕ) → i < 4 → get_or u i 0 ≡ get_or v i 0
  pub kind : (k : ℕ) → axiom_kind u k ≡ axiom_kind v k
  pub left : (k : ℕ) → axiom_left u k ≡ axiom_left v k
  pub next : (k : ℕ) → axiom_next u k ≡ axiom_next v k
  pub right : (k : ℕ) → (k ≡ 0 → ⊥) → axiom_right u k ≡ cond (eqb (axiom_kind v k) 1) (axiom_left v k) (axiom_right v k)

module _ (v u : List ℕ) (w : Flat v u) where
  axiom_flat : (k : ℕ) → (k ≡ 0 → ⊥) → axiom_at u k ≡ flat_one (axiom_at v k)
  axiom_flat k n =
      rw (w.kind k, w.left k, w.right k n)
      (go (axiom_left v k) (axiom_right v k) (eqb (axiom_kind v k) 1) (eqb (axiom_kind v k) 2) (eqb (axiom_kind v k) 3) (eqb (axiom_kind v k) 4)
      (eqb (axiom_kind v k) 5) (eqb (axiom_kind v k) 6))
    where
      go : (a b : ℕ) (k₁ k₂ k₃ k₄ k₅ k₆ : Bool) →
          cond k₁ (below a (cond k₁ a b)) (cond k₂ (disjoint a (cond k₁ a b)) (cond k₃ (functional_role a) (cond k₄ (functional_feature a)
          (cond k₅ (range a (cond k₁ a b)) (cond k₆ (many_role a) (many_feature a))))))
          ≡ flat_one (cond k₁ (below a b) (cond k₂ (disjoint a b) (cond k₃ (functional_role a) (cond k₄ (functional_feature a)
          (cond k₅ (range a b) (cond k₆ (many_role a) (many_feature a)))))))
      go a b true k₂ k₃ k₄ k₅ k₆ = refl
      go a b false true k₃ k₄ k₅ k₆ = refl
      go a b false false true k₄ k₅ k₆ = refl
      go a b false false false true k₅ k₆ = refl
      go a b false false false false true k₆ = refl
      go a b false false false false false true = refl
      go a b false false false false false false = refl

  axioms_flat : (f k : ℕ) → axioms_from f u k ≡ map flat_one (axioms_from f v k)
  axioms_flat zero k = refl
  axioms_flat (suc f) k = go (eqb k 0) refl (λ n. rw (axiom_flat k n, w.next k, axioms_flat f (axiom_next v k)))
    where
      go : (b : Bool) → eqb k 0 ≡ b →
          ((k ≡ 0 → ⊥) → axiom_at u k ∷ axioms_from f u (axiom_next u k) ≡ flat_one (axiom_at v k) ∷ map flat_one (axioms_from f v (axiom_next v k))) →
          cond b [] (axiom_at u k ∷ axioms_from f u (axiom_next u k)) ≡ map flat_one (cond b [] (axiom_at v k ∷ axioms_from f v (axiom_next v k)))
      go true e h = refl
      go false e h = h (eqb-false k 0 e)

  pub flat_vocabulary : vocabulary_of u ≡ flattened (vocabulary_of v)
  unfolding vocabulary_of axioms_of
  flat_vocabulary =
      rw (w.header 0 (omega arith), w.header 1 (omega arith), w.header 2 (omega arith), w.header 3 (omega arith))
      (rw (w.long, axioms_flat (length v) (first_axiom v)))

  -- and is accepted
  fits_flat : (k : ℕ) → (k ≡ 0 → ⊥) → T (axiom_fits v k) → T (axiom_fits u k)
  fits_flat k n =
      rw (w.kind k, w.left k, w.right k n, w.header 0 (omega arith), w.header 1 (omega arith), w.header 2 (omega arith))
      (go (axiom_left v k) (axiom_right v k) (eqb (axiom_kind v k) 1) (eqb (axiom_kind v k) 2) (eqb (axiom_kind v k) 3) (eqb (axiom_kind v k) 4)
      (eqb (axiom_kind v k) 5) (eqb (axiom_kind v k) 6) (eqb (axiom_kind v k) 7))
    where
      N : ℕ
      N = class_count v

      R : ℕ
      R = role_count v

      F : ℕ
      F = feature_count v

      go : (a b : ℕ) (k₁ k₂ k₃ k₄ k₅ k₆ k₇ : Bool) →
          T (cond k₁ (is_name N a && is_name N b) (cond k₂ (is_name N a && is_name N b) (cond k₃ (is_name R a && eqb b 0) (cond k₄ (is_name F a && eqb b 0)
          (cond k₅ (is_name R a && is_name N b) (cond k₆ (is_name R a && eqb b 0) (k₇ && (is_name F a && eqb b 0)))))))) →
          T (cond k₁ (is_name N a && is_name N (cond k₁ a b)) (cond k₂ (is_name N a && is_name N (cond k₁ a b)) (cond k₃ (is_name R a && eqb (cond k₁ a b) 0)
          (cond k₄ (is_name F a && eqb (cond k₁ a b) 0) (cond k₅ (is_name R a && is_name N (cond k₁ a b)) (cond k₆ (is_name R a && eqb (cond k₁ a b) 0)
          (k₇ && (is_name F a && eqb (cond k₁ a b) 0))))))))
      go a b true k₂ k₃ k₄ k₅ k₆ k₇ t = let s = T_and (is_name N a) (is_name N b) t in and_T (is_name N a) (is_name N a) s.0 s.0
      go a b false k₂ k₃ k₄ k₅ k₆ k₇ t = t

  chain_flat : (f k : ℕ) → axioms_refusal f v k ≡ 0 → axioms_refusal f u k ≡ 0
  chain_flat zero k e = refl
  chain_flat (suc f) k e = go (eqb k 0) refl (sound_axiom v k) (sound_axiom u k) sound (λ h. rw (w.next k) (chain_flat f (axiom_next v k) h)) e
    where
      sound : (k ≡ 0 → ⊥) → T (sound_axiom v k) → T (sound_axiom u k)
      sound n t =
          let s = T_and (axiom_fits v k) (is_onward (last_of 4 v) k (axiom_next v k)) t in
          and_T (axiom_fits u k) (is_onward (last_of 4 u) k (axiom_next u k)) (fits_flat k n s.0) (rw (w.long, w.next k) s.1)

      go : (z : Bool) → eqb k 0 ≡ z → (a b : Bool) → ((k ≡ 0 → ⊥) → T a → T b) →
          (axioms_refusal f v (axiom_next v k) ≡ 0 → axioms_refusal f u (axiom_next u k) ≡ 0) →
          cond z 0 (cond a (axioms_refusal f v (axiom_next v k)) 3) ≡ 0 → cond z 0 (cond b (axioms_refusal f u (axiom_next u k)) 3) ≡ 0
      go true i a b f g e = refl
      go false i true true f g e = g e
      go false i true false f g e = absurd (f (eqb-false k 0 i) tt)
      go false i false b f g e = absurd (omega arith)

  pub flat_accepted : vocabulary_refusal v ≡ 0 → vocabulary_refusal u ≡ 0
  unfolding vocabulary_of
  flat_accepted h =
      let s = vocabulary_sound v h in
      sound_vocabulary u (record {
        sized = rw w.long s.sized;
        headed = rw (w.long, w.header 0 (omega arith), w.header 1 (omega arith), w.header 2 (omega arith), w.header 3 (omega arith)) s.headed;
        chain = rw (w.long, w.header 3 (omega arith)) (chain_flat (length v) (first_axiom v) s.chain);
        apart = ap (λ (K : Vocabulary). is_opposed K.axioms) flat_vocabulary ∙ flattened_opposed (axioms_of v) ∙ s.apart;
      })
