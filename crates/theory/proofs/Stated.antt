-- The laws of what a vocabulary states: what holds of every axiom holds of all that is stated, kind by kind, and back.
use Prim.Native.Nat.{◌≤◌, ℕ}
use mathlib.Core.Bool.{Bool, So, cond, false, true}
use mathlib.Core.List.{List, [], ◌∷◌, map}
use mathlib.Core.Logic.{◌⊎◌, inl, inr}
use mathlib.Core.Path.{◌≡◌, ap, ap₂, refl, subst, sym}
use lib.Dec.{T, eqb, eqb_refl, eqb→eq}
use borrow.Author.Tests.{eqb-true}
use native.Mathlib.Omega.{arith}
use lib.ListN.{length}
use Rattle.meaning.specs.Accepted.{AxiomOf, NamedAxiom}
use Rattle.meaning.specs.Lists.{All, Any, ◌∈◌, cons, here, nil, there}
use Rattle.meaning.specs.Records.{Name}
use Rattle.meaning.specs.Stated.{disjoint_pair, disjoint_pairs, is_functional_feature, is_functional_role, is_many_feature, is_many_role}
use Rattle.meaning.specs.Stated.{range_pair, range_pairs, ranges, ranges_in, subclass, subclasses}
use Rattle.meaning.specs.Vocabulary.{Axiom, Vocabulary, axiom_at, axiom_fits, axiom_kind, axiom_left, axiom_right, below, class_count}
use Rattle.meaning.specs.Vocabulary.{defaults, disjoint, functional_feature, functional_role, is_named, many_feature, many_role}
use Rattle.meaning.specs.Vocabulary.{name_by, names_by, range, role_count, stated, unnamed}
use Rattle.theory.proofs.Links.{choose, split, tests}
use Rattle.theory.proofs.Rules.{all_any, all_append, all_fst, all_map, all_of, any_cases, any_flat_map, any_in, any_left, any_map}
use Rattle.theory.proofs.Rules.{any_mono, any_none, any_out, any_right, any_single, at_any, flat_map_any}

-- ---- the classes of a role's ranges

in_ranges_in : (l : List (ℕ × ℕ)) (r c : ℕ) → (r, c) ∈ l → c ∈ ranges_in l r
in_ranges_in [] r c m = absurd (any_none m)
in_ranges_in ((q, d) ∷ l) r c m = go (in_ranges_in l r c) (any_cases m) (eqb r q) refl
  where
    first : ◌≡◌ {A = ℕ × ℕ} (r, c) (q, d) → (b : Bool) → eqb r q ≡ b → c ∈ cond b (d ∷ ranges_in l r) (ranges_in l r)
    first e true t = here (ap (λ (p : ℕ × ℕ). p.1) e)
    first e false t = absurd (subst T t (subst (λ (k : ℕ). T (eqb r k)) (ap (λ (p : ℕ × ℕ). p.0) e) (eqb_refl r)))

    later : c ∈ ranges_in l r → (b : Bool) → c ∈ cond b (d ∷ ranges_in l r) (ranges_in l r)
    later k true = there k
    later k false = k

    go : ((r, c) ∈ l → c ∈ ranges_in l r) → (◌≡◌ {A = ℕ × ℕ} (r, c) (q, d)) ⊎ ((r, c) ∈ l) → (b : Bool) → eqb r q ≡ b →
        c ∈ cond b (d ∷ ranges_in l r) (ranges_in l r)
    go f (inl e) b t = first e b t
    go f (inr k) b t = later (f k) b

ranges_in_out : (l : List (ℕ × ℕ)) (r c : ℕ) → c ∈ ranges_in l r → (r, c) ∈ l
ranges_in_out [] r c m = absurd (any_none m)
ranges_in_out ((q, d) ∷ l) r c m = go (eqb r q) (λ t. eqb→eq r q t) (ranges_in_out l r c) m
  where
    first : r ≡ q → (c ≡ d) ⊎ (c ∈ ranges_in l r) → (c ∈ ranges_in l r → (r, c) ∈ l) → (r, c) ∈ (q, d) ∷ l
    first e (inl k) f = here (ap₂ (λ (x y : ℕ). (x, y)) e k)
    first e (inr k) f = there (f k)

    go : (b : Bool) → (T b → r ≡ q) → (c ∈ ranges_in l r → (r, c) ∈ l) → c ∈ cond b (d ∷ ranges_in l r) (ranges_in l r) → (r, c) ∈ (q, d) ∷ l
    go true e f k = first (e tt) (any_cases k) f
    go false e f k = there (f k)

pub ranges_in_lem : (K : Vocabulary) (r c : ℕ) → (r, c) ∈ range_pairs K → c ∈ ranges K r
unfolding ranges
ranges_in_lem K r c m = in_ranges_in (range_pairs K) r c m

pub ranges_out : (K : Vocabulary) (r c : ℕ) → c ∈ ranges K r → (r, c) ∈ range_pairs K
unfolding ranges
ranges_out K r c m = ranges_in_out (range_pairs K) r c m

-- ---- what is stated, and what is obeyed

-- what an axiom states is stated by the vocabulary
module _ (K : Vocabulary) where
  pub below_stated : (a b : ℕ) → below a b ∈ K.axioms → (a, b) ∈ subclasses K
  unfolding subclasses
  below_stated a b m = any_flat_map subclass (at_any m (here refl))

  pub disjoint_stated : (a b : ℕ) → disjoint a b ∈ K.axioms → (a, b) ∈ disjoint_pairs K
  unfolding disjoint_pairs
  disjoint_stated a b m = any_flat_map disjoint_pair (at_any m (here refl))

  pub functional_role_stated : (r : ℕ) → functional_role r ∈ stated K → T (is_functional_role K r)
  unfolding is_functional_role is_named names_by
  functional_role_stated r m = any_in (eqb r) (any_flat_map (name_by 3) (at_any m (here (eqb_refl r))))

  pub functional_feature_stated : (f : ℕ) → functional_feature f ∈ stated K → T (is_functional_feature K f)
  unfolding is_functional_feature is_named names_by
  functional_feature_stated f m = any_in (eqb f) (any_flat_map (name_by 4) (at_any m (here (eqb_refl f))))

  pub many_role_stated : (r : ℕ) → many_role r ∈ K.axioms → T (is_many_role K r)
  unfolding is_many_role is_named names_by
  many_role_stated r m = any_in (eqb r) (any_flat_map (name_by 6) (at_any m (here (eqb_refl r))))

  pub many_feature_stated : (f : ℕ) → many_feature f ∈ K.axioms → T (is_many_feature K f)
  unfolding is_many_feature is_named names_by
  many_feature_stated f m = any_in (eqb f) (any_flat_map (name_by 7) (at_any m (here (eqb_refl f))))

  -- an axiom of the chain is stated, and so is the default
  pub axiom_stated : (x : Axiom) → x ∈ K.axioms → x ∈ stated K
  unfolding stated
  axiom_stated x m = any_left (defaults K) m

  pub role_default : (r : ℕ) → r ∈ unnamed 6 K.axioms K.roles → functional_role r ∈ stated K
  unfolding stated defaults
  role_default r m = any_right K.axioms (any_left _ (any_map functional_role (any_mono (λ q e. ap functional_role e) m)))

  pub feature_default : (f : ℕ) → f ∈ unnamed 7 K.axioms K.features → functional_feature f ∈ stated K
  unfolding stated defaults
  feature_default f m =
      any_right K.axioms (any_right (map functional_role (unnamed 6 K.axioms K.roles)) (any_map functional_feature (any_mono (λ g e. ap functional_feature e) m)))

  pub range_stated : (r c : ℕ) → range r c ∈ K.axioms → c ∈ ranges K r
  unfolding range_pairs
  range_stated r c m = ranges_in_lem K r c (any_flat_map range_pair (at_any m (here refl)))

  -- and so is whatever a selector takes from it
  pub subclass_stated : (x : Axiom) → x ∈ K.axioms → (p : ℕ × ℕ) → p ∈ subclass x → p ∈ subclasses K
  unfolding subclasses
  subclass_stated x m p k = any_flat_map subclass (at_any m k)

-- P of all that is stated, kind by kind
pub record AllStated (P : Axiom → Type 0) (K : Vocabulary) : Type 0 where
  pub subclass : (a b : ℕ) → (a, b) ∈ subclasses K → P (below a b)
  pub apart : (a b : ℕ) → (a, b) ∈ disjoint_pairs K → P (disjoint a b)
  pub role : (r : ℕ) → T (is_functional_role K r) → P (functional_role r)
  pub feature : (f : ℕ) → T (is_functional_feature K f) → P (functional_feature f)
  pub ranged : (r c : ℕ) → c ∈ ranges K r → P (range r c)
  pub many_role : (r : ℕ) → T (is_many_role K r) → P (many_role r)
  pub many_feature : (f : ℕ) → T (is_many_feature K f) → P (many_feature f)

module _ {P : Axiom → Type 0} (K : Vocabulary) where
  pub all_stated : All P (stated K) → AllStated P K
  unfolding stated subclasses disjoint_pairs is_functional_role is_functional_feature is_many_role is_many_feature is_named names_by range_pairs
  all_stated s =
      let chain = all_fst K.axioms (defaults K) s in
      record {
        subclass = λ a b m. let h = all_any chain (flat_map_any subclass K.axioms m) in below_of a b h.0 h.1 h.2;
        apart = λ a b m. let h = all_any chain (flat_map_any disjoint_pair K.axioms m) in disjoint_of a b h.0 h.1 h.2;
        role = λ r t. let h = all_any s (flat_map_any (name_by 3) (stated K) (any_out (eqb r) _ t)) in role_of r h.0 h.1 h.2;
        feature = λ f t. let h = all_any s (flat_map_any (name_by 4) (stated K) (any_out (eqb f) _ t)) in feature_of f h.0 h.1 h.2;
        ranged = λ r c m. let h = all_any chain (flat_map_any range_pair K.axioms (ranges_out K r c m)) in range_of r c h.0 h.1 h.2;
        many_role = λ r t. let h = all_any chain (flat_map_any (name_by 6) K.axioms (any_out (eqb r) _ t)) in many_role_of r h.0 h.1 h.2;
        many_feature = λ f t. let h = all_any chain (flat_map_any (name_by 7) K.axioms (any_out (eqb f) _ t)) in many_feature_of f h.0 h.1 h.2;
      }
    where
      below_of : (a b : ℕ) (x : Axiom) → P x → (a, b) ∈ subclass x → P (below a b)
      below_of a b (below c d) o m = subst (λ (p : ℕ × ℕ). P (below p.0 p.1)) (sym (any_single m)) o
      below_of a b (disjoint c d) o m = absurd (any_none m)
      below_of a b (functional_role r) o m = absurd (any_none m)
      below_of a b (functional_feature f) o m = absurd (any_none m)
      below_of a b (range r c) o m = absurd (any_none m)
      below_of a b (many_role r) o m = absurd (any_none m)
      below_of a b (many_feature f) o m = absurd (any_none m)

      disjoint_of : (a b : ℕ) (x : Axiom) → P x → (a, b) ∈ disjoint_pair x → P (disjoint a b)
      disjoint_of a b (below c d) o m = absurd (any_none m)
      disjoint_of a b (disjoint c d) o m = subst (λ (p : ℕ × ℕ). P (disjoint p.0 p.1)) (sym (any_single m)) o
      disjoint_of a b (functional_role r) o m = absurd (any_none m)
      disjoint_of a b (functional_feature f) o m = absurd (any_none m)
      disjoint_of a b (range r c) o m = absurd (any_none m)
      disjoint_of a b (many_role r) o m = absurd (any_none m)
      disjoint_of a b (many_feature f) o m = absurd (any_none m)

      role_of : (q : ℕ) (x : Axiom) → P x → Any (λ y. T (eqb q y)) (name_by 3 x) → P (functional_role q)
      role_of q (below c d) o m = absurd (any_none m)
      role_of q (disjoint c d) o m = absurd (any_none m)
      role_of q (functional_role r) o m = subst (λ (k : ℕ). P (functional_role k)) (sym (eqb→eq q r (any_single m))) o
      role_of q (functional_feature f) o m = absurd (any_none m)
      role_of q (range r c) o m = absurd (any_none m)
      role_of q (many_role r) o m = absurd (any_none m)
      role_of q (many_feature f) o m = absurd (any_none m)

      feature_of : (g : ℕ) (x : Axiom) → P x → Any (λ y. T (eqb g y)) (name_by 4 x) → P (functional_feature g)
      feature_of g (below c d) o m = absurd (any_none m)
      feature_of g (disjoint c d) o m = absurd (any_none m)
      feature_of g (functional_role r) o m = absurd (any_none m)
      feature_of g (functional_feature f) o m = subst (λ (k : ℕ). P (functional_feature k)) (sym (eqb→eq g f (any_single m))) o
      feature_of g (range r c) o m = absurd (any_none m)
      feature_of g (many_role r) o m = absurd (any_none m)
      feature_of g (many_feature f) o m = absurd (any_none m)

      range_of : (q d : ℕ) (x : Axiom) → P x → (q, d) ∈ range_pair x → P (range q d)
      range_of q d (below a b) o m = absurd (any_none m)
      range_of q d (disjoint a b) o m = absurd (any_none m)
      range_of q d (functional_role r) o m = absurd (any_none m)
      range_of q d (functional_feature f) o m = absurd (any_none m)
      range_of q d (range r c) o m = subst (λ (p : ℕ × ℕ). P (range p.0 p.1)) (sym (any_single m)) o
      range_of q d (many_role r) o m = absurd (any_none m)
      range_of q d (many_feature f) o m = absurd (any_none m)

      many_role_of : (q : ℕ) (x : Axiom) → P x → Any (λ y. T (eqb q y)) (name_by 6 x) → P (many_role q)
      many_role_of q (below c d) o m = absurd (any_none m)
      many_role_of q (disjoint c d) o m = absurd (any_none m)
      many_role_of q (functional_role r) o m = absurd (any_none m)
      many_role_of q (functional_feature f) o m = absurd (any_none m)
      many_role_of q (range r c) o m = absurd (any_none m)
      many_role_of q (many_role r) o m = subst (λ (k : ℕ). P (many_role k)) (sym (eqb→eq q r (any_single m))) o
      many_role_of q (many_feature f) o m = absurd (any_none m)

      many_feature_of : (g : ℕ) (x : Axiom) → P x → Any (λ y. T (eqb g y)) (name_by 7 x) → P (many_feature g)
      many_feature_of g (below c d) o m = absurd (any_none m)
      many_feature_of g (disjoint c d) o m = absurd (any_none m)
      many_feature_of g (functional_role r) o m = absurd (any_none m)
      many_feature_of g (functional_feature f) o m = absurd (any_none m)
      many_feature_of g (range r c) o m = absurd (any_none m)
      many_feature_of g (many_role r) o m = absurd (any_none m)
      many_feature_of g (many_feature f) o m = subst (λ (k : ℕ). P (many_feature k)) (sym (eqb→eq g f (any_single m))) o

  -- the axioms of the chain, and what is functional
  pub stated_more : All P K.axioms → ((r : ℕ) → T (is_functional_role K r) → P (functional_role r)) →
      ((f : ℕ) → T (is_functional_feature K f) → P (functional_feature f)) → All P (stated K)
  unfolding stated defaults
  stated_more a role feature =
      all_append a
      (all_append
      (all_map functional_role (all_of (unnamed 6 K.axioms K.roles) (λ r m. role r (functional_role_stated K r (role_default K r m)))))
      (all_map functional_feature (all_of (unnamed 7 K.axioms K.features) (λ f m. feature f (functional_feature_stated K f (feature_default K f m))))))

  pub stated_all : AllStated P K → All P (stated K)
  stated_all o = stated_more (all_of K.axioms each) o.role o.feature
    where
      each : (x : Axiom) → x ∈ K.axioms → P x
      each (below a b) m = o.subclass a b (below_stated K a b m)
      each (disjoint a b) m = o.apart a b (disjoint_stated K a b m)
      each (functional_role r) m = o.role r (functional_role_stated K r (axiom_stated K _ m))
      each (functional_feature f) m = o.feature f (functional_feature_stated K f (axiom_stated K _ m))
      each (range r c) m = o.ranged r c (range_stated K r c m)
      each (many_role r) m = o.many_role r (many_role_stated K r m)
      each (many_feature f) m = o.many_feature f (many_feature_stated K f m)

-- ---- what an axiom with names of v's states

module _ (v : List ℕ) where
  pub subclass_named : (x : Axiom) → AxiomOf v x → All (λ p. Name (class_count v) p.0 × Name (class_count v) p.1) (subclass x)
  subclass_named (below a b) n = cons n nil
  subclass_named (disjoint a b) n = nil
  subclass_named (functional_role r) n = nil
  subclass_named (functional_feature f) n = nil
  subclass_named (range r c) n = nil
  subclass_named (many_role r) n = nil
  subclass_named (many_feature f) n = nil

  pub range_pair_named : (x : Axiom) → AxiomOf v x → All (λ p. Name (role_count v) p.0 × Name (class_count v) p.1) (range_pair x)
  range_pair_named (below a b) n = nil
  range_pair_named (disjoint a b) n = nil
  range_pair_named (functional_role r) n = nil
  range_pair_named (functional_feature f) n = nil
  range_pair_named (range r c) n = cons n nil
  range_pair_named (many_role r) n = nil
  range_pair_named (many_feature f) n = nil

-- a role or a feature that an axiom says one value or many of is one of its series
module _ (N R F : ℕ) where
  pub functional_role_named : (x : Axiom) → NamedAxiom N R F x → All (Name R) (name_by 3 x)
  functional_role_named (below a b) n = nil
  functional_role_named (disjoint a b) n = nil
  functional_role_named (functional_role r) n = cons n nil
  functional_role_named (functional_feature f) n = nil
  functional_role_named (range r c) n = nil
  functional_role_named (many_role r) n = nil
  functional_role_named (many_feature f) n = nil

  pub functional_feature_named : (x : Axiom) → NamedAxiom N R F x → All (Name F) (name_by 4 x)
  functional_feature_named (below a b) n = nil
  functional_feature_named (disjoint a b) n = nil
  functional_feature_named (functional_role r) n = nil
  functional_feature_named (functional_feature f) n = cons n nil
  functional_feature_named (range r c) n = nil
  functional_feature_named (many_role r) n = nil
  functional_feature_named (many_feature f) n = nil

  pub many_role_named : (x : Axiom) → NamedAxiom N R F x → All (Name R) (name_by 6 x)
  many_role_named (below a b) n = nil
  many_role_named (disjoint a b) n = nil
  many_role_named (functional_role r) n = nil
  many_role_named (functional_feature f) n = nil
  many_role_named (range r c) n = nil
  many_role_named (many_role r) n = cons n nil
  many_role_named (many_feature f) n = nil

  pub many_feature_named : (x : Axiom) → NamedAxiom N R F x → All (Name F) (name_by 7 x)
  many_feature_named (below a b) n = nil
  many_feature_named (disjoint a b) n = nil
  many_feature_named (functional_role r) n = nil
  many_feature_named (functional_feature f) n = nil
  many_feature_named (range r c) n = nil
  many_feature_named (many_role r) n = nil
  many_feature_named (many_feature f) n = cons n nil

-- an axiom states at most one pair of disjoint classes
pub disjoint_pair_one : (x : Axiom) → length (disjoint_pair x) ≤ 1
disjoint_pair_one (below a b) = omega arith
disjoint_pair_one (disjoint a b) = omega arith
disjoint_pair_one (functional_role r) = omega arith
disjoint_pair_one (functional_feature f) = omega arith
disjoint_pair_one (range r c) = omega arith
disjoint_pair_one (many_role r) = omega arith
disjoint_pair_one (many_feature f) = omega arith

-- ---- what record k states, by its kind

module _ (v : List ℕ) (k : ℕ) where
  by_kind : (P : Axiom → Type 0) →
      (axiom_kind v k ≡ 1 → P (below (axiom_left v k) (axiom_right v k))) → (axiom_kind v k ≡ 2 → P (disjoint (axiom_left v k) (axiom_right v k))) →
      (axiom_kind v k ≡ 3 → P (functional_role (axiom_left v k))) → (axiom_kind v k ≡ 4 → P (functional_feature (axiom_left v k))) →
      (axiom_kind v k ≡ 5 → P (range (axiom_left v k) (axiom_right v k))) → (axiom_kind v k ≡ 6 → P (many_role (axiom_left v k))) →
      P (many_feature (axiom_left v k)) → P (axiom_at v k)
  by_kind P one two three four five six seven =
      split P (eqb (axiom_kind v k) 1) (λ t. one (eqb-true (axiom_kind v k) 1 t)) (λ _.
      split P (eqb (axiom_kind v k) 2) (λ t. two (eqb-true (axiom_kind v k) 2 t)) (λ _.
      split P (eqb (axiom_kind v k) 3) (λ t. three (eqb-true (axiom_kind v k) 3 t)) (λ _.
      split P (eqb (axiom_kind v k) 4) (λ t. four (eqb-true (axiom_kind v k) 4 t)) (λ _.
      split P (eqb (axiom_kind v k) 5) (λ t. five (eqb-true (axiom_kind v k) 5 t)) (λ _.
      split P (eqb (axiom_kind v k) 6) (λ t. six (eqb-true (axiom_kind v k) 6 t)) (λ _. seven))))))

  pub subclass_at : axiom_kind v k ≡ 1 → subclass (axiom_at v k) ≡ (axiom_left v k, axiom_right v k) ∷ []
  subclass_at e = rw e

  pub subclass_other : (axiom_kind v k ≡ 1 → ⊥) → subclass (axiom_at v k) ≡ []
  subclass_other n = by_kind (λ x. subclass x ≡ []) (λ e. absurd (n e)) (λ _. refl) (λ _. refl) (λ _. refl) (λ _. refl) (λ _. refl) refl

  pub disjoint_pair_at : axiom_kind v k ≡ 2 → disjoint_pair (axiom_at v k) ≡ (axiom_left v k, axiom_right v k) ∷ []
  disjoint_pair_at e = rw e

  pub disjoint_pair_other : (axiom_kind v k ≡ 2 → ⊥) → disjoint_pair (axiom_at v k) ≡ []
  disjoint_pair_other n = by_kind (λ x. disjoint_pair x ≡ []) (λ _. refl) (λ e. absurd (n e)) (λ _. refl) (λ _. refl) (λ _. refl) (λ _. refl) refl

  pub range_pair_at : axiom_kind v k ≡ 5 → range_pair (axiom_at v k) ≡ (axiom_left v k, axiom_right v k) ∷ []
  range_pair_at e = rw e

  pub range_pair_other : (axiom_kind v k ≡ 5 → ⊥) → range_pair (axiom_at v k) ≡ []
  range_pair_other n = by_kind (λ x. range_pair x ≡ []) (λ _. refl) (λ _. refl) (λ _. refl) (λ _. refl) (λ e. absurd (n e)) (λ _. refl) refl

  -- a record that fits is of one of the seven kinds, and its axiom's first name is its own
  pub name_by_at : axiom_fits v k ≡ true → (kind : ℕ) → name_by kind (axiom_at v k) ≡ cond (eqb (axiom_kind v k) kind) (axiom_left v k ∷ []) []
  name_by_at f kind =
      choose So P (eqb (axiom_kind v k) 1) (λ t _. is 1 t) (λ _.
      choose So P (eqb (axiom_kind v k) 2) (λ t _. is 2 t) (λ _.
      choose So P (eqb (axiom_kind v k) 3) (λ t _. is 3 t) (λ _.
      choose So P (eqb (axiom_kind v k) 4) (λ t _. is 4 t) (λ _.
      choose So P (eqb (axiom_kind v k) 5) (λ t _. is 5 t) (λ _.
      choose So P (eqb (axiom_kind v k) 6) (λ t _. is 6 t) (λ _ g. let u = simp tests at g in rw u.0)))))) f
    where
      P : Axiom → Type 0
      P x = name_by kind x ≡ cond (eqb (axiom_kind v k) kind) (axiom_left v k ∷ []) []

      is : (j : ℕ) → eqb (axiom_kind v k) j ≡ true → cond (eqb j kind) (axiom_left v k ∷ []) [] ≡ cond (eqb (axiom_kind v k) kind) (axiom_left v k ∷ []) []
      is j t = ap (λ (i : ℕ). cond (eqb i kind) (axiom_left v k ∷ []) []) (sym (eqb-true (axiom_kind v k) j t))
