-- One value unless said otherwise (SPECIFICATION 3.2): which names the default speaks of, who is functional, what that asks of an
-- interpretation, and when 44 is told.
use Prim.Native.Nat.{◌≤◌, suc, zero, ℕ}
use mathlib.Core.Bool.{Bool, ◌&&◌, and-false, cond, false, not, true}
use mathlib.Core.List.{List, [], ◌∷◌}
use mathlib.Core.Logic.{◌↔◌, inl, inr, ⊎_elim}
use mathlib.Core.Path.{◌≡◌, refl, subst, sym}
use lib.Dec.{T}
use lib.Ieee.Bits.{is_false as is_false_lem, is_true as is_true_lem}
use lib.ListN.{length}
use native.Mathlib.Omega.{arith}
use Rattle.meaning.specs.Accepted.{AxiomOf, NamedAxiom}
use Rattle.meaning.specs.Answers.{Answer, ReadingResult, accepted, refused, result}
use Rattle.meaning.specs.Interpretation.{Interpretation, Satisfies}
use Rattle.meaning.specs.Limits.{most_vocabulary_words}
use Rattle.meaning.specs.Lists.{All, ◌∈◌, any, cons, counting, filter, here, nil}
use Rattle.meaning.specs.Operations.{read_vocabulary, unless}
use Rattle.meaning.specs.Promises.{with_pairs, with_values}
use Rattle.meaning.specs.Records.{Name, is_name, is_sized, or_else}
use Rattle.meaning.specs.Stated.{is_functional_feature, is_functional_role, is_many_feature, is_many_role, ranges}
use Rattle.meaning.specs.Vocabulary.{Axiom, Vocabulary, axiom_next, axioms_of, axioms_refusal, below, defaults, disjoint}
use Rattle.meaning.specs.Vocabulary.{feature_count, first_axiom, functional_feature, functional_role, headed_vocabulary, is_named}
use Rattle.meaning.specs.Vocabulary.{is_opposed, many_feature, many_role, name_by, names_by, range, role_count, sound_axiom, stated}
use Rattle.meaning.specs.Vocabulary.{unnamed, vocabulary_of, vocabulary_refusal}
use Rattle.theory.proofs.Counting.{counting_names, in_counting}
use Rattle.theory.proofs.Links.{bounds}
use Rattle.theory.proofs.Refusals.{along_all}
use Rattle.theory.proofs.Rules.{all_append, all_at, all_map, all_mono, all_of, any_flat_map, any_in, at_any, in_filter, is_false}
use Rattle.theory.proofs.Rules.{is_true, not_true, or_left, or_right, same_test, T_and}
use Rattle.theory.proofs.Stated.{all_stated, feature_default, functional_feature_stated, functional_role_stated}
use Rattle.theory.proofs.Stated.{role_default, stated_all}
use Rattle.theory.proofs.Wellformed.{accepted_axioms, vocabulary_sound}

-- ---- the names of a series that no axiom names

-- what is left by a test has it, and what all have
kept : {P : ℕ → Type 0} (p : ℕ → Bool) (l : List ℕ) → All P l → All (λ x. P x × T (p x)) (filter p l)
kept p [] a = nil
kept {P} p (x ∷ l) (cons h a) = go (p x) (λ t. t) (kept p l a)
  where
    go : (b : Bool) → (T b → T (p x)) → All (λ y. P y × T (p y)) (filter p l) → All (λ y. P y × T (p y)) (cond b (x ∷ filter p l) (filter p l))
    go true f m = cons (h, f tt) m
    go false f m = m

module _ (kind : ℕ) (l : List Axiom) (n : ℕ) where
  pub in_unnamed : (x : ℕ) → Name n x → is_named kind l x ≡ false → x ∈ unnamed kind l n
  unfolding unnamed
  in_unnamed x h e = in_filter _ (in_counting 1 n x h.0 (omega arith)) (is_true {b = not (is_named kind l x)} (rw e))

  pub unnamed_names : All (λ x. Name n x × (is_named kind l x ≡ false)) (unnamed kind l n)
  unfolding unnamed
  unnamed_names = all_mono (λ x h. (h.0, is_false_lem (is_named kind l x) h.1)) (kept _ (counting 1 n) (counting_names n))

-- ---- who is functional

-- the names that the default speaks of are names of K's
pub defaults_named : (K : Vocabulary) → All (NamedAxiom K.classes K.roles K.features) (defaults K)
unfolding defaults
defaults_named K =
    all_append
    (all_map functional_role (all_mono (λ r h. h.0) (unnamed_names 6 K.axioms K.roles)))
    (all_map functional_feature (all_mono (λ f h. h.0) (unnamed_names 7 K.axioms K.features)))

-- a functional name is one of K's that no axiom lets have many values
abbrev One : Vocabulary → Axiom → Type 0
One K (below a b) = Unit {0}
One K (disjoint a b) = Unit {0}
One K (functional_role r) = Name K.roles r × (is_many_role K r ≡ false)
One K (functional_feature f) = Name K.features f × (is_many_feature K f ≡ false)
One K (range r c) = Unit {0}
One K (many_role r) = Unit {0}
One K (many_feature f) = Unit {0}

module _ (K : Vocabulary) where
  -- a counted name is functional unless it is many-valued
  pub role_functional : (r : ℕ) → Name K.roles r → is_many_role K r ≡ false → T (is_functional_role K r)
  unfolding is_many_role
  role_functional r n e = functional_role_stated K r (role_default K r (in_unnamed 6 K.axioms K.roles r n e))

  pub feature_functional : (f : ℕ) → Name K.features f → is_many_feature K f ≡ false → T (is_functional_feature K f)
  unfolding is_many_feature
  feature_functional f n e = functional_feature_stated K f (feature_default K f (in_unnamed 7 K.axioms K.features f n e))

  module _ (named : All (NamedAxiom K.classes K.roles K.features) K.axioms) (apart : is_opposed K.axioms ≡ false) where
    one : All (One K) (stated K)
    unfolding stated defaults is_many_role is_many_feature is_opposed names_by
    one =
        all_append (all_of K.axioms each)
        (all_append (all_map functional_role (unnamed_names 6 K.axioms K.roles))
        (all_map functional_feature (unnamed_names 7 K.axioms K.features)))
      where
        both_role : (r : ℕ) → functional_role r ∈ K.axioms → T (is_named 6 K.axioms r) → T (is_opposed K.axioms)
        both_role r m t = or_left (any (is_named 6 K.axioms) (names_by 3 K.axioms)) _ (any_in (is_named 6 K.axioms) (any_flat_map (name_by 3) (at_any m (here t))))

        both_feature : (f : ℕ) → functional_feature f ∈ K.axioms → T (is_named 7 K.axioms f) → T (is_opposed K.axioms)
        both_feature f m t =
            or_right (any (is_named 6 K.axioms) (names_by 3 K.axioms)) _
            (any_in (is_named 7 K.axioms) (any_flat_map (name_by 4) (at_any m (here t))))

        each : (x : Axiom) → x ∈ K.axioms → One K x
        each (below a b) m = tt
        each (disjoint a b) m = tt
        each (functional_role r) m = (all_at named m, is_false (is_named 6 K.axioms r) (λ t. not_true apart (both_role r m t)))
        each (functional_feature f) m = (all_at named m, is_false (is_named 7 K.axioms f) (λ t. not_true apart (both_feature f m t)))
        each (range r c) m = tt
        each (many_role r) m = tt
        each (many_feature f) m = tt

    functional_name : (n : ℕ) (x : ℕ) (s many : Bool) → (T s → Name n x × (many ≡ false)) → (Name n x → many ≡ false → T s) → s ≡ is_name n x && not many
    functional_name n x s many out back =
        same_test s (is_name n x && not many)
        (λ t. let h = out t in is_true {b = is_name n x && not many} (rw h.1 (simp bounds (h.0, refl))))
        (λ t. let u = T_and (is_name n x) (not many) t in let e = is_true_lem (is_name n x) u.0 in back (simp bounds at e) (is_false_lem many u.1))

    pub functional_role_lem : (r : ℕ) → is_functional_role K r ≡ is_name K.roles r && not (is_many_role K r)
    functional_role_lem r = functional_name K.roles r (is_functional_role K r) (is_many_role K r) ((all_stated K one).role r) (role_functional r)

    pub functional_feature_lem : (f : ℕ) → is_functional_feature K f ≡ is_name K.features f && not (is_many_feature K f)
    functional_feature_lem f = functional_name K.features f (is_functional_feature K f) (is_many_feature K f) ((all_stated K one).feature f) (feature_functional f)

-- ---- an accepted vocabulary

module _ (v : List ℕ) (h : vocabulary_refusal v ≡ 0) where
  pub accepted_stated : All (AxiomOf v) (stated (vocabulary_of v))
  unfolding stated vocabulary_of
  accepted_stated = all_append (accepted_axioms v h) (defaults_named (vocabulary_of v))

  named : All (NamedAxiom (vocabulary_of v).classes (vocabulary_of v).roles (vocabulary_of v).features) (vocabulary_of v).axioms
  unfolding vocabulary_of
  named = accepted_axioms v h

  apart : is_opposed (vocabulary_of v).axioms ≡ false
  unfolding vocabulary_of
  apart = (vocabulary_sound v h).apart

  -- a role is functional exactly when it is counted and no record of kind 6 names it; a feature, with kind 7
  pub accepted_role : (r : ℕ) → is_functional_role (vocabulary_of v) r ≡ is_name (role_count v) r && not (is_many_role (vocabulary_of v) r)
  unfolding vocabulary_of
  accepted_role r = functional_role_lem (vocabulary_of v) named apart r

  pub accepted_feature : (f : ℕ) → is_functional_feature (vocabulary_of v) f ≡ is_name (feature_count v) f && not (is_many_feature (vocabulary_of v) f)
  unfolding vocabulary_of
  accepted_feature f = functional_feature_lem (vocabulary_of v) named apart f

-- ---- what is asked of an interpretation

not_both : (n functional many : Bool) → functional ≡ n && not many → T functional → T many → ⊥
not_both n true true e t u = not_true {b = n && false} (and-false n) (is_true (sym e))
not_both n true false e t u = u
not_both n false many e t u = t

module _ (v : List ℕ) (I : Interpretation) (s : Satisfies I (vocabulary_of v)) where
  -- a counted role that no record of kind 6 names has one value; a feature, with kind 7
  pub role_single : (r : ℕ) → Name (role_count v) r → is_many_role (vocabulary_of v) r ≡ false → (i j k : ℕ) → I.by_role r i j → I.by_role r i k → j ≡ k
  unfolding vocabulary_of
  role_single r n e = (all_stated (vocabulary_of v) s.obeyed).role r (role_functional (vocabulary_of v) r n e)

  pub feature_single : (f : ℕ) → Name (feature_count v) f → is_many_feature (vocabulary_of v) f ≡ false → (i x y : ℕ) → I.has_value f i x → I.has_value f i y → x ≡ y
  unfolding vocabulary_of
  feature_single f n e = (all_stated (vocabulary_of v) s.obeyed).feature f (feature_functional (vocabulary_of v) f n e)

  module _ (h : vocabulary_refusal v ≡ 0) where
    -- nothing but its ranges is asked of a role that a record of kind 6 names: any pairs will do that lead into them
    pub role_unasked : (r : ℕ) → T (is_many_role (vocabulary_of v) r) → (S : ℕ → ℕ → Type 0) →
        ((i j c : ℕ) → S i j → c ∈ ranges (vocabulary_of v) r → I.in_class c j) → Satisfies (with_pairs I r S) (vocabulary_of v)
    role_unasked r t S into =
        let K = vocabulary_of v in
        let o = all_stated K s.obeyed in
        record {
          obeyed = stated_all K (record {
            subclass = o.subclass;
            apart = o.apart;
            role = λ q u i j k a b. o.role q u i j k (other q u i j a) (other q u i k b);
            feature = o.feature;
            ranged = λ q c m i j. ⊎_elim (λ a. into i j c a.1 (subst (λ (x : ℕ). c ∈ ranges K x) a.0 m)) (λ b. o.ranged q c m i j b.1);
            many_role = λ q u. tt;
            many_feature = λ f u. tt;
          });
        }
      where
        other : (q : ℕ) → T (is_functional_role (vocabulary_of v) q) → (i j : ℕ) → (with_pairs I r S).by_role q i j → I.by_role q i j
        other q u i j (inl a) = absurd (not_both (is_name (role_count v) q) (is_functional_role (vocabulary_of v) q) (is_many_role (vocabulary_of v) q) (accepted_role v h q) u (subst (λ (x : ℕ). T (is_many_role (vocabulary_of v) x)) (sym a.0) t))
        other q u i j (inr b) = b.1

    -- and nothing at all of a feature that a record of kind 7 names
    pub feature_unasked : (f : ℕ) → T (is_many_feature (vocabulary_of v) f) → (S : ℕ → ℕ → Type 0) → Satisfies (with_values I f S) (vocabulary_of v)
    feature_unasked f t S =
        let K = vocabulary_of v in
        let o = all_stated K s.obeyed in
        record {
          obeyed = stated_all K (record {
            subclass = o.subclass;
            apart = o.apart;
            role = o.role;
            feature = λ g u i x y a b. o.feature g u i x y (other g u i x a) (other g u i y b);
            ranged = o.ranged;
            many_role = λ q u. tt;
            many_feature = λ g u. tt;
          });
        }
      where
        other : (g : ℕ) → T (is_functional_feature (vocabulary_of v) g) → (i x : ℕ) → (with_values I f S).has_value g i x → I.has_value g i x
        other g u i x (inl a) = absurd (not_both (is_name (feature_count v) g) (is_functional_feature (vocabulary_of v) g) (is_many_feature (vocabulary_of v) g) (accepted_feature v h g) u (subst (λ (y : ℕ). T (is_many_feature (vocabulary_of v) y)) (sym a.0) t))
        other g u i x (inr b) = b.1

-- ---- 44

-- it is told exactly when the length, the header and every record of the chain are right, and a name stands both ways
pub opposed_refused : (v : List ℕ) →
    (read_vocabulary v ≡ refused 44)
    ↔ ((is_sized 4 most_vocabulary_words (length v) ≡ true) × (headed_vocabulary v ≡ true) × (axioms_refusal (length v) v (first_axiom v) ≡ 0) × (is_opposed (axioms_of v) ≡ true))
unfolding read_vocabulary vocabulary_refusal
opposed_refused v = (out (is_sized 4 most_vocabulary_words (length v)) (headed_vocabulary v) (axioms_refusal (length v) v (first_axiom v)) (is_opposed (axioms_of v)) chain, λ h. rw (h.0, h.1, h.2, h.3))
  where
    chain : axioms_refusal (length v) v (first_axiom v) ≤ 3
    chain = along_all (λ n. n ≤ 3) (axiom_next v) (sound_axiom v) (omega arith) (omega arith) (length v) (first_axiom v)

    out : (a b : Bool) (n : ℕ) (c : Bool) → n ≤ 3 → unless {A = Answer ReadingResult} refused (cond a (cond b (or_else n (cond c 44 0)) 2) 1) (result accepted) ≡ refused 44 →
        (a ≡ true) × (b ≡ true) × (n ≡ 0) × (c ≡ true)
    out false b n c l e = let z : ◌≡◌ {A = ℕ} 1 44 = cc in absurd (omega arith)
    out true false n c l e = let z : ◌≡◌ {A = ℕ} 2 44 = cc in absurd (omega arith)
    out true true zero true l e = (refl, refl, refl, refl)
    out true true zero false l e = let z : ◌≡◌ {A = ℕ} 0 1 = cc in absurd (omega arith)
    out true true (suc n) c l e = let z : suc n ≡ 44 = cc in absurd (omega arith)
