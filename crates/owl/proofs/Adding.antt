-- Axioms without many-valued ones, with the many-valued of all that they do not make functional: no name stands both ways, and exactly
-- those are functional that the axioms make so. Of lists of axioms, whatever they come from.
use Prim.Native.Nat.{ℕ}
use mathlib.Core.Bool.{Bool, ◌&&◌, false, not, true}
use mathlib.Core.List.{List, [], ◌++◌, append-nil, map}
use mathlib.Core.Path.{◌∙◌, ◌≡◌, ap, ap₂, refl}
use lib.Dec.{T, eqb, eqb→eq}
use lib.Ieee.Bits.{is_false as is_false_lem, is_true as is_true_lem}
use Rattle.meaning.specs.Accepted.{NamedAxiom}
use Rattle.meaning.specs.Lists.{All, ◌∈◌, any}
use Rattle.meaning.specs.Records.{Name, is_name}
use Rattle.meaning.specs.Stated.{is_functional_feature, is_functional_role, is_many_feature, is_many_role}
use Rattle.meaning.specs.Vocabulary.{Axiom, is_named, is_opposed, many_feature, many_role, name_by, names_by, unnamed}
use Rattle.owl.proofs.Lists.{flat_map_again, flat_map_none}
use Rattle.theory.proofs.Defaults.{functional_feature_lem, functional_role_lem, in_unnamed, unnamed_names}
use Rattle.theory.proofs.Links.{bounds}
use Rattle.theory.proofs.Rules.{T_and, all_append, all_at, all_flat_map, all_map, all_mono, any_at, any_in, any_mono, any_out, eqb_of, is_false, is_true}
use Rattle.theory.proofs.Rules.{flat_map_append, not_true, same_test}
use Rattle.theory.proofs.Stated.{functional_feature_named, functional_role_named}

-- ---- one series: L makes functional what l does, and many-valued all else of its n names

listed : (x : ℕ) (l : List ℕ) → T (any (eqb x) l) → x ∈ l
listed x l t = any_mono (λ y e. eqb→eq x y e) (any_out (eqb x) l t)

is_listed : (x : ℕ) (l : List ℕ) → x ∈ l → T (any (eqb x) l)
is_listed x l m = any_in (eqb x) (any_mono (λ y e. eqb_of x y e) m)

-- what is no name of the series is not functional
all_but : (name one : Bool) → (T one → T name) → name && not (name && not one) ≡ one
all_but true true h = refl
all_but true false h = refl
all_but false true h = absurd (h tt)
all_but false false h = refl

-- lists that share no number
none_shared : (xs ys : List ℕ) → ((x : ℕ) → x ∈ xs → x ∈ ys → ⊥) → any (λ x. any (eqb x) xs) ys ≡ false
none_shared xs ys h =
    is_false (any (λ x. any (eqb x) xs) ys) (λ t.
    let found = any_at (any_out (λ x. any (eqb x) xs) ys t) in
    h found.0 (listed found.0 xs found.2) found.1)

module _ (one many : ℕ) (l L : List Axiom) (n : ℕ) (ones : names_by one L ≡ names_by one l) (others : names_by many L ≡ unnamed one l n) where
  none_both : any (is_named many L) (names_by one L) ≡ false
  unfolding is_named
  none_both =
      ap₂ (λ (xs ys : List ℕ). any (λ x. any (eqb x) xs) ys) others ones
      ∙ none_shared (unnamed one l n) (names_by one l) (λ x m k. not_true (all_at (unnamed_names one l n) m).1 (is_listed x (names_by one l) k))

  many_others : (x : ℕ) → is_named many L x ≡ is_name n x && not (is_named one l x)
  unfolding is_named
  many_others x =
      same_test (is_named many L x) (is_name n x && not (is_named one l x))
      (λ t.
      let o = all_at (unnamed_names one l n) (listed x (unnamed one l n) (rw others at t)) in
      is_true {b = is_name n x && not (is_named one l x)} (rw o.1 (simp bounds (o.0, refl))))
      (λ t.
      let u = T_and (is_name n x) (not (is_named one l x)) t in
      let e = is_true_lem (is_name n x) u.0 in
      rw others (is_listed x (unnamed one l n) (in_unnamed one l n x (simp bounds at e) (is_false_lem (is_named one l x) u.1))))

  -- a counted name that is not many-valued is one that l makes functional
  counted_ones : All (Name n) (names_by one l) → (x : ℕ) → is_name n x && not (is_named many L x) ≡ is_named one l x
  unfolding is_named
  counted_ones named x =
      ap (λ (b : Bool). is_name n x && not b) (many_others x)
      ∙ all_but (is_name n x) (is_named one l x) (λ t. is_true {b = is_name n x} (simp bounds (all_at named (listed x (names_by one l) t))))

-- ---- both

module _ {N R F : ℕ} {l : List Axiom} (named : All (NamedAxiom N R F) l) where
  pub roles_named : All (Name R) (names_by 3 l)
  unfolding names_by
  roles_named = all_flat_map (name_by 3) (all_mono (functional_role_named N R F) named)

  pub features_named : All (Name F) (names_by 4 l)
  unfolding names_by
  features_named = all_flat_map (name_by 4) (all_mono (functional_feature_named N R F) named)

module _ (l : List Axiom) (R F : ℕ) where
  abbrev pub added : List Axiom
  added = map many_role (unnamed 3 l R) ++ map many_feature (unnamed 4 l F)

  pub added_named : (N : ℕ) → All (NamedAxiom N R F) l → All (NamedAxiom N R F) (l ++ added)
  added_named N named =
      all_append named
      (all_append (all_map many_role (all_mono (λ r h. h.0) (unnamed_names 3 l R)))
      (all_map many_feature (all_mono (λ f h. h.0) (unnamed_names 4 l F))))

  abbrev many_roles : List ℕ
  many_roles = unnamed 3 l R

  abbrev many_features : List ℕ
  many_features = unnamed 4 l F

  -- the names of a kind in all of them, by those in each part
  found : (kind : ℕ) → names_by kind (l ++ added) ≡ names_by kind l ++ (names_by kind (map many_role many_roles) ++ names_by kind (map many_feature many_features))
  unfolding names_by
  found kind =
      flat_map_append (name_by kind) l added
      ∙ ap (λ (xs : List ℕ). names_by kind l ++ xs) (flat_map_append (name_by kind) (map many_role many_roles) (map many_feature many_features))

  role_ones : names_by 3 (l ++ added) ≡ names_by 3 l
  unfolding names_by
  role_ones =
      found 3
      ∙ rw (flat_map_none (name_by 3) many_role (λ x. refl) many_roles, flat_map_none (name_by 3) many_feature (λ x. refl) many_features, append-nil)

  feature_ones : names_by 4 (l ++ added) ≡ names_by 4 l
  unfolding names_by
  feature_ones =
      found 4
      ∙ rw (flat_map_none (name_by 4) many_role (λ x. refl) many_roles, flat_map_none (name_by 4) many_feature (λ x. refl) many_features, append-nil)

  module _ (noRole : names_by 6 l ≡ []) (noFeature : names_by 7 l ≡ []) where
    role_others : names_by 6 (l ++ added) ≡ unnamed 3 l R
    unfolding names_by
    role_others =
        found 6
        ∙ rw (noRole, flat_map_again (name_by 6) many_role (λ x. refl) many_roles, flat_map_none (name_by 6) many_feature (λ x. refl) many_features, append-nil)

    feature_others : names_by 7 (l ++ added) ≡ unnamed 4 l F
    unfolding names_by
    feature_others =
        found 7
        ∙ rw (noFeature, flat_map_none (name_by 7) many_role (λ x. refl) many_roles, flat_map_again (name_by 7) many_feature (λ x. refl) many_features)

    -- no name stands both ways
    pub added_apart : is_opposed (l ++ added) ≡ false
    unfolding is_opposed
    added_apart =
        rw (none_both 3 6 l (l ++ added) R role_ones role_others, none_both 4 7 l (l ++ added) F feature_ones feature_others)

    -- a name is functional exactly when l makes it so
    module _ (N : ℕ) (named : All (NamedAxiom N R F) l) where
      pub added_role : (r : ℕ) → is_functional_role (record { classes = N; roles = R; features = F; axioms = l ++ added }) r ≡ is_named 3 l r
      unfolding is_many_role
      added_role r =
          functional_role_lem (record { classes = N; roles = R; features = F; axioms = l ++ added }) (added_named N named) added_apart r
          ∙ counted_ones 3 6 l (l ++ added) R role_ones role_others (roles_named named) r

      pub added_feature : (f : ℕ) → is_functional_feature (record { classes = N; roles = R; features = F; axioms = l ++ added }) f ≡ is_named 4 l f
      unfolding is_many_feature
      added_feature f =
          functional_feature_lem (record { classes = N; roles = R; features = F; axioms = l ++ added }) (added_named N named) added_apart f
          ∙ counted_ones 4 7 l (l ++ added) F feature_ones feature_others (features_named named) f
