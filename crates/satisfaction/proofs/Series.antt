-- The numbers of the series are the roles and the features: what the model obeys of them.
use Prim.Native.Nat.{◌+◌, ℕ}
use mathlib.Core.List.{List}
use mathlib.Core.Logic.{◌↔◌, ⊎_elim}
use mathlib.Core.Path.{◌∙◌, ◌≡◌, ap, refl}
use lib.Dec.{T, eqb, eqb→eq}
use native.Mathlib.Omega.{arith}
use borrow.Author.Tests.{eq-eqb}
use Rattle.meaning.specs.Limits.{most_features, most_roles}
use Rattle.meaning.specs.Lists.{◌∈◌}
use Rattle.meaning.specs.Model.{Fact, edge, member, value}
use Rattle.meaning.specs.ModelCheck.{obeys}
use Rattle.meaning.specs.Records.{Name, is_name}
use Rattle.meaning.specs.Vocabulary.{functional_feature, functional_role}
use Rattle.satisfaction.proofs.Facts.{named_number}
use Rattle.satisfaction.proofs.Values.{said}
use Rattle.satisfaction.specs.Links.{Gives, Link, Single, link, link_of, number_of}
use Rattle.theory.proofs.ModelCheck.{obeys_iff}
use Rattle.theory.proofs.Rules.{any_mono}
use Rattle.words.proofs.Laws.{named_within}

-- ---- the facts of a role, and of a feature

edge_is : (a i j : ℕ) → Name most_roles a → (x : Fact) → link i j ≡ link_of a x → edge a i j ≡ x
edge_is a i j n (member b o) e = absurd (let q = eqb→eq a 0 (said (eqb a 0) i j o 0 e).0 in omega arith)
edge_is a i j n (edge r o k) e =
    let s = said (eqb a (number_of (edge r o k))) i j o k e in
    let q = eqb→eq a (number_of (edge r o k)) s.0 in
    ⊎_elim (λ z. absurd (omega arith)) (λ z. let p : a ≡ r = q ∙ z.2 in cc) (named_number most_roles r (is_name most_roles r) refl r)
edge_is a i j n (value f o v) e =
    let s = said (eqb a (number_of (value f o v))) i j o v e in
    let q = eqb→eq a (number_of (value f o v)) s.0 in
    absurd (⊎_elim (λ z. omega arith) (λ z. omega arith) (named_number most_features f (is_name most_features f) refl (most_roles + f)))

value_is : (a i j : ℕ) → Name most_features a → (x : Fact) → link i j ≡ link_of (most_roles + a) x → value a i j ≡ x
value_is a i j n (member b o) e = absurd (let q = eqb→eq (most_roles + a) 0 (said (eqb (most_roles + a) 0) i j o 0 e).0 in omega arith)
value_is a i j n (edge r o k) e =
    let s = said (eqb (most_roles + a) (number_of (edge r o k))) i j o k e in
    let q = eqb→eq (most_roles + a) (number_of (edge r o k)) s.0 in
    absurd (⊎_elim (λ z. omega arith) (λ z. omega arith) (named_number most_roles r (is_name most_roles r) refl r))
value_is a i j n (value f o v) e =
    let s = said (eqb (most_roles + a) (number_of (value f o v))) i j o v e in
    let q = eqb→eq (most_roles + a) (number_of (value f o v)) s.0 in
    ⊎_elim (λ z. absurd (omega arith)) (λ z. let p : a ≡ f = omega arith in cc) (named_number most_features f (is_name most_features f) refl (most_roles + f))

module _ (F : List Fact) where
  -- by the fact that gives i the value j
  module _ (says : Fact → Link) (fact : ℕ → ℕ → Fact) (gives : (i j : ℕ) → link i j ≡ says (fact i j)) (is : (i j : ℕ) (x : Fact) → link i j ≡ says x → fact i j ≡ x) where
    stated : (i j : ℕ) → fact i j ∈ F → Gives says i j F
    stated i j m = any_mono (λ x e. gives i j ∙ ap says e) m

    single_iff : Single says F ↔ ((i j k : ℕ) → fact i j ∈ F → fact i k ∈ F → j ≡ k)
    single_iff = (λ s i j k x y. s i j k (stated i j x) (stated i k y), λ s i j k x y. s i j k (any_mono (is i j) x) (any_mono (is i k) y))

  module _ (a : ℕ) where
    pub role_iff : Name most_roles a → Single (link_of a) F ↔ T (obeys F (functional_role a))
    role_iff n =
        let s = single_iff (link_of a) (edge a) (λ i j. rw (named_within most_roles a n.0 n.1, eq-eqb a a refl)) (λ i j. edge_is a i j n) in
        let o = obeys_iff F 0 (functional_role a) in (λ h. o.1 (s.0 h), λ h. s.1 (o.0 h))

    pub feature_iff : Name most_features a → Single (link_of (most_roles + a)) F ↔ T (obeys F (functional_feature a))
    feature_iff n =
        let s = single_iff (link_of (most_roles + a)) (value a) (λ i j. rw (named_within most_features a n.0 n.1, eq-eqb (most_roles + a) (most_roles + a) refl)) (λ i j. value_is a i j n) in
        let o = obeys_iff F 0 (functional_feature a) in (λ h. o.1 (s.0 h), λ h. s.1 (o.0 h))
