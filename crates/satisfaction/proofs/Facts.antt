-- Laws of one record of the model: the fact that it states, by its kind and name.
use Prim.Native.Nat.{◌+◌, ◌≤◌, ℕ}
use mathlib.Core.Bool.{Bool, cond, false, true}
use mathlib.Core.List.{List}
use mathlib.Core.Logic.{◌⊎◌, inl, inr, ⊎_elim}
use mathlib.Core.Path.{◌∙◌, ◌≡◌, refl, subst, sym}
use native.Mathlib.Omega.{arith}
use borrow.Author.Tests.{eq-eqb, eqb-false, eqb-true, ne_eqb}
use lib.Dec.{eqb}
use Rattle.meaning.specs.Limits.{most_features, most_individuals, most_roles}
use Rattle.meaning.specs.Lists.{All, cons, nil}
use Rattle.meaning.specs.Model.{Fact, edge, fact_at, fact_kind, fact_name, fact_other, fact_owner, facts_of, individual_count}
use Rattle.meaning.specs.Model.{member, value}
use Rattle.meaning.specs.Records.{Name, is_name}
use Rattle.model.specs.Chain.{Readable, Stated, fact_links}
use Rattle.records.specs.Chains.{Along, along_end, along_more}
use Rattle.satisfaction.specs.Classes.{Interpreted, entered, is_ranged, owner_of}
use Rattle.satisfaction.specs.Links.{number_of, other_of}
use Rattle.satisfaction.specs.Places.{class_place, classes_of, put_in, series_count}
use Rattle.theory.proofs.Links.{split, tests}
use Rattle.words.specs.Rows.{class_words}
use Rattle.words.specs.Sets.{in_set}

module _ {m : List ℕ} {k : ℕ} (s : Stated m k) where
  -- what holds of the fact, by the three kinds
  pub by_kind : (P : Fact → Type 0) → (fact_kind m k ≡ 1 → P (member (fact_name m k) (fact_owner m k))) →
      (fact_kind m k ≡ 2 → P (edge (fact_name m k) (fact_owner m k) (fact_other m k))) →
      (fact_kind m k ≡ 3 → P (value (fact_name m k) (fact_owner m k) (fact_other m k))) → P (fact_at m k)
  by_kind P f g h =
      split P (eqb (fact_kind m k) 1) (λ a. f (eqb-true (fact_kind m k) 1 a)) (λ a.
      split P (eqb (fact_kind m k) 2) (λ b. g (eqb-true (fact_kind m k) 2 b)) (λ b.
      let x = eqb-false (fact_kind m k) 1 a in
      let y = eqb-false (fact_kind m k) 2 b in h (omega arith)))

  pub owner_at_lem : owner_of (fact_at m k) ≡ fact_owner m k
  owner_at_lem = by_kind (λ x. owner_of x ≡ fact_owner m k) (λ _. refl) (λ _. refl) (λ _. refl)

  module _ {kind : ℕ} (ek : kind ≡ fact_kind m k) where
    -- ---- a class entered

    module _ (w : List ℕ) where
      pub entered_none : (kind ≡ 1 → ⊥) → w ≡ entered w (fact_at m k)
      entered_none n = by_kind (λ x. w ≡ entered w x) (λ e. absurd (n (ek ∙ e))) (λ _. refl) (λ _. refl)

      pub entered_one : {i a at : ℕ} {w' : List ℕ} → kind ≡ 1 → i ≡ fact_owner m k → a ≡ fact_name m k → at ≡ class_place i → w' ≡ put_in class_words w at a →
          w' ≡ entered w (fact_at m k)
      entered_one {w' = w'} e ei ea ep h =
          by_kind (λ x. w' ≡ entered w x) (λ _. h ∙ rw (ep, ei, ea)) (λ d. absurd (omega arith)) (λ d. absurd (omega arith))

    -- ---- an edge

    module _ (r c : ℕ) where
      pub unranged : (kind ≡ 2 → ⊥) → true ≡ is_ranged (facts_of m) r c (fact_at m k)
      unranged n = by_kind (λ x. true ≡ is_ranged (facts_of m) r c x) (λ _. refl) (λ e. absurd (n (ek ∙ e))) (λ _. refl)

      pub other_role : {a : ℕ} → a ≡ fact_name m k → (a ≡ r → ⊥) → true ≡ is_ranged (facts_of m) r c (fact_at m k)
      other_role {a} ea n = by_kind (λ x. true ≡ is_ranged (facts_of m) r c x) (λ _. refl) (λ _. rw (← ea, ne_eqb r a (λ d. n (sym d)))) (λ _. refl)

    module _ {w : List ℕ} {j : ℕ} (i : Interpreted m w) (e : kind ≡ 2) (ej : j ≡ fact_other m k) where
      pub target_named : Name most_individuals j
      target_named = let t = s.target (sym ek ∙ e) in omega arith

      pub ranged_into : (r c : ℕ) {a : ℕ} {b : Bool} → a ≡ fact_name m k → a ≡ r → b ≡ in_set (classes_of w j) c → b ≡ is_ranged (facts_of m) r c (fact_at m k)
      ranged_into r c {a} {b} ea d h =
          by_kind (λ x. b ≡ is_ranged (facts_of m) r c x) (λ d. absurd (omega arith))
          (λ z. h ∙ i.classed.rows j c (rw ej (s.target z)) ∙ rw (← ea, eq-eqb r a (sym d), ej)) (λ d. absurd (omega arith))

-- ---- a value of a role or feature

-- a number is that of a name
pub named_number : (n a : ℕ) (b : Bool) → is_name n a ≡ b → (k : ℕ) → (cond b k 0 ≡ 0) ⊎ ((1 ≤ a) × (a ≤ n) × (cond b k 0 ≡ k))
named_number n a true e k = inr (let u = simp tests at e in (u.0, u.1, refl))
named_number n a false e k = inl refl

pub number_few : (x : Fact) → number_of x ≤ series_count
number_few (member a i) = omega arith
number_few (edge r i j) = ⊎_elim (λ z. omega arith) (λ z. omega arith) (named_number most_roles r (is_name most_roles r) refl r)
number_few (value f i v) = ⊎_elim (λ z. omega arith) (λ z. omega arith) (named_number most_features f (is_name most_features f) refl (most_roles + f))

module _ {m : List ℕ} {k : ℕ} (s : Stated m k) where
  -- what a record of the series gives its individual
  pub number_other : (number_of (fact_at m k) ≡ 0 → ⊥) → other_of (fact_at m k) ≡ fact_other m k
  number_other = by_kind s (λ x. (number_of x ≡ 0 → ⊥) → other_of x ≡ fact_other m k) (λ _ n. absurd (n refl)) (λ _ n. refl) (λ _ n. refl)

-- each individual that has a fact is one of the header's
pub owners_named : {m : List ℕ} → Readable m → All (λ x. Name (individual_count m) (owner_of x)) (facts_of m)
unfolding fact_links
owners_named {m} r = go r.facts
  where
    go : {k : ℕ} {F : List Fact} → Along (fact_links m) k F → All (λ x. Name (individual_count m) (owner_of x)) F
    go (along_end e) = nil
    go (along_more n o s l) = cons (subst (Name (individual_count m)) (sym (owner_at_lem s)) s.owner) (go l)
