-- Laws of what the records of a vocabulary ask: tests of one after another, and what the facts obey.
use Prim.Native.Nat.{◌+◌, ◌<◌, ◌≤◌, suc, zero, ℕ}
use mathlib.Core.Bool.{Bool, ◌&&◌, cond, false, not, true}
use mathlib.Core.List.{List, ◌∷◌}
use mathlib.Core.Logic.{◌↔◌}
use mathlib.Core.Path.{◌∙◌, ◌≡◌, ap, refl, subst, sym}
use Rattle.std.specs.List.{list_all, range_with_len}
use lib.Dec.{T, T_not, not_T}
use native.Mathlib.Numerals.{add-one}
use native.Mathlib.Omega.{arith}
use borrow.Author.Tests.{not-false, not-true}
use Rattle.std.specs.Prelude.{Some}
use Rattle.meaning.specs.declared.ClassNo.{ClassNo}
use Rattle.meaning.specs.declared.RoleNo.{RoleNo}
use Rattle.meaning.specs.Limits.{most_classes, most_roles}
use Rattle.meaning.specs.Lists.{All, ◌∈◌, all, any, cons, counting, nil}
use Rattle.meaning.specs.Model.{Fact, facts_of, individual_count, member}
use Rattle.meaning.specs.ModelCheck.{is_member, obeys}
use Rattle.meaning.specs.Records.{Name, falling, last_of}
use Rattle.meaning.specs.Vocabulary.{Axiom, axiom_at, axiom_kind, axiom_left, axiom_next, axiom_right, below, disjoint}
use Rattle.meaning.specs.Vocabulary.{first_axiom, range, vocabulary_of, vocabulary_refusal}
use Rattle.model.specs.Chain.{Readable}
use Rattle.records.proofs.Chains.{Walking, walking_ends, walking_falls, walking_found, walking_on, walking_sound, walking_starts}
use Rattle.satisfaction.proofs.Facts.{owners_named}
use Rattle.satisfaction.proofs.Ranges.{range_told}
use Rattle.satisfaction.specs.Classes.{Classed, Interpreted, follows}
use Rattle.satisfaction.specs.Holding.{Askable, is_held}
use Rattle.satisfaction.specs.Places.{classes_of, ranges_of}
use Rattle.satisfaction.specs.Ranges.{Ranged}
use Rattle.theory.proofs.ModelCheck.{is_member_lem, member_is, obeys_iff}
use Rattle.theory.proofs.Counting.{in_counting}
use Rattle.theory.proofs.Rules.{all_at, all_in, all_out, any_in, any_mono, any_out, imp_in, imp_out, same_test}
use Rattle.theory.proofs.Links.{tests}
use Rattle.theory.proofs.Wellformed.{accepted_counts}
use Rattle.vocabulary.proofs.Chain.{axiom_links, axioms_along}
use Rattle.vocabulary.specs.Axioms.{AxiomRead, stated_by}
use Rattle.vocabulary.specs.declared.Axiom.{Axiom as Read}
use Rattle.vocabulary.specs.declared.Axiom.TheVariants as kind
use Rattle.words.specs.Sets.{in_set}

-- ---- one after another

-- c is the test of the first, and b the whole answer
module _ {A : Type 0} (p : A → Bool) (x : A) {b c : Bool} (e : c ≡ p x) (l : List A) (h : b ≡ all p (x ∷ l)) where
  pub all_fails : not c ≡ true → false ≡ b
  all_fails n = sym (h ∙ rw (← e, not-true c n))

  pub all_on : not c ≡ false → b ≡ all p l
  all_on n = h ∙ rw (← e, not-false c n)

-- numbers from 1 on, each one behind those of a range
pub all_counted : (f : ℕ → Bool) (k n : ℕ) → list_all (λ i. f (i + 1)) (range_with_len k n) ≡ all f (counting (suc k) n)
all_counted f k zero = refl
all_counted f k (suc n) = rw add-one (ap (λ (b : Bool). f (suc k) && b) (all_counted f (suc k) n))

-- ---- two classes

counted : {P : ℕ → Type 0} (k n : ℕ) → ((i : ℕ) → k ≤ i → i < k + n → P i) → All P (counting k n)
counted k zero f = nil
counted k (suc n) f = cons (f k (omega arith) (omega arith)) (counted (suc k) n (λ i a b. f i (omega arith) (omega arith)))

member_iff : (F : List Fact) (a i : ℕ) → T (any (is_member a i) F) ↔ (member a i ∈ F)
member_iff F a i = (λ t. any_mono (λ x m. member_is a i x m) (any_out (is_member a i) F t), λ m. any_in (is_member a i) (any_mono (λ x e. is_member_lem a i x e) m))

-- by the sets of the work slice, which are right
module _ {m w : List ℕ} (r : Readable m) (c : Classed m w) (a b : ℕ) where
  abbrev F : List Fact
  F = facts_of m

  in_iff : (d i : ℕ) → Name (individual_count m) i → T (in_set (classes_of w i) d) ↔ (member d i ∈ F)
  in_iff d i n = rw (c.rows i d n) (member_iff F d i)

  abbrev concludes : Bool → ℕ → Bool
  concludes apart i = cond apart (not (in_set (classes_of w i) b)) (in_set (classes_of w i) b)

  module _ (apart : Bool) where
    pairs : T (all (follows w a b apart) (counting 1 (individual_count m))) ↔ ((i : ℕ) → Name (individual_count m) i → member a i ∈ F → T (concludes apart i))
    pairs = (
      λ t i n e.
          let f = all_at (all_out (follows w a b apart) (counting 1 (individual_count m)) t) (in_counting 1 (individual_count m) i n.0 (omega arith)) in
          imp_out (in_set (classes_of w i) a) (concludes apart i) f ((in_iff a i n).1 e),
      λ f. all_in (follows w a b apart) (counted 1 (individual_count m) (λ i l h.
          let n : Name (individual_count m) i = (l, omega arith) in
          imp_in (in_set (classes_of w i) a) (concludes apart i) (λ t. f i n ((in_iff a i n).0 t)))),
    )

  named : (d i : ℕ) → member d i ∈ F → Name (individual_count m) i
  named d i e = all_at (owners_named r) e

  module _ {t : Bool} {n : ℕ} (en : n ≡ individual_count m) where
    pub below_told : t ≡ all (follows w a b false) (counting 1 n) → t ≡ obeys F (below a b)
    below_told e =
        let o = obeys_iff F 0 (below a b) in
        e ∙ rw en (same_test (all (follows w a b false) (counting 1 (individual_count m))) (obeys F (below a b))
        (λ h. o.1 (λ i k. let n = named a i k in (in_iff b i n).0 ((pairs false).0 h i n k)))
        (λ h. (pairs false).1 (λ i n k. (in_iff b i n).1 (o.0 h i k))))

    pub disjoint_told : t ≡ all (follows w a b true) (counting 1 n) → t ≡ obeys F (disjoint a b)
    disjoint_told e =
        let o = obeys_iff F 0 (disjoint a b) in
        e ∙ rw en (same_test (all (follows w a b true) (counting 1 (individual_count m))) (obeys F (disjoint a b))
        (λ h. o.1 (λ i k l. let n = named a i k in T_not (in_set (classes_of w i) b) ((pairs true).0 h i n k) ((in_iff b i n).1 l)))
        (λ h. (pairs true).1 (λ i n k. not_T (in_set (classes_of w i) b) (λ l. o.0 h i k ((in_iff b i n).0 l)))))

-- ---- what record k of the vocabulary asks, by what is read of it

abbrev first_name : Axiom → ℕ
first_name (range r c) = r
first_name x = 0

abbrev second_name : Axiom → ℕ
second_name (range r c) = c
second_name x = 0

module _ {v : List ℕ} {k : ℕ} {x y : Read} (e : AxiomRead v k (Some x)) (p : x ≡ y) where
  as_read : AxiomRead v k (Some y)
  as_read = rw p at e

  pub asks : (F : List Fact) {t : Bool} → t ≡ is_held F (stated_by y) → t ≡ is_held F (axiom_at v k)
  asks F h = h ∙ ap (is_held F) (sym as_read.stated)

-- a range
module _ {v m w : List ℕ} {k : ℕ} {x : Read} {r : RoleNo} {c : ClassNo} (a : Askable v m w k) (e : AxiomRead v k (Some x)) (p : x ≡ kind.Range r c) where
  is_range : axiom_kind v k ≡ 5
  is_range = (as_read e p).kind

  names : range (axiom_left v k) (axiom_right v k) ≡ range r.0 c.0
  names = rw is_range at (as_read e p).stated

  role : Name most_roles r.0
  role = subst (Name most_roles) (ap first_name names) (a.role is_range)

  class : Name most_classes c.0
  class = subst (Name most_classes) (ap second_name names) (a.class is_range)

  pub asks_range : {t : Bool} → t ≡ in_set (ranges_of w r.0) c.0 → t ≡ is_held (facts_of m) (axiom_at v k)
  asks_range h = asks e p (facts_of m) (range_told (a.ranged is_range) role class h)

-- ---- all that the records ask

-- a loop that has come to record k of the vocabulary: the answer for all records is that for those that are left
pub record Obeying (F : List Fact) (v : List ℕ) (k : ℕ) : Type 0 where
  pub accepted : vocabulary_refusal v ≡ 0
  pub walk : Walking (axiom_links v) (λ l. all (is_held F) (vocabulary_of v).axioms ≡ all (is_held F) l) k

module _ {F : List Fact} {v : List ℕ} {k : ℕ} where
  pub obeying_starts : vocabulary_refusal v ≡ 0 → k ≡ first_axiom v → Obeying F v k
  obeying_starts h e = record { accepted = h; walk = walking_starts (axioms_along v h) e refl }

  module _ (x : Obeying F v k) where
    pub obeying_ends : k ≡ 0 → true ≡ all (is_held F) (vocabulary_of v).axioms
    unfolding axiom_links
    obeying_ends z = sym (walking_ends x.walk z)

    module _ (n : k ≡ 0 → ⊥) where
      -- the names of a range are those that the sets have room for
      pub obeying_askable : {m w : List ℕ} → Interpreted m w → (axiom_kind v k ≡ 5 → Ranged m w) → Askable v m w k
      unfolding axiom_links
      obeying_askable i r = record {
        interpreted = i;
        role = λ e. let u = simp tests at (rw e at (walking_sound x.walk n)) in let c = accepted_counts v x.accepted in omega arith;
        class = λ e. let u = simp tests at (rw e at (walking_sound x.walk n)) in let c = accepted_counts v x.accepted in omega arith;
        ranged = r;
      }

      pub obeying_fails : {b : Bool} → b ≡ is_held F (axiom_at v k) → not b ≡ true → false ≡ all (is_held F) (vocabulary_of v).axioms
      unfolding axiom_links
      obeying_fails e h = walking_found x.walk n (λ l a. all_fails (is_held F) (axiom_at v k) e l a h)

      module _ {j : ℕ} (z : j ≡ axiom_next v k) where
        pub obeying_on : {b : Bool} → b ≡ is_held F (axiom_at v k) → not b ≡ false → Obeying F v j
        unfolding axiom_links
        obeying_on e h = record { accepted = x.accepted; walk = walking_on x.walk n z (λ l a. all_on (is_held F) (axiom_at v k) e l a h) }

        pub obeying_falls : falling (last_of 4 v) j < falling (last_of 4 v) k
        unfolding axiom_links
        obeying_falls = walking_falls x.walk n z
