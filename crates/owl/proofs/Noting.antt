-- Whom an axiom makes functional is put into a set, of roles or of features.
use Prim.Native.Nat.{ℕ}
use mathlib.Core.Bool.{Bool, ◌&&◌, and-true, cond, false, not, true, true≢false}
use mathlib.Core.List.{List, [], ◌++◌, ◌∷◌, append-nil, foldl-append}
use mathlib.Core.Path.{◌∙◌, ◌≡◌, ap, refl, sym}
use lib.Dec.{eqb}
use native.Mathlib.Omega.{arith}
use borrow.Author.Tests.{eq-eqb, ne_eqb}
use Rattle.std.proofs.Common.{None, Option, Some}
use Rattle.std.specs.Option.{is_some}
use Rattle.meaning.specs.Vocabulary.{Axiom, name_by, names_by}
use Rattle.name_table.proofs.Laws.{some_found}
use Rattle.name_table.specs.Numbers.{number_found}
use Rattle.owl.proofs.Looking.{found_is}
use Rattle.owl.specs.Owl.{axioms_by}
use Rattle.owl.specs.Passes.{Looks, Noted, first_number, kind_of, second_number, statements_of}
use Rattle.statements.specs.Found.{declared_of, stated_of}
use Rattle.statements.specs.declared.Axiom.{Axiom as Form}
use Rattle.statements.specs.declared.Axiom.TheVariants.{Below, Disjoint, FunctionalFeature, FunctionalRole, Range}
use Rattle.statements.specs.declared.NameOf.{NameOf}
use Rattle.statements.specs.declared.NameOf.TheVariants.{Class, Feature, Role}
use Rattle.theory.proofs.Rules.{flat_map_append}
use Rattle.tokens.specs.declared.Token.{Token as Place}
use Rattle.words.specs.Sets.{including, including_all}

-- the names of some axioms and then those of others
pub included : (names : List ℕ) (kind : ℕ) (xs ys : List Axiom) {names' : List ℕ} → names' ≡ including_all names (names_by kind xs) →
    including_all names' (names_by kind ys) ≡ including_all names (names_by kind (xs ++ ys))
unfolding including_all names_by
included names kind xs ys q =
    ap (λ (ws : List ℕ). including_all ws (names_by kind ys)) q
    ∙ sym (foldl-append including names (names_by kind xs) (names_by kind ys))
    ∙ ap (including_all names) (sym (flat_map_append (name_by kind) xs ys))

-- where a test is not met nothing is said of the sets
pub not_met : {A : Type 0} {test : Bool} → false ≡ test → (false ≡ test) × (false ≡ true → A)
not_met e = (e, λ z. absurd (true≢false (sym z)))

-- no number is 0
found_some : (n k : ℕ) → Some k ≡ number_found n → n ≡ 0 → ⊥
found_some n k e z =
    let d : number_found n ≡ None = rw z in
    let q : Some k ≡ None = e ∙ d in
    (cc)

module _ (text : List ℕ) where
  -- an axiom of a kind has one name, its first, among those of the kind; no other has any
  names_of : (kind : ℕ) (a : Form) → names_by kind (axioms_by (statements_of text) (stated_of text a)) ≡ cond (eqb (kind_of a) kind) (first_number text a ∷ []) []
  unfolding names_by
  names_of kind (Below t u) = append-nil _
  names_of kind (Disjoint t u) = append-nil _
  names_of kind (FunctionalRole t) = append-nil _
  names_of kind (FunctionalFeature t) = append-nil _
  names_of kind (Range t u) = append-nil _

  module _ (kind : ℕ) (a : Form) (w : List ℕ) where
    passed : (kind_of a ≡ kind → ⊥) → w ≡ including_all w (names_by kind (axioms_by (statements_of text) (stated_of text a)))
    unfolding including_all
    passed n = ap (including_all w) (sym (rw (ne_eqb (kind_of a) kind n) at (names_of kind a)))

    put : kind_of a ≡ kind → {x : ℕ} {w' : List ℕ} → x ≡ first_number text a → w' ≡ including w x →
        w' ≡ including_all w (names_by kind (axioms_by (statements_of text) (stated_of text a)))
    unfolding including_all
    put z p q = q ∙ ap (including w) p ∙ ap (including_all w) (sym (rw (eq-eqb (kind_of a) kind z) at (names_of kind a)))

  module _ (roles features : List ℕ) where
    none : (a : Form) → (kind_of a ≡ 3 → ⊥) → (kind_of a ≡ 4 → ⊥) → Noted (axioms_by (statements_of text) (stated_of text a)) roles roles features features
    none a n m = record { same_roles = passed 3 a roles n; same_features = passed 4 a features m }

    pub looks_declared : (d : NameOf) → Looks (statements_of text) (declared_of text d) true roles roles features features
    unfolding including_all names_by
    looks_declared (Class t) = record { value = refl; noted = λ _. record { same_roles = refl; same_features = refl } }
    looks_declared (Role t) = record { value = refl; noted = λ _. record { same_roles = refl; same_features = refl } }
    looks_declared (Feature t) = record { value = refl; noted = λ _. record { same_roles = refl; same_features = refl } }

    pub looks_role : (t : Place) {x : ℕ} → Some x ≡ number_found (first_number text (FunctionalRole t)) → {roles' : List ℕ} → roles' ≡ including roles x →
        Looks (statements_of text) (stated_of text (FunctionalRole t)) true roles roles' features features
    looks_role t {x} e q =
        record {
          value = rw (ne_eqb (first_number text (FunctionalRole t)) 0 (found_some _ x e));
          noted = λ _. record {
            same_roles = put 3 (FunctionalRole t) roles refl (found_is _ x e) q;
            same_features = passed 4 (FunctionalRole t) features (λ d. omega arith);
          };
        }

    pub looks_feature : (t : Place) {x : ℕ} → Some x ≡ number_found (first_number text (FunctionalFeature t)) → {features' : List ℕ} → features' ≡ including features x →
        Looks (statements_of text) (stated_of text (FunctionalFeature t)) true roles roles features features'
    looks_feature t {x} e q =
        record {
          value = rw (ne_eqb (first_number text (FunctionalFeature t)) 0 (found_some _ x e));
          noted = λ _. record {
            same_roles = passed 3 (FunctionalFeature t) roles (λ d. omega arith);
            same_features = put 4 (FunctionalFeature t) features refl (found_is _ x e) q;
          };
        }

    both_value : (n m : ℕ) {x : ℕ} → Some x ≡ number_found n → {o : Option ℕ} → o ≡ number_found m → {b : Bool} → b ≡ is_some o →
        b ≡ not (eqb n 0) && (not (eqb m 0) && true)
    both_value n m {x} e q z = z ∙ rw (q, ← some_found m, ne_eqb n 0 (found_some n x e)) (sym (and-true _))

    -- the other kinds have two names
    module _ {x : ℕ} {m : Option ℕ} {b : Bool} (z : b ≡ is_some m) where
      pub looks_both : (a : Form) → ((t : Place) → a ≡ FunctionalRole t → ⊥) → ((t : Place) → a ≡ FunctionalFeature t → ⊥) →
          Some x ≡ number_found (first_number text a) → m ≡ number_found (second_number text a) →
          Looks (statements_of text) (stated_of text a) b roles roles features features
      looks_both (Below t u) n o e q = record { value = both_value _ _ e q z; noted = λ _. none (Below t u) (λ d. omega arith) (λ d. omega arith) }
      looks_both (Disjoint t u) n o e q = record { value = both_value _ _ e q z; noted = λ _. none (Disjoint t u) (λ d. omega arith) (λ d. omega arith) }
      looks_both (FunctionalRole t) n o e q = absurd (n t refl)
      looks_both (FunctionalFeature t) n o e q = absurd (o t refl)
      looks_both (Range t u) n o e q = record { value = both_value _ _ e q z; noted = λ _. none (Range t u) (λ d. omega arith) (λ d. omega arith) }
