-- The functional names: those of a vocabulary that no record lets have many values.
use Prim.Native.Nat.{◌≤◌, ℕ}
use lib.ListN.{replicate}
use mathlib.Core.Bool.{Bool, ◌&&◌, not}
use mathlib.Core.List.{List}
use mathlib.Core.Path.{◌∙◌, ◌≡◌, ap, sym}
use native.Mathlib.Omega.{arith}
use Rattle.functional.specs.FunctionalNames.{FunctionalNames}
use Rattle.meaning.specs.Limits.{most_roles}
use Rattle.meaning.specs.Records.{is_name}
use Rattle.meaning.specs.Stated.{is_many_feature, is_many_role}
use Rattle.meaning.specs.Vocabulary.{axioms_of, feature_count, is_named, role_count, vocabulary_of, vocabulary_refusal}
use Rattle.theory.proofs.Defaults.{accepted_feature, accepted_role}
use Rattle.theory.proofs.Wellformed.{accepted_counts, vocabulary_sound}
use Rattle.vocabulary.proofs.Names.{Settable, many_features_lem, many_roles_lem, names_in}
use Rattle.vocabulary.specs.Names.{Noted}
use Rattle.words.proofs.Others.{in_others}
use Rattle.words.specs.Members.{others_of}
use Rattle.words.specs.Sets.{in_set, including_all}

-- the others of n names, put into an empty set
in_unnamed : (v : List ℕ) (kind n : ℕ) → Settable v kind → n ≤ most_roles → {many names : List ℕ} → Noted v kind (replicate 2 0) many →
    names ≡ including_all (replicate 2 0) (others_of many n) → (d : ℕ) → in_set names d ≡ is_name n d && not (is_named kind (axioms_of v) d)
in_unnamed v kind n h few {many} p q d =
    ap (λ (l : List ℕ). in_set l d) q ∙ in_others 2 n few many d ∙ ap (λ (b : Bool). is_name n d && not b) (names_in v kind h p d)

-- `of`
module _ (v : List ℕ) (h : vocabulary_refusal v ≡ 0) where
  pub functional_names : {a b r f : List ℕ} {R F : ℕ} → R ≡ role_count v → F ≡ feature_count v → Noted v 6 (replicate 2 0) a → Noted v 7 (replicate 2 0) b →
      r ≡ including_all (replicate 2 0) (others_of a R) → f ≡ including_all (replicate 2 0) (others_of b F) → FunctionalNames v (record { roles = r; features = f })
  unfolding is_many_role is_many_feature vocabulary_of
  functional_names {R = R} {F = F} eR eF a b r f =
      let s = vocabulary_sound v h in
      let c = accepted_counts v h in
      record {
        role = λ d. in_unnamed v 6 R (many_roles_lem v s.headed s.chain) (omega arith) a r d ∙ rw eR (sym (accepted_role v h d));
        feature = λ d. in_unnamed v 7 F (many_features_lem v s.headed s.chain) (omega arith) b f d ∙ rw eF (sym (accepted_feature v h d));
      }
