-- The names that no axiom of a kind names, in a set.
use Prim.Native.Nat.{◌≤◌, ℕ}
use mathlib.Core.Bool.{not, true}
use mathlib.Core.List.{List}
use mathlib.Core.Path.{◌∙◌, ◌≡◌, ap}
use lib.Dec.{eqb}
use lib.ListN.{length, replicate}
use native.Mathlib.Omega.{arith}
use Rattle.declarations.specs.Names.{sound_names}
use Rattle.declarations.specs.declared.Counts.{Counts}
use Rattle.meaning.specs.Limits.{most_roles}
use Rattle.meaning.specs.Lists.{All, any, counting}
use Rattle.meaning.specs.Records.{Name}
use Rattle.meaning.specs.Vocabulary.{Axiom, is_named, names_by, unnamed}
use Rattle.owl.proofs.Accepted.{axioms_named}
use Rattle.owl.proofs.Adding.{features_named, roles_named}
use Rattle.owl.proofs.Lists.{filter_alike}
use Rattle.owl.proofs.Looking.{feature_size, role_size, sizes_small}
use Rattle.owl.specs.Owl.{axioms_in}
use Rattle.owl.specs.Passes.{Many, Noted, Ready, statements_of}
use Rattle.theory.proofs.Rules.{all_mono}
use Rattle.tokens.specs.Tokens.{tokens}
use Rattle.words.proofs.Others.{in_all, others_members}
use Rattle.words.specs.Members.{members, others_of}
use Rattle.words.specs.Sets.{in_set, including_all}

-- ---- the set

pub others_only : {n : ℕ} → n ≤ most_roles → (names : List ℕ) {others : List ℕ} → others ≡ including_all (replicate 2 0) (others_of names n) → members others ≡ others_of names n
others_only {n} h names q = ap members q ∙ others_members 2 n (omega arith) names

-- the others of the names of a kind are unnamed
module _ (kind : ℕ) (l : List Axiom) {n : ℕ} (few : n ≤ most_roles) (named : All (Name n) (names_by kind l)) {names : List ℕ} (p : names ≡ including_all (replicate 2 0) (names_by kind l)) where
  lacks : (d : ℕ) → not (in_set names d) ≡ not (any (eqb d) (names_by kind l))
  lacks d = ap not (ap (λ (ws : List ℕ). in_set ws d) p ∙ in_all 2 (names_by kind l) (all_mono (λ x m. (m.0, omega (arith, m.1))) named) d)

  others_unnamed : others_of names n ≡ unnamed kind l n
  unfolding others_of unnamed is_named
  others_unnamed = filter_alike (λ x. not (in_set names x)) (λ x. not (any (eqb x) (names_by kind l))) lacks (counting 1 n)

-- ---- of a text whose names are sound

pub many_sets : {text table : List ℕ} {c : Counts} → Ready text table c → sound_names (statements_of text) ≡ true → {threes fours roles features : List ℕ} →
    Noted (axioms_in (statements_of text)) (replicate 2 0) threes (replicate 2 0) fours → length roles ≡ 2 → length features ≡ 2 →
    members roles ≡ others_of threes c.roles → members features ≡ others_of fours c.features → Many text roles features
many_sets {text} w sound m a b p q =
    let s = sizes_small w in
    let named = axioms_named (statements_of text) (tokens text) w.parses sound in
    record {
      role_words = omega arith;
      feature_words = omega arith;
      same_roles = rw (role_size w) at (p ∙ others_unnamed 3 (axioms_in (statements_of text)) s.1 (rw (role_size w) (roles_named named)) m.same_roles);
      same_features = rw (feature_size w) at (q ∙ others_unnamed 4 (axioms_in (statements_of text)) s.2 (rw (feature_size w) (features_named named)) m.same_features);
    }
