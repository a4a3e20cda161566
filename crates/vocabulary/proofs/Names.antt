-- The names that the reader notes on its way along the chain, and what it finds in them.
use Prim.Native.Nat.{◌≤◌, suc, zero, ℕ}
use mathlib.Core.Bool.{Bool, cond, false, true}
use mathlib.Core.List.{List, [], ◌∷◌, foldl, foldl-append}
use mathlib.Core.Path.{◌∙◌, ◌≡◌, ap, refl, subst, sym}
use lib.Dec.{T, eqb, eqb→eq}
use lib.Ieee.Bits.{is_true as is_true_lem}
use lib.ListN.{length, replicate}
use native.Mathlib.Omega.{arith}
use borrow.Author.Tests.{eq-eqb, ne_eqb}
use Rattle.meaning.specs.Accepted.{AxiomOf}
use Rattle.meaning.specs.Limits.{most_features, most_roles}
use Rattle.meaning.specs.Lists.{All, any}
use Rattle.meaning.specs.Records.{Enough, Name, Onward, last_of}
use Rattle.meaning.specs.Vocabulary.{Axiom, axiom_at, axiom_fits, axiom_kind, axiom_left, axiom_next, axioms_from, axioms_of, axioms_refusal}
use Rattle.meaning.specs.Vocabulary.{feature_count, first_axiom, headed_vocabulary, is_named, is_opposed, name_by, names_by, role_count}
use Rattle.meaning.specs.Vocabulary.{sound_axiom, vocabulary_of}
use Rattle.theory.proofs.Links.{enough_end, falling_le, falls, onward_le, passed, tests}
use Rattle.theory.proofs.Refusals.{or_else_first}
use Rattle.theory.proofs.Rules.{all_flat_map, all_mono, any_at, any_in, any_mono, any_out, at_any, eqb_of, is_true, same_test}
use Rattle.theory.proofs.Stated.{functional_feature_named, functional_role_named, many_feature_named, many_role_named, name_by_at}
use Rattle.theory.proofs.Wellformed.{axioms_named}
use Rattle.vocabulary.proofs.Chain.{foldl_flat_map}
use Rattle.vocabulary.specs.Names.{Noted, chain_refusal, name_at}
use Rattle.words.proofs.Laws.{in_listed, listed_in}
use Rattle.words.proofs.Others.{in_all, length_including_all}
use Rattle.words.specs.Members.{members}
use Rattle.words.specs.Sets.{in_set, including, including_all}

-- ---- one record

module _ (v : List ℕ) (k kind : ℕ) {t : ℕ} (e : t ≡ axiom_kind v k) where
  pub other_kind : (t ≡ kind → ⊥) → [] ≡ name_at v kind k
  other_kind n = rw (sym e, ne_eqb t kind n)

  pub same_kind : t ≡ kind → axiom_left v k ∷ [] ≡ name_at v kind k
  same_kind z = rw (eq-eqb (axiom_kind v k) kind (sym e ∙ z))

module _ (v : List ℕ) (k kind : ℕ) {t : ℕ} (e : t ≡ axiom_kind v k) (w : List ℕ) where
  pub name_passed : (t ≡ kind → ⊥) → w ≡ including_all w (name_at v kind k)
  unfolding including_all
  name_passed n = ap (including_all w) (other_kind v k kind e n)

  pub name_put : t ≡ kind → {a : ℕ} {x : List ℕ} → a ≡ axiom_left v k → x ≡ including w a → x ≡ including_all w (name_at v kind k)
  unfolding including_all
  name_put z p q = q ∙ ap (including w) p ∙ ap (including_all w) (same_kind v k kind e z)

-- ---- along the chain

-- the reader, which notes the names of a kind, has come to record k: with those of the records that are left it has all
pub record Noting (v : List ℕ) (kind : ℕ) (w₀ : List ℕ) (k : ℕ) (w : List ℕ) : Type 0 where
  pub fuel : ℕ
  pub enough : Enough (last_of 4 v) fuel k
  pub long : length w ≡ length w₀
  pub same : including_all w (names_by kind (axioms_from fuel v k)) ≡ including_all w₀ (names_by kind (axioms_of v))

pub noting_starts : {v w : List ℕ} {kind k : ℕ} → k ≡ first_axiom v → first_axiom v ≤ last_of 4 v → Noting v kind w k w
unfolding axioms_of
noting_starts {v} e h = record { fuel = length v; enough = rw e (h, omega (arith, falling_le (last_of 4 v) (first_axiom v))); long = refl; same = rw e }

module _ {v w₀ w : List ℕ} {kind k : ℕ} (p : Noting v kind w₀ k w) where
  pub noting_ends : k ≡ 0 → Noted v kind w₀ w
  unfolding including_all names_by
  noting_ends z = go p.fuel p.same
    where
      go : (f : ℕ) → including_all w (names_by kind (axioms_from f v k)) ≡ including_all w₀ (names_by kind (axioms_of v)) → w ≡ including_all w₀ (names_by kind (axioms_of v))
      go zero h = h
      go (suc f) h = rw z at h

  module _ {r : ℕ} (n : k ≡ 0 → ⊥) (e : r ≡ cond (sound_axiom v k) 0 3) (z : r ≡ 0) where
    sound : Onward (last_of 4 v) k (axiom_next v k) × (axiom_fits v k ≡ true)
    sound = let u = simp tests at ((passed 2 (sound_axiom v k) 0).0 (sym e ∙ z)).0 in (u.1, u.0)

    pub noting_on : {x : ℕ} {t : List ℕ} → x ≡ axiom_next v k → t ≡ including_all w (name_at v kind k) → Noting v kind w₀ x t
    unfolding including_all names_by
    noting_on {x} {t} d q = go p.fuel p.enough p.same
      where
        go : (f : ℕ) → Enough (last_of 4 v) f k → including_all w (names_by kind (axioms_from f v k)) ≡ including_all w₀ (names_by kind (axioms_of v)) → Noting v kind w₀ x t
        go zero h s = absurd (n (enough_end (last_of 4 v) k h))
        go (suc f) h s =
            let less = falls (last_of 4 v) k (axiom_next v k) (omega arith, h.0) sound.0 in
            record {
              fuel = f;
              enough = rw d (onward_le (last_of 4 v) k (axiom_next v k) sound.0, omega arith);
              long = ap length q ∙ length_including_all (name_at v kind k) w ∙ p.long;
              same =
                  rw (q, d, ← name_by_at v k sound.1 kind)
                  (sym (foldl-append including w (name_by kind (axiom_at v k)) (names_by kind (axioms_from f v (axiom_next v k)))) ∙ (rw (ne_eqb k 0 n) at s));
            }

-- ---- the same along the chain of an accepted vocabulary, where the loop is a fold

abbrev pub with_name : ℕ → List ℕ → Axiom → List ℕ
with_name kind w x = including_all w (name_by kind x)

pub name_step : (v : List ℕ) (kind k : ℕ) (w : List ℕ) {t : List ℕ} → axiom_fits v k ≡ true → t ≡ including_all w (name_at v kind k) → t ≡ with_name kind w (axiom_at v k)
name_step v kind k w f e = e ∙ ap (including_all w) (sym (name_by_at v k f kind))

pub names_noted : (v : List ℕ) (kind : ℕ) (w₀ : List ℕ) {w : List ℕ} → w ≡ foldl (with_name kind) w₀ (vocabulary_of v).axioms → Noted v kind w₀ w
unfolding including_all names_by vocabulary_of
names_noted v kind w₀ e = e ∙ foldl_flat_map including (name_by kind) w₀ (axioms_of v)

pub noted_length : (v : List ℕ) (kind : ℕ) (w₀ : List ℕ) {w : List ℕ} → Noted v kind w₀ w → length w ≡ length w₀
noted_length v kind w₀ e = ap length e ∙ length_including_all (names_by kind (axioms_of v)) w₀

-- ---- the sets

-- a set of 64 has a bit for the names of a kind
abbrev pub Settable : List ℕ → ℕ → Type 0
Settable v kind = All (Name most_roles) (names_by kind (axioms_of v))

module _ (v : List ℕ) (headed : headed_vocabulary v ≡ true) (read : axioms_refusal (length v) v (first_axiom v) ≡ 0) where
  settable : (kind n : ℕ) → n ≤ most_roles → ((x : Axiom) → AxiomOf v x → All (Name n) (name_by kind x)) → Settable v kind
  unfolding names_by axioms_of
  settable kind n few h =
      all_flat_map (name_by kind) (all_mono (λ x a. all_mono (λ d m. (m.0, omega (arith, m.1))) (h x a)) (axioms_named v (length v) (first_axiom v) read))

  counts : (role_count v ≤ most_roles) × (feature_count v ≤ most_features)
  counts = let u = simp tests at headed in (u.1.0, u.1.1.0)

  pub functional_roles : Settable v 3
  functional_roles = settable 3 (role_count v) counts.0 (functional_role_named _ _ _)

  pub functional_features : Settable v 4
  functional_features = settable 4 (feature_count v) counts.1 (functional_feature_named _ _ _)

  pub many_roles_lem : Settable v 6
  many_roles_lem = settable 6 (role_count v) counts.0 (many_role_named _ _ _)

  pub many_features_lem : Settable v 7
  many_features_lem = settable 7 (feature_count v) counts.1 (many_feature_named _ _ _)

-- the names of a kind, put into an empty set
pub names_in : (v : List ℕ) (kind : ℕ) {names : List ℕ} → Settable v kind → Noted v kind (replicate 2 0) names → (d : ℕ) → in_set names d ≡ is_named kind (axioms_of v) d
unfolding is_named
names_in v kind h e d = ap (λ (ws : List ℕ). in_set ws d) e ∙ in_all 2 (names_by kind (axioms_of v)) h d

-- ---- both ways

module _ (v : List ℕ) (one many : ℕ) {a b : List ℕ} (s : Settable v one) (t : Settable v many) (p : Noted v one (replicate 2 0) a)
    (q : Noted v many (replicate 2 0) b) where
  pub both_named : any (in_set b) (members a) ≡ any (is_named many (axioms_of v)) (names_by one (axioms_of v))
  unfolding is_named
  both_named =
      same_test (any (in_set b) (members a)) (any (is_named many (axioms_of v)) (names_by one (axioms_of v)))
      (λ h.
      let f = any_at (any_out (in_set b) (members a) h) in
      let named = any_out (eqb f.0) (names_by one (axioms_of v)) (is_true (sym (names_in v one s p f.0) ∙ listed_in a f.0 f.1)) in
      any_in (is_named many (axioms_of v)) (at_any (any_mono (λ x e. eqb→eq f.0 x e) named) (subst T (names_in v many t q f.0) f.2)))
      (λ h.
      let f = any_at (any_out (is_named many (axioms_of v)) (names_by one (axioms_of v)) h) in
      let named = any_in (eqb f.0) (any_mono (λ x e. eqb_of f.0 x e) f.1) in
      any_in (in_set b) (at_any (in_listed a f.0 (names_in v one s p f.0 ∙ is_true_lem _ named)) (subst T (sym (names_in v many t q f.0)) f.2)))

-- ---- 3, then 44

module _ (v : List ℕ) {r : ℕ} (e : r ≡ axioms_refusal (length v) v (first_axiom v)) where
  pub chain_first : (r ≡ 0 → ⊥) → r ≡ chain_refusal v
  chain_first n = rw (← e) (or_else_first r _ n)

  module _ (headed : headed_vocabulary v ≡ true) (z : r ≡ 0) {a b : List ℕ} (p : r ≡ 0 → Noted v 3 (replicate 2 0) a) (q : r ≡ 0 → Noted v 6 (replicate 2 0) b)
      {roles : Bool} (f : roles ≡ any (in_set b) (members a)) where
    roles_both : any (is_named 6 (axioms_of v)) (names_by 3 (axioms_of v)) ≡ roles
    roles_both = sym (f ∙ both_named v 3 6 (functional_roles v headed (sym e ∙ z)) (many_roles_lem v headed (sym e ∙ z)) (p z) (q z))

    pub roles_opposed : roles ≡ true → 44 ≡ chain_refusal v
    unfolding is_opposed
    roles_opposed t = rw (sym e ∙ z, roles_both ∙ t)

    module _ (t : roles ≡ false) {c d : List ℕ} (x : r ≡ 0 → Noted v 4 (replicate 2 0) c) (y : r ≡ 0 → Noted v 7 (replicate 2 0) d) {features : Bool} (g : features ≡ any (in_set d) (members c)) where
      features_both : any (is_named 7 (axioms_of v)) (names_by 4 (axioms_of v)) ≡ features
      features_both = sym (g ∙ both_named v 4 7 (functional_features v headed (sym e ∙ z)) (many_features_lem v headed (sym e ∙ z)) (x z) (y z))

      pub features_opposed : features ≡ true → 44 ≡ chain_refusal v
      unfolding is_opposed
      features_opposed u = rw (sym e ∙ z, roles_both ∙ t, features_both ∙ u)

      pub none_opposed : features ≡ false → 0 ≡ chain_refusal v
      unfolding is_opposed
      none_opposed u = rw (sym e ∙ z, roles_both ∙ t, features_both ∙ u)
