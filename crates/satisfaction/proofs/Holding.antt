-- Laws of what the model is held to: one record after another, then one number of the series after another, and with both all that is stated.
use Prim.Native.Nat.{◌+◌, ◌-◌, ◌<◌, ◌≤◌, ℕ}
use mathlib.Core.Bool.{Bool, ◌&&◌, cond, false, not, true, true≢false}
use mathlib.Core.List.{List}
use mathlib.Core.Logic.{◌↔◌}
use mathlib.Core.Path.{◌∙◌, ◌≡◌, ap, refl, subst, sym}
use Rattle.std.specs.Prelude.{Option}
use lib.Ieee.Bits.{is_true as is_true_lem}
use lib.Dec.{T, eqb, leb}
use native.Mathlib.Omega.{arith}
use borrow.Author.Tests.{eqb-false, eqb-true, le-leb, leb-false, leb-true, lt-leb, not-false, not-true}
use Rattle.frames.proofs.Frames.{only_none, only_span, only_then}
use Rattle.frames.specs.Frames.{Cleared, Only, Span}
use Rattle.meaning.specs.Limits.{most_features, most_roles}
use Rattle.meaning.specs.Lists.{◌∈◌, all}
use Rattle.meaning.specs.Model.{Fact, facts_of}
use Rattle.meaning.specs.ModelCheck.{is_model, obeys}
use Rattle.meaning.specs.Records.{Name, is_name}
use Rattle.meaning.specs.Stated.{is_functional_feature, is_functional_role, is_many_feature, is_many_role}
use Rattle.meaning.specs.Vocabulary.{Axiom, Vocabulary, axiom_at, axiom_next, below, defaults, disjoint, first_axiom}
use Rattle.meaning.specs.Vocabulary.{functional_feature, functional_role, many_feature, many_role, range, stated, vocabulary_of, vocabulary_refusal}
use Rattle.satisfaction.proofs.Classes.{interpreted_kept}
use Rattle.satisfaction.proofs.Rows.{none_in}
use Rattle.satisfaction.proofs.Series.{feature_iff, role_iff}
use Rattle.satisfaction.proofs.Statements.{Obeying, obeying_askable, obeying_ends, obeying_fails, obeying_on, obeying_starts}
use Rattle.satisfaction.specs.Classes.{AllEntered, Interpreted, Satisfied}
use Rattle.satisfaction.specs.Holding.{AllSingle, Askable, NumbersHeld, RecordsHeld, is_functional_number, is_held}
use Rattle.satisfaction.specs.Links.{BlockCompared, Single, Telling, Tells, link_of}
use Rattle.satisfaction.specs.Places.{clash_words, clashes_at, clashes_of, ranges_at, ranges_end, series_count, values_end}
use Rattle.satisfaction.specs.Ranges.{RangedIf, RangesMade}
use Rattle.theory.proofs.Defaults.{accepted_feature, accepted_role}
use Rattle.theory.proofs.Links.{tests}
use Rattle.theory.proofs.Rules.{T_and, all_at, all_fst, all_in, all_mono, all_of, all_out, is_false, is_true, not_true, same_test}
use Rattle.theory.proofs.Stated.{AllStated, all_stated, axiom_stated, functional_feature_stated, functional_role_stated, stated_more}
use Rattle.theory.proofs.Wellformed.{accepted_counts}
use Rattle.vocabulary.proofs.Axioms.{kind_read}
use Rattle.vocabulary.specs.Axioms.{AxiomRead}
use Rattle.vocabulary.specs.declared.Axiom.{Axiom as Read}
use Rattle.words.specs.Sets.{in_set}

-- ---- one record after another

-- a loop that has come to record k of the vocabulary: what those before it ask is so, the ranges are made if they are said to be, and
-- nothing else changed
pub record Judging (v m w₀ : List ℕ) (k : ℕ) (ranged : Bool) (w : List ℕ) : Type 0 where
  pub obeying : Obeying (facts_of m) v k
  pub state : RangedIf ranged m w
  pub only : Only (Span ranges_at ranges_end) w₀ w

pub judging_starts : {v m w : List ℕ} {k : ℕ} → vocabulary_refusal v ≡ 0 → Interpreted m w → k ≡ first_axiom v → Judging v m w k false w
judging_starts h i e = record {
  obeying = obeying_starts h e;
  state = record { interpreted = i; ranged = λ f. absurd (true≢false (sym f)) };
  only = only_none;
}

module _ {v m w₁ w₂ : List ℕ} {k : ℕ} {ranged : Bool} (x : Judging v m w₁ k ranged w₂) where
  held : {w₃ : List ℕ} {r : Bool} → Only (Span ranges_at ranges_end) w₂ w₃ → Interpreted m w₃ → r ≡ all (is_held (facts_of m)) (vocabulary_of v).axioms →
      RecordsHeld v m w₁ w₃ r
  held o i e = record { told = e; interpreted = i; only = only_span (only_then x.only o) (omega arith) (omega arith) }

  pub judging_ends : k ≡ 0 → RecordsHeld v m w₁ w₂ true
  judging_ends z = held only_none x.state.interpreted (obeying_ends x.obeying z)

  module _ {r : Option Read} {made : Bool} {w₃ : List ℕ} (n : k ≡ 0 → ⊥) (a : RangesMade r m w₂ w₃ made) where
    pub judging_askable : AxiomRead v k r → Askable v m w₃ k
    judging_askable p = obeying_askable x.obeying n a.state.interpreted (λ e. a.state.ranged (a.asked (kind_read v k 5 r p refl e)))

    module _ {b : Bool} (e : b ≡ is_held (facts_of m) (axiom_at v k)) where
      pub judging_fails : not b ≡ true → RecordsHeld v m w₁ w₃ false
      judging_fails h = held a.only a.state.interpreted (obeying_fails x.obeying n e h)

      pub judging_on : {j : ℕ} → not b ≡ false → j ≡ axiom_next v k → Judging v m w₁ j made w₃
      judging_on h z = record { obeying = obeying_on x.obeying n z e h; state = a.state; only = only_then x.only a.only }

-- ---- one number after another

module _ (K : Vocabulary) {u : ℕ} {t : Bool} where
  pub number_role : u ≤ most_roles → t ≡ is_functional_role K u → t ≡ is_functional_number K u
  unfolding is_functional_number
  number_role l e = e ∙ rw (le-leb u most_roles l)

  pub number_feature : most_roles < u → t ≡ is_functional_feature K (u - most_roles) → t ≡ is_functional_number K u
  unfolding is_functional_number
  number_feature l e = e ∙ rw (lt-leb u most_roles l)

-- a loop that has come past i numbers: no individual has two values of a functional one of them
pub record Numbering (v m w₀ : List ℕ) (i end : ℕ) (w : List ℕ) : Type 0 where
  pub bound : i ≤ series_count
  pub single : (u : ℕ) → Name i u → T (is_functional_number (vocabulary_of v) u) → Single (link_of u) (facts_of m)
  pub telling : Telling m i end w
  pub only : Only (Span clashes_at values_end) w₀ w

module _ {v m w w₁ : List ℕ} (c : Cleared clashes_at clash_words w w₁) where
  pub numbering_starts : Interpreted m w → Numbering v m w₁ 0 0 w₁
  numbering_starts i = record {
    bound = omega arith;
    single = λ u n. absurd (omega arith);
    telling = record {
      interpreted = interpreted_kept (omega arith) c.only i;
      told = λ u l h. absurd (omega arith);
      none = λ u l. none_in clash_words w₁ clashes_at c.zeros u;
    };
    only = only_none;
  }

  module _ {w₂ : List ℕ} {i end : ℕ} (x : Numbering v m w₁ i end w₂) where
    held_numbers : {w₃ : List ℕ} {r : Bool} → Only (Span clashes_at values_end) w₂ w₃ → Interpreted m w₃ → T r ↔ AllSingle v m → NumbersHeld v m w w₃ r
    held_numbers o p e = record {
      told = e;
      interpreted = p;
      only = only_span (only_then (only_span c.only (omega arith) (omega arith)) (only_then x.only o)) (omega arith) (omega arith);
    }

    pub numbering_ends : series_count ≤ i → NumbersHeld v m w w₂ true
    numbering_ends h = held_numbers only_none x.telling.interpreted (λ _ u n. x.single u (n.0, omega arith), λ _. tt)

    -- one more, of which this is so
    more : (T (is_functional_number (vocabulary_of v) (i + 1)) → Single (link_of (i + 1)) (facts_of m)) → (u : ℕ) → Name (i + 1) u →
        T (is_functional_number (vocabulary_of v) u) → Single (link_of u) (facts_of m)
    more s u n t = go (eqb u (i + 1)) refl
      where
        go : (b : Bool) → eqb u (i + 1) ≡ b → Single (link_of u) (facts_of m)
        go true e = let d = eqb-true u (i + 1) e in rw d (s (rw d at t))
        go false e = let d = eqb-false u (i + 1) e in x.single u (n.0, omega arith) t

    past : {to : ℕ} {w₃ : List ℕ} → Telling m i to w₃ → Telling m (i + 1) to w₃
    past p = record { interpreted = p.interpreted; told = λ u l. p.told u (omega arith); none = p.none }

    module _ {f : Bool} (h : i < series_count) (ef : f ≡ is_functional_number (vocabulary_of v) (i + 1)) where
      pub numbering_past : not f ≡ true → Numbering v m w₁ (i + 1) end w₂
      numbering_past n = record {
        bound = omega arith;
        single = more (λ t. absurd (not_true (sym ef ∙ not-true f n) t));
        telling = past x.telling;
        only = x.only;
      }

      module _ {to : ℕ} {w₃ : List ℕ} {r : Bool} (a : BlockCompared m i w₂ w₃ to) (er : r ≡ not (in_set (clashes_of w₃) (i + 1))) where
        tells : Tells m w₃ (i + 1)
        tells = a.telling.told (i + 1) (omega arith) (let l = a.next in omega arith)

        pub numbering_on : not r ≡ false → Numbering v m w₁ (i + 1) to w₃
        numbering_on n = record {
          bound = omega arith;
          single = more (λ _. tells.0 (is_true (sym er ∙ not-false r n)));
          telling = past a.telling;
          only = only_then x.only a.only;
        }

        pub numbering_fails : not f ≡ false → not r ≡ true → NumbersHeld v m w w₃ false
        numbering_fails g n = held_numbers a.only a.telling.interpreted (
          λ z. absurd z,
          λ s. not_true (sym er ∙ not-true r n) (tells.1 (s (i + 1) (omega arith, omega arith) (is_true (sym ef ∙ not-false f g)))),
        )

-- ---- all that is stated

-- a functional name is one that a vocabulary may count
name_of : {n most : ℕ} (x : ℕ) (b many : Bool) → n ≤ most → b ≡ is_name n x && not many → T b → Name most x
name_of {n} x b many l e t =
    let u = T_and (is_name n x) (not many) (subst T e t) in
    let z = is_true_lem (is_name n x) u.0 in
    let y = simp tests at z in (y.0, omega arith)

module _ (v m : List ℕ) where
  abbrev F : List Fact
  F = facts_of m

  abbrev K : Vocabulary
  K = vocabulary_of v

  records_obeyed : T (is_model F K) → T (all (is_held F) K.axioms)
  unfolding stated
  records_obeyed t = all_in (is_held F) (all_mono asked (all_fst K.axioms (defaults K) (all_out (obeys F) (stated K) t)))
    where
      asked : (x : Axiom) → T (obeys F x) → T (is_held F x)
      asked (below a b) t = t
      asked (disjoint a b) t = t
      asked (functional_role r) t = tt
      asked (functional_feature f) t = tt
      asked (range r c) t = t
      asked (many_role r) t = tt
      asked (many_feature f) t = tt

  single_obeyed : T (is_model F K) → AllSingle v m
  unfolding is_functional_number
  single_obeyed t u n = go (leb u most_roles) refl
    where
      each : AllStated (λ x. T (obeys F x)) K
      each = all_stated K (all_out (obeys F) (stated K) t)

      go : (b : Bool) → leb u most_roles ≡ b → T (cond b (is_functional_role K u) (is_functional_feature K (u - most_roles))) → Single (link_of u) F
      go true e s = let l = leb-true u most_roles e in (role_iff F u (n.0, l)).1 (each.role u s)
      go false e s =
          let l = leb-false u most_roles e in
          let d : most_roles + (u - most_roles) ≡ u = omega arith in
          rw d at ((feature_iff F (u - most_roles) (omega arith, omega arith)).1 (each.feature (u - most_roles) s))

  module _ (h : vocabulary_refusal v ≡ 0) where
    role_obeyed : AllSingle v m → (r : ℕ) → T (is_functional_role K r) → T (obeys F (functional_role r))
    role_obeyed s r t =
        let c = accepted_counts v h in
        let n = name_of {most = most_roles} r (is_functional_role K r) (is_many_role K r) (omega arith) (accepted_role v h r) t in
        (role_iff F r n).0 (s r (n.0, omega arith) (subst T (number_role K n.1 refl) t))

    feature_obeyed : AllSingle v m → (f : ℕ) → T (is_functional_feature K f) → T (obeys F (functional_feature f))
    feature_obeyed s f t =
        let c = accepted_counts v h in
        let n = name_of {most = most_features} f (is_functional_feature K f) (is_many_feature K f) (omega arith) (accepted_feature v h f) t in
        let d : is_functional_feature K f ≡ is_functional_feature K (most_roles + f - most_roles) = ap (is_functional_feature K) (omega arith) in
        (feature_iff F f n).0 (s (most_roles + f) (omega arith, omega arith) (subst T (number_feature K (omega arith) d) t))

    -- what the records ask, and one value of each functional name: a name that a record states functional is one
    held_iff : T (all (is_held F) K.axioms) × AllSingle v m ↔ T (is_model F K)
    held_iff = (
      λ a.
          let records = all_of K.axioms (λ x k. each a.1 x k (all_at (all_out (is_held F) K.axioms a.0) k)) in
          all_in (obeys F) (stated_more K records (role_obeyed a.1) (feature_obeyed a.1)),
      λ t. (records_obeyed t, single_obeyed t),
    )
      where
        each : AllSingle v m → (x : Axiom) → x ∈ K.axioms → T (is_held F x) → T (obeys F x)
        each s (below a b) k t = t
        each s (disjoint a b) k t = t
        each s (functional_role r) k t = role_obeyed s r (functional_role_stated K r (axiom_stated K _ k))
        each s (functional_feature f) k t = feature_obeyed s f (functional_feature_stated K f (axiom_stated K _ k))
        each s (range r c) k t = t
        each s (many_role r) k t = tt
        each s (many_feature f) k t = tt

    module _ {w w₁ w₂ : List ℕ} {b : Bool} (c : AllEntered m w w₁) (a : RecordsHeld v m w₁ w₂ b) where
      span : {w₃ : List ℕ} → Only (Span ranges_at values_end) w₂ w₃ → Only (Span 0 values_end) w w₃
      span o = only_then (only_span c.only (omega arith) (omega arith)) (only_span (only_then a.only o) (omega arith) (omega arith))

      pub records_fail : not b ≡ true → Satisfied v m w w₂ false
      records_fail n = record {
        told = sym (is_false (is_model F K) (λ t. not_true (sym a.told ∙ not-true b n) (held_iff.1 t).0));
        interpreted = a.interpreted;
        only = span only_none;
      }

      pub all_held : {w₃ : List ℕ} {r : Bool} → not b ≡ false → NumbersHeld v m w₂ w₃ r → Satisfied v m w w₃ r
      all_held {r = r} n d = record {
        told = same_test r (is_model F K) (λ t. held_iff.0 (is_true (sym a.told ∙ not-false b n), d.told.0 t)) (λ t. d.told.1 (held_iff.1 t).1);
        interpreted = d.interpreted;
        only = span d.only;
      }
