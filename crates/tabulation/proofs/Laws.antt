-- Laws of one term: what its tables tell of it.
use Prim.Native.Nat.{◌≤◌, ℕ}
use mathlib.Core.Bool.{Bool, false, not, true}
use mathlib.Core.List.{List}
use mathlib.Core.Path.{◌∙◌, ◌≡◌, ap, refl, subst, sym}
use lib.ListN.{length}
use native.Mathlib.Omega.{arith}
use Rattle.frames.proofs.Frames.{only_before}
use Rattle.frames.specs.Frames.{Only}
use Rattle.functional.specs.declared.Functional.{Functional}
use Rattle.layout.specs.Places.{InTables, most_pairs, pairs_at, tables_end}
use Rattle.layout.specs.Tables.{Tabled}
use Rattle.layout.specs.declared.Tables.{Tables}
use Rattle.meaning.specs.Accepted.{ChainOf}
use Rattle.meaning.specs.Lists.{all, counting}
use Rattle.meaning.specs.NormalForm.{Form, normal_form, possible}
use Rattle.meaning.specs.Policy.{Chain, Policy}
use Rattle.meaning.specs.Vocabulary.{Vocabulary, vocabulary_of}
use Rattle.normal_form.proofs.Callers.{term_fits}
use Rattle.normal_form.specs.Tables.{Fit, Normalised}
use Rattle.pairs.specs.Pairs.{pair_count}
use Rattle.policy.proofs.Terms.{Asking, asking_term}
use Rattle.preparation.proofs.Laws.{prepared_kept}
use Rattle.preparation.specs.Prepared.{Prepared}
use Rattle.tabulation.proofs.Cleanness.{clean_not}
use Rattle.tabulation.specs.Clean.{DecidesClean, non_empty_at}
use Rattle.tabulation.specs.Tabulation.{Shaped, Tabulated}

-- no pair is changed
pub pairs_still : {w w' : List ℕ} → Only InTables w w' → pair_count w' ≡ pair_count w
pairs_still o = only_before o pairs_at (omega arith)

-- with another flag
flagged : {K : Vocabulary} {t : Form} {w : List ℕ} {r u : Tables} → u.individuals ≡ r.individuals → u.constraints ≡ r.constraints → Tabled K t w r → Tabled K t w u
flagged a b s = record { count = a ∙ s.count; top = b ∙ s.top; rows = s.rows; held = s.held }

module _ {f : Functional} {d : Chain} {w w' : List ℕ} {r : Tables} (long : tables_end ≤ length w) (n : Normalised f d w w' r) where
  abbrev barring : Bool → Tables
  barring b = record { individuals = r.individuals; constraints = r.constraints; impossible = b }

  shaped : (b : Bool) → ((v : List ℕ) → Prepared v w f → ChainOf v d → b ≡ true → possible (vocabulary_of v) d ≡ false) →
      (b ≡ false → r.impossible ≡ false) → (b ≡ false → all (non_empty_at w') (counting 0 r.constraints) ≡ true) → Shaped d f w w' (barring b)
  unfolding possible
  shaped b bar out fill = record {
    tabled = λ v g o. flagged refl refl (n.tabled v g o);
    never = bar;
    clean = λ v e. rw (sym n.bottom ∙ out e);
    non_empty = fill;
    standing = record { long = omega arith; individuals = n.most.0; constraints = n.most.1 };
    only = n.only;
  }

  pub shape_impossible : r.impossible ≡ true → Shaped d f w w' r
  unfolding possible
  shape_impossible e =
      subst (λ (b : Bool). Shaped d f w w' (barring b)) (sym e)
      (shaped true (λ v g o h. rw (sym n.bottom ∙ e)) (λ h. absurd (let z : ◌≡◌ {A = ℕ} 0 1 = cc in omega arith)) (λ h. absurd (let z : ◌≡◌ {A = ℕ} 0 1 = cc in omega arith)))

  pub shape_non_empty : {b : Bool} → r.impossible ≡ false → b ≡ all (non_empty_at w') (counting 0 r.constraints) → Shaped d f w w' (barring (not b))
  unfolding possible
  shape_non_empty {b} e h = go b h
    where
      go : (b : Bool) → b ≡ all (non_empty_at w') (counting 0 r.constraints) → Shaped d f w w' (barring (not b))
      go true h = shaped false (λ v g o y. absurd (let z : ◌≡◌ {A = ℕ} 0 1 = cc in omega arith)) (λ y. e) (λ y. sym h)
      go false h = shaped true (λ v g o y. rw (sym n.bottom ∙ e) (sym (clean_not (vocabulary_of v) w' r h refl (normal_form (vocabulary_of v) d) (n.tabled v g o)))) (λ y. absurd (let z : ◌≡◌ {A = ℕ} 0 1 = cc in omega arith)) (λ y. absurd (let z : ◌≡◌ {A = ℕ} 0 1 = cc in omega arith))

module _ {f : Functional} {d : Chain} {w w' : List ℕ} {r : Tables} (n : Shaped d f w w' r) where
  told : (b : Bool) → ((v : List ℕ) → Prepared v w f → ChainOf v d → b ≡ not (possible (vocabulary_of v) d)) →
      Tabulated d f w w' (record { individuals = r.individuals; constraints = r.constraints; impossible = b })
  told b e = record { impossible = e; tabled = λ v g o. flagged refl refl (n.tabled v g o); standing = record { long = n.standing.long; individuals = n.standing.individuals; constraints = n.standing.constraints }; only = n.only }

  pub term_impossible : r.impossible ≡ true → Tabulated d f w w' r
  term_impossible e =
      subst (λ (b : Bool). Tabulated d f w w' (record { individuals = r.individuals; constraints = r.constraints; impossible = b })) (sym e)
      (told true (λ v g o. ap not (sym (n.never v g o e))))

  pub term_clean : {b : Bool} → r.impossible ≡ false → DecidesClean w' r b →
      Tabulated d f w w' (record { individuals = r.individuals; constraints = r.constraints; impossible = not b })
  term_clean {b} e h = told (not b) (λ v g o. ap not (h v (normal_form (vocabulary_of v) d) (prepared_kept n.only g).paired (n.tabled v g o) ∙ sym (n.clean v e)))

-- ---- the terms of a policy, one after another

-- what is asked of the slice when the term at record k comes
pub term_ready : {T : ℕ → Policy → Type 0} {v p w₀ w : List ℕ} {f : Functional} {s k : ℕ} → Prepared v w₀ f → tables_end ≤ length w₀ → Only InTables w₀ w →
    Asking T v p s k → (k ≡ 0 → ⊥) → Fit p w k × (pair_count w ≤ most_pairs)
term_ready g long o a n = (term_fits (asking_term a n) n g.accepted (omega arith), (prepared_kept o g).paired.few)
