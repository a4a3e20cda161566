-- One term: whether it has too many combinations, and the first combination to fail.
use Prim.Native.Nat.{◌<◌, ◌≤◌, min, suc, ℕ}
use mathlib.Core.Bool.{Bool, ◌&&◌, ◌||◌, false, not, true}
use mathlib.Core.List.{List, [], ◌∷◌}
use mathlib.Core.Logic.{◌⊎◌, inl, inr}
use mathlib.Core.Path.{◌∙◌, ◌≡◌, ap, refl, subst, sym}
use lib.Dec.{ltb}
use native.Mathlib.Omega.{arith}
use borrow.Author.Tests.{le-ltb, lt-ltb, ltb-false}
use Rattle.std.specs.Prelude.{None, Option, Some}
use Rattle.decision.specs.Decisions.{Failed, Failure, exceeds}
use Rattle.frames.proofs.Frames.{only_none, only_wider}
use Rattle.frames.specs.Frames.{Only}
use Rattle.functional.specs.declared.Functional.{Functional}
use Rattle.layout.proofs.Nesting.{tabled_nested}
use Rattle.layout.specs.Places.{InTables}
use Rattle.layout.specs.Tables.{Pieces}
use Rattle.layout.specs.declared.Tables.{Tables}
use Rattle.meaning.specs.Accepted.{ChainOf, interval_count}
use Rattle.meaning.specs.Containment.{first_failure, too_many}
use Rattle.meaning.specs.Limits.{most_combinations, most_records}
use Rattle.meaning.specs.Lists.{any}
use Rattle.meaning.specs.NormalForm.{has_bottom, normal_form, possible}
use Rattle.meaning.specs.Policy.{Chain, Policy, policy_of, policy_refusal}
use Rattle.meaning.specs.Splitting.{combination_count, constraints_of, product}
use Rattle.meaning.specs.Vocabulary.{Vocabulary, vocabulary_of}
use Rattle.preparation.proofs.Laws.{prepared_kept}
use Rattle.preparation.specs.Prepared.{Prepared}
use Rattle.splitting.proofs.Callers.{full_clean, full_non_empty, product_at}
use Rattle.splitting.specs.Ends.{Ends}
use Rattle.splitting.specs.Constraints.{Few, Splittable, first_constraints}
use Rattle.tabulation.specs.Clean.{DecidesClean, clean_form}
use Rattle.tabulation.specs.Tabulation.{Shaped, Tabulated}
use Rattle.trial.specs.Trials.{Triable, Tried}
use Rattle.theory.proofs.Rules.{order}
use Rattle.theory.proofs.Sizes.{normal_intervals}
use Rattle.trial.specs.Trials as Tries

-- ---- 22: too many combinations

-- a count that stops after the limit tells as much
capped : (n m : ℕ) → n ≡ min m (suc most_combinations) → ltb most_combinations n ≡ ltb most_combinations m
capped n m e = go (order most_combinations m)
  where
    go : (most_combinations < m) ⊎ (m ≤ most_combinations) → ltb most_combinations n ≡ ltb most_combinations m
    go (inl h) = lt-ltb most_combinations n (omega arith) ∙ sym (lt-ltb most_combinations m h)
    go (inr h) = le-ltb most_combinations n (omega arith) ∙ sym (le-ltb most_combinations m h)

-- of whatever policy's ends they are, what the rest counts is what all count
abbrev pub Uncounted : List ℕ → List ℕ → List ℕ → ℕ → Policy → Type 0
Uncounted v p e s l = (Q : Policy) → Ends Q e → any (exceeds (vocabulary_of v) Q) l ≡ too_many (vocabulary_of v) (policy_of p) Q

module _ (v p e : List ℕ) where
  pub uncounted_starts : Uncounted v p e 1 (policy_of p)
  unfolding too_many
  uncounted_starts Q n = refl

  pub uncounted_ends : Uncounted v p e 1 [] → (Q : Policy) → Ends Q e → false ≡ too_many (vocabulary_of v) (policy_of p) Q
  uncounted_ends u Q n = u Q n

  module _ (c : Chain) (l : Policy) {b : Bool} (u : Uncounted v p e 1 (c ∷ l)) (f : (Q : Policy) → Ends Q e → b ≡ exceeds (vocabulary_of v) Q c) where
    pub uncounted_found : b ≡ true → (Q : Policy) → Ends Q e → true ≡ too_many (vocabulary_of v) (policy_of p) Q
    uncounted_found h Q n = ap (λ (x : Bool). x || any (exceeds (vocabulary_of v) Q) l) (sym h ∙ f Q n) ∙ u Q n

    pub uncounted_on : b ≡ false → Uncounted v p e 1 l
    uncounted_on h Q n = ap (λ (x : Bool). x || any (exceeds (vocabulary_of v) Q) l) (sym h ∙ f Q n) ∙ u Q n

-- ---- the term that the tables hold

is_true_lem : (t : Bool) {b : Bool} → b ≡ not t → b ≡ false → t ≡ true
is_true_lem true e h = refl
is_true_lem false e h = cc

is_false_lem : (t : Bool) {b : Bool} → b ≡ not t → b ≡ true → t ≡ false
is_false_lem true e h = cc
is_false_lem false e h = refl

clean_is : (K : Vocabulary) (c : Chain) → possible K c ≡ true → clean_form K (normal_form K c) ≡ true
unfolding possible
clean_is K c h = go (not (has_bottom c)) h
  where
    go : (t : Bool) → (t && clean_form K (normal_form K c)) ≡ true → clean_form K (normal_form K c) ≡ true
    go true h = h
    go false h = cc

-- few combinations do not exceed, whether the term is possible or not
few_exceeds : (K : Vocabulary) (Q : Policy) (c : Chain) → combination_count Q (normal_form K c) ≤ most_combinations → false ≡ exceeds K Q c
few_exceeds K Q c l = rw (le-ltb most_combinations _ l) (go (possible K c))
  where
    go : (b : Bool) → false ≡ (b && false)
    go true = refl
    go false = refl

-- nor do few intervals: the normal form has no more constraints
pub intervals_within : (K : Vocabulary) (c : Chain) {e : List ℕ} {n : ℕ} → n ≡ interval_count c → Few e n → (Q : Policy) → Ends Q e → false ≡ exceeds K Q c
unfolding combination_count
intervals_within K c i f Q h = few_exceeds K Q c (f Q h (constraints_of (normal_form K c)) (omega (arith, normal_intervals K c)))

module _ {c : Chain} {f : Functional} {w w' : List ℕ} {t : Tables} (d : Shaped c f w w' t) where
  pub shape_splittable : t.impossible ≡ false → Splittable w' t.constraints
  shape_splittable h = record { few = d.standing.constraints; long = d.standing.long; full = full_non_empty w' t.constraints (d.non_empty h) }

  module _ {v : List ℕ} (g : Prepared v w f) (o : ChainOf v c) (Q : Policy) where
    pub shape_impossible : t.impossible ≡ true → false ≡ exceeds (vocabulary_of v) Q c
    shape_impossible h = rw (d.never v g o h)

    module _ {n : ℕ} (e : n ≡ min (product Q (first_constraints w' t.constraints)) (suc most_combinations)) where
      counted : ltb most_combinations n ≡ ltb most_combinations (combination_count Q (normal_form (vocabulary_of v) c))
      counted = capped n _ (e ∙ ap (λ (m : ℕ). min m (suc most_combinations)) (product_at (d.tabled v g o) Q))

      pub shape_few : n ≤ most_combinations → false ≡ exceeds (vocabulary_of v) Q c
      shape_few l =
          few_exceeds (vocabulary_of v) Q c (subst (λ (m : ℕ). m ≤ most_combinations) (product_at (d.tabled v g o) Q) (omega arith))

      pub shape_many : {b : Bool} → t.impossible ≡ false → most_combinations < n → DecidesClean w' t b → b ≡ exceeds (vocabulary_of v) Q c
      shape_many h l q =
          rw (sym counted ∙ lt-ltb most_combinations n l, d.clean v h) (go _ (q v (normal_form (vocabulary_of v) c) (prepared_kept d.only g).paired (d.tabled v g o)))
        where
          go : {b : Bool} (x : Bool) → b ≡ x → b ≡ (x && true)
          go true h = h
          go false h = h

module _ {v : List ℕ} {c : Chain} {f : Functional} {w w' : List ℕ} {t : Tables} (g : Prepared v w f) (o : ChainOf v c) (d : Tabulated c f w w' t) where
  abbrev pub K : Vocabulary
  K = vocabulary_of v

  module _ (h : t.impossible ≡ false) where
    is_possible_lem : possible K c ≡ true
    is_possible_lem = is_true_lem (possible K c) (d.impossible v g o) h

    pub term_splittable : Splittable w' t.constraints
    term_splittable = record { few = d.standing.constraints; long = d.standing.long; full = full_clean (d.tabled v g o) (clean_is K c is_possible_lem) }

    pub term_triable : {q e : List ℕ} → policy_refusal v q ≡ 0 → Ends (policy_of q) e → exceeds K (policy_of q) c ≡ false → Triable q e w' t
    term_triable {q} a n x =
        let i = (d.tabled v g o).count in
        record {
          standing = d.standing;
          nested = tabled_nested (d.tabled v g o);
          some = omega arith;
          policy = record { vocabulary = v; accepted = a };
          splittable = term_splittable;
          ends = n;
          few = rw (product_at (d.tabled v g o) (policy_of q)) (le_of (combination_count (policy_of q) (normal_form K c)) (rw is_possible_lem at x));
        }
      where
        le_of : (m : ℕ) → ltb most_combinations m ≡ false → m ≤ most_combinations
        le_of m e = ltb-false most_combinations m e

-- ---- the first combination to fail, where the term is possible

module _ (Q : Policy) {w : List ℕ} {t : Tables} where
  pub failed_impossible : t.impossible ≡ true → Failed Q w w t None
  unfolding first_failure
  failed_impossible h = record { told = λ v c e s. rw (is_false_lem (possible (vocabulary_of v) c) e h); only = only_none }

  pub failed_tried : {w' : List ℕ} {r : Option ℕ} → t.impossible ≡ false → Tried Q w w' t r → Failed Q w w' t r
  unfolding first_failure
  failed_tried {w'} {r} h y = record { told = λ v c e s. go r (vocabulary_of v) c (is_true_lem (possible (vocabulary_of v) c) e h) (y.told (vocabulary_of v) (normal_form (vocabulary_of v) c) s); only = y.only }
    where
      go : (r : Option ℕ) (K : Vocabulary) (c : Chain) → possible K c ≡ true → Tries.Failure K Q (normal_form K c) w' t r → Failure K Q c w' t r
      go None K c e y = rw e y
      go (Some k) K c e y = (y.0, rw e y.1, y.2)

-- the pieces stand in the tables
pub pieces_tables : {n : ℕ} {w w' : List ℕ} → n ≤ most_records → Only (Pieces n) w w' → Only InTables w w'
pieces_tables few k = only_wider (λ i s. record { low = omega (arith, s.span.low); high = omega (arith, s.few, s.span.high) }) k
