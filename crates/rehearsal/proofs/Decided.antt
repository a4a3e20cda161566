-- A load is never too much to decide: a term has one constraint, so few combinations, and one individual, so a short countermodel.
-- Assumes nothing.
use Prim.Native.Nat.{◌*◌, ◌+◌, ◌≤◌, suc, zero, ℕ}
use mathlib.Core.Bool.{Bool, ◌&&◌, and-false, cond, false, not, true}
use mathlib.Core.List.{List, [], ◌∷◌}
use mathlib.Core.Path.{◌≡◌, refl}
use lib.Dec.{ltb}
use lib.ListN.{length}
use native.Mathlib.Nat.{mul-le-mul}
use native.Mathlib.Omega.{arith}
use borrow.Author.Tests.{le-ltb}
use Rattle.meaning.specs.Accepted.{count}
use Rattle.meaning.specs.Containment.{Decision, contained, crowded, decide, decide_from, escapes, first_failure, or_escape, passes, resolve, short_way}
use Rattle.meaning.specs.Containment.{too_many}
use Rattle.meaning.specs.Countermodel.{canonical_model, countermodel, individuals}
use Rattle.meaning.specs.Intervals.{Constraint}
use Rattle.meaning.specs.Limits.{most_classes, most_combinations}
use Rattle.meaning.specs.Lists.{All, Found, any, cons, first_failing, flat_map, nowhere}
use Rattle.meaning.specs.NormalForm.{Form, clean_node, clean_successors, has_bottom, normal_form, possible}
use Rattle.meaning.specs.Policy.{Chain, Policy}
use Rattle.meaning.specs.Splitting.{combination_count, combinations, ends}
use Rattle.meaning.specs.Vocabulary.{Vocabulary}
use Rattle.rehearsal.specs.Load.{advance_by, draw, load_policy, load_term, most_terms}
use Rattle.theory.proofs.ModelWords.{model_length}
use Rattle.theory.proofs.Most.{pieces_most}
use Rattle.theory.proofs.Picks.{PickedForm, clean_non_empty_form, combinations_picked}
use Rattle.theory.proofs.Refusals.{cond_all}
use Rattle.theory.proofs.Rules.{T_and, all_mono, is_true}
use Rattle.theory.proofs.Sizes.{form_picked, length-canonical_model-≤, normal_weight, size_weight}

ends_most : (s N m : ℕ) → length (flat_map (ends 1) (load_policy s N m)) ≡ 2 * m
ends_most s N zero = refl
ends_most s N (suc m) = omega (arith, ends_most (advance_by 3 s) N m)

-- ---- 22

module _ (K : Vocabulary) (t N m : ℕ) (few : m ≤ most_terms) where
  term_few : (s : ℕ) → combination_count (load_policy t N m) (normal_form K (load_term s N)) ≤ most_combinations
  unfolding combination_count normal_form
  term_few s =
      let lo = draw (advance_by 1 s) 100 in
      let one : Constraint = record { feature = 1; lo = lo; hi = lo + draw (advance_by 2 s) 100 } in
      omega (arith, pieces_most (load_policy t N m) one, ends_most t N m)

  pub load_uncrowded : (s n : ℕ) → crowded K (load_policy s N n) (load_policy t N m) ≡ false
  unfolding crowded too_many
  load_uncrowded s n = rw (none s n) (and-false (not (short_way K (load_policy s N n) (load_policy t N m))))
    where
      none : (s n : ℕ) → any (λ p. possible K p && ltb most_combinations (combination_count (load_policy t N m) (normal_form K p))) (load_policy s N n) ≡ false
      none s zero = refl
      none s (suc n) = rw (le-ltb most_combinations (combination_count (load_policy t N m) (normal_form K (load_term s N))) (term_few s), and-false (possible K (load_term s N))) (none (advance_by 3 s) n)

-- ---- 23

-- words with room for every countermodel of a load: one individual in every class, with a value
abbrev pub room : ℕ
room = 5 * (3 * most_classes + 3)

-- a decision that has room
abbrev pub HasRoom : Vocabulary → Decision → Type 0
HasRoom K contained = Unit {0}
HasRoom K (escapes s q u) = length (countermodel K u) ≤ room

module _ (K : Vocabulary) (classes : K.classes ≤ most_classes) (Q : Policy) where
  Short : Form → Type 0
  Short u = length (countermodel K u) ≤ room

  picked_short : (c : Chain) → count c ≤ 2 → (u : Form) → PickedForm Q (normal_form K c) u → Short u
  unfolding Short countermodel
  picked_short c h u k =
      let small : individuals u ≤ 3 = omega (arith, size_weight u.successors, form_picked k, normal_weight K c) in
      omega (arith, model_length (individuals u) (canonical_model K u), length-canonical_model-≤ K u, mul-le-mul classes small, form_picked k, normal_weight K c)

  -- what the search finds is one of them
  found_short : (s k : ℕ) (l : List Form) (rest : Decision) → All Short l → HasRoom K rest → HasRoom K (or_escape s (first_failing (passes K Q) k l) rest)
  unfolding Short
  found_short s k [] rest h r = r
  found_short s k (u ∷ l) rest (cons h t) r =
      cond_all (λ (x : Found Form). HasRoom K (or_escape s x rest)) (passes K Q u) (found_short s (suc k) l rest t r) h

  term_short : (s : ℕ) (c : Chain) (rest : Decision) → count c ≤ 2 → HasRoom K rest → HasRoom K (or_escape s (first_failure K Q c) rest)
  unfolding first_failure possible
  term_short s c rest h r = go (possible K c) refl
    where
      go : (b : Bool) → possible K c ≡ b → HasRoom K (or_escape s (cond b (first_failing (passes K Q) 1 (combinations Q (normal_form K c))) nowhere) rest)
      go false e = r
      go true e =
          let a = T_and (not (has_bottom c)) (clean_node K (normal_form K c).node && clean_successors K (normal_form K c).successors) (is_true e) in
          let b = T_and (clean_node K (normal_form K c).node) (clean_successors K (normal_form K c).successors) a.1 in
          found_short s 1 (combinations Q (normal_form K c)) rest
          (all_mono (picked_short c h) (combinations_picked Q (normal_form K c) (clean_non_empty_form K (normal_form K c) b.0 b.1))) r

  pub load_has_room : (s N m : ℕ) → HasRoom K (resolve K (load_policy s N m) Q)
  unfolding resolve decide
  load_has_room s N m = cond_all (HasRoom K) (short_way K (load_policy s N m) Q) tt (from 1 s m)
    where
      from : (i s m : ℕ) → HasRoom K (decide_from K Q i (load_policy s N m))
      from i s zero = tt
      from i s (suc m) = term_short i (load_term s N) (decide_from K Q (suc i) (load_policy (advance_by 3 s) N m)) (omega arith) (from (suc i) (advance_by 3 s) m)
