-- The possible terms in the tables, by the vocabulary in which no class is below another: arranged they are the spelling.
use Prim.Native.Nat.{◌+◌, ◌≤◌, ℕ}
use mathlib.Core.Bool.{Bool, cond, false, true}
use mathlib.Core.List.{List, [], ◌++◌, ◌∷◌, map}
use mathlib.Core.Path.{◌∙◌, ◌≡◌, ap, ap₂, refl, subst, sym}
use lib.ListN.{length, length-append}
use native.Mathlib.Omega.{arith}
use Rattle.arrangement.proofs.Spelled.{arranged_spelled, spelled_fronted}
use Rattle.arrangement.proofs.Standing.{entries_stand}
use Rattle.arrangement.specs.Insertion.{arranged}
use Rattle.flattening.proofs.Laws.{flat_below, flat_chain, flat_normal}
use Rattle.flattening.specs.Flat.{flat_words}
use Rattle.functional.specs.declared.Functional.{Functional}
use Rattle.layout.proofs.Nesting.{rows_from}
use Rattle.layout.specs.Places.{tables_end}
use Rattle.layout.specs.declared.Tables.{Tables}
use Rattle.meaning.specs.Accepted.{total}
use Rattle.meaning.specs.Countermodel.{size}
use Rattle.meaning.specs.Limits.{most_records}
use Rattle.meaning.specs.Lists.{All, cons, filter, nil}
use Rattle.meaning.specs.NormalForm.{Form, Successors, add, bare, none, place_successor, possible, successor}
use Rattle.meaning.specs.Policy.{Chain, Policy, policy_of, policy_refusal, term_at}
use Rattle.meaning.specs.Splitting.{constraints_below}
use Rattle.meaning.specs.Stated.{is_functional_role, ranges}
use Rattle.meaning.specs.Vocabulary.{Vocabulary, vocabulary_of, vocabulary_refusal}
use Rattle.normal_form.proofs.Callers.{term_fits}
use Rattle.normal_form.proofs.Groups.{unranged}
use Rattle.normal_form.specs.Parts.{Arm, arm_at, place_all, successors_of, weigh}
use Rattle.normal_form.specs.Steps.{ArmOf, Entry, Grown}
use Rattle.normal_form.specs.Tables.{FitAll, NormalisedAll}
use Rattle.policy.specs.Terms.{TermOf}
use Rattle.preparation.specs.Prepared.{Prepared}
use Rattle.spell.specs.Filing.{Collected, LaidOut}
use Rattle.spelling.proofs.Arranging.{forest, forest_placed, place_terms}
use Rattle.theory.proofs.Rules.{head, tail}
use Rattle.theory.proofs.Sizes.{normal_weight, weight}
use Rattle.theory.proofs.Wellformed.{accepted}
use Rattle.words.specs.Sets.{in_set}

-- ---- terms that are dropped make a policy no longer

total_filter : (q : Chain → Bool) (P : Policy) → total (filter q P) ≤ total P
total_filter q [] = omega arith
total_filter q (c ∷ P) = go (q c) (total_filter q P)
  where
    go : (b : Bool) → total (filter q P) ≤ total P → total (cond b (c ∷ filter q P) (filter q P)) ≤ total (c ∷ P)
    go true h = omega arith
    go false h = omega arith

-- a forest has no more individuals and constraints than its terms have records
forest_weight : (K : Vocabulary) (P : Policy) → weight (forest K P) ≤ total P
forest_weight K [] = omega arith
forest_weight K (c ∷ P) = let a = normal_weight K c in let b = forest_weight K P in omega arith

weight_split : (ks : Successors) → size ks + length (constraints_below ks) ≡ weight ks
weight_split none = refl
weight_split (successor r n under next) =
    let a = weight_split under in
    let b = weight_split next in
    let c = length-append n.constraints (constraints_below under ++ constraints_below next) in
    let d = length-append (constraints_below under) (constraints_below next) in
    omega arith

-- ---- the records of terms

weigh_terms : (p ts : List ℕ) → length ts + weigh (map (arm_at p) ts) ≡ total (map (term_at p) ts)
weigh_terms p [] = refl
weigh_terms p (k ∷ ts) = let a = weigh_terms p ts in omega arith

module _ {v p : List ℕ} where
  arm_term : {k : ℕ} → TermOf v p k → arm_at p k ≡ record { role = 0; child = term_at p k }
  arm_term {k} t = ap (λ (r : ℕ). record { role = r; child = term_at p k }) t.nameless

  arms_terms : (K : Vocabulary) (ts : List ℕ) (ks : Successors) → All (TermOf v p) ts → place_all K (map (arm_at p) ts) ks ≡ place_terms K (map (term_at p) ts) ks
  arms_terms K [] ks a = refl
  arms_terms K (k ∷ ts) ks a =
      ap (λ (x : Arm). place_all K (map (arm_at p) ts) (place_successor (is_functional_role K x.role) x.role (bare (ranges K x.role)) (add K x.child) ks)) (arm_term (head a))
      ∙ arms_terms K ts (place_successor (is_functional_role K 0) 0 (bare (ranges K 0)) (add K (term_at p k)) ks) (tail a)

  entries_of_lem : (w : List ℕ) {ts : List ℕ} → vocabulary_refusal v ≡ 0 → tables_end ≤ length w → All (λ k. k ≡ 0 → ⊥) ts → All (TermOf v p) ts → All (Entry p) ts
  entries_of_lem w r l nil nil = nil
  entries_of_lem w r l (cons {x = k} n h) (cons t a) =
      let f = term_fits {w = w} t n r l in
      let z = t.nameless in
      cons {x = k} (record { role = omega arith; good = record { reads = f.reads; named = f.named } }) (entries_of_lem w r l h a)

  arms_named : {ts : List ℕ} → All (TermOf v p) ts → All (ArmOf (flat_words v)) (map (arm_at p) ts)
  arms_named nil = nil
  arms_named (cons {x = k} t a) = cons {x = arm_at p k} ((let z = t.nameless in omega arith), flat_chain v (term_at p k) t.named) (arms_named a)

-- the same forest by either vocabulary
forest_flat : (v : List ℕ) → vocabulary_refusal v ≡ 0 → (P : Policy) → forest (vocabulary_of (flat_words v)) P ≡ forest (vocabulary_of v) P
forest_flat v a [] = refl
forest_flat v a (c ∷ P) =
    ap₂ (λ (t : Form) (ks : Successors). successor 0 t.node t.successors ks) (flat_normal v a c) (forest_flat v a P)

-- no role has the number 0
unfunctional : {v w : List ℕ} {f : Functional} → Prepared v w f → is_functional_role (vocabulary_of v) 0 ≡ false
unfolding in_set
unfunctional q = sym (q.functional.role 0)

module _ {v p : List ℕ} (a : vocabulary_refusal v ≡ 0) (b : policy_refusal v p ≡ 0) {ts : List ℕ} (g : Collected v p ts) where
  abbrev kept : Policy
  kept = filter (possible (vocabulary_of v)) (policy_of p)

  few_kept : total kept ≤ most_records
  few_kept = let x = accepted v p b in let f = x.few in let s = x.small in let t = total_filter (possible (vocabulary_of v)) (policy_of p) in omega arith

  pub laying_fit : {w : List ℕ} → tables_end ≤ length w → FitAll p w ts
  laying_fit {w} l = record {
    long = l;
    here = g.here;
    entries = entries_of_lem w a l g.here g.terms;
    few = (let e = weigh_terms p ts in let f : total (map (term_at p) ts) ≡ total kept = ap total g.possible in let h = few_kept in omega arith);
  }

  module _ {f : Functional} {w w' : List ℕ} {t : Tables} (q : Prepared (flat_words v) w f) (x : NormalisedAll f p ts w w' t) where
    abbrev K° : Vocabulary
    K° = vocabulary_of (flat_words v)

    abbrev F : Successors
    F = forest (vocabulary_of v) kept

    grown : Grown K° F 0 0 0 w' t
    unfolding successors_of
    grown = subst (λ (ks : Successors). Grown K° ks 0 0 0 w' t) same (x.grown (flat_words v) q (arms_named g.terms))
      where
        same : successors_of K° (map (arm_at p) ts) ≡ F
        same =
            arms_terms K° ts none g.terms
            ∙ forest_placed K° (unfunctional q) (unranged q) (map (term_at p) ts)
            ∙ forest_flat v a (map (term_at p) ts)
            ∙ ap (forest (vocabulary_of v)) g.possible

    pub laid_out : tables_end ≤ length w' → LaidOut v p w' t
    laid_out long = record {
      listed = record {
        long = long;
        before = λ j h. (rows_from K° w' F 0 0 (omega arith) grown.rows j (omega arith) (let e = grown.count in omega arith)).1;
        few = (let c = grown.count in let d = grown.top in let s = weight_split F in let h = forest_weight (vocabulary_of v) kept in let k = few_kept in omega arith);
      };
      holds = record {
        items = λ ds h.
            ap arranged (entries_stand K° w' ds t F (flat_below v a) grown.rows grown.held (let c = grown.count in omega arith) (let d = grown.top in omega arith) x.individuals h)
            ∙ arranged_spelled (vocabulary_of v) (policy_of p);
        fronted = spelled_fronted (vocabulary_of v) (policy_of p);
      };
    }
