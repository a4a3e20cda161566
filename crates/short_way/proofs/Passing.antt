-- Laws of the short way: one term with its constraints whole, and the terms one after another.
use Prim.Native.Nat.{◌+◌, ℕ}
use mathlib.Core.Bool.{Bool, ◌||◌, false, not, true}
use mathlib.Core.List.{List, [], ◌++◌, ◌∷◌, append_assoc, append-nil}
use mathlib.Core.Path.{◌∙◌, ◌≡◌, ap, refl, sym}
use lib.ListN.{length-append}
use native.Mathlib.Omega.{arith}
use Rattle.frames.specs.Frames.{Only}
use Rattle.functional.specs.declared.Functional.{Functional}
use Rattle.layout.proofs.Nesting.{tabled_nested}
use Rattle.layout.specs.Places.{InTables}
use Rattle.layout.specs.Tables.{constraint_at}
use Rattle.layout.specs.declared.Tables.{Tables}
use Rattle.meaning.specs.Accepted.{ChainOf}
use Rattle.meaning.specs.Containment.{passes, passes_whole, short_way}
use Rattle.meaning.specs.Lists.{all, any, cons, nil}
use Rattle.meaning.specs.NormalForm.{normal_form, possible}
use Rattle.meaning.specs.Policy.{Chain, Policy, next_of, policy_of, policy_refusal, term_at}
use Rattle.meaning.specs.Vocabulary.{vocabulary_of}
use Rattle.policy.proofs.Terms.{Asking, asking_ends, asking_found, asking_on, asking_term}
use Rattle.preparation.proofs.Laws.{prepared_kept}
use Rattle.preparation.specs.Prepared.{Accepting, Prepared}
use Rattle.std.specs.Prelude.{None, Some}
use Rattle.short_way.specs.Stops.{Askable, Behind, LeftAt, PreparedPair, Stops}
use Rattle.splitting.proofs.Callers.{constraints_at_lem, whole_form}
use Rattle.subsumption.specs.Tests.{holds_whole}
use Rattle.tabulation.proofs.Laws.{term_ready}
use Rattle.tabulation.specs.Clean.{DecidesClean}
use Rattle.tabulation.specs.Tabulation.{Shaped}
use Rattle.theory.proofs.Rules.{all_append, all_in, all_out, all_snd, head, is_false, is_true, not_true, same_test}
use Rattle.trial.proofs.Trying.{passes_held}
use Rattle.trial.specs.Trials.{Formed}

-- ---- what is ready

module _ {v p q w : List ℕ} {f : Functional} (r : PreparedPair v p q w f) where
  pub ready_accepts : Accepting v p w f
  ready_accepts = record { prepared = r.prepared; policy = r.first }

  -- the other way round
  pub ready_back : PreparedPair v q p w f
  ready_back = record { prepared = r.prepared; full = r.full; first = r.second; second = r.first }

  -- still
  pub ready_still : {w' : List ℕ} → Only InTables w w' → PreparedPair v p q w' f
  ready_still o = record { prepared = prepared_kept o r.prepared; full = omega arith; first = r.first; second = r.second }

-- ---- one term

-- the term at record k comes
pub asking_askable : {T : ℕ → Policy → Type 0} {v p q w₀ w : List ℕ} {f : Functional} {s k : ℕ} → PreparedPair v p q w₀ f → Only InTables w₀ w → Asking T v p s k →
    (k ≡ 0 → ⊥) → Askable v p q w f k
asking_askable r o a n =
    record { prepared = prepared_kept o r.prepared; fit = (term_ready r.prepared (omega (arith, r.full)) o a n).0; named = (asking_term a n).named; second = r.second }

module _ {c : Chain} {f : Functional} {w w' : List ℕ} {t : Tables} (d : Shaped c f w w' t) where
  -- the tables are held to q whole
  pub shape_formed : {v q : List ℕ} → Prepared v w f → ChainOf v c → policy_refusal v q ≡ 0 → Formed q w' t
  shape_formed {v} g o a =
      let i = (d.tabled v g o).count in
      record { standing = d.standing; nested = tabled_nested (d.tabled v g o); some = omega arith; policy = record { vocabulary = v; accepted = a } }

  module _ {v : List ℕ} (q : List ℕ) (g : Prepared v w f) (o : ChainOf v c) where
    -- rules 1 to 3 make it impossible
    pub pass_impossible : t.impossible ≡ true → true ≡ passes_whole (vocabulary_of v) (policy_of q) c
    pass_impossible h = rw (d.never v g o h)

    module _ {b : Bool} (e : b ≡ any (λ x. holds_whole w' t x 1) (policy_of q)) where
      taken : b ≡ passes (vocabulary_of v) (policy_of q) (normal_form (vocabulary_of v) c)
      taken =
          let h = d.tabled v g o in
          let same = whole_form w' t.constraints (normal_form (vocabulary_of v) c) (sym (constraints_at_lem h)) in
          e ∙ passes_held (policy_of q) h (constraint_at w') ∙ ap (passes (vocabulary_of v) (policy_of q)) same

      -- a term of q takes it
      pub pass_taken : b ≡ true → true ≡ passes_whole (vocabulary_of v) (policy_of q) c
      pass_taken h = rw (sym taken ∙ h) (go (not (possible (vocabulary_of v) c)))
        where
          go : (x : Bool) → true ≡ (x || true)
          go true = refl
          go false = refl

      -- none does: it passes only where it is impossible
      pub pass_clean : {r : Bool} → b ≡ false → t.impossible ≡ false → DecidesClean w' t r → not r ≡ passes_whole (vocabulary_of v) (policy_of q) c
      pass_clean {r} h i k =
          rw (sym taken ∙ h, d.clean v i) (go r _ (k v (normal_form (vocabulary_of v) c) (prepared_kept d.only g).paired (d.tabled v g o)))
        where
          go : (r x : Bool) → r ≡ x → not r ≡ (not x || false)
          go true x e = rw (sym e)
          go false x e = rw (sym e)

-- ---- the terms, one after another

module _ (v p q : List ℕ) where
  pub behind_starts : Behind v p q 1 (policy_of p)
  behind_starts = record { before = []; split = refl; place = refl; passed = tt }

  pub behind_ends : {s : ℕ} → Behind v p q s [] → short_way (vocabulary_of v) (policy_of p) (policy_of q) ≡ true
  unfolding short_way
  behind_ends b = rw (b.split ∙ append-nil b.before) (same_test (all (passes_whole (vocabulary_of v) (policy_of q)) b.before) true (λ _. tt) (λ _. b.passed))

  module _ (s : ℕ) (c : Chain) (l : Policy) (b : Behind v p q s (c ∷ l)) where
    pub behind_on : passes_whole (vocabulary_of v) (policy_of q) c ≡ true → Behind v p q (s + 1) l
    behind_on h =
        let pass = passes_whole (vocabulary_of v) (policy_of q) in record {
          before = b.before ++ (c ∷ []);
          split = b.split ∙ sym (append_assoc b.before (c ∷ []) l);
          place = omega (arith, b.place, length-append b.before (c ∷ []));
          passed = all_in pass (all_append (all_out pass b.before b.passed) (cons (is_true h) nil));
        }

    pub behind_fails : passes_whole (vocabulary_of v) (policy_of q) c ≡ false → short_way (vocabulary_of v) (policy_of p) (policy_of q) ≡ false
    unfolding short_way
    behind_fails h =
        let pass = passes_whole (vocabulary_of v) (policy_of q) in
        rw b.split (is_false (all pass (b.before ++ (c ∷ l))) (λ t. not_true h (head (all_snd b.before (c ∷ l) (all_out pass (b.before ++ (c ∷ l)) t)))))

module _ {v p q : List ℕ} {s k : ℕ} where
  left_of : Asking (Behind v p q) v p s k → LeftAt v p q s k
  left_of a = record { left = a.walk.left; along = a.walk.along; room = a.walk.holds.0; behind = a.walk.holds.1 }

  module _ (a : Asking (Behind v p q) v p s k) where
    pub stops_ended : k ≡ 0 → Stops v p q None
    stops_ended z = behind_ends v p q (asking_ends a z)

    module _ (n : k ≡ 0 → ⊥) {b : Bool} (e : b ≡ passes_whole (vocabulary_of v) (policy_of q) (term_at p k)) where
      pub stops_found : b ≡ false → Stops v p q (Some (record { term = k; place = s }))
      stops_found h = record {
        fails = asking_found a n (λ l u. behind_fails v p q s (term_at p k) l u (sym e ∙ h));
        left = left_of a;
      }

      pub passes_on : {j : ℕ} → b ≡ true → j ≡ next_of p k → Asking (Behind v p q) v p (s + 1) j
      passes_on h z = asking_on a n z (λ l u. behind_on v p q s (term_at p k) l u (sym e ∙ h))
