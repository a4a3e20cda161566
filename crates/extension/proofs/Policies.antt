-- Laws of a policy's terms: who is in one passes its conjuncts.
use Prim.Native.Nat.{◌+◌, ◌<◌, ◌≤◌, ℕ}
use mathlib.Core.Bool.{Bool, ◌||◌, false, true}
use mathlib.Core.List.{List, ◌∷◌}
use mathlib.Core.Logic.{⊎_elim}
use mathlib.Core.Path.{◌≡◌, refl}
use lib.ListN.{length}
use native.Mathlib.Omega.{arith}
use Rattle.extension.proofs.Conjuncts.{charted, inside, no_more}
use Rattle.extension.specs.Depths.{AllMeasured, Passes, Settled, Topped}
use Rattle.extension.specs.Sets.{AllMarked, Charted, Extended, Sized, Taken}
use Rattle.frames.proofs.Frames.{only_span, only_then}
use Rattle.frames.specs.Frames.{Only, Span}
use Rattle.meaning.specs.Accepted.{depth}
use Rattle.meaning.specs.Limits.{most_roles}
use Rattle.meaning.specs.Model.{facts_of}
use Rattle.meaning.specs.ModelCheck.{is_in}
use Rattle.meaning.specs.Policy.{Policy, child_of, first_term, next_of, policy_of, policy_refusal, term_at}
use Rattle.meaning.specs.Records.{falling, last_of}
use Rattle.meaning.specs.Vocabulary.{role_count}
use Rattle.policy.proofs.Terms.{Asking, asking_ends, asking_falls, asking_found, asking_on, asking_starts, asking_term}
use Rattle.policy.specs.Terms.{conjuncts_at}
use Rattle.satisfaction.specs.Places.{sets_at, sets_end}
use Rattle.theory.proofs.Links.{passed, tests}
use Rattle.theory.proofs.Rules.{order}
use Rattle.theory.proofs.Wellformed.{accepted, accepted_counts}

long : (v p : List ℕ) → policy_refusal v p ≡ 0 → 6 ≤ length p
unfolding policy_refusal
long v p h = let u = simp (passed 3, passed 4, tests) at h in u.0.1.0

pub sized : {p : List ℕ} → Taken p → Sized p
sized {p} t = record { headed = long t.0 p t.2; few = (accepted t.0 p t.2).small }

-- ---- the terms, one after another

-- a loop that has come to the term at record k: what the rest tells is what all tell
pub record Seeking (p m : List ℕ) (k : ℕ) : Type 0 where
  pub vocabulary : List ℕ
  pub place : ℕ
  pub roles : role_count vocabulary ≤ most_roles
  pub asking : Asking (λ s l. is_in (facts_of m) l 1 ≡ is_in (facts_of m) (policy_of p) 1) vocabulary p place k

module _ {p m : List ℕ} {k : ℕ} where
  pub seeking_starts : Taken p → k ≡ first_term p → Seeking p m k
  seeking_starts t e = record { vocabulary = t.0; place = 1; roles = (accepted_counts t.0 t.1).1; asking = asking_starts t.2 e refl }

  module _ (x : Seeking p m k) where
    pub seeking_ends : k ≡ 0 → false ≡ is_in (facts_of m) (policy_of p) 1
    seeking_ends z = asking_ends x.asking z

    module _ (n : k ≡ 0 → ⊥) where
      pub seeking_falls : {j : ℕ} → j ≡ next_of p k → falling (last_of 6 p) j < falling (last_of 6 p) k
      seeking_falls e = asking_falls x.asking n e

      -- record j is the first of the term's conjuncts
      module _ {j : ℕ} (e : j ≡ child_of p k) where
        term_charted : Charted p j
        term_charted = let t = asking_term x.asking n in rw e (charted x.vocabulary x.roles t.reads t.named t.shallow)

        pub seeking_inside : j ≤ last_of 6 p
        seeking_inside = inside term_charted

        -- b tells whether they hold of individual 1
        module _ {w : List ℕ} {top : ℕ} {b : Bool} (s : Settled p m top w) (u : Topped p top) (h : Passes p w 1 j b) where
          shallow : depth (conjuncts_at p j) ≤ top
          shallow = ⊎_elim (λ l. u.deepest j l term_charted) (λ l. let z : j ≡ 0 = omega arith in rw (z, no_more p) (omega arith)) (order 0 j)

          first_told : (l : Policy) → is_in (facts_of m) (term_at p k ∷ l) 1 ≡ is_in (facts_of m) (policy_of p) 1 → b || is_in (facts_of m) l 1 ≡ is_in (facts_of m) (policy_of p) 1
          first_told l g = let i = s.interpreted.readable.individuals in rw (h.tells m top s.known term_charted shallow (omega arith, i.0), e) g

          pub seeking_found : b ≡ true → true ≡ is_in (facts_of m) (policy_of p) 1
          seeking_found d = asking_found x.asking n (λ l g. rw d at (first_told l g))

          pub seeking_on : b ≡ false → {i : ℕ} → i ≡ next_of p k → Seeking p m i
          seeking_on d z = record {
            vocabulary = x.vocabulary;
            place = x.place + 1;
            roles = x.roles;
            asking = asking_on x.asking n z (λ l g. rw d at (first_told l g));
          }

-- ---- the whole

pub extended : {p m w w₁ w₂ w₃ : List ℕ} {top n : ℕ} {b : Bool} → AllMarked p m w w₁ → AllMeasured p w₁ w₂ top → Settled p m n w₃ → Only (Span sets_at sets_end) w₂ w₃ →
    b ≡ is_in (facts_of m) (policy_of p) 1 → Extended p m w w₃ b
extended a c s o e = record {
  told = e;
  interpreted = s.interpreted;
  only = only_then (only_span a.only (omega arith) (omega arith)) (only_then (only_span c.only (omega arith) (omega arith)) o);
}
