-- The way along the chain of an accepted vocabulary: what its records state, one after another. Other crates cite it for their loops
-- `k = first_axiom(v); while k != 0 { .. k = axiom_next(v, k); }`.
use Prim.Native.Nat.{◌<◌, ℕ}
use mathlib.Core.Bool.{true}
use mathlib.Core.List.{List, [], ◌∷◌, foldl, foldl-append}
use mathlib.Core.Path.{◌∙◌, ◌≡◌, refl, sym}
use lib.ListN.{length}
use native.Mathlib.Omega.{arith}
use Rattle.meaning.specs.Lists.{flat_map}
use Rattle.meaning.specs.Records.{falling, last_of}
use Rattle.meaning.specs.Vocabulary.{Axiom, axiom_at, axiom_fits, axiom_next, axioms_of, first_axiom, sound_axiom, vocabulary_of, vocabulary_refusal}
use Rattle.records.proofs.Chains.{Walking, read_along, walking_ends, walking_falls, walking_on, walking_sound, walking_starts}
use Rattle.records.specs.Chains.{Along, Links, listed}
use Rattle.theory.proofs.Links.{falling_le, tests}
use Rattle.theory.proofs.Wellformed.{vocabulary_sound}

unfoldable pub axiom_links : List ℕ → Links (List Axiom)
axiom_links v = listed (last_of 4 v) (axiom_next v) (axiom_at v) (λ k. axiom_fits v k ≡ true)

pub axioms_along : (v : List ℕ) → vocabulary_refusal v ≡ 0 → Along (axiom_links v) (first_axiom v) (vocabulary_of v).axioms
unfolding vocabulary_of axioms_of axiom_links
axioms_along v h =
    let s = vocabulary_sound v h in
    let u = simp tests at s.headed in
    read_along (axiom_at v) 2 (sound_axiom v) (λ k t. simp tests at t) (length v) (first_axiom v)
    (u.1.1.1, omega (arith, falling_le (last_of 4 v) (first_axiom v))) s.chain

-- a loop that does one step for each record: the steps that are left lead where all of them do
pub record Folding {S : Type 0} (v : List ℕ) (step : S → Axiom → S) (s₀ : S) (k : ℕ) (s : S) : Type 0 where
  pub walk : Walking (axiom_links v) (λ l. foldl step s l ≡ foldl step s₀ (vocabulary_of v).axioms) k

module _ {S : Type 0} {v : List ℕ} {step : S → Axiom → S} {s₀ : S} {k : ℕ} where
  pub folding_starts : vocabulary_refusal v ≡ 0 → k ≡ first_axiom v → Folding v step s₀ k s₀
  folding_starts h e = record { walk = walking_starts (axioms_along v h) e refl }

  module _ {s : S} (w : Folding v step s₀ k s) where
    pub folding_ends : k ≡ 0 → s ≡ foldl step s₀ (vocabulary_of v).axioms
    unfolding axiom_links
    folding_ends z = walking_ends w.walk z

    module _ (n : k ≡ 0 → ⊥) where
      pub folding_fits : axiom_fits v k ≡ true
      unfolding axiom_links
      folding_fits = walking_sound w.walk n

      module _ {x : ℕ} (p : x ≡ axiom_next v k) where
        pub folding_falls : falling (last_of 4 v) x < falling (last_of 4 v) k
        unfolding axiom_links
        folding_falls = walking_falls w.walk n p

        pub folding_on : {t : S} → t ≡ step s (axiom_at v k) → Folding v step s₀ x t
        unfolding axiom_links
        folding_on e = record { walk = walking_on w.walk n p (λ l h. rw e h) }

-- a step for each thing that a selector takes from a record
pub foldl_flat_map : {S A B : Type 0} (step : S → A → S) (f : B → List A) (s : S) (l : List B) →
    foldl (λ t x. foldl step t (f x)) s l ≡ foldl step s (flat_map f l)
foldl_flat_map step f s [] = refl
foldl_flat_map step f s (x ∷ l) = foldl_flat_map step f (foldl step s (f x)) l ∙ sym (foldl-append step s (f x) (flat_map f l))
