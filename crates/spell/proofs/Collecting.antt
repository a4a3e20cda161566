-- The records of the possible terms, collected one after another. Assumes nothing.
use Prim.Native.Nat.{◌+◌, ◌<◌, ◌≤◌, ℕ}
use mathlib.Core.Bool.{Bool, cond, false, not, true}
use mathlib.Core.List.{List, [], ◌++◌, ◌∷◌, append_assoc, append-nil, map, map-append}
use mathlib.Core.Path.{◌∙◌, ◌≡◌, ap, refl, subst, sym}
use lib.Dec.{T}
use lib.ListN.{length, length-set, set, take}
use lib.Seq.{get_or-set_same, take-set-le, take-suc}
use native.Mathlib.Numerals.{add-one}
use native.Mathlib.Omega.{arith}
use Rattle.meaning.specs.Limits.{most_records}
use Rattle.meaning.specs.Lists.{All, cons, filter, nil}
use Rattle.meaning.specs.NormalForm.{possible}
use Rattle.meaning.specs.Policy.{Policy, first_term, next_of, policy_of, policy_refusal, term_at}
use Rattle.meaning.specs.Records.{falling, last_of}
use Rattle.meaning.specs.Vocabulary.{vocabulary_of}
use Rattle.policy.proofs.Terms.{terms_along, total_length}
use Rattle.policy.specs.Terms.{TermOf, term_links}
use Rattle.records.proofs.Chains.{Walking, walking_ends, walking_falls, walking_found, walking_on, walking_sound, walking_starts}
use Rattle.spell.specs.Filing.{Collected}
use Rattle.theory.proofs.Rules.{all_append}
use Rattle.theory.proofs.Wellformed.{accepted}

-- what is collected, with what is to be collected of the terms l
abbrev Rest : List ℕ → List ℕ → List ℕ → ℕ → Policy → Type 0
Rest v p ts n l =
    (n + length l ≤ most_records) × (map (term_at p) (take n ts) ++ filter (possible (vocabulary_of v)) l ≡ filter (possible (vocabulary_of v)) (policy_of p))

-- the records of the possible terms before record k are collected
pub record Collecting (v p ts : List ℕ) (n k : ℕ) : Type 0 where
  pub here : All (λ j. j ≡ 0 → ⊥) (take n ts)
  pub terms : All (TermOf v p) (take n ts)
  pub walk : Walking (term_links v p) (Rest v p ts n) k

-- the first n words and one more
take_set : (n k : ℕ) (ts : List ℕ) → n < length ts → take (n + 1) (set ts n k) ≡ take n ts ++ (k ∷ [])
take_set n k ts h =
    rw (add-one n) (take-suc (set ts n k) n 0 (let e = length-set ts n k in omega arith))
    ∙ ap (λ (x : ℕ). take n (set ts n k) ++ (x ∷ [])) (get_or-set_same ts n k 0 h)
    ∙ ap (λ (l : List ℕ). l ++ (k ∷ [])) (take-set-le n ts n k (omega arith))

module _ {v p : List ℕ} where
  pub collecting_starts : (ts : List ℕ) {k : ℕ} → policy_refusal v p ≡ 0 → k ≡ first_term p → Collecting v p ts 0 k
  collecting_starts ts a e = record { here = nil; terms = nil; walk = walking_starts (terms_along v p a) e (few, refl) }
    where
      few : 0 + length (policy_of p) ≤ most_records
      few = let b = accepted v p a in let c = b.few in let d = b.small in let l = total_length (policy_of p) in omega arith

  module _ {ts : List ℕ} {n k : ℕ} (x : Collecting v p ts n k) where
    pub collecting_ends : k ≡ 0 → Collected v p (take n ts)
    unfolding term_links
    collecting_ends z = record { here = x.here; terms = x.terms; possible = sym (append-nil (map (term_at p) (take n ts))) ∙ (walking_ends x.walk z).1 }

    pub collecting_few : k ≡ 0 → n ≤ most_records
    unfolding term_links
    collecting_few z = let r = (walking_ends x.walk z).0 in omega arith

    module _ (some : k ≡ 0 → ⊥) where
      pub collecting_term : TermOf v p k
      unfolding term_links
      collecting_term = walking_sound x.walk some

      pub collecting_room : n < most_records
      unfolding term_links
      collecting_room = walking_found x.walk some (λ l h. let r = h.0 in omega arith)

      module _ {j : ℕ} (next : j ≡ next_of p k) where
        pub collecting_falls : falling (last_of 6 p) j < falling (last_of 6 p) k
        unfolding term_links
        collecting_falls = walking_falls x.walk some next

        module _ {b : Bool} (told : b ≡ not (possible (vocabulary_of v) (term_at p k))) where
          pub collecting_past : b ≡ true → Collecting v p ts n j
          unfolding term_links
          collecting_past e = record {
            here = x.here;
            terms = x.terms;
            walk =
                walking_on x.walk some next (λ l h. (
                  let r = h.0 in omega arith,
                  ap (λ (c : Bool). map (term_at p) (take n ts) ++ cond c (term_at p k ∷ filter (possible (vocabulary_of v)) l) (filter (possible (vocabulary_of v)) l))
                      (sym (not_told (possible (vocabulary_of v) (term_at p k)) (sym e ∙ told)))
                      ∙ h.1,
                ));
          }
            where
              not_told : (d : Bool) → true ≡ not d → d ≡ false
              not_told true f = absurd (let z : T false = subst T f tt in z)
              not_told false f = refl

          pub collecting_more : b ≡ false → n < length ts → Collecting v p (set ts n k) (n + 1) j
          unfolding term_links
          collecting_more e room = record {
            here = subst (All (λ i. i ≡ 0 → ⊥)) (sym (take_set n k ts room)) (all_append x.here (cons {x = k} some nil));
            terms = subst (All (TermOf v p)) (sym (take_set n k ts room)) (all_append x.terms (cons {x = k} collecting_term nil));
            walk =
                walking_on x.walk some next (λ l h. (
                  let r = h.0 in omega arith,
                  ap (λ (ks : List ℕ). map (term_at p) ks ++ filter (possible (vocabulary_of v)) l) (take_set n k ts room)
                      ∙ ap (λ (cs : Policy). cs ++ filter (possible (vocabulary_of v)) l) (map-append (term_at p) (take n ts) (k ∷ []))
                      ∙ append_assoc (map (term_at p) (take n ts)) (term_at p k ∷ []) (filter (possible (vocabulary_of v)) l)
                      ∙ ap (λ (c : Bool). map (term_at p) (take n ts) ++ cond c (term_at p k ∷ filter (possible (vocabulary_of v)) l) (filter (possible (vocabulary_of v)) l))
                      (sym (told_yes (possible (vocabulary_of v) (term_at p k)) (sym e ∙ told)))
                      ∙ h.1,
                ));
          }
            where
              told_yes : (d : Bool) → false ≡ not d → d ≡ true
              told_yes true f = refl
              told_yes false f = absurd (let z : T false = subst T (sym f) tt in z)
