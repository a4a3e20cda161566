-- The keys of a policy are those of its ends.
use Prim.Native.Nat.{◌*◌, ◌+◌, ◌<◌, ◌≤◌, ℕ}
use mathlib.Core.Bool.{Bool, cond, false, true}
use mathlib.Core.List.{List, [], ◌∷◌}
use mathlib.Core.Logic.{◌⊎◌, inl, inr, ⊎_elim}
use mathlib.Core.Path.{◌≡◌, ap₂, refl}
use native.Mathlib.Omega.{arith}
use lib.Dec.{eqb}
use lib.ListN.{get_or, length, length-append}
use borrow.Author.Tests.{eq-eqb, eqb-true}
use Rattle.keys.proofs.Order.{same_key}
use Rattle.keys.specs.Keys.{key_of, value_count}
use Rattle.meaning.specs.Accepted.{Reads, ReadsTerms, count, reads_class, reads_end, reads_impossible, reads_interval, reads_none, reads_some, reads_term}
use Rattle.meaning.specs.Lists.{All, ◌∈◌, cons, flat_map, here, nil, there}
use Rattle.meaning.specs.Policy.{Chain, Policy, class, end, hi_of, impossible, interval, lo_of, name_of, some}
use Rattle.meaning.specs.Splitting.{ends, insert_all}
use Rattle.splitting.specs.Ends.{Ends, keys_of}
use Rattle.theory.proofs.Points.{inserts_all, inserts_here, inserts_sorted}
use Rattle.theory.proofs.Rules.{all_at, all_of, any_append, any_both, any_cases, any_flat_map, any_left, any_mono, any_none, any_right, flat_map_any}

abbrev pub keys_in : Policy → List ℕ
keys_in Q = flat_map keys_of Q

pub keys_few : (c : Chain) → length (keys_of c) ≤ 2 * count c
keys_few end = omega arith
keys_few (class a next) = let h = keys_few next in omega arith
keys_few (impossible next) = let h = keys_few next in omega arith
keys_few (some r child next) =
    let h = keys_few child in
    let g = keys_few next in
    rw length-append (omega arith)
keys_few (interval f lo hi next) = let h = keys_few next in omega arith

module _ (f : ℕ) {x : ℕ} where
  -- the two ends of a constraint on g, then the ends l with the keys ks
  module _ (g lo hi : ℕ) (l ks : List ℕ) where
    two_all : (x ∈ l → key_of f x ∈ ks) → x ∈ cond (eqb f g) (lo ∷ (hi ∷ l)) l → key_of f x ∈ key_of g lo ∷ (key_of g hi ∷ ks)
    two_all rest m = go (eqb f g) refl m
      where
        both : f ≡ g → (x ≡ lo) ⊎ (x ∈ hi ∷ l) → key_of f x ∈ key_of g lo ∷ (key_of g hi ∷ ks)
        both e (inl h) = here (ap₂ key_of e h)
        both e (inr h) = there (⊎_elim (λ i. here (ap₂ key_of e i)) (λ i. there (rest i)) (any_cases h))

        go : (b : Bool) → eqb f g ≡ b → x ∈ cond b (lo ∷ (hi ∷ l)) l → key_of f x ∈ key_of g lo ∷ (key_of g hi ∷ ks)
        go true e m = both (eqb-true f g e) (any_cases m)
        go false e m = there (there (rest m))

    two_only : x < value_count → lo < value_count → hi < value_count → (key_of f x ∈ ks → x ∈ l) → key_of f x ∈ key_of g lo ∷ (key_of g hi ∷ ks) →
        x ∈ cond (eqb f g) (lo ∷ (hi ∷ l)) l
    two_only b bl bh rest m = go (any_cases m)
      where
        own : f ≡ g → (x ≡ lo) ⊎ (x ≡ hi) → x ∈ cond (eqb f g) (lo ∷ (hi ∷ l)) l
        own e j = rw (eq-eqb f g e) (⊎_elim (λ i. here i) (λ i. there (here i)) j)

        later : (b : Bool) → x ∈ l → x ∈ cond b (lo ∷ (hi ∷ l)) l
        later true m = there (there m)
        later false m = m

        last : (key_of f x ≡ key_of g hi) ⊎ (key_of f x ∈ ks) → x ∈ cond (eqb f g) (lo ∷ (hi ∷ l)) l
        last (inl e) = let s = same_key f x g hi b bh e in own s.0 (inr s.1)
        last (inr m) = later (eqb f g) (rest m)

        go : (key_of f x ≡ key_of g lo) ⊎ (key_of f x ∈ key_of g hi ∷ ks) → x ∈ cond (eqb f g) (lo ∷ (hi ∷ l)) l
        go (inl e) = let s = same_key f x g lo b bl e in own s.0 (inl s.1)
        go (inr m) = last (any_cases m)

  key_all : (c : Chain) → x ∈ ends f c → key_of f x ∈ keys_of c
  key_all end m = absurd (any_none m)
  key_all (class a next) m = key_all next m
  key_all (impossible next) m = key_all next m
  key_all (some r child next) m =
      ⊎_elim (λ h. any_left (keys_of next) (key_all child h)) (λ h. any_right (keys_of child) (key_all next h))
      (any_append (ends f child) (ends f next) m)
  key_all (interval g lo hi next) m = two_all g lo hi (ends f next) (keys_of next) (λ i. key_all next i) m

  -- the words of the policy are ends that a key has room for
  module _ {q : List ℕ} (w : (i : ℕ) → get_or q i 0 < value_count) (b : x < value_count) where
    key_only : {k : ℕ} {c : Chain} → Reads q k c → key_of f x ∈ keys_of c → x ∈ ends f c
    key_only (reads_end e) m = absurd (any_none m)
    key_only (reads_class h i r) m = key_only r m
    key_only (reads_impossible h i r) m = key_only r m
    key_only (reads_some {b = d} {c = c} h i s r) m =
        ⊎_elim (λ g. any_left (ends f c) (key_only s g)) (λ g. any_right (ends f d) (key_only r g)) (any_append (keys_of d) (keys_of c) m)
    key_only (reads_interval {k = k} {c = c} h i r) m =
        two_only (name_of q k) (lo_of q k) (hi_of q k) (ends f c) (keys_of c) b (w (6 * k + 2)) (w (6 * k + 3)) (λ n. key_only r n) m

    each : {k : ℕ} {Q : Policy} → ReadsTerms q k Q → All (λ c. key_of f x ∈ keys_of c → x ∈ ends f c) Q
    each (reads_none e) = nil
    each (reads_term {c = c} h e r t) = cons {x = c} (key_only r) (each t)

pub keys_ends : {q : List ℕ} {k : ℕ} {Q : Policy} → ((i : ℕ) → get_or q i 0 < value_count) → ReadsTerms q k Q → Ends Q (insert_all (keys_in Q) [])
keys_ends {Q = Q} w r = record {
  rising = inserts_sorted (keys_in Q) [] tt;
  all = λ f x m. inserts_here (keys_in Q) [] (any_flat_map keys_of (any_mono (λ c i. key_all f c i) (flat_map_any (ends f) Q m)));
  only = λ f x b m. any_flat_map (ends f) (any_mono (λ c h. h.0 h.1) (any_both (each f w b r) (flat_map_any keys_of Q (among m))));
}
  where
    among : {z : ℕ} → z ∈ insert_all (keys_in Q) [] → z ∈ keys_in Q
    among m = all_at (inserts_all (keys_in Q) [] (all_of (keys_in Q) (λ z i. i)) nil) m
