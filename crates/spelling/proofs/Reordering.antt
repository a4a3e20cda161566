-- The order of conjuncts and terms does not matter for the spelling.
use mathlib.Core.Bool.{Bool, ◌||◌, cond, false, not, true}
use mathlib.Core.List.{[], ◌∷◌, map}
use mathlib.Core.Logic.{◌↔◌, ⊎_elim}
use mathlib.Core.Path.{◌∙◌, ◌≡◌, ap, ap₂, refl, subst, sym}
use lib.Dec.{T}
use Rattle.meaning.specs.Lists.{◌∈◌, filter, here, there}
use Rattle.meaning.specs.NormalForm.{Form, add, bare, has_bottom, normal_form, possible}
use Rattle.meaning.specs.Policy.{Chain, Policy, impossible}
use Rattle.meaning.specs.Vocabulary.{Vocabulary}
use Rattle.spelling.proofs.Clean.{CleanChain, possible_spelling}
use Rattle.spelling.proofs.Commuting.{Yields, add_swap, add_one_swap, yields}
use Rattle.spelling.proofs.Keys.{term_apart}
use Rattle.spelling.proofs.Members.{add_same, class_same, constraint_same, role_same}
use Rattle.spelling.proofs.Placing.{Tidy, add_put, add_one, tidy_add_one, tidy_bare}
use Rattle.spelling.proofs.Rising.{Same, sorted_eq}
use Rattle.spelling.specs.Reordered.{Reordered, ReorderedTerms, after_class, after_impossible, after_interval, first_term, in_or_after_some}
use Rattle.spelling.specs.Reordered.{in_turn, lowered, no_terms, raised, swapped, swapped_terms, terms_in_turn, unmoved}
use Rattle.spelling.specs.Spelling.{Conjunct, is_in, put, reaches, spelled, spelled_term, spelling, term_key, within}
use Rattle.theory.proofs.Rules.{any_cases, same_test}

-- ---- added to a form

pub yields_all : (K : Vocabulary) (x : Conjunct) → Yields K x
yields_all K (is_in a) = tt
yields_all K (within f lo hi) = tt
yields_all K (reaches r c) = add_swap K c

add_two : (K : Vocabulary) (x y : Conjunct) (c : Chain) (t : Form) → add K (put x (put y c)) t ≡ add K c (add_one K y (add_one K x t))
add_two K x y c t = add_put K x (put y c) t ∙ add_put K y c (add_one K x t)

impossible_behind : (K : Vocabulary) (x : Conjunct) (c : Chain) (t : Form) → add K (put x (impossible c)) t ≡ add K (impossible (put x c)) t
impossible_behind K x c t = add_put K x (impossible c) t ∙ sym (add_put K x c t)

pub reordered_add : (K : Vocabulary) {c d : Chain} → Reordered c d → (t u : Form) → Tidy K t → Tidy K u → spelling t ≡ spelling u →
    spelling (add K c t) ≡ spelling (add K d u)
reordered_add K (unmoved c) t u h k e = add_same K c t u h k e
reordered_add K (swapped x y c) t u h k e =
    add_same K (put x (put y c)) t u h k e
    ∙ ap spelling (add_two K x y c u)
    ∙ add_same K c (add_one K y (add_one K x u)) (add_one K x (add_one K y u)) (tidy_add_one K y (add_one K x u) (tidy_add_one K x u k))
    (tidy_add_one K x (add_one K y u) (tidy_add_one K y u k))
    (add_one_swap K y x u k (yields K y x (yields_all K y)))
    ∙ ap spelling (sym (add_two K y x c u))
reordered_add K (raised x c) t u h k e = add_same K (put x (impossible c)) t u h k e ∙ ap spelling (impossible_behind K x c u)
reordered_add K (lowered x c) t u h k e = add_same K (impossible (put x c)) t u h k e ∙ ap spelling (sym (impossible_behind K x c u))
reordered_add K (after_class a m) t u h k e =
    reordered_add K m (add_one K (is_in a) t) (add_one K (is_in a) u) (tidy_add_one K (is_in a) t h) (tidy_add_one K (is_in a) u k) (class_same K t u h k e a)
reordered_add K (after_impossible m) t u h k e = reordered_add K m t u h k e
reordered_add K (in_or_after_some r {b = b} {c = c} n m) t u h k e =
    reordered_add K m (add_one K (reaches r b) t) (add_one K (reaches r c) u) (tidy_add_one K (reaches r b) t h) (tidy_add_one K (reaches r c) u k)
    (role_same K t u h k e r b c (λ v w i j q. reordered_add K n v w i j q))
reordered_add K (after_interval f lo hi m) t u h k e =
    reordered_add K m (add_one K (within f lo hi) t) (add_one K (within f lo hi) u) (tidy_add_one K (within f lo hi) t h)
    (tidy_add_one K (within f lo hi) u k) (constraint_same K t u h k e f lo hi)
reordered_add K (in_turn m n) t u h k e = reordered_add K m t u h k e ∙ reordered_add K n u u k k refl

pub reordered_term : (K : Vocabulary) {c d : Chain} → Reordered c d → spelled_term K c ≡ spelled_term K d
unfolding spelled_term normal_form
reordered_term K m = reordered_add K m (bare []) (bare []) (tidy_bare K []) (tidy_bare K []) refl

-- ---- the impossible concept

abbrev brings_bottom : Conjunct → Bool
brings_bottom (is_in a) = false
brings_bottom (within f lo hi) = false
brings_bottom (reaches r c) = has_bottom c

has_bottom_put : (x : Conjunct) (c : Chain) → has_bottom (put x c) ≡ brings_bottom x || has_bottom c
has_bottom_put (is_in a) c = refl
has_bottom_put (within f lo hi) c = refl
has_bottom_put (reaches r b) c = refl

or_swap : (a b c : Bool) → a || (b || c) ≡ b || (a || c)
or_swap true true c = refl
or_swap true false c = refl
or_swap false b c = refl

or_last : (a : Bool) → a || true ≡ true
or_last true = refl
or_last false = refl

has_bottom_two : (x y : Conjunct) (c : Chain) → has_bottom (put x (put y c)) ≡ brings_bottom x || (brings_bottom y || has_bottom c)
has_bottom_two x y c = has_bottom_put x (put y c) ∙ ap (λ (b : Bool). brings_bottom x || b) (has_bottom_put y c)

reordered_bottom : {c d : Chain} → Reordered c d → has_bottom c ≡ has_bottom d
reordered_bottom (unmoved c) = refl
reordered_bottom (swapped x y c) = has_bottom_two x y c ∙ or_swap (brings_bottom x) (brings_bottom y) (has_bottom c) ∙ sym (has_bottom_two y x c)
reordered_bottom (raised x c) = has_bottom_put x (impossible c) ∙ or_last (brings_bottom x)
reordered_bottom (lowered x c) = sym (has_bottom_put x (impossible c) ∙ or_last (brings_bottom x))
reordered_bottom (after_class a m) = reordered_bottom m
reordered_bottom (after_impossible m) = refl
reordered_bottom (in_or_after_some r n m) = ap₂ ◌||◌ (reordered_bottom n) (reordered_bottom m)
reordered_bottom (after_interval f lo hi m) = reordered_bottom m
reordered_bottom (in_turn m n) = reordered_bottom m ∙ reordered_bottom n

reordered_possible : (K : Vocabulary) {c d : Chain} → Reordered c d → possible K c ≡ possible K d
reordered_possible K {c} {d} m =
    same_test (possible K c) (possible K d)
    (λ t. let w = (possible_spelling K c).0 t in
    (possible_spelling K d).1 (subst (λ (b : Bool). T (not b)) (reordered_bottom m) w.0, subst (CleanChain K) (reordered_term K m) w.1))
    (λ t. let w = (possible_spelling K d).0 t in
    (possible_spelling K c).1 (subst (λ (b : Bool). T (not b)) (sym (reordered_bottom m)) w.0, subst (CleanChain K) (sym (reordered_term K m)) w.1))

-- ---- policies

module _ (K : Vocabulary) where
  -- the spellings of the possible terms
  abbrev terms : Policy → Policy
  terms P = map (spelled_term K) (filter (possible K) P)

  abbrev first : Chain → Policy → Policy
  first c P = map (spelled_term K) (cond (possible K c) (c ∷ filter (possible K) P) (filter (possible K) P))

  terms_same : {P Q : Policy} → ReorderedTerms P Q → Same (terms P) (terms Q)
  terms_same no_terms z = (λ h. h, λ h. h)
  terms_same (first_term {c = c} {d = d} {P = P} {Q = Q} m n) z = go (possible K c) (possible K d) (reordered_possible K m) (terms_same n z)
    where
      go : (a b : Bool) → a ≡ b → (z ∈ terms P) ↔ (z ∈ terms Q) →
          (z ∈ map (spelled_term K) (cond a (c ∷ filter (possible K) P) (filter (possible K) P))) ↔
          (z ∈ map (spelled_term K) (cond b (d ∷ filter (possible K) Q) (filter (possible K) Q)))
      go true true e r = (
        λ h. ⊎_elim (λ i. here (i ∙ reordered_term K m)) (λ w. there (r.0 w)) (any_cases h),
        λ h. ⊎_elim (λ i. here (i ∙ sym (reordered_term K m))) (λ w. there (r.1 w)) (any_cases h),
      )
      go true false e r = absurd (subst T e tt)
      go false true e r = absurd (subst T (sym e) tt)
      go false false e r = r
  terms_same (swapped_terms c d P) z = (go (possible K c) (possible K d) c d, go (possible K d) (possible K c) d c)
    where
      go : (a b : Bool) (x y : Chain) →
          z ∈ map (spelled_term K) (cond a (x ∷ cond b (y ∷ filter (possible K) P) (filter (possible K) P))
          (cond b (y ∷ filter (possible K) P) (filter (possible K) P))) →
          z ∈ map (spelled_term K) (cond b (y ∷ cond a (x ∷ filter (possible K) P) (filter (possible K) P))
          (cond a (x ∷ filter (possible K) P) (filter (possible K) P)))
      go true true x y h = ⊎_elim (λ i. there (here i)) (λ w. ⊎_elim (λ i. here i) (λ v. there (there v)) (any_cases w)) (any_cases h)
      go true false x y h = h
      go false true x y h = h
      go false false x y h = h
  terms_same (terms_in_turn m n) z = let r = terms_same m z in let s = terms_same n z in (λ h. s.0 (r.0 h), λ h. r.1 (s.1 h))

  -- the order of conjuncts, at every depth, and of terms changes no spelling
  pub spelling_reordered : {P Q : Policy} → ReorderedTerms P Q → spelled K P ≡ spelled K Q
  unfolding spelled
  spelling_reordered {P} {Q} m = sorted_eq term_key term_apart (terms P) (terms Q) (λ z. terms_same m z)
