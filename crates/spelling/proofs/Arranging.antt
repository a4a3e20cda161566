-- The terms of a spelling as the roles of one individual, in order.
use Prim.Native.Nat.{ℕ}
use mathlib.Core.Bool.{Bool, cond, false, true}
use mathlib.Core.List.{List, [], ◌++◌, ◌∷◌, append-nil, map}
use mathlib.Core.Path.{◌∙◌, ◌≡◌, ap, refl, sym}
use Rattle.meaning.specs.Lists.{filter}
use Rattle.meaning.specs.NormalForm.{Form, Successors, add, bare, graft, none, normal_form, place_successor, possible, successor}
use Rattle.meaning.specs.Policy.{Policy}
use Rattle.meaning.specs.Stated.{is_functional_role, ranges}
use Rattle.meaning.specs.Vocabulary.{Vocabulary}
use Rattle.spelling.specs.Order.{is_before, place, sorted}
use Rattle.spelling.specs.Spelling.{Conjunct, key, reaches, roles_of, spelled, spelled_term, spelling, term_key}

-- ---- those of one kind, which go in front of the others

module _ {A B : Type 0} (j : A → List ℕ) (k : B → List ℕ) (f : A → B) (same : (x y : A) → is_before (k (f x)) (k (f y)) ≡ is_before (j x) (j y)) where
  place_map : (x : A) (l : List A) (m : List B) → place k (f x) m ≡ f x ∷ m → place k (f x) (map f l ++ m) ≡ map f (place j x l) ++ m
  place_map x [] m h = h
  place_map x (y ∷ l) m h = rw (same x y, same y x) (go (is_before (j x) (j y)) (is_before (j y) (j x)) (place_map x l m h))
    where
      go : (a b : Bool) → place k (f x) (map f l ++ m) ≡ map f (place j x l) ++ m →
          cond a (f x ∷ (f y ∷ (map f l ++ m))) (cond b (f y ∷ place k (f x) (map f l ++ m)) (f y ∷ (map f l ++ m)))
          ≡ map f (cond a (x ∷ (y ∷ l)) (cond b (y ∷ place j x l) (y ∷ l))) ++ m
      go true b e = refl
      go false true e = ap (λ (w : List B). f y ∷ w) e
      go false false e = refl

  pub sorted_map : (l : List A) (m : List B) → ((x : A) → place k (f x) (sorted k m) ≡ f x ∷ sorted k m) →
      sorted k (map f l ++ m) ≡ map f (sorted j l) ++ sorted k m
  sorted_map [] m h = refl
  sorted_map (x ∷ l) m h = ap (place k (f x)) (sorted_map l m h) ∙ place_map x (sorted j l) (sorted k m) (h x)

-- ---- the terms as roles of one individual

-- the terms' normal forms as what one individual reaches by a role 0
abbrev pub forest : Vocabulary → Policy → Successors
forest K [] = none
forest K (p ∷ P) = successor 0 (normal_form K p).node (normal_form K p).successors (forest K P)

forest_roles : (K : Vocabulary) (P : Policy) → roles_of (forest K P) ≡ map (reaches 0) (map (spelled_term K) P)
unfolding spelled_term spelling
forest_roles K [] = refl
forest_roles K (p ∷ P) = ap (λ (l : List Conjunct). reaches 0 (spelled_term K p) ∷ l) (forest_roles K P)

-- its roles in order are the spelling's terms
pub forest_sorted : (K : Vocabulary) (P : Policy) → sorted key (roles_of (forest K (filter (possible K) P))) ≡ map (reaches 0) (spelled K P)
unfolding spelled
forest_sorted K P =
    let l = map (spelled_term K) (filter (possible K) P) in
    ap (sorted key) (forest_roles K (filter (possible K) P) ∙ sym (append-nil (map (reaches 0) l)))
    ∙ sorted_map term_key key (reaches 0) (λ c d. refl) l [] (λ c. refl)
    ∙ append-nil (map (reaches 0) (sorted term_key l))

-- those of the one, then those of the other
abbrev pub followed_by : Successors → Successors → Successors
followed_by none ks = ks
followed_by (successor r n under next) ks = successor r n under (followed_by next ks)

-- terms added as conjuncts of a role 0: where that is neither functional nor has ranges they are the forest
abbrev pub place_terms : Vocabulary → Policy → Successors → Successors
place_terms K [] ks = ks
place_terms K (p ∷ P) ks = place_terms K P (place_successor (is_functional_role K 0) 0 (bare (ranges K 0)) (add K p) ks)

follows_assoc : (a b c : Successors) → followed_by (followed_by a b) c ≡ followed_by a (followed_by b c)
follows_assoc none b c = refl
follows_assoc (successor r n under next) b c = ap (λ (w : Successors). successor r n under w) (follows_assoc next b c)

placed_last : (r : ℕ) (fresh : Form) (grow : Form → Form) (ks : Successors) → place_successor false r fresh grow ks ≡ followed_by ks (graft r (grow fresh) none)
placed_last r fresh grow none = refl
placed_last r fresh grow (successor q n under next) = ap (λ (w : Successors). successor q n under w) (placed_last r fresh grow next)

module _ (K : Vocabulary) (many : is_functional_role K 0 ≡ false) (unranged : ranges K 0 ≡ []) where
  terms_follow : (P : Policy) (ks : Successors) → place_terms K P ks ≡ followed_by ks (forest K P)
  unfolding normal_form
  terms_follow [] ks = sym (follows_none ks)
    where
      follows_none : (l : Successors) → followed_by l none ≡ l
      follows_none none = refl
      follows_none (successor r n under next) = ap (λ (w : Successors). successor r n under w) (follows_none next)
  terms_follow (p ∷ P) ks =
      ap (λ (b : Bool). place_terms K P (place_successor b 0 (bare (ranges K 0)) (add K p) ks)) many
      ∙ ap (λ (cs : List ℕ). place_terms K P (place_successor false 0 (bare cs) (add K p) ks)) unranged
      ∙ ap (place_terms K P) (placed_last 0 (bare []) (add K p) ks)
      ∙ terms_follow P (followed_by ks (graft 0 (normal_form K p) none))
      ∙ follows_assoc ks (graft 0 (normal_form K p) none) (forest K P)

  pub forest_placed : (P : Policy) → place_terms K P none ≡ forest K P
  forest_placed P = terms_follow P none
