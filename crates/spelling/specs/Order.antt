-- Lists of numbers compared, and lists in rising order without repeats.
use Rattle.std.specs.Prelude.{ℕ, Bool, ◌&&◌, ◌||◌, cond, false, true, List, [], ◌∷◌, eqb, ltb}

-- number by number; where one list is the beginning of the other, the shorter is first
abbrev pub is_before : List ℕ → List ℕ → Bool
is_before [] [] = false
is_before [] (y ∷ m) = true
is_before (x ∷ l) [] = false
is_before (x ∷ l) (y ∷ m) = ltb x y || (eqb x y && is_before l m)

-- into a list that rises by a key; one that stands there already is dropped
abbrev pub place : {A : Type 0} → (A → List ℕ) → A → List A → List A
place k x [] = x ∷ []
place k x (y ∷ l) =
    let further = y ∷ place k x l in
    cond (is_before (k x) (k y)) (x ∷ (y ∷ l)) (cond (is_before (k y) (k x)) further (y ∷ l))

abbrev pub sorted : {A : Type 0} → (A → List ℕ) → List A → List A
sorted k [] = []
sorted k (x ∷ l) = place k x (sorted k l)
