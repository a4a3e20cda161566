-- Some and every element of a list, as types and as tests.
use Rattle.std.specs.Prelude.{suc, zero, ℕ, Bool, ◌&&◌, ◌||◌, cond, false, true, List, [], ◌++◌, ◌∷◌, ◌≡◌}

-- some element has P
pub data Any {A : Type 0} (P : A → Type 0) : List A → Type 0 where
  here : {x : A} {l : List A} → P x → Any P (x ∷ l)
  there : {x : A} {l : List A} → Any P l → Any P (x ∷ l)

-- every element has P
pub data All {A : Type 0} (P : A → Type 0) : List A → Type 0 where
  nil : All P []
  cons : {x : A} {l : List A} → P x → All P l → All P (x ∷ l)

infix 40 ◌∈◌
abbrev pub ◌∈◌ : {A : Type 0} → A → List A → Type 0
x ∈ l = Any (λ y. x ≡ y) l

-- x stands in the list at the place i, counted from 0
pub data At {A : Type 0} (x : A) : List A → ℕ → Type 0 where
  at_here : {y : A} {l : List A} → x ≡ y → At x (y ∷ l) 0
  at_there : {y : A} {l : List A} {i : ℕ} → At x l i → At x (y ∷ l) (suc i)

abbrev pub any : {A : Type 0} → (A → Bool) → List A → Bool
any p [] = false
any p (x ∷ l) = p x || any p l

abbrev pub all : {A : Type 0} → (A → Bool) → List A → Bool
all p [] = true
all p (x ∷ l) = p x && all p l

abbrev pub filter : {A : Type 0} → (A → Bool) → List A → List A
filter p [] = []
filter p (x ∷ l) = cond (p x) (x ∷ filter p l) (filter p l)

abbrev pub flat_map : {A B : Type 0} → (A → List B) → List A → List B
flat_map f [] = []
flat_map f (x ∷ l) = f x ++ flat_map f l

-- from, from + 1, .., n of them
abbrev pub counting : ℕ → ℕ → List ℕ
counting from zero = []
counting from (suc n) = from ∷ counting (suc from) n

pub data Found (A : Type 0) : Type 0 where
  nowhere : Found A
  found : ℕ → A → Found A

-- the first element that fails the test, with its place counted from k
abbrev pub first_failing : {A : Type 0} → (A → Bool) → ℕ → List A → Found A
first_failing p k [] = nowhere
first_failing p k (x ∷ l) = let r = first_failing p (suc k) l in cond (p x) r (found k x)
