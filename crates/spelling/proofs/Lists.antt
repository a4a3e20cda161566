-- Members of a list that is mapped or filtered.
use mathlib.Core.Bool.{Bool, cond, false, true}
use mathlib.Core.List.{List, [], ◌∷◌, map}
use mathlib.Core.Logic.{⊎_elim}
use mathlib.Core.Path.{◌≡◌, ap, refl, subst, sym}
use lib.Dec.{T}
use Rattle.meaning.specs.Lists.{◌∈◌, filter, here, there}
use Rattle.theory.proofs.Rules.{any_cases, any_none, is_true}

pub in_map : {A B : Type 0} (f : A → B) {x : A} {l : List A} → x ∈ l → f x ∈ map f l
in_map f (here e) = here (ap f e)
in_map f (there h) = there (in_map f h)

pub out_map : {A B : Type 0} (f : A → B) (l : List A) {y : B} → y ∈ map f l → (x : A) × (x ∈ l) × (y ≡ f x)
out_map f [] h = absurd (any_none h)
out_map f (x ∷ l) h = ⊎_elim (λ e. (x, here refl, e)) (λ w. let r = out_map f l w in (r.0, there r.1, r.2)) (any_cases h)

pub out_filter : {A : Type 0} (f : A → Bool) (l : List A) {x : A} → x ∈ filter f l → (x ∈ l) × T (f x)
out_filter f [] h = absurd (any_none h)
out_filter {A} f (y ∷ l) {x} h = go (f y) refl h (out_filter f l)
  where
    go : (z : Bool) → f y ≡ z → x ∈ cond z (y ∷ filter f l) (filter f l) → (x ∈ filter f l → (x ∈ l) × T (f x)) → (x ∈ (y ∷ l)) × T (f x)
    go true e h g = ⊎_elim (λ i. (here i, subst (λ (w : A). T (f w)) (sym i) (is_true e))) (λ w. let r = g w in (there r.0, r.1)) (any_cases h)
    go false e h g = let r = g h in (there r.0, r.1)
