-- A conjunct that is said twice is written once.
use mathlib.Core.Bool.{Bool, ◌&&◌, cond, false, true}
use mathlib.Core.List.{List, [], ◌∷◌}
use mathlib.Core.Logic.{inl, inr, ⊎_elim}
use mathlib.Core.Path.{◌∙◌, ◌≡◌, ap, refl, sym}
use lib.Dec.{T, eqb}
use native.Mathlib.Omega.{arith}
use Rattle.meaning.specs.Intervals.{Constraint, meet}
use Rattle.meaning.specs.NormalForm.{Form, add, bare, normal_form}
use Rattle.meaning.specs.Policy.{Chain, class, end, impossible, interval, some}
use Rattle.meaning.specs.Stated.{is_functional_feature, is_functional_role, ranges}
use Rattle.meaning.specs.Vocabulary.{Vocabulary}
use Rattle.spelling.proofs.Commuting.{meet_joined, new_apart, past, same_within, start_joined}
use Rattle.spelling.proofs.Members.{add_same, spelling_same}
use Rattle.spelling.proofs.Placing.{Tidy, add_put, add_one, is_functional, meet_at, new_of, placed, start_at, tidy_add, tidy_add_one}
use Rattle.spelling.proofs.Placing.{tidy_bare, tidy_start}
use Rattle.spelling.proofs.Reordering.{yields_all}
use Rattle.spelling.specs.Spelling.{Conjunct, is_in, put, reaches, spelled_term, spelling, within, within_of}
use Rattle.theory.proofs.Rules.{is_true, not_true}

-- what is reached may be said twice
abbrev Twice : Vocabulary → Conjunct → Type 0
Twice K (is_in a) = Unit {0}
Twice K (within f lo hi) = Unit {0}
Twice K (reaches r c) = (v : Form) → Tidy K v → spelling (add K c (add K c v)) ≡ spelling (add K c v)

meet_twice : (b : Bool) (s : Constraint) (l : List Constraint) → within_of (meet (meet_at b s l) s) ≡ within_of (meet_at b s l)
meet_twice b s [] = same_within refl (omega arith) (omega arith)
meet_twice b s (t ∷ l) = go (b && eqb t.feature s.feature) (meet_twice b s l)
  where
    go : (z : Bool) → within_of (meet (meet_at b s l) s) ≡ within_of (meet_at b s l) →
        within_of (meet (cond z (meet t s) (meet_at b s l)) s) ≡ within_of (cond z (meet t s) (meet_at b s l))
    go true h = same_within refl (omega arith) (omega arith)
    go false h = h

joined_twice : (K : Vocabulary) (x : Conjunct) (t : Form) → Tidy K t → T (is_functional K x) → Twice K x → new_of K x (add_one K x t) ≡ new_of K x t
joined_twice K (is_in a) t h k w = refl
joined_twice K (within f lo hi) t h k w =
    let s : Constraint = record { feature = f; lo = lo; hi = hi } in
    ap within_of (meet_joined (is_functional_feature K f) s s k refl t.node.constraints) ∙ meet_twice (is_functional_feature K f) s t.node.constraints
joined_twice K (reaches r c) t h k w =
    ap (λ (x : Form). reaches r (spelling (add K c x))) (start_joined (is_functional_role K r) r (bare (ranges K r)) (add K c) k t.successors)
    ∙ ap (λ (x : Chain). reaches r x)
    (w (start_at (is_functional_role K r) r (bare (ranges K r)) t.successors)
    (tidy_start K (is_functional_role K r) r (ranges K r) t.successors h.successors))

new_twice : (K : Vocabulary) (x : Conjunct) (t : Form) → Tidy K t → Twice K x → new_of K x (add_one K x t) ≡ new_of K x t
new_twice K x t h w = go (is_functional K x) refl
  where
    go : (b : Bool) → is_functional K x ≡ b → new_of K x (add_one K x t) ≡ new_of K x t
    go true e = joined_twice K x t h (is_true e) w
    go false e = new_apart K x x t (λ k i. not_true e k)

add_one_twice : (K : Vocabulary) (x : Conjunct) (t : Form) → Tidy K t → Twice K x → spelling (add_one K x (add_one K x t)) ≡ spelling (add_one K x t)
add_one_twice K x t h w =
    spelling_same (add_one K x (add_one K x t)) (add_one K x t) (λ z.
    let p = placed K x t h z in
    let q = placed K x (add_one K x t) (tidy_add_one K x t h) z in
    let e = new_twice K x t h w in (
      λ m. ⊎_elim (λ i. p.1 (inl (i ∙ e))) (λ v. v.0) (q.0 m),
      λ m. q.1 (⊎_elim (λ i. inl (i ∙ sym e)) (λ v. inr (m, v.1)) (p.0 m)),
    ))

-- x, then a chain that may be said twice
step_twice : (K : Vocabulary) (x : Conjunct) (c : Chain) (t : Form) → Tidy K t → Twice K x →
    ((v : Form) → Tidy K v → spelling (add K c (add K c v)) ≡ spelling (add K c v)) →
    spelling (add K c (add_one K x (add K c (add_one K x t)))) ≡ spelling (add K c (add_one K x t))
step_twice K x c t h w f =
    let u = add_one K x t in
    let tidy = tidy_add_one K x t h in
    add_same K c (add_one K x (add K c u)) (add K c (add_one K x u)) (tidy_add_one K x (add K c u) (tidy_add K c u tidy))
    (tidy_add K c (add_one K x u) (tidy_add_one K x u tidy)) (past K x (yields_all K x) c u tidy)
    ∙ f (add_one K x u) (tidy_add_one K x u tidy)
    ∙ add_same K c (add_one K x u) u (tidy_add_one K x u tidy) tidy (add_one_twice K x t h w)

pub add_twice : (K : Vocabulary) (c : Chain) (t : Form) → Tidy K t → spelling (add K c (add K c t)) ≡ spelling (add K c t)
add_twice K end t h = refl
add_twice K (class a next) t h = step_twice K (is_in a) next t h tt (add_twice K next)
add_twice K (impossible next) t h = add_twice K next t h
add_twice K (some r child next) t h = step_twice K (reaches r child) next t h (add_twice K child) (add_twice K next)
add_twice K (interval f lo hi next) t h = step_twice K (within f lo hi) next t h tt (add_twice K next)

twice_all : (K : Vocabulary) (x : Conjunct) → Twice K x
twice_all K (is_in a) = tt
twice_all K (within f lo hi) = tt
twice_all K (reaches r c) = add_twice K c

-- of equal conjuncts one stays; by `Reordered` also where they stand apart
pub said_twice : (K : Vocabulary) (x : Conjunct) (c : Chain) → spelled_term K (put x (put x c)) ≡ spelled_term K (put x c)
unfolding spelled_term normal_form
said_twice K x c =
    ap spelling (add_put K x (put x c) (bare []) ∙ add_put K x c (add_one K x (bare [])))
    ∙ add_same K c (add_one K x (add_one K x (bare []))) (add_one K x (bare []))
    (tidy_add_one K x (add_one K x (bare [])) (tidy_add_one K x (bare []) (tidy_bare K []))) (tidy_add_one K x (bare []) (tidy_bare K []))
    (add_one_twice K x (bare []) (tidy_bare K []) (twice_all K x))
    ∙ ap spelling (sym (add_put K x c (bare [])))
