-- The runs of two conjuncts at one depth compare as the conjuncts do.
use Prim.Native.Nat.{suc, zero, ℕ}
use mathlib.Core.Bool.{Bool, ◌&&◌, ◌||◌, cond, false, true}
use mathlib.Core.List.{List, [], ◌++◌, ◌∷◌, append_assoc, append-nil}
use mathlib.Core.Path.{◌∙◌, ◌≡◌, ap, ap₂, refl, sym}
use lib.Dec.{eqb, ltb}
use native.Mathlib.Omega.{arith}
use borrow.Author.Tests.{eq-eqb, ltb-false, ltb-true, ne_eqb}
use Rattle.arrangement.specs.Insertion.{pick}
use Rattle.arrangement.specs.Runs.{Fronted, chain_items, classes_of, run_of}
use Rattle.entries.proofs.Ordering.{alike}
use Rattle.entries.specs.Entries.{Item, class_fields, rest_fields, run_fields, run_key}
use Rattle.entries.specs.Order.{order_of}
use Rattle.std.proofs.lemmas.Bool.Decides.{nat_tests}
use Rattle.std.specs.Ordering.{nat_cmp, ordering_then}
use Rattle.std.specs.declared.cmp.Ordering.{Ordering}
use Rattle.std.specs.declared.cmp.Ordering.TheVariants.{Equal, Greater, Less}
use Rattle.meaning.specs.Policy.{Chain, class, end, impossible, interval, some}
use Rattle.spelling.specs.Order.{is_before}
use Rattle.spelling.specs.Spelling.{Conjunct, is_in, items, key, reaches, within}

-- a constraint, or a role whose chain has its classes in front: what a run is the run of
abbrev pub HasRun : Conjunct → Type 0
HasRun (is_in a) = ⊥
HasRun (within f lo hi) = Unit {0}
HasRun (reaches r c) = Fronted true c

-- ---- the two comparisons of lists are one

order_before : {A : Type 0} (l m : List ℕ) (a b c : A) → pick (order_of l m) a b c ≡ cond (is_before l m) a (cond (is_before m l) c b)
order_before [] [] a b c = refl
order_before [] (y ∷ m) a b c = refl
order_before (x ∷ l) [] a b c = refl
order_before {A} (x ∷ l) (y ∷ m) a b c = go (ltb x y) (ltb y x) refl refl (order_before l m a b c)
  where
    go : (p q : Bool) → ltb x y ≡ p → ltb y x ≡ q → pick (order_of l m) a b c ≡ cond (is_before l m) a (cond (is_before m l) c b) →
        pick (ordering_then (cond p Less (cond (eqb x y) Equal Greater)) (order_of l m)) a b c
        ≡ cond (p || (eqb x y && is_before l m)) a (cond (q || (eqb y x && is_before m l)) c b)
    go true q e f h = refl
    go false true e f h = rw (ne_eqb x y (λ z. let g = ltb-true y x f in omega arith))
    go false false e f h =
        let g = ltb-false x y e in
        let i = ltb-false y x f in
        rw (eq-eqb x y (omega arith), eq-eqb y x (omega arith)) h

-- ---- depths may count from anywhere

-- one more at the place n and at every fifth one after it
abbrev deepened : ℕ → List ℕ → List ℕ
deepened n [] = []
deepened zero (x ∷ l) = suc x ∷ deepened 4 l
deepened (suc n) (x ∷ l) = x ∷ deepened n l

suc_cmp : (x y : ℕ) → nat_cmp (suc x) (suc y) ≡ nat_cmp x y
suc_cmp x y = grind (arith, nat_tests)

deepened_order : (n : ℕ) (l m : List ℕ) → order_of (deepened n l) (deepened n m) ≡ order_of l m
deepened_order n [] [] = refl
deepened_order zero [] (y ∷ m) = refl
deepened_order (suc n) [] (y ∷ m) = refl
deepened_order zero (x ∷ l) [] = refl
deepened_order (suc n) (x ∷ l) [] = refl
deepened_order zero (x ∷ l) (y ∷ m) = ap₂ ordering_then (suc_cmp x y) (deepened_order 4 l m)
deepened_order (suc n) (x ∷ l) (y ∷ m) = ap (ordering_then (nat_cmp x y)) (deepened_order n l m)

items_deepened : (d : ℕ) (c : Chain) (rest : List ℕ) → items (suc d) c (deepened 4 rest) ≡ deepened 4 (items d c rest)
items_deepened d end rest = refl
items_deepened d (class a next) rest = ap (λ (w : List ℕ). 1 ∷ (a ∷ (0 ∷ (0 ∷ (suc d ∷ w))))) (items_deepened d next rest)
items_deepened d (impossible next) rest = ap (λ (w : List ℕ). 2 ∷ (0 ∷ (0 ∷ (0 ∷ (suc d ∷ w))))) (items_deepened d next rest)
items_deepened d (some r child next) rest =
    ap (λ (w : List ℕ). 3 ∷ (r ∷ (0 ∷ (0 ∷ (suc d ∷ w)))))
    (ap (items (suc (suc d)) child) (items_deepened d next rest) ∙ items_deepened (suc d) child (items d next rest))
items_deepened d (interval f lo hi next) rest = ap (λ (w : List ℕ). 4 ∷ (f ∷ (lo ∷ (hi ∷ (suc d ∷ w))))) (items_deepened d next rest)

any_depth : (d : ℕ) (b c : Chain) → order_of (items (suc d) b []) (items (suc d) c []) ≡ order_of (items 1 b []) (items 1 c [])
any_depth zero b c = refl
any_depth (suc d) b c =
    ap₂ order_of (items_deepened (suc d) b []) (items_deepened (suc d) c [])
    ∙ deepened_order 4 (items (suc d) b []) (items (suc d) c [])
    ∙ any_depth d b c

-- ---- the numbers of a run

no_classes : (d : ℕ) (c : Chain) (rest : List ℕ) → Fronted false c → rest ≡ class_fields d (classes_of c) rest
no_classes d end rest h = refl
no_classes d (class a next) rest h = absurd h.0
no_classes d (impossible next) rest h = absurd h
no_classes d (some r child next) rest h = refl
no_classes d (interval f lo hi next) rest h = refl

-- a chain's classes and items are its records
chain_fields : (b : Bool) (d : ℕ) (c : Chain) (l : List Item) → Fronted b c →
    class_fields d (classes_of c) (run_fields (chain_items d c ++ l)) ≡ items d c (run_fields l)
chain_fields b d end l h = refl
chain_fields b d (class a next) l h = ap (λ (w : List ℕ). 1 ∷ (a ∷ (0 ∷ (0 ∷ (d ∷ w))))) (chain_fields true d next l h.1)
chain_fields b d (impossible next) l h = absurd h
chain_fields b d (some r child next) l h =
    ap (λ (w : List ℕ). 3 ∷ (r ∷ (0 ∷ (0 ∷ (d ∷ w)))))
    (ap (λ (w : List Item). class_fields (suc d) (classes_of child) (run_fields w)) (append_assoc (chain_items (suc d) child) (chain_items d next) l)
    ∙ chain_fields true (suc d) child (chain_items d next ++ l) h.0
    ∙ ap (items (suc d) child) (no_classes d next (run_fields (chain_items d next ++ l)) h.1 ∙ chain_fields false d next l h.1))
chain_fields b d (interval f lo hi next) l h =
    ap (λ (w : List ℕ). 4 ∷ (f ∷ (lo ∷ (hi ∷ (d ∷ w)))))
    (no_classes d next (run_fields (chain_items d next ++ l)) h ∙ chain_fields false d next l h)

below_fields : (d : ℕ) (c : Chain) → Fronted true c → class_fields d (classes_of c) (run_fields (chain_items d c)) ≡ items d c []
below_fields d c h =
    ap (λ (w : List Item). class_fields d (classes_of c) (run_fields w)) (sym (append-nil (chain_items d c))) ∙ chain_fields true d c [] h

-- ---- runs compared

keys_compare : (d : ℕ) (x y : Conjunct) → HasRun x → HasRun y → order_of (run_key (run_of d x)) (run_key (run_of d y)) ≡ order_of (key x) (key y)
keys_compare d (is_in a) y g h = absurd g
keys_compare d (within f lo hi) (is_in b) g h = absurd h
keys_compare d (within f lo hi) (within f' lo' hi') g h = ap (λ (r : Ordering). ordering_then (nat_cmp f f') (ordering_then (nat_cmp lo lo') (ordering_then (nat_cmp hi hi') r))) (alike d [] [])
keys_compare d (within f lo hi) (reaches r c) g h = refl
keys_compare d (reaches r b) (is_in a) g h = absurd h
keys_compare d (reaches r b) (within f lo hi) g h = refl
keys_compare d (reaches r b) (reaches r' c) g h =
    ap (ordering_then (nat_cmp r r'))
    (alike d (rest_fields (run_of d (reaches r b))) (rest_fields (run_of d (reaches r' c)))
    ∙ ap₂ order_of (below_fields (suc d) b g) (below_fields (suc d) c h)
    ∙ any_depth d b c)

pub runs_compare : {A : Type 0} (d : ℕ) (x y : Conjunct) → HasRun x → HasRun y → (a b c : A) →
    pick (order_of (run_key (run_of d x)) (run_key (run_of d y))) a b c ≡ cond (is_before (key x) (key y)) a (cond (is_before (key y) (key x)) c b)
runs_compare d x y g h a b c = ap (λ (r : Ordering). pick r a b c) (keys_compare d x y g h) ∙ order_before (key x) (key y) a b c
