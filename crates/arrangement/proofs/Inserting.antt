-- An item in front of runs in order goes to its place among them, with those below it.
use Prim.Native.Nat.{◌<◌, ◌≤◌, suc, zero, ℕ}
use mathlib.Core.Bool.{Bool, cond, false, true}
use mathlib.Core.List.{List, [], ◌++◌, ◌∷◌, append_assoc, append-nil}
use mathlib.Core.Path.{◌∙◌, ◌≡◌, ap, ap₂, refl, subst, sym}
use lib.ListN.{length, length-append}
use native.Mathlib.Omega.{arith}
use borrow.Author.Tests.{eq-eqb, le-ltb, lt-ltb, ne_eqb}
use Rattle.arrangement.proofs.Comparing.{HasRun, runs_compare}
use Rattle.arrangement.specs.Insertion.{behind, deeper, insert_item, insert_run, pick}
use Rattle.arrangement.specs.Runs.{chain_items, run_of, runs_of}
use Rattle.entries.specs.Entries.{Item, run_key}
use Rattle.entries.specs.Order.{order_of}
use Rattle.meaning.specs.Lists.{All, cons, nil}
use Rattle.meaning.specs.Policy.{Chain, class, end, impossible, interval, some}
use Rattle.spelling.specs.Order.{is_before, place}
use Rattle.spelling.specs.Spelling.{Conjunct, is_in, key, reaches, within}
use Rattle.theory.proofs.Rules.{all_append, head, tail}

-- ---- runs

-- the first item, where there is one, stands at a depth less than d
abbrev pub Low : ℕ → List Item → Type 0
Low d [] = Unit {0}
Low d (x ∷ l) = x.fields.depth < d

-- all items are deeper than d
abbrev pub Deep : ℕ → List Item → Type 0
Deep d l = All (λ x. d < x.fields.depth) l

-- one item at depth d and those below it
abbrev pub IsRun : ℕ → List Item → Type 0
IsRun d [] = ⊥
IsRun d (x ∷ l) = (x.fields.depth ≡ d) × Deep d l

chain_deep : (d e : ℕ) (c : Chain) → d < e → Deep d (chain_items e c)
chain_deep d e end h = nil
chain_deep d e (class a next) h = chain_deep d e next h
chain_deep d e (impossible next) h = chain_deep d e next h
chain_deep d e (some r child next) h = cons h (all_append (chain_deep d (suc e) child (omega arith)) (chain_deep d e next h))
chain_deep d e (interval f lo hi next) h = cons h (chain_deep d e next h)

pub is_run : (d : ℕ) (x : Conjunct) → HasRun x → IsRun d (run_of d x)
is_run d (is_in a) h = absurd h
is_run d (within f lo hi) h = (refl, nil)
is_run d (reaches r c) h = (refl, chain_deep d (suc d) c (omega arith))

-- ---- what is deeper, and what is behind

deeper_none : (d : ℕ) (m : List Item) → Low (suc d) m → deeper d m ≡ []
deeper_none d [] h = refl
deeper_none d (x ∷ m) h = rw (le-ltb d x.fields.depth (omega arith))

behind_none : (d : ℕ) (m : List Item) → Low (suc d) m → behind d m ≡ m
behind_none d [] h = refl
behind_none d (x ∷ m) h = rw (le-ltb d x.fields.depth (omega arith))

pub deeper_all : (d : ℕ) (l m : List Item) → Deep d l → Low (suc d) m → deeper d (l ++ m) ≡ l
deeper_all d [] m g h = deeper_none d m h
deeper_all d (x ∷ l) m g h = rw (lt-ltb d x.fields.depth (head g), deeper_all d l m (tail g) h)

pub behind_all : (d : ℕ) (l m : List Item) → Deep d l → Low (suc d) m → behind d (l ++ m) ≡ m
behind_all d [] m g h = behind_none d m h
behind_all d (x ∷ l) m g h = rw (lt-ltb d x.fields.depth (head g), behind_all d l m (tail g) h)

pub lower : (d : ℕ) (l : List Item) → Low d l → Low (suc d) l
lower d [] h = tt
lower d (x ∷ l) h = omega arith

-- runs at depth d in front of what is lower
pub runs_low : (d : ℕ) (l : List Conjunct) (m : List Item) → All HasRun l → Low d m → Low (suc d) (runs_of d l ++ m)
runs_low d [] m g h = lower d m h
runs_low d (is_in a ∷ l) m g h = absurd (head g)
runs_low d (within f lo hi ∷ l) m g h = omega arith
runs_low d (reaches r c ∷ l) m g h = omega arith

runs_long : (d : ℕ) (l : List Conjunct) (m : List Item) → All HasRun l → length l ≤ length (runs_of d l ++ m)
runs_long d [] m g = omega arith
runs_long d (is_in a ∷ l) m g = absurd (head g)
runs_long d (within f lo hi ∷ l) m g = let h = runs_long d l m (tail g) in omega arith
runs_long d (reaches r c ∷ l) m g = let h = runs_long d l m (tail g) in simp length-append (omega (arith, simp length-append at h))

-- ---- a run put in front of another

insert_first : (most d : ℕ) (run first l : List Item) → IsRun d first → Low (suc d) l →
    insert_run (suc most) d run (first ++ l)
    ≡ pick (order_of (run_key run) (run_key first)) (run ++ (first ++ l)) (first ++ l) (first ++ insert_run most d run l)
insert_first most d run [] l g h = absurd g
insert_first most d run (x ∷ below) l g h =
    rw (eq-eqb x.fields.depth d g.0, deeper_all d below l g.1 h, behind_all d below l g.1 h)

insert_last : (most d : ℕ) (run l : List Item) → Low d l → insert_run most d run l ≡ run ++ l
insert_last zero d run l h = refl
insert_last (suc most) d run [] h = sym (append-nil run)
insert_last (suc most) d run (x ∷ l) h = rw (ne_eqb x.fields.depth d (λ e. omega arith))

-- ---- a conjunct to its place

pub insert_placed : (most d : ℕ) (x : Conjunct) (l : List Conjunct) (m : List Item) → HasRun x → All HasRun l → Low d m → length l ≤ most →
    insert_run most d (run_of d x) (runs_of d l ++ m) ≡ runs_of d (place key x l) ++ m
insert_placed most d x [] m g h i j = insert_last most d (run_of d x) m i ∙ ap (λ (w : List Item). w ++ m) (sym (append-nil (run_of d x)))
insert_placed zero d x (y ∷ l) m g h i j = absurd (omega arith)
insert_placed (suc most) d x (y ∷ l) m g h i j =
    ap (insert_run (suc most) d (run_of d x)) (append_assoc (run_of d y) (runs_of d l) m)
    ∙ insert_first most d (run_of d x) (run_of d y) (runs_of d l ++ m) (is_run d y (head h)) (runs_low d l m (tail h) i)
    ∙ runs_compare d x y g (head h) (run_of d x ++ (run_of d y ++ (runs_of d l ++ m))) (run_of d y ++ (runs_of d l ++ m))
    (run_of d y ++ insert_run most d (run_of d x) (runs_of d l ++ m))
    ∙ go (is_before (key x) (key y)) (is_before (key y) (key x)) (insert_placed most d x l m g (tail h) i (omega arith))
  where
    go : (a b : Bool) → insert_run most d (run_of d x) (runs_of d l ++ m) ≡ runs_of d (place key x l) ++ m →
        cond a (run_of d x ++ (run_of d y ++ (runs_of d l ++ m)))
        (cond b (run_of d y ++ insert_run most d (run_of d x) (runs_of d l ++ m)) (run_of d y ++ (runs_of d l ++ m)))
        ≡ runs_of d (cond a (x ∷ (y ∷ l)) (cond b (y ∷ place key x l) (y ∷ l))) ++ m
    go true b e = sym (append_assoc (run_of d x) (run_of d y ++ runs_of d l) m ∙ ap (λ (w : List Item). run_of d x ++ w) (append_assoc (run_of d y) (runs_of d l) m))
    go false true e = ap (λ (w : List Item). run_of d y ++ w) e ∙ sym (append_assoc (run_of d y) (runs_of d (place key x l)) m)
    go false false e = sym (append_assoc (run_of d y) (runs_of d l) m)

pub insert_item_lem : (d : ℕ) (i : Item) (below : List Item) (x : Conjunct) (l : List Conjunct) (m : List Item) → run_of d x ≡ i ∷ below →
    HasRun x → All HasRun l → Low d m → insert_item i (below ++ (runs_of d l ++ m)) ≡ runs_of d (place key x l) ++ m
insert_item_lem d i below x l m e f g h =
    let rest = runs_of d l ++ m in
    let run = subst (IsRun d) e (is_run d x f) in
    let low = runs_low d l m g h in
    ap (λ (n : ℕ). insert_run (length (behind n (below ++ rest))) n (i ∷ deeper n (below ++ rest)) (behind n (below ++ rest))) run.0
    ∙ ap₂ (λ (u v : List Item). insert_run (length v) d (i ∷ u) v) (deeper_all d below rest run.1 low) (behind_all d below rest run.1 low)
    ∙ ap (λ (w : List Item). insert_run (length rest) d w rest) (sym e)
    ∙ insert_placed (length rest) d x l m f g h (runs_long d l m g)
