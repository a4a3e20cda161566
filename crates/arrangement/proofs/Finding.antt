-- The place of a run among those behind it, found by one after another. Assumes nothing.
use Prim.Native.Nat.{◌+◌, ◌-◌, ◌<◌, ◌≤◌, suc, zero, ℕ}
use mathlib.Core.Bool.{Bool, ◌&&◌, cond, false, true}
use mathlib.Core.List.{List, [], ◌++◌, ◌∷◌, append_assoc, append-nil}
use mathlib.Core.Path.{◌∙◌, ◌≡◌, ap, ap₂, refl, subst, sym}
use lib.Dec.{T, eqb, ltb}
use lib.ListN.{drop, get_or, length, length-drop, length-map, take}
use lib.Seq.{length-take-le}
use native.Mathlib.Omega.{arith}
use borrow.Author.Tests.{eq-eqb, eqb-true, ltb-false, ltb-true}
use Rattle.arrangement.specs.Insertion.{behind, deeper, insert_run, pick}
use Rattle.arrangement.specs.Steps.{BelongsAt, Ready, RunEnds, StandsAt, inserted, is_next}
use Rattle.entries.proofs.Runs.{item_depth, items_behind, items_first, items_front, items_none, items_split}
use Rattle.entries.specs.Entries.{Comparable, Item, depth_at, item_at, items_in, run_key}
use Rattle.entries.specs.Order.{order_of}
use Rattle.std.specs.declared.cmp.Ordering.{Ordering}
use Rattle.std.specs.declared.cmp.Ordering.TheVariants.{Equal, Greater, Less}

-- ---- one run more, and none

turn : (most d : ℕ) (run : List Item) (y : Item) (l : List Item) (r : Ordering) → y.fields.depth ≡ d → r ≡ order_of (run_key run) (run_key (y ∷ deeper d l)) →
    insert_run (suc most) d run (y ∷ l) ≡ pick r (run ++ (y ∷ l)) (y ∷ l) ((y ∷ deeper d l) ++ insert_run most d run (behind d l))
turn most d run y l r e f =
    let further = (y ∷ deeper d l) ++ insert_run most d run (behind d l) in
    let here = pick (order_of (run_key run) (run_key (y ∷ deeper d l))) (run ++ (y ∷ l)) (y ∷ l) further in
    ap (λ (b : Bool). cond b here (run ++ (y ∷ l))) (eq-eqb y.fields.depth d e)
    ∙ ap (λ (o : Ordering). pick o (run ++ (y ∷ l)) (y ∷ l) further) (sym f)

stop_none : (most d : ℕ) (run : List Item) → insert_run most d run [] ≡ run ++ []
stop_none zero d run = refl
stop_none (suc most) d run = sym (append-nil run)

stop_other : (most d : ℕ) (run : List Item) (y : Item) (l : List Item) → eqb y.fields.depth d ≡ false → insert_run most d run (y ∷ l) ≡ run ++ (y ∷ l)
stop_other zero d run y l e = refl
stop_other (suc most) d run y l e =
    let further = (y ∷ deeper d l) ++ insert_run most d run (behind d l) in
    ap (λ (b : Bool). cond b (pick (order_of (run_key run) (run_key (y ∷ deeper d l))) (run ++ (y ∷ l)) (y ∷ l) further) (run ++ (y ∷ l))) e

-- ---- in the order

next_is_lem : (at n x d : ℕ) → ltb at n && eqb x d ≡ true → (at < n) × (x ≡ d)
next_is_lem at n x d e = go (ltb at n) (eqb x d) refl refl e
  where
    go : (a b : Bool) → ltb at n ≡ a → eqb x d ≡ b → a && b ≡ true → (at < n) × (x ≡ d)
    go true true p q e = (ltb-true at n p, eqb-true x d q)
    go true false p q e = absurd (let z : T false = subst T (sym e) tt in z)
    go false b p q e = absurd (let z : T false = subst T (sym e) tt in z)

module _ (w ds o : List ℕ) where
  -- the runs from b to before at go before the one from a to before b
  pub record Finding (a b d at : ℕ) : Type 0 where
    pub low : b ≤ at
    pub high : at ≤ length o
    pub most : ℕ
    pub room : length o - at ≤ most
    pub says : inserted w ds o a ≡ items_in w ds o b at ++ insert_run most d (items_in w ds o a b) (items_in w ds o at (length o))

  pub finding_starts : {a b d : ℕ} → Ready w o a → RunEnds w ds o a b → d ≡ depth_at w ds (get_or o a 0) → Finding a b d b
  finding_starts {a} {b} {d} g x e = record {
    low = omega arith;
    high = x.within;
    most = length o - b;
    room = omega arith;
    says =
        ap (λ (n : ℕ). insert_run (length (behind n rest)) n (item_at w ds (get_or o a 0) ∷ deeper n rest) (behind n rest)) (item_depth w ds o (get_or o a 0))
        ∙ ap₂ (λ (r l : List Item). insert_run (length l) (depth_at w ds (get_or o a 0)) (item_at w ds (get_or o a 0) ∷ r) l) (sym x.run) (sym x.left)
        ∙ ap (λ (n : ℕ). insert_run n (depth_at w ds (get_or o a 0)) (item_at w ds (get_or o a 0) ∷ items_in w ds o (a + 1) b) (items_in w ds o b (length o))) many
        ∙ ap₂ (λ (n : ℕ) (r : List Item). insert_run (length o - b) n r (items_in w ds o b (length o))) (sym e) (sym (items_first w ds o a b x.first x.within))
        ∙ ap (λ (r : List Item). r ++ insert_run (length o - b) d (items_in w ds o a b) (items_in w ds o b (length o))) (sym (items_none w ds o b b (omega arith)));
  }
    where
      rest : List Item
      rest = items_in w ds o (a + 1) (length o)

      many : length (items_in w ds o b (length o)) ≡ length o - b
      many = length-map (take (length o - b) (drop b o)) (item_at w ds) ∙ length-take-le (length o - b) (drop b o) (let e = length-drop b o in omega arith)

  module _ {a b d at : ℕ} (x : Finding a b d at) where
    module _ (next : is_next w ds o at d ≡ true) where
      pub here : at < length o
      here = (next_is_lem at (length o) (depth_at w ds (get_or o at 0)) d next).0

      module _ {end : ℕ} (y : RunEnds w ds o at end) {r : Ordering} (told : r ≡ order_of (run_key (items_in w ds o a b)) (run_key (items_in w ds o at end))) where
        abbrev item : Item
        item = item_at w ds (get_or o at 0)

        abbrev rest : List Item
        rest = items_in w ds o (at + 1) (length o)

        deep : depth_at w ds (get_or o at 0) ≡ d
        deep = (next_is_lem at (length o) (depth_at w ds (get_or o at 0)) d next).1

        whole : items_in w ds o at (length o) ≡ item ∷ rest
        whole = items_first w ds o at (length o) here (omega arith)

        first_run : items_in w ds o at end ≡ item ∷ deeper d rest
        first_run =
            items_first w ds o at end y.first y.within
            ∙ ap (λ (l : List Item). item ∷ l) (y.run ∙ ap (λ (n : ℕ). deeper n rest) deep)

        others : items_in w ds o end (length o) ≡ behind d rest
        others = y.left ∙ ap (λ (n : ℕ). behind n rest) deep

        turned : (m : ℕ) → insert_run (suc m) d (items_in w ds o a b) (items_in w ds o at (length o))
            ≡ pick r (items_in w ds o a b ++ items_in w ds o at (length o)) (items_in w ds o at (length o))
            (items_in w ds o at end ++ insert_run m d (items_in w ds o a b) (items_in w ds o end (length o)))
        turned m =
            ap (insert_run (suc m) d (items_in w ds o a b)) whole
            ∙ turn m d (items_in w ds o a b) item rest r (item_depth w ds o (get_or o at 0) ∙ deep) (told ∙ ap (λ (l : List Item). order_of (run_key (items_in w ds o a b)) (run_key l)) first_run)
            ∙ ap₂ (λ (l f : List Item). pick r (items_in w ds o a b ++ l) l f) (sym whole)
            (ap₂ (λ (f l : List Item). f ++ insert_run m d (items_in w ds o a b) l) (sym first_run) (sym others))

        -- with one run less to look at
        told_on : (m : ℕ) → x.most ≡ suc m → inserted w ds o a
            ≡ items_in w ds o b at ++ pick r (items_in w ds o a b ++ items_in w ds o at (length o)) (items_in w ds o at (length o))
            (items_in w ds o at end ++ insert_run m d (items_in w ds o a b) (items_in w ds o end (length o)))
        told_on m e =
            x.says
            ∙ ap (λ (n : ℕ). items_in w ds o b at ++ insert_run n d (items_in w ds o a b) (items_in w ds o at (length o))) e
            ∙ ap (λ (l : List Item). items_in w ds o b at ++ l) (turned m)

        less : (n : ℕ) → x.most ≡ n → (m : ℕ) × (x.most ≡ suc m)
        less zero e = absurd (let h = here in let k = x.room in omega arith)
        less (suc m) e = (m, e)

        said : (m : ℕ) × (x.most ≡ suc m)
        said = less x.most refl

        picked : {o' : Ordering} → r ≡ o' → inserted w ds o a
            ≡ items_in w ds o b at ++ pick o' (items_in w ds o a b ++ items_in w ds o at (length o)) (items_in w ds o at (length o))
            (items_in w ds o at end ++ insert_run said.0 d (items_in w ds o a b) (items_in w ds o end (length o)))
        picked e =
            told_on said.0 said.1
            ∙ ap (λ (z : Ordering). items_in w ds o b at ++ pick z (items_in w ds o a b ++ items_in w ds o at (length o)) (items_in w ds o at (length o))
            (items_in w ds o at end ++ insert_run said.0 d (items_in w ds o a b) (items_in w ds o end (length o)))) e

        pub finds_before : r ≡ Less → BelongsAt w ds o a b at
        finds_before e = record { low = x.low; high = x.high; missing = picked e }

        pub finds_same : r ≡ Equal → StandsAt w ds o a b at
        finds_same e = record { low = x.low; high = x.high; standing = picked e ∙ sym (items_split w ds o b at (length o) x.low x.high) }

        pub finds_further : r ≡ Greater → Finding a b d end
        finds_further e = record {
          low = (let l = x.low in let f = y.first in omega arith);
          high = y.within;
          most = said.0;
          room = (let k = x.room in let f = y.first in let m = said.1 in let h = here in omega arith);
          says =
              picked e
              ∙ sym (append_assoc (items_in w ds o b at) (items_in w ds o at end) (insert_run said.0 d (items_in w ds o a b) (items_in w ds o end (length o))))
              ∙ ap (λ (l : List Item). l ++ insert_run said.0 d (items_in w ds o a b) (items_in w ds o end (length o)))
              (sym (items_split w ds o b at end x.low (let f = y.first in omega arith)));
        }

    pub finds_last : is_next w ds o at d ≡ false → BelongsAt w ds o a b at
    finds_last e = record {
      low = x.low;
      high = x.high;
      missing = x.says ∙ ap (λ (l : List Item). items_in w ds o b at ++ l) (go (ltb at (length o)) refl e);
    }
      where
        go : (c : Bool) → ltb at (length o) ≡ c → c && eqb (depth_at w ds (get_or o at 0)) d ≡ false →
            insert_run x.most d (items_in w ds o a b) (items_in w ds o at (length o)) ≡ items_in w ds o a b ++ items_in w ds o at (length o)
        go true p q =
            let i = items_first w ds o at (length o) (ltb-true at (length o) p) (omega arith) in
            ap (insert_run x.most d (items_in w ds o a b)) i
            ∙ stop_other x.most d (items_in w ds o a b) (item_at w ds (get_or o at 0)) (items_in w ds o (at + 1) (length o)) (ap (λ (n : ℕ). eqb n d) (item_depth w ds o (get_or o at 0)) ∙ q)
            ∙ ap (λ (l : List Item). items_in w ds o a b ++ l) (sym i)
        go false p q =
            let i = items_none w ds o at (length o) (ltb-false at (length o) p) in
            ap (insert_run x.most d (items_in w ds o a b)) i
            ∙ stop_none x.most d (items_in w ds o a b)
            ∙ ap (λ (l : List Item). items_in w ds o a b ++ l) (sym i)

  -- the run from a to before b has every entry of the order, and one at least
  run_some : {a b : ℕ} → RunEnds w ds o a b → 0 < length (take (b - a) (drop a o))
  run_some {a} {b} x =
      let f = x.first in
      let n = x.within in
      rw (length-take-le (b - a) (drop a o) (simp length-drop (omega arith))) (omega arith)

  pub comparable : {a b c d : ℕ} → Ready w o a → RunEnds w ds o a b → RunEnds w ds o c d → Comparable w (take (b - a) (drop a o)) (take (d - c) (drop c o))
  comparable {a} {b} {c} {d} g x y = record {
    first = items_front (items_behind g.items a) (b - a);
    second = items_front (items_behind g.items c) (d - c);
    some = run_some x;
    others = run_some y;
  }
