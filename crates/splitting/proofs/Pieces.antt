-- The pieces of a constraint, each from the one before it.
use Prim.Native.Nat.{◌+◌, ◌<◌, ◌≤◌, pred, suc, ℕ}
use mathlib.Core.Bool.{Bool, cond, false, true}
use mathlib.Core.List.{List, [], ◌++◌, ◌∷◌}
use mathlib.Core.Logic.{◌⊎◌, inl, inr}
use mathlib.Core.Path.{◌∙◌, ◌≡◌, ap, ap₂, refl, subst, sym}
use native.Mathlib.Omega.{arith}
use lib.Dec.{T, ltb}
use lib.ListN.{length}
use borrow.Author.Tests.{ltb-false, ltb-true}
use Rattle.layout.specs.Tables.{interval_of}
use Rattle.meaning.specs.Intervals.{Constraint, NonEmpty, is_within}
use Rattle.meaning.specs.Lists.{All, At, ◌∈◌, at_here, at_there, cons, filter, here, nil}
use Rattle.meaning.specs.Policy.{Policy}
use Rattle.meaning.specs.Splitting.{Rising, Sorted, gap, insert, insert_all, only, pieces, pieces_at, pieces_from}
use Rattle.splitting.proofs.Nearest.{far_up, least_is, near_up, upper_is}
use Rattle.splitting.specs.Ends.{ends_on, upper}
use Rattle.theory.proofs.Intervals.{is_within_iff}
use Rattle.theory.proofs.Odometer.{at_lt}
use Rattle.theory.proofs.Points.{above, insert_all_lem, insert_here, insert_sorted, insert_there, inserts_all, inserts_here}
use Rattle.theory.proofs.Points.{inserts_sorted, inserts_there}
use Rattle.theory.proofs.Rules.{all_at, all_mono, all_of, any_cases, any_none, head, in_filter, tail}

-- ---- a run

-- after the piece s come the pieces of the list, and then no more
abbrev Run : List ℕ → ℕ → ℕ → Constraint → List Constraint → Type 0
Run E f h s [] = s.hi ≡ h
Run E f h s (t ∷ l) = (s.hi < h) × (t ≡ interval_of f (suc s.hi) (upper E h s.hi)) × Run E f h t l

abbrev rest_of : ℕ → ℕ → List ℕ → List Constraint
rest_of f x [] = []
rest_of f x (y ∷ l) = gap f x y ++ pieces_from f y l

whole_of : (f x : ℕ) (l : List ℕ) → pieces_from f x l ≡ only f x ∷ rest_of f x l
whole_of f x [] = refl
whole_of f x (y ∷ l) = refl

module _ (E : List ℕ) (f h : ℕ) where
  abbrev Good : ℕ → Type 0
  Good z = (z ≤ h) × ((z ≡ h) ⊎ (z ∈ E))

  module _ (x y : ℕ) (l : List ℕ) (r : Rising x (y ∷ l)) (g : Good y) where
    at_next : All (λ e. x < e → e ≤ h → e ∈ y ∷ l) E → All (λ e. x < e → y ≤ e) E
    at_next a = all_mono (λ e k i. up e i (k i)) a
      where
        among : (e : ℕ) → (e ≡ y) ⊎ (e ∈ l) → y ≤ e
        among e (inl i) = omega arith
        among e (inr i) = let j = above y l r.1 i in omega arith

        up : (e : ℕ) → x < e → (e ≤ h → e ∈ y ∷ l) → y ≤ e
        up e i k = go (ltb h e) refl
          where
            go : (b : Bool) → ltb h e ≡ b → y ≤ e
            go true m = let n = ltb-true h e m in omega arith
            go false m = among e (any_cases (k (ltb-false h e m)))

    later : All (λ e. x < e → e ≤ h → e ∈ y ∷ l) E → All (λ e. y < e → e ≤ h → e ∈ l) E
    later a = all_mono (λ e k i j. out e i (any_cases (k (omega arith) j))) a
      where
        out : (e : ℕ) → y < e → (e ≡ y) ⊎ (e ∈ l) → e ∈ l
        out e i (inl j) = absurd (omega arith)
        out e i (inr j) = j

    top_later : (h ≡ x) ⊎ (h ∈ y ∷ l) → (h ≡ y) ⊎ (h ∈ l)
    top_later (inl i) = absurd (omega arith)
    top_later (inr i) = any_cases i

    next_run : All (λ e. x < e → y ≤ e) E → Run E f h (only f y) (rest_of f y l) → Run E f h (only f x) (gap f x y ++ (only f y ∷ rest_of f y l))
    next_run a k = go (ltb (suc x) y) refl
      where
        go : (b : Bool) → ltb (suc x) y ≡ b → Run E f h (only f x) (cond b (interval_of f (suc x) (pred y) ∷ []) [] ++ (only f y ∷ rest_of f y l))
        go true e =
            let q = ltb-true (suc x) y e in
            let i = g.0 in
            let z : suc (pred y) ≡ y = omega arith in
            let u : upper E h x ≡ pred y = upper_is E h x y (pred y) (least_is E x h y r.0 g.0 g.1 a) (far_up x y q) in
            let v : upper E h (pred y) ≡ y =
            upper_is E h (pred y) y y (least_is E (pred y) h y (omega arith) g.0 g.1 (all_mono (λ d m n. omega arith) a))
            (near_up (pred y) y (sym z)) in
            (omega arith, ap (interval_of f (suc x)) (sym u), (omega arith, ap₂ (interval_of f) (sym z) (sym v), k))
        go false e =
            let q = ltb-false (suc x) y e in
            let z : y ≡ suc x = omega arith in
            let u : upper E h x ≡ y = upper_is E h x y y (least_is E x h y r.0 g.0 g.1 a) (near_up x y z) in
            (omega arith, ap₂ (interval_of f) z (sym u), k)

  run_from : (x : ℕ) (l : List ℕ) → Rising x l → All Good l → (h ≡ x) ⊎ (h ∈ l) → All (λ e. x < e → e ≤ h → e ∈ l) E →
      Run E f h (only f x) (rest_of f x l)
  run_from x [] r g (inl i) a = sym i
  run_from x [] r g (inr i) a = absurd (any_none i)
  run_from x (y ∷ l) r g i a =
      let k = run_from y l r.1 (tail g) (top_later x y l r (head g) i) (later x y l r (head g) a) in
      subst (λ m. Run E f h (only f x) (gap f x y ++ m)) (sym (whole_of f y l)) (next_run x y l r (head g) (at_next x y l r (head g) a) k)

  run_next : {p : Constraint} (s : Constraint) (l : List Constraint) {d : ℕ} → Run E f h s l → At p (s ∷ l) d → p.hi < h →
      At (interval_of f (suc p.hi) (upper E h p.hi)) (s ∷ l) (suc d)
  run_next s [] r (at_here e) b = absurd (omega (arith, ap (λ (x : Constraint). x.hi) e))
  run_next s [] r (at_there a) b = absurd (omega (arith, at_lt a))
  run_next s (t ∷ l) r (at_here e) b = at_there (at_here (ap (λ (x : Constraint). interval_of f (suc x.hi) (upper E h x.hi)) e ∙ sym r.1))
  run_next s (t ∷ l) r (at_there a) b = at_there (run_next t l r.2 a b)

  run_last : {p : Constraint} (s : Constraint) (l : List Constraint) {d : ℕ} → Run E f h s l → At p (s ∷ l) d → h ≤ p.hi → suc d ≡ length (s ∷ l)
  run_last s [] r (at_here e) b = refl
  run_last s [] r (at_there a) b = absurd (omega (arith, at_lt a))
  run_last s (t ∷ l) r (at_here e) b = absurd (omega (arith, ap (λ (x : Constraint). x.hi) e))
  run_last s (t ∷ l) r (at_there a) b = ap suc (run_last t l r.2 a b)

-- ---- X, and so the pieces

pub filtered : {P : ℕ → Type 0} (p : ℕ → Bool) (l : List ℕ) → All P l → All (λ z. T (p z) × P z) (filter p l)
filtered p [] h = nil
filtered {P} p (x ∷ l) h = go (p x) refl (filtered p l (tail h))
  where
    go : (b : Bool) → p x ≡ b → All (λ z. T (p z) × P z) (filter p l) → All (λ z. T (p z) × P z) (cond b (x ∷ filter p l) (filter p l))
    go true e r = cons (subst T (sym e) tt, head h) r
    go false e r = r

abbrev Pieces : List ℕ → Constraint → List Constraint → Type 0
Pieces E s l = (rest : List Constraint) × (l ≡ only s.feature s.lo ∷ rest) × Run E s.feature s.hi (only s.feature s.lo) rest

module _ (E : List ℕ) (s : Constraint) (a : NonEmpty s.lo s.hi) where
  abbrev inside : ℕ → Bool
  inside e = is_within s.lo s.hi e

  abbrev X : List ℕ
  X = insert_all (filter inside E) (insert s.hi (s.lo ∷ []))

  abbrev InSpan : ℕ → Type 0
  InSpan z = (s.lo ≤ z) × ((z ≡ s.lo) ⊎ Good E s.feature s.hi z)

  X_inside : All InSpan X
  X_inside =
      inserts_all (filter inside E) (insert s.hi (s.lo ∷ []))
      (all_mono (λ e t. let u = (is_within_iff s.lo s.hi e).0 t.0 in (u.0, inr (u.1, inr t.1)))
      (filtered inside E (all_of E (λ x m. m))))
      (insert_all_lem s.hi (s.lo ∷ []) (a, inr (omega arith, inl refl)) (cons (omega arith, inl refl) nil))

  X_all : All (λ e. s.lo < e → e ≤ s.hi → e ∈ X) E
  X_all =
      all_of E (λ e m i j. inserts_here (filter inside E) (insert s.hi (s.lo ∷ []))
      (in_filter inside m ((is_within_iff s.lo s.hi e).1 (omega arith, j))))

  X_low : s.lo ∈ X
  X_low = inserts_there (filter inside E) (insert s.hi (s.lo ∷ [])) (insert_there s.hi (s.lo ∷ []) (here refl))

  X_high : s.hi ∈ X
  X_high = inserts_there (filter inside E) (insert s.hi (s.lo ∷ [])) (insert_here s.hi (s.lo ∷ []))

  X_sorted : Sorted X
  X_sorted = inserts_sorted (filter inside E) (insert s.hi (s.lo ∷ [])) (insert_sorted s.hi (s.lo ∷ []) tt)

  started : (Y : List ℕ) → Sorted Y → All InSpan Y → All (λ e. s.lo < e → e ≤ s.hi → e ∈ Y) E → s.lo ∈ Y → s.hi ∈ Y →
      Pieces E s (pieces_at s.feature Y)
  started [] r i c m n = absurd (any_none m)
  started (x ∷ l) r i c m n = go x (sym (least_low (any_cases m))) r (tail i) c (any_cases n)
    where
      least_low : (s.lo ≡ x) ⊎ (s.lo ∈ l) → s.lo ≡ x
      least_low (inl e) = e
      least_low (inr e) = let k = above x l r e in let j = (head i).0 in absurd (omega arith)

      go : (x : ℕ) → x ≡ s.lo → Rising x l → All InSpan l → All (λ e. s.lo < e → e ≤ s.hi → e ∈ x ∷ l) E → (s.hi ≡ x) ⊎ (s.hi ∈ l) →
          Pieces E s (pieces_from s.feature x l)
      go x q r i c n =
          let k : Run E s.feature s.hi (only s.feature x) (rest_of s.feature x l) =
          run_from E s.feature s.hi x l r (all_of l (λ z m. better z (above x l r m) (all_at i m).1)) n
          (all_mono (λ e f j o. not_first e j (any_cases (f (omega arith) o))) c) in (
            rest_of s.feature x l,
            whole_of s.feature x l ∙ ap (λ (y : ℕ). only s.feature y ∷ rest_of s.feature x l) q,
            subst (λ (y : ℕ). Run E s.feature s.hi (only s.feature y) (rest_of s.feature x l)) q k,
          )
        where
          better : (z : ℕ) → x < z → (z ≡ s.lo) ⊎ Good E s.feature s.hi z → Good E s.feature s.hi z
          better z b (inl e) = absurd (omega arith)
          better z b (inr e) = e

          not_first : (e : ℕ) → x < e → (e ≡ x) ⊎ (e ∈ l) → e ∈ l
          not_first e b (inl k) = absurd (omega arith)
          not_first e b (inr k) = k

  run_all : Pieces E s (pieces_at s.feature X)
  run_all = started X X_sorted X_inside X_all X_low X_high

-- ---- first, next, last

pub piece_first : (Q : Policy) (s : Constraint) → NonEmpty s.lo s.hi → At (only s.feature s.lo) (pieces Q s) 0
piece_first Q s a = let k = run_all (ends_on Q s.feature) s a in rw k.1 (at_here refl)

-- the count c has come to a piece with upper end x
abbrev pub Walked : Policy → Constraint → ℕ → ℕ → Type 0
Walked Q s c x = (d : ℕ) × (p : Constraint) × (c ≡ suc d) × At p (pieces Q s) d × (p.hi ≡ x)

module _ (Q : Policy) (s : Constraint) (a : NonEmpty s.lo s.hi) where
  abbrev E : List ℕ
  E = ends_on Q s.feature

  pub piece_next : {p : Constraint} {d : ℕ} → At p (pieces Q s) d → p.hi < s.hi →
      At (interval_of s.feature (suc p.hi) (upper E s.hi p.hi)) (pieces Q s) (suc d)
  piece_next {p} {d} = let k = run_all E s a in rw k.1 (run_next E s.feature s.hi (only s.feature s.lo) k.0 k.2)

  pub piece_last : {p : Constraint} {d : ℕ} → At p (pieces Q s) d → s.hi ≤ p.hi → suc d ≡ length (pieces Q s)
  piece_last {p} {d} = let k = run_all E s a in rw k.1 (run_last E s.feature s.hi (only s.feature s.lo) k.0 k.2)

  pub walk_starts : Walked Q s 1 s.lo
  walk_starts = (0, only s.feature s.lo, refl, piece_first Q s a, refl)

  pub walk_on : (c x r : ℕ) → Walked Q s c x → x < s.hi → r ≡ upper E s.hi x → Walked Q s (c + 1) r
  walk_on c x r w h g = (
    suc w.0,
    interval_of s.feature (suc w.1.hi) (upper E s.hi w.1.hi),
    omega (arith, w.2),
    piece_next w.3 (omega (arith, w.4)),
    ap (upper E s.hi) w.4 ∙ sym g,
  )

  pub walk_ends : (c x : ℕ) → Walked Q s c x → s.hi ≤ x → c ≡ length (pieces Q s)
  walk_ends c x w h = w.2 ∙ piece_last w.3 (omega (arith, w.4))
