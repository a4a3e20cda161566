-- The dials of a term, found one after another.
use Prim.Native.Nat.{◌+◌, ◌-◌, ◌<◌, ◌≤◌, suc, ℕ}
use mathlib.Core.Bool.{Bool, cond, false, true}
use mathlib.Core.List.{List, [], ◌++◌, ◌∷◌, map}
use mathlib.Core.Logic.{◌⊎◌, inl, inr, ⊎_elim}
use mathlib.Core.Path.{◌∙◌, ◌≡◌, ap, refl, subst, sym}
use native.Mathlib.Numerals.{add-one}
use native.Mathlib.Omega.{arith}
use borrow.Author.Tests.{le-ltb, lt-ltb}
use lib.Dec.{ltb}
use lib.ListN.{get_or-append, get_or, length, length-append, length-set, set, take}
use lib.Seq.{get_or-append-add, take-suc-set}
use Rattle.layout.specs.Tables.{constraint_at}
use Rattle.meaning.specs.Intervals.{Constraint}
use Rattle.meaning.specs.Lists.{counting}
use Rattle.odometer.proofs.Dials.{dial_count, dials_few}
use Rattle.odometer.specs.Odometer.{Dialled, DialsFound, Limited, most_dials}
use Rattle.splitting.specs.Constraints.{first_constraints}
use Rattle.theory.proofs.Counting.{counted_more, counting_append}
use Rattle.theory.proofs.Rules.{order}

-- ---- how many there are

dials_append : (l k : List Constraint) → dial_count (l ++ k) ≡ dial_count l + dial_count k
dials_append [] k = omega arith
dials_append (s ∷ l) k = go (ltb s.lo s.hi) (dials_append l k)
  where
    go : (b : Bool) → dial_count (l ++ k) ≡ dial_count l + dial_count k → cond b (suc (dial_count (l ++ k))) (dial_count (l ++ k)) ≡ cond b (suc (dial_count l)) (dial_count l) + dial_count k
    go true e = omega arith
    go false e = e

map_append : (f : ℕ → Constraint) (l k : List ℕ) → map f (l ++ k) ≡ map f l ++ map f k
map_append f [] k = refl
map_append f (x ∷ l) k = ap (λ m. f x ∷ m) (map_append f l k)

module _ (w : List ℕ) where
  dials_most : (m n : ℕ) → m ≤ n → dial_count (first_constraints w m) ≤ dial_count (first_constraints w n)
  dials_most m n h =
      let e : n ≡ m + (n - m) = omega arith in
      let a = ap (λ (k : ℕ). dial_count (first_constraints w k)) e in
      let b = ap (λ (l : List ℕ). dial_count (map (constraint_at w) l)) (counting_append 0 m (n - m)) in
      let c = ap dial_count (map_append (constraint_at w) (counting 0 m) (counting (0 + m) (n - m))) in
      omega (arith, a, b, c, dials_append (first_constraints w m) (map (constraint_at w) (counting (0 + m) (n - m))))

  dials_next : (m : ℕ) → dial_count (first_constraints w (m + 1)) ≡ dial_count (first_constraints w m) + dial_count (constraint_at w m ∷ [])
  dials_next m = ap dial_count (counted_more (constraint_at w) m) ∙ dials_append (first_constraints w m) (constraint_at w m ∷ [])

  -- ---- one more constraint

  module _ (l : List ℕ) (m : ℕ) (s : Dialled l w m) where
    dialled_still : (constraint_at w m).hi ≤ (constraint_at w m).lo → Dialled l w (m + 1)
    dialled_still h = record {
      dial = λ d b. let a = s.dial d b in (omega arith, a.1);
      rising = s.rising;
      all = λ k b c. ⊎_elim (λ a. s.all k a c) (λ a. let e : k ≡ m = omega arith in let x = subst (λ (i : ℕ). (constraint_at w i).lo < (constraint_at w i).hi) e c in absurd (omega arith)) (order k m);
    }

    module _ (h : (constraint_at w m).lo < (constraint_at w m).hi) where
      long : length (l ++ (m ∷ [])) ≡ suc (length l)
      long = length-append l (m ∷ []) ∙ omega arith

      old : (d : ℕ) → d < length l → get_or (l ++ (m ∷ [])) d 0 ≡ get_or l d 0
      old d b = get_or-append l (m ∷ []) 0 d b

      new : get_or (l ++ (m ∷ [])) (length l) 0 ≡ m
      new = let e : length l ≡ length l + 0 = omega arith in ap (λ (i : ℕ). get_or (l ++ (m ∷ [])) i 0) e ∙ get_or-append-add l (m ∷ []) 0 0

      last : (d : ℕ) → d ≡ length l → get_or (l ++ (m ∷ [])) d 0 ≡ m
      last d e = ap (λ (i : ℕ). get_or (l ++ (m ∷ [])) i 0) e ∙ new

      at_most : (d : ℕ) → d < length (l ++ (m ∷ [])) → (d < length l) ⊎ (d ≡ length l)
      at_most d b = ⊎_elim (λ a. inl a) (λ a. inr (let e = long in omega arith)) (order d (length l))

      dialled_more : Dialled (l ++ (m ∷ [])) w (m + 1)
      dialled_more = record {
        dial = λ d b. ⊎_elim
            (λ a. let x = s.dial d a in rw (old d a) (omega arith, x.1))
            (λ a. rw (last d a) (omega arith, h)) (at_most d b);
        rising = λ d e b c. ⊎_elim
            (λ a. let y : d < length l = omega arith in rw (old d y, old e a) (s.rising d e b a))
            (λ a. let y : d < length l = omega arith in let x = s.dial d y in rw (last e a, old d y) x.0) (at_most e c);
        all = λ k b c. ⊎_elim
            (λ a. let x = s.all k a c in (x.0, (let e = long in let y = x.1 in omega arith), old x.0 x.1 ∙ x.2))
            (λ a. (length l, (let e = long in omega arith), new ∙ omega arith)) (order k m);
      }

-- ---- the loop

pub record Finding (w l₀ l : List ℕ) (m found : ℕ) : Type 0 where
  pub size : length l ≡ length l₀
  pub count : found ≡ dial_count (first_constraints w m)
  pub dialled : Dialled (take found l) w m

pub finding_starts : (w l : List ℕ) → Finding w l l 0 0
finding_starts w l = record {
  size = refl;
  count = refl;
  dialled = record { dial = λ d b. absurd (omega arith); rising = λ d e b c. absurd (omega arith); all = λ k b c. absurd (omega arith) };
}

module _ {w l₀ l : List ℕ} {n m found : ℕ} (s : Limited w n) (room : most_dials ≤ length l₀) (f : Finding w l₀ l m found) where
  pub finding_ends : n ≡ m → DialsFound w n l₀ l found
  finding_ends z =
      let a = dials_few s.policy (first_constraints w n) s.few in
      let c = ap (λ (k : ℕ). dial_count (first_constraints w k)) z in
      record { size = f.size; within = omega (arith, f.count); dialled = rw z f.dialled }

  module _ {lo hi : ℕ} (less : m < n) (el : lo ≡ (constraint_at w m).lo) (eh : hi ≡ (constraint_at w m).hi) where
    pub finding_other : hi ≤ lo → Finding w l₀ l (m + 1) found
    finding_other h =
        let z = le-ltb (constraint_at w m).lo (constraint_at w m).hi (omega arith) in
        let y : dial_count (constraint_at w m ∷ []) ≡ 0 = rw z in
        record { size = f.size; count = omega (arith, f.count, dials_next w m); dialled = dialled_still w (take found l) m f.dialled (omega arith) }

    module _ (h : lo < hi) where
      one : dial_count (constraint_at w m ∷ []) ≡ 1
      one = let z = lt-ltb (constraint_at w m).lo (constraint_at w m).hi (omega arith) in rw z

      pub finding_room : found < most_dials
      finding_room =
          let a = dials_few s.policy (first_constraints w n) s.few in
          let b = dials_most w (m + 1) n (omega arith) in
          omega (arith, f.count, dials_next w m, one)

      pub finding_more : Finding w l₀ (set l found m) (m + 1) (found + 1)
      finding_more =
          let r = finding_room in
          let long : found < length l = omega (arith, f.size) in
          record {
            size = length-set l found m ∙ f.size;
            count = omega (arith, f.count, dials_next w m, one);
            dialled = subst (λ (k : List ℕ). Dialled k w (m + 1)) (sym (ap (λ (i : ℕ). take i (set l found m)) (add-one found) ∙ take-suc-set l found m long))
                (dialled_more w (take found l) m f.dialled (omega arith));
          }
