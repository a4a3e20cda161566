-- Numbers of a list put into a set, those of 1 to n that a set lacks, and whether two sets share one.
use Prim.Native.Nat.{◌*◌, ◌+◌, ◌-◌, ◌<◌, ◌≤◌, suc, ℕ}
use lib.Dec.{eqb, eqb→eq}
use lib.Ieee.Bits.{is_true as is_true_lem}
use lib.ListN.{length, length-replicate, replicate}
use mathlib.Core.Bool.{Bool, ◌&&◌, ◌||◌, cond, false, not, or_assoc, or-false, or-true, true}
use mathlib.Core.List.{List, [], ◌∷◌}
use mathlib.Core.Path.{◌∙◌, ◌≡◌, ap, refl, sym}
use native.Mathlib.Omega.{arith}
use borrow.Author.Tests.{eqb-true}
use Rattle.meaning.specs.Lists.{All, any, counting, filter}
use Rattle.meaning.specs.Records.{Name, is_name}
use Rattle.theory.proofs.Counting.{counting_names, in_counting}
use Rattle.theory.proofs.Links.{bounds}
use Rattle.theory.proofs.Rules.{T_and, all_at, all_of, any_in, any_mono, any_out, eqb_of, head, is_true, same_test, tail}
use Rattle.words.proofs.Laws.{in_including, in_zeros, length_including, members_are, named_within}
use Rattle.words.proofs.Lists.{filter_from, filter_in, in_filter}
use Rattle.words.proofs.Listing.{from_end, from_more, from_start}
use Rattle.words.specs.Members.{members, members_from, next_member, others_of}
use Rattle.words.specs.Sets.{capacity, in_set, including, including_all}

-- a number that the words have a bit for
in_with : (ws : List ℕ) (c d : ℕ) → Name (capacity ws) c → in_set (including ws c) d ≡ in_set ws d || eqb d c
in_with ws c d n = in_including ws c d ∙ go (eqb d c) refl
  where
    go : (b : Bool) → eqb d c ≡ b → cond b (is_name (capacity ws) d) (in_set ws d) ≡ in_set ws d || b
    go true e =
        let same = eqb-true d c e in
        named_within (capacity ws) d (omega (arith, n.0)) (omega (arith, n.1)) ∙ sym (or-true (in_set ws d))
    go false e = sym (or-false (in_set ws d))

-- the numbers of a list, one after another
pub in_including_all : (n : ℕ) (l ws : List ℕ) → length ws ≡ n → All (Name (32 * n)) l → (d : ℕ) → in_set (including_all ws l) d ≡ in_set ws d || any (eqb d) l
unfolding including_all
in_including_all n [] ws e h d = sym (or-false (in_set ws d))
in_including_all n (c ∷ l) ws e h d =
    in_including_all n l (including ws c) (length_including ws c ∙ e) (tail h) d
    ∙ ap (λ (b : Bool). b || any (eqb d) l) (in_with ws c d (rw e (head h)))
    ∙ or_assoc (in_set ws d) (eqb d c) (any (eqb d) l)

pub length_including_all : (l ws : List ℕ) → length (including_all ws l) ≡ length ws
unfolding including_all
length_including_all [] ws = refl
length_including_all (c ∷ l) ws = length_including_all l (including ws c) ∙ length_including ws c

-- into an empty set
pub in_all : (n : ℕ) (l : List ℕ) → All (Name (32 * n)) l → (d : ℕ) → in_set (including_all (replicate n 0) l) d ≡ any (eqb d) l
in_all n l h d = in_including_all n l (replicate n 0) (length-replicate n 0) h d ∙ rw (in_zeros n d)

-- ---- a loop over the members that looks for one in another set has come to x

pub record Meeting (words others : List ℕ) (x : ℕ) : Type 0 where
  pub same : any (in_set others) (members words) ≡ any (in_set others) (members_from words x)

pub meeting_starts : {words others : List ℕ} {x : ℕ} → x ≡ next_member words 0 → Meeting words others x
meeting_starts {words} {others} e = record { same = ap (any (in_set others)) (sym (ap (members_from words) e ∙ from_start words)) }

module _ {words others : List ℕ} {x : ℕ} (m : Meeting words others x) where
  pub meeting_ends : x ≡ 0 → false ≡ any (in_set others) (members words)
  meeting_ends z = sym (m.same ∙ ap (any (in_set others)) (from_end words x z))

  module _ (n : x ≡ 0 → ⊥) where
    pub meeting_found : {b : Bool} → b ≡ in_set others x → b ≡ true → true ≡ any (in_set others) (members words)
    meeting_found e t = sym (m.same ∙ ap (any (in_set others)) (from_more words x n) ∙ rw (sym e ∙ t))

    module _ {y : ℕ} (p : y ≡ next_member words x) where
      pub meeting_on : {b : Bool} → b ≡ in_set others x → b ≡ false → Meeting words others y
      meeting_on e t = record { same = m.same ∙ ap (any (in_set others)) (from_more words x n) ∙ rw (sym e ∙ t, p) }

      pub meeting_falls : length (members_from words y) < length (members_from words x)
      meeting_falls = rw (from_more words x n, p) (omega arith)

-- ---- a loop that puts the others in has come to number i

pub record Filling (named : List ℕ) (n : ℕ) (w₀ : List ℕ) (i : ℕ) (w : List ℕ) : Type 0 where
  pub within : i ≤ n + 1
  pub same : including_all w (filter (λ x. not (in_set named x)) (counting i (n + 1 - i))) ≡ including_all w₀ (others_of named n)

pub filling_starts : (named : List ℕ) (n : ℕ) (w : List ℕ) → Filling named n w 1 w
unfolding others_of
filling_starts named n w = let e : n + 1 - 1 ≡ n = omega arith in record { within = omega arith; same = rw e }

module _ {named w₀ w : List ℕ} {n i : ℕ} (f : Filling named n w₀ i w) where
  pub filling_ends : n < i → w ≡ including_all w₀ (others_of named n)
  unfolding including_all
  filling_ends h = let e : n + 1 - i ≡ 0 = omega arith in rw e at f.same

  module _ (h : i ≤ n) {t : Bool} (e : t ≡ in_set named i) where
    rest : List ℕ
    rest = filter (λ x. not (in_set named x)) (counting (i + 1) (n + 1 - (i + 1)))

    next : including_all w (cond (not t) (i ∷ rest) rest) ≡ including_all w₀ (others_of named n)
    unfolding rest
    next =
        let z : n + 1 - i ≡ suc (n + 1 - (i + 1)) = omega arith in
        let y : i + 1 ≡ suc i = omega arith in
        rw (e, y) (rw (z, y) at f.same)

    pub filling_has : t ≡ true → Filling named n w₀ (i + 1) w
    unfolding rest
    filling_has g = record { within = omega arith; same = rw g at next }

    pub filling_more : t ≡ false → {x : List ℕ} → x ≡ including w i → Filling named n w₀ (i + 1) x
    unfolding rest including_all
    filling_more g p = record { within = omega arith; same = rw p (rw g at next) }

-- ---- the others, put into an empty set

module _ (k n : ℕ) (few : n ≤ 32 * k) (named : List ℕ) where
  others_names : All (Name (32 * k)) (others_of named n)
  unfolding others_of
  others_names = all_of _ (λ x m. let h = all_at (counting_names n) (filter_from _ x (counting 1 n) m) in (h.0, omega arith))

  in_others_of : (d : ℕ) → any (eqb d) (others_of named n) ≡ is_name n d && not (in_set named d)
  unfolding others_of
  in_others_of d =
      same_test (any (eqb d) (others_of named n)) (is_name n d && not (in_set named d))
      (λ t.
      let m = any_mono (λ x e. eqb→eq d x e) (any_out (eqb d) (others_of named n) t) in
      let h = all_at (counting_names n) (filter_from _ d (counting 1 n) m) in
      is_true {b = is_name n d && not (in_set named d)} (rw (filter_in _ d (counting 1 n) m) (simp bounds (h, refl))))
      (λ t.
      let u = T_and (is_name n d) (not (in_set named d)) t in
      let e = is_true_lem (is_name n d) u.0 in
      let h = simp bounds at e in
      any_in (eqb d) (any_mono (λ x e. eqb_of d x e) (in_filter _ d (counting 1 n) (is_true_lem (not (in_set named d)) u.1) (in_counting 1 n d h.0 (omega arith)))))

  pub in_others : (d : ℕ) → in_set (including_all (replicate k 0) (others_of named n)) d ≡ is_name n d && not (in_set named d)
  in_others d = in_all k (others_of named n) others_names d ∙ in_others_of d

  pub others_members : members (including_all (replicate k 0) (others_of named n)) ≡ others_of named n
  unfolding others_of
  others_members =
      members_are (including_all (replicate k 0) (others_of named n)) (λ x. not (in_set named x)) n
      (rw (length_including_all (others_of named n) (replicate k 0), length-replicate {A = ℕ} k 0) few) in_others
