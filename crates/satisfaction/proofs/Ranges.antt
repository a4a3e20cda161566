-- Laws of the classes that the targets of a role's edges have in common: every class at first, and for each edge those of its target.
use Prim.Native.Nat.{◌%◌, ◌*◌, ◌+◌, ◌-◌, ◌/◌, ◌<◌, ◌^◌, ◌≤◌, suc, zero, ℕ}
use mathlib.Core.Bool.{Bool, ◌&&◌, and_assoc, and-true, false, not, true, true≢false}
use mathlib.Core.List.{List, [], ◌++◌, ◌∷◌}
use mathlib.Core.Logic.{⊎_elim}
use mathlib.Core.Path.{◌∙◌, ◌≡◌, ap, refl, sym}
use lib.Bits.{and_mod, and_shr, bit_and}
use lib.Dec.{eqb}
use lib.ListN.{drop, get_or, length, replicate, set, take}
use lib.Pow.{pow_pos}
use lib.Seq.{drop-drop, get_or-set_other, get_or-set_same}
use native.Mathlib.Nat.{mod-lt, pow-suc, zero-lt-suc}
use native.Mathlib.Omega.{arith}
use borrow.Author.Tests.{eqb-false, eqb-true, not-false, not-true}
use Rattle.std.specs.Prelude.{Option}
use Rattle.frames.proofs.Frames.{only_none, only_put, only_set, only_span, only_then, row_before, row_behind, row_word}
use Rattle.frames.proofs.Rows.{length_row, put_row}
use Rattle.std.proofs.lemmas.List.{get_or-replicate, length-replicate}
use Rattle.frames.specs.Frames.{Only, Span}
use Rattle.frames.specs.Rows.{put_at, row_at}
use Rattle.meaning.specs.Limits.{most_classes, most_individuals, most_roles, work_size}
use Rattle.meaning.specs.Lists.{all}
use Rattle.meaning.specs.Model.{Fact, fact_at, fact_kind, fact_name, fact_other, facts_of}
use Rattle.meaning.specs.ModelCheck.{obeys}
use Rattle.meaning.specs.Records.{Name, is_name}
use Rattle.meaning.specs.Vocabulary.{range}
use Rattle.model.specs.Chain.{Stated}
use Rattle.satisfaction.proofs.Classes.{interpreted_kept}
use Rattle.satisfaction.proofs.Facts.{other_role, ranged_into, unranged}
use Rattle.satisfaction.specs.Classes.{Interpreted, is_ranged}
use Rattle.satisfaction.specs.Places.{class_place, range_place, range_words, ranges_at, ranges_end, ranges_of}
use Rattle.satisfaction.specs.Ranges.{Intersected, Narrowed, Opened, Ranged, RangedIf, RangesMade}
use Rattle.theory.proofs.Links.{tests}
use Rattle.theory.proofs.Rules.{order}
use Rattle.vocabulary.specs.Axioms.{is_of}
use Rattle.vocabulary.specs.declared.Axiom.{Axiom}
use Rattle.words.proofs.Bits.{bit_suc, bit_zero}
use Rattle.words.proofs.Laws.{named_within}
use Rattle.words.specs.Rows.{class_words}
use Rattle.words.specs.Sets.{in_set, test_bit}

-- ---- bits

ones_bit : (d k : ℕ) → k < d → test_bit (2 ^ d - 1) k ≡ true
ones_bit zero k h = absurd (omega arith)
ones_bit (suc d) zero h =
    let p = pow-suc 2 d in
    let q = pow_pos d in
    let odd : (2 ^ suc d - 1) % 2 ≡ 1 = omega arith in bit_zero (2 ^ suc d - 1) ∙ rw odd
ones_bit (suc d) (suc k) h =
    let p = pow-suc 2 d in
    let q = pow_pos d in
    let half : (2 ^ suc d - 1) / 2 ≡ 2 ^ d - 1 = omega arith in
    bit_suc (2 ^ suc d - 1) k ∙ ap (λ (x : ℕ). test_bit x k) half ∙ ones_bit d k (omega arith)

both : (x y : ℕ) → x < 2 → y < 2 → eqb (bit_and x y) 1 ≡ eqb x 1 && eqb y 1
both zero zero p q = refl
both zero (suc zero) p q = refl
both (suc zero) zero p q = refl
both (suc zero) (suc zero) p q = refl
both zero (suc (suc y)) p q = absurd (omega arith)
both (suc zero) (suc (suc y)) p q = absurd (omega arith)
both (suc (suc x)) y p q = absurd (omega arith)

pub bit_and_lem : (a b k : ℕ) → test_bit (bit_and a b) k ≡ test_bit a k && test_bit b k
bit_and_lem a b k =
    ap (λ (x : ℕ). eqb x 1) (ap (λ (x : ℕ). x % 2) (and_shr a b k) ∙ and_mod (a / 2 ^ k) (b / 2 ^ k) 1)
    ∙ both (a / 2 ^ k % 2) (b / 2 ^ k % 2) (mod-lt (a / 2 ^ k) (zero-lt-suc 1)) (mod-lt (b / 2 ^ k) (zero-lt-suc 1))

-- a class of the set at a place, by the word that has it
in_row : (w : List ℕ) (at i : ℕ) → i / 32 < class_words → in_set (row_at class_words w at) (suc i) ≡ test_bit (get_or w (at + i / 32) 0) (i % 32)
unfolding in_set
in_row w at i h = ap (λ (x : ℕ). test_bit x (i % 32)) (row_word class_words w at (i / 32) h)

-- ---- every class

-- ys in the place of n words, each x
module _ (n at x : ℕ) (w ys : List ℕ) (fits : at + n ≤ length w) (e : ys ≡ replicate (length (row_at n w at)) x) where
  each : ys ≡ replicate n x
  each = e ∙ ap (λ (k : ℕ). replicate k x) (length_row n w at fits)

  size : length ys ≡ n
  size = ap length each ∙ length-replicate n x

  filled : take at w ++ (ys ++ drop n (drop at w)) ≡ put_at w at ys
  filled = rw (drop-drop n at w, size)

  room : at + length ys ≤ length w
  room = rw size fits

  filled_only : Only (Span at (at + n)) w (take at w ++ (ys ++ drop n (drop at w)))
  filled_only = rw filled (only_put at ys room (λ i a b. record { low = a; high = rw size at b }) only_none)

  filled_word : (i : ℕ) → i < n → get_or (take at w ++ (ys ++ drop n (drop at w))) (at + i) 0 ≡ x
  filled_word i h =
      ap (λ (l : List ℕ). get_or l (at + i) 0) filled ∙ sym (row_word (length ys) (put_at w at ys) at i (rw size h))
      ∙ ap (λ (l : List ℕ). get_or l i 0) (put_row w at ys room ∙ each) ∙ get_or-replicate n i x 0 h

pub opened_filled : {w ys : List ℕ} → work_size ≤ length w → ys ≡ replicate (length (row_at range_words w ranges_at)) 4294967295 →
    Opened range_words w (take ranges_at w ++ (ys ++ drop range_words (drop ranges_at w)))
opened_filled {w} {ys} long e =
    record { only = filled_only range_words ranges_at 4294967295 w ys (omega arith) e; words = filled_word range_words ranges_at 4294967295 w ys (omega arith) e }

opened_in : {w w' : List ℕ} → Opened range_words w w' → (r c : ℕ) → Name most_roles r → Name most_classes c → in_set (ranges_of w' r) c ≡ true
opened_in e r zero n k = absurd (omega arith)
opened_in {w' = w'} e r (suc i) n k =
    let j = (r - 1) * class_words + i / 32 in
    let same : range_place r + i / 32 ≡ ranges_at + j = omega arith in
    in_row w' (range_place r) i (omega arith) ∙ ap (λ (x : ℕ). test_bit x (i % 32)) (ap (λ (x : ℕ). get_or w' x 0) same ∙ e.words j (omega arith)) ∙ ones_bit 32 (i % 32) (omega arith)

-- ---- those that another set has too

pub intersected_none : {at from : ℕ} {w : List ℕ} → Intersected 0 at from w w
intersected_none = record { only = only_none; words = λ i h. absurd (omega arith); rest = λ i h. refl }

module _ {n at from : ℕ} {w w' : List ℕ} (apart : from + class_words ≤ at) (fits : at + class_words ≤ length w) (l : n < class_words) (e : Intersected n at from w w') where
  pub intersected_more : Intersected (n + 1) at from w (set w' (at + n) (bit_and (get_or w' (at + n) 0) (get_or w' (from + n) 0)))
  intersected_more = record {
    only = only_set (at + n) x (record { low = omega arith; high = omega arith }) e.only;
    words = λ i h. go i h (eqb i n) refl;
    rest = λ i h. get_or-set_other w' (at + n) (at + i) x 0 (λ q. omega arith) ∙ e.rest i (omega arith);
  }
    where
      x : ℕ
      x = bit_and (get_or w' (at + n) 0) (get_or w' (from + n) 0)

      from_kept : get_or w' (from + n) 0 ≡ get_or w (from + n) 0
      from_kept = e.only.others (from + n) (λ s. omega (arith, s.low))

      go : (i : ℕ) → i < n + 1 → (b : Bool) → eqb i n ≡ b → get_or (set w' (at + n) x) (at + i) 0 ≡ bit_and (get_or w (at + i) 0) (get_or w (from + i) 0)
      go i h true d = let s = e.only.size in rw (eqb-true i n d) (get_or-set_same w' (at + n) x 0 (omega arith) ∙ rw (e.rest n (omega arith), from_kept))
      go i h false d =
          let z = eqb-false i n d in
          get_or-set_other w' (at + n) (at + i) x 0 (λ q. omega arith) ∙ e.words i (omega arith)

intersected_in : {at from : ℕ} {w w' : List ℕ} → Intersected class_words at from w w' → (c : ℕ) → Name most_classes c →
    in_set (row_at class_words w' at) c ≡ in_set (row_at class_words w at) c && in_set (row_at class_words w from) c
intersected_in e zero k = absurd (omega arith)
intersected_in {at} {from} {w} {w'} e (suc i) k =
    let h : i / 32 < class_words = omega arith in
    in_row w' at i h ∙ ap (λ (x : ℕ). test_bit x (i % 32)) (e.words (i / 32) h) ∙ bit_and_lem (get_or w (at + i / 32) 0) (get_or w (from + i / 32) 0) (i % 32)
    ∙ rw (in_row w at i h, in_row w from i h)

-- ---- by one fact

-- b tells whether a is a role
pub role_named : {a : ℕ} {b : Bool} → b ≡ is_name most_roles a → not b ≡ false → Name most_roles a
role_named {b = b} h n = simp tests at (sym h ∙ not-false b n)

-- an individual's set stands in front of a role's
pub narrow_apart : {a j at from : ℕ} → Name most_roles a → at ≡ range_place a → Name most_individuals j → from ≡ class_place j → from + class_words ≤ at
narrow_apart n e t f = omega arith

pub role_room : {m w : List ℕ} {a at : ℕ} → Interpreted m w → Name most_roles a → at ≡ range_place a → at + class_words ≤ length w
role_room i n e = let l = i.long in omega arith

module _ {m w : List ℕ} {k kind : ℕ} (s : Stated m k) (ek : kind ≡ fact_kind m k) (i : Interpreted m w) where
  pub narrow_none : (kind ≡ 2 → ⊥) → Narrowed m w w (fact_at m k)
  narrow_none n = record { only = only_none; rows = λ r c p q. sym (rw (sym (unranged s ek r c n)) (and-true (in_set (ranges_of w r) c))) }

  module _ {a : ℕ} (ea : a ≡ fact_name m k) where
    pub narrow_past : {b : Bool} → b ≡ is_name most_roles a → not b ≡ true → Narrowed m w w (fact_at m k)
    narrow_past {b} h n = record {
      only = only_none;
      rows = λ r c p q. sym (rw (sym (other_role s ek r c ea (λ d. foreign r p d))) (and-true (in_set (ranges_of w r) c)));
    }
      where
        foreign : (r : ℕ) → Name most_roles r → a ≡ r → ⊥
        foreign r p d = let z : true ≡ false = sym (named_within most_roles a (omega arith) (omega arith)) ∙ sym h ∙ not-true b n in let y : ◌≡◌ {A = ℕ} 0 1 = cc in omega arith

    module _ {j at from : ℕ} (e : kind ≡ 2) (named : Name most_roles a) (ej : j ≡ fact_other m k) (ep : at ≡ range_place a) (ef : from ≡ class_place j) where
      module _ {w' : List ℕ} (x : Intersected class_words at from w w') where
        kept : Only (Span (range_place a) (range_place a + class_words)) w w'
        kept = rw ep at x.only

        pub narrow_edge : Narrowed m w w' (fact_at m k)
        narrow_edge = record { only = only_span kept (omega arith) (omega arith); rows = λ r c p q. go r c p q (eqb r a) refl }
          where
            others : (r : ℕ) → Name most_roles r → (r ≡ a → ⊥) → ranges_of w' r ≡ ranges_of w r
            others r p d = ⊎_elim (λ q. row_before kept class_words (range_place r) (omega arith)) (λ q. row_behind kept class_words (range_place r) (omega arith)) (order r a)

            go : (r c : ℕ) → Name most_roles r → Name most_classes c → (b : Bool) → eqb r a ≡ b → in_set (ranges_of w' r) c ≡ in_set (ranges_of w r) c && is_ranged (facts_of m) r c (fact_at m k)
            go r c p q true d =
                let z = eqb-true r a d in
                rw (← ranged_into s ek i e ej r c ea (sym z) refl, z, ← ep, ← ef) (intersected_in x c q)
            go r c p q false d =
                let z = eqb-false r a d in
                rw (← other_role s ek r c ea (λ y. z (sym y)), others r p z, and-true (in_set (ranges_of w r) c))

-- ---- by all of them

-- with the facts l left, the classes that a role's set has and that these leave are those that all leave
pub record Ranging (m w₀ w : List ℕ) (l : List Fact) : Type 0 where
  pub only : Only (Span ranges_at ranges_end) w₀ w
  pub left : (r c : ℕ) → Name most_roles r → Name most_classes c → in_set (ranges_of w r) c && all (is_ranged (facts_of m) r c) l ≡ obeys (facts_of m) (range r c)

-- a role's set is as good as its ranges
pub range_told : {m w : List ℕ} {r c : ℕ} {t : Bool} → Ranged m w → Name most_roles r → Name most_classes c → t ≡ in_set (ranges_of w r) c → t ≡ obeys (facts_of m) (range r c)
range_told {r = r} {c} x p q e = e ∙ x.rows r c p q

module _ {m w w' : List ℕ} where
  pub ranging_on : {w₀ : List ℕ} {x : Fact} → Narrowed m w w' x → (l : List Fact) → Ranging m w₀ w (x ∷ l) → Ranging m w₀ w' l
  ranging_on {w₀} {x} n l t = record {
    only = only_then t.only n.only;
    left = λ r c p q. rw (n.rows r c p q, and_assoc (in_set (ranges_of w r) c) (is_ranged (facts_of m) r c x) (all (is_ranged (facts_of m) r c) l)) (t.left r c p q);
  }

module _ {m w w₁ : List ℕ} (e : Opened range_words w w₁) where
  pub ranging_starts : Ranging m w₁ w₁ (facts_of m)
  ranging_starts = record { only = only_none; left = λ r c p q. rw (opened_in e r c p q) }

  module _ {w₂ : List ℕ} {l : List Fact} where
    pub ranging_interpreted : Ranging m w₁ w₂ l → Interpreted m w → Interpreted m w₂
    ranging_interpreted t i = interpreted_kept (omega arith) (only_then e.only t.only) i

  pub ranging_ends : {w₂ : List ℕ} {stated : Option Axiom} → Interpreted m w → Ranging m w₁ w₂ [] → RangesMade stated m w w₂ true
  ranging_ends {w₂} i t = record {
    state = record {
      interpreted = ranging_interpreted t i;
      ranged = λ _. record { rows = λ r c p q. sym (and-true (in_set (ranges_of w₂ r) c)) ∙ t.left r c p q };
    };
    asked = λ _. refl;
    only = only_then e.only t.only;
  }

-- there is nothing to make
module _ {m w : List ℕ} {made : Bool} {stated : Option Axiom} (p : RangedIf made m w) where
  pub ranges_there : made ≡ true → RangesMade stated m w w true
  ranges_there e = record { state = record { interpreted = p.interpreted; ranged = λ _. p.ranged e }; asked = λ _. refl; only = only_none }

  pub ranges_unasked : is_of 5 stated ≡ false → RangesMade stated m w w false
  ranges_unasked n = record {
    state = record { interpreted = p.interpreted; ranged = λ e. absurd (true≢false (sym e)) };
    asked = λ e. absurd (true≢false (sym e ∙ n));
    only = only_none;
  }
