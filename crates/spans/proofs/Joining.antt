-- Laws of joining: a row's records in an individual's set, word by word; and of a walk over the facts that hands records over.
use Prim.Native.Nat.{◌%◌, ◌+◌, ◌/◌, ◌<◌, ◌≤◌, suc, zero, ℕ}
use mathlib.Core.Bool.{Bool, ◌&&◌, ◌||◌, false, or_assoc, or-false, true}
use mathlib.Core.List.{List, [], ◌∷◌}
use mathlib.Core.Path.{◌∙◌, ◌≡◌, ap, refl, sym}
use lib.Bits.{bit_and, bit_or}
use lib.Dec.{eqb}
use lib.ListN.{get_or, length, set}
use lib.Seq.{get_or-set_other, get_or-set_same}
use native.Mathlib.Omega.{arith}
use borrow.Author.Tests.{eqb-false, eqb-true}
use Rattle.frames.proofs.Frames.{only_none, only_set, only_span, only_then, row_word}
use Rattle.frames.specs.Frames.{Only, Span}
use Rattle.frames.specs.Rows.{row_at}
use Rattle.meaning.specs.Limits.{most_individuals, most_records}
use Rattle.meaning.specs.Lists.{any}
use Rattle.meaning.specs.Model.{Fact, fact_at, fact_owner, facts_of}
use Rattle.meaning.specs.Records.{Name}
use Rattle.model.specs.Chain.{Readable, Stated, fact_links}
use Rattle.records.specs.Chains.{Along, along_end, along_more}
use Rattle.satisfaction.proofs.Ranges.{bit_and_lem}
use Rattle.satisfaction.specs.Places.{heights_at, record_words, records_of, set_place, sets_at}
use Rattle.spans.proofs.Rows.{Row, row_apart}
use Rattle.spans.specs.Joining.{AllHanded, Handed, Joined, Met}
use Rattle.words.proofs.Bits.{bit_or_lem}
use Rattle.words.specs.Sets.{in_set, test_bit}

-- ---- word by word

pub joined_none : {at from mask : ℕ} {c w : List ℕ} → Joined 0 at from mask c w w
joined_none = record { only = only_none; words = λ i h. absurd (omega arith); rest = λ i h. refl }

module _ {n at from mask : ℕ} {c w w' v : List ℕ} (fits : at + record_words ≤ length w) (l : n < record_words) (m : Met from mask c v) (e : Joined n at from mask c w w') where
  pub joined_more : Joined (n + 1) at from mask c w (set w' (at + n) (bit_or (get_or w' (at + n) 0) (get_or v n 0)))
  joined_more = record {
    only = only_set (at + n) x (record { low = omega arith; high = omega arith }) e.only;
    words = λ i h. go i h (eqb i n) refl;
    rest = λ i h. get_or-set_other w' (at + n) (at + i) x 0 (λ q. omega arith) ∙ e.rest i (omega arith);
  }
    where
      x : ℕ
      x = bit_or (get_or w' (at + n) 0) (get_or v n 0)

      go : (i : ℕ) → i < n + 1 → (b : Bool) → eqb i n ≡ b → get_or (set w' (at + n) x) (at + i) 0 ≡ bit_or (get_or w (at + i) 0) (bit_and (get_or c (from + i) 0) (get_or c (mask + i) 0))
      go i h true d = let s = e.only.size in rw (eqb-true i n d) (get_or-set_same w' (at + n) x 0 (omega arith) ∙ rw (e.rest n (omega arith), m.words n l))
      go i h false d =
          let z = eqb-false i n d in
          get_or-set_other w' (at + n) (at + i) x 0 (λ q. omega arith) ∙ e.words i (omega arith)

-- a record of the set at a place, by the word that has it
in_row : (w : List ℕ) (at i : ℕ) → i / 32 < record_words → in_set (row_at record_words w at) (suc i) ≡ test_bit (get_or w (at + i / 32) 0) (i % 32)
unfolding in_set
in_row w at i h = ap (λ (x : ℕ). test_bit x (i % 32)) (row_word record_words w at (i / 32) h)

joined_in : {at from mask : ℕ} {c w w' : List ℕ} → Joined record_words at from mask c w w' → (k : ℕ) → Name most_records k →
    in_set (row_at record_words w' at) k ≡ in_set (row_at record_words w at) k || (in_set (row_at record_words c from) k && in_set (row_at record_words c mask) k)
joined_in e zero n = absurd (omega arith)
joined_in {at} {from} {mask} {c} {w} {w'} e (suc i) n =
    let h : i / 32 < record_words = omega arith in
    let a = get_or c (from + i / 32) 0 in
    let b = get_or c (mask + i / 32) 0 in
    in_row w' at i h ∙ ap (λ (x : ℕ). test_bit x (i % 32)) (e.words (i / 32) h) ∙ bit_or_lem (get_or w (at + i / 32) 0) (bit_and a b) (i % 32)
    ∙ rw (bit_and_lem a b (i % 32), in_row w at i h, in_row c from i h, in_row c mask i h)

-- ---- into an individual's set

pub at_set : (i : ℕ) → Name most_individuals i → Row sets_at most_individuals i (set_place i)
at_set i n = record { named = n; place = refl }

pub owner_few : {m : List ℕ} {f i : ℕ} → Stated m f → Readable m → i ≡ fact_owner m f → Name most_individuals i
owner_few s r e = let o = s.owner in let i = r.individuals in omega arith

-- a fact whose individual is o hands over what is in both rows
pub joined_handed : {o at from mask : ℕ} {c w w' : List ℕ} {hands : ℕ → ℕ → Fact → Bool} {x : Fact} → Name most_individuals o → at ≡ set_place o →
    ((i k : ℕ) → Name most_records k → hands i k x ≡ eqb i o && (in_set (row_at record_words c from) k && in_set (row_at record_words c mask) k)) →
    Joined record_words at from mask c w w' → Handed hands x w w'
joined_handed {o} {at} {w = w} {w'} {hands} {x} n ea h j =
    record { only = only_span j.only (omega arith) (omega arith); bits = λ i k p q. go i k p q (eqb i o) refl }
  where
    here : Row sets_at most_individuals o at
    here = record { named = n; place = ea }

    go : (i k : ℕ) → Name most_individuals i → Name most_records k → (t : Bool) → eqb i o ≡ t → in_set (records_of w' i) k ≡ in_set (records_of w i) k || hands i k x
    go i k p q true d =
        let z = eqb-true i o d in
        rw (h i k q, d, z, ← ea) (joined_in j k q)
    go i k p q false d =
        rw (h i k q, d, or-false (in_set (records_of w i) k)) (ap (λ (y : List ℕ). in_set y k) (row_apart here (at_set i p) (eqb-false i o d) j.only))

pub handed_none : {hands : ℕ → ℕ → Fact → Bool} {x : Fact} (w : List ℕ) → ((i k : ℕ) → Name most_records k → hands i k x ≡ false) → Handed hands x w w
handed_none w h = record { only = only_none; bits = λ i k p q. sym (rw (h i k q) (or-false (in_set (records_of w i) k))) }

-- ---- a walk over the facts

pub record Handing (hands : ℕ → ℕ → Fact → Bool) (m w₀ w : List ℕ) (l : List Fact) : Type 0 where
  pub only : Only (Span sets_at heights_at) w₀ w
  pub left : (i k : ℕ) → Name most_individuals i → Name most_records k →
      in_set (records_of w i) k || any (hands i k) l ≡ in_set (records_of w₀ i) k || any (hands i k) (facts_of m)

module _ {hands : ℕ → ℕ → Fact → Bool} {m w : List ℕ} where
  pub handing_starts : Handing hands m w w (facts_of m)
  handing_starts = record { only = only_none; left = λ i k p q. refl }

  module _ {w₀ : List ℕ} where
    pub handing_ends : Handing hands m w₀ w [] → AllHanded hands m w₀ w
    handing_ends t = record { only = t.only; bits = λ i k p q. sym (or-false (in_set (records_of w i) k)) ∙ t.left i k p q }

    pub handing_on : {w' : List ℕ} {x : Fact} → Handed hands x w w' → (l : List Fact) → Handing hands m w₀ w (x ∷ l) → Handing hands m w₀ w' l
    handing_on {w'} {x} e l t = record {
      only = only_then t.only e.only;
      left = λ i k p q. rw (e.bits i k p q, or_assoc (in_set (records_of w i) k) (hands i k x) (any (hands i k) l)) (t.left i k p q);
    }

-- what some fact of the model does, by what each does that is stated
pub any_stated : {m : List ℕ} (f g : Fact → Bool) → Readable m → ((k : ℕ) → Stated m k → f (fact_at m k) ≡ g (fact_at m k)) → any f (facts_of m) ≡ any g (facts_of m)
unfolding fact_links
any_stated {m} f g r h = go r.facts
  where
    go : {k : ℕ} {F : List Fact} → Along (fact_links m) k F → any f F ≡ any g F
    go (along_end e) = refl
    go (along_more n o s l) = rw (h _ s, go l)

pub never : (F : List Fact) → any (λ x. false) F ≡ false
never [] = refl
never (x ∷ F) = never F
