-- Laws of values: one fact joins the row of its key, all of them tell who has a value that a record asks for, and batch after batch.
use Prim.Native.Nat.{◌*◌, ◌+◌, ◌<◌, ◌≤◌, ℕ}
use mathlib.Core.Bool.{Bool, ◌&&◌, ◌||◌, and-false, false, or_assoc, or-false, true}
use mathlib.Core.List.{List, []}
use mathlib.Core.Logic.{◌⊎◌, inl, inr}
use mathlib.Core.Path.{◌∙◌, ◌≡◌, ap, refl, sym}
use lib.Dec.{eqb, ltb}
use lib.ListN.{get_or}
use native.Mathlib.Omega.{arith}
use borrow.Author.Tests.{le-leb, le-ltb, lt-ltb}
use Rattle.frames.proofs.Frames.{only_none, only_then}
use Rattle.keys.proofs.Order.{key_within}
use Rattle.keys.specs.Keys.{Ranked, key_of, value_count}
use Rattle.meaning.specs.Limits.{most_individuals}
use Rattle.meaning.specs.Lists.{any}
use Rattle.meaning.specs.Model.{fact_at, fact_kind, fact_name, fact_other, fact_owner, facts_of}
use Rattle.meaning.specs.Policy.{hi_of, kind_of, lo_of, name_of}
use Rattle.meaning.specs.Records.{Name}
use Rattle.model.specs.Chain.{Readable}
use Rattle.satisfaction.proofs.Facts.{by_kind}
use Rattle.satisfaction.specs.Classes.{owner_of}
use Rattle.satisfaction.specs.Places.{record_words, records_of, set_place}
use Rattle.spans.proofs.Joining.{any_stated, handed_none, joined_handed, never, owner_few}
use Rattle.spans.proofs.Tables.{among_none, among_out, tabled}
use Rattle.spans.specs.Cuts.{AllCut, Tabled, is_among, row_of, row_place, spans_among}
use Rattle.spans.specs.Joining.{AllHanded, Joinable, Joined}
use Rattle.spans.specs.Values.{ValueMarkable, ValueMarked, ValuesMarked, shows, value_within, valued}
use Rattle.theory.proofs.Rules.{order}
use Rattle.words.specs.Sets.{in_set}

-- ---- one fact

module _ {m w c e : List ℕ} {n f : ℕ} (v : ValueMarkable m w c e n f) where
  module _ {kind : ℕ} (ek : kind ≡ fact_kind m f) where
    pub value_none : (kind ≡ 3 → ⊥) → ValueMarked e c n (fact_at m f) w w
    value_none h = record {
      hands = λ test t. handed_none w (λ i k q. by_kind v.stated (λ x. shows test i k x ≡ false) (λ _. refl) (λ _. refl) (λ z. absurd (h (ek ∙ z))));
    }

    -- r is the place of its key x among the cuts
    module _ {a b x r : ℕ} (e3 : kind ≡ 3) (ea : a ≡ fact_name m f) (eb : b ≡ fact_other m f) (ex : x ≡ key_of a b) (rk : Ranked e n x r) where
      shown : (test : ℕ → ℕ → Bool) → Tabled test e c n → (i k : ℕ) → shows test i k (fact_at m f) ≡ eqb i (fact_owner m f) && (ltb r n && in_set (row_of c r) k)
      shown test t i k =
          by_kind v.stated (λ y. shows test i k y ≡ eqb i (fact_owner m f) && (ltb r n && in_set (row_of c r) k)) (λ z. absurd (omega arith)) (λ z. absurd (omega arith))
          (λ _. rw (t.tells x r k rk, ex, ea, eb))

      pub value_past : n ≤ r → ValueMarked e c n (fact_at m f) w w
      value_past h = record { hands = λ test t. handed_none w (λ i k q. shown test t i k ∙ rw (le-ltb r n h) (and-false (eqb i (fact_owner m f)))) }

      pub value_joined : {o at : ℕ} {w' : List ℕ} → r < n → o ≡ fact_owner m f → at ≡ set_place o → Joined record_words at (row_place r) (row_place r) c w w' →
          ValueMarked e c n (fact_at m f) w w'
      value_joined {o} h eo ep j = record {
        hands = λ test t. joined_handed (owner_few v.stated v.readable eo) ep (λ i k q. shown test t i k ∙ rw (lt-ltb r n h, ← eo) (ap (λ (b : Bool). eqb i o && b) (twice (in_set (row_of c r) k)))) j;
      }
        where
          twice : (b : Bool) → true && b ≡ b && b
          twice true = refl
          twice false = refl

  pub value_joinable : {o at r : ℕ} → Name most_individuals o → at ≡ set_place o → r < n → Joinable at (row_place r) (row_place r) w c
  value_joinable x ea h =
      let l = v.long in
      let q = v.room in
      record { room = omega arith; column = omega arith; masked = omega arith }

-- ---- all facts

none_shown : {m : List ℕ} → Readable m → (test : ℕ → ℕ → Bool) (i k : ℕ) → ((key : ℕ) → test k key ≡ false) → any (shows test i k) (facts_of m) ≡ false
none_shown {m} r test i k h =
    any_stated (shows test i k) (λ x. false) r (λ f s.
    by_kind s (λ x. shows test i k x ≡ false) (λ _. refl) (λ _. refl) (λ _. rw (h (key_of (fact_name m f) (fact_other m f))) (and-false (eqb i (fact_owner m f)))))
    ∙ never (facts_of m)

module _ (p m : List ℕ) (pw : (i : ℕ) → get_or p i 0 < value_count) (mw : (i : ℕ) → get_or m i 0 < value_count) (r : Readable m) where
  values_shown : (first last i k : ℕ) → any (shows (spans_among p first last) i k) (facts_of m) ≡ is_among first last k && (eqb (kind_of p k) 4 && valued p m k i)
  values_shown first last i k = go (is_among first last k) (eqb (kind_of p k) 4) refl refl
    where
      go : (a b : Bool) → is_among first last k ≡ a → eqb (kind_of p k) 4 ≡ b → any (shows (spans_among p first last) i k) (facts_of m) ≡ a && (b && valued p m k i)
      go false b f g = none_shown r (spans_among p first last) i k (λ key. rw f)
      go true false f g = none_shown r (spans_among p first last) i k (λ key. rw (f, g))
      go true true f g =
          any_stated (shows (spans_among p first last) i k) (λ x. eqb i (owner_of x) && value_within (name_of p k) (lo_of p k) (hi_of p k) x) r (λ h s.
          by_kind s (λ x. shows (spans_among p first last) i k x ≡ eqb i (owner_of x) && value_within (name_of p k) (lo_of p k) (hi_of p k) x)
          (λ _. sym (and-false (eqb i (fact_owner m h)))) (λ _. sym (and-false (eqb i (fact_owner m h))))
          (λ _. rw (f, g) (ap (λ (b : Bool). eqb i (fact_owner m h) && b)
          (key_within (name_of p k) (lo_of p k) (hi_of p k) (fact_name m h) (fact_other m h) (pw (6 * k + 2)) (pw (6 * k + 3)) (mw (5 * h + 3))))))

  pub values_marked : {first last : ℕ} {w w' : List ℕ} → AllHanded (shows (spans_among p first last)) m w w' → ValuesMarked p m first last w w'
  values_marked {first} {last} {w} t = record { only = t.only; bits = λ i k a b. t.bits i k a b ∙ rw (values_shown first last i k) }

  -- no cut, no such record
  pub values_none : {first last n : ℕ} {w e : List ℕ} → AllCut p first last e n → n ≡ 0 → ValuesMarked p m first last w w
  values_none {first} {last} {w = w} {e} a z = record { only = only_none; bits = λ i k _ _. rw (none i k) (sym (or-false (in_set (records_of w i) k))) }
    where
      first_place : {key : ℕ} → Ranked e 0 key 0
      first_place = record { within = omega arith; before = λ j h. absurd (omega arith); at = λ h. absurd (omega arith) }

      table : Tabled (spans_among p first last) e [] 0
      table = tabled (omega arith) (rw z at a) (record { rows = λ r k h. absurd (omega arith) })

      none : (i k : ℕ) → is_among first last k && (eqb (kind_of p k) 4 && valued p m k i) ≡ false
      none i k = sym (values_shown first last i k) ∙ none_shown r (spans_among p first last) i k (λ key. sym (table.tells key 0 k first_place))

-- ---- batch after batch

pub batches_start : (p m w : List ℕ) → ValuesMarked p m 0 0 w w
batches_start p m w = record { only = only_none; bits = λ i k _ _. rw (among_none 0 0 k (omega arith)) (sym (or-false (in_set (records_of w i) k))) }

pub batches_on : {p m w w₁ w₂ : List ℕ} {first mid last : ℕ} → first ≤ mid → mid ≤ last → ValuesMarked p m first mid w w₁ → ValuesMarked p m mid last w₁ w₂ →
    ValuesMarked p m first last w w₂
batches_on {p} {m} {w} {first = first} {mid} {last} f g x y = record {
  only = only_then x.only y.only;
  bits = λ i k a b. y.bits i k a b ∙ rw (x.bits i k a b, or_assoc (in_set (records_of w i) k) (is_among first mid k && (eqb (kind_of p k) 4 && valued p m k i)) (is_among mid last k && (eqb (kind_of p k) 4 && valued p m k i)))
      (ap (λ (b : Bool). in_set (records_of w i) k || b) (one k (eqb (kind_of p k) 4 && valued p m k i) (order mid k)));
}
  where
    one : (k : ℕ) (v : Bool) → (mid < k) ⊎ (k ≤ mid) → (is_among first mid k && v) || (is_among mid last k && v) ≡ is_among first last k && v
    one k v (inl a) = rw (among_out first mid k a, lt-ltb mid k a, lt-ltb first k (omega arith))
    one k v (inr a) = rw (le-leb k mid a, le-ltb mid k a, le-leb k last (omega arith)) (or-false ((ltb first k && true) && v))
