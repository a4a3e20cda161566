-- The way along a chain of records, cited for every loop `k = first; while k != 0 { .. k = next(k); }`: what its invariant is, how it
-- goes on, what it has at the end, and that it ends. First for chains that were read, then for the readers themselves.
use Prim.Native.Nat.{◌<◌, suc, zero, ℕ}
use mathlib.Core.Bool.{Bool, false, true}
use mathlib.Core.List.{List}
use mathlib.Core.Path.{◌∙◌, ◌≡◌, refl, sym}
use lib.Dec.{eqb}
use native.Mathlib.Omega.{arith}
use borrow.Author.Tests.{eqb-false, eqb-true, ne_eqb}
use Rattle.meaning.specs.Records.{Enough, Name, Onward, falling, list_along, refusal_along}
use Rattle.records.specs.Chains.{Along, Links, along_end, along_more, listed}
use Rattle.theory.proofs.Links.{choose, enough_end, falls, onward_le, passed}

-- ---- a chain that was read

-- a loop has come to record k: what is left along the chain, and what holds of it
pub record Walking {S : Type 0} (c : Links S) (T : S → Type 0) (k : ℕ) : Type 0 where
  pub left : S
  pub along : Along c k left
  pub holds : T left

module _ {S : Type 0} {c : Links S} {T : S → Type 0} {k : ℕ} where
  pub walking_starts : {first : ℕ} {l : S} → Along c first l → k ≡ first → T l → Walking c T k
  walking_starts {l = l} a e h = record { left = l; along = rw e a; holds = h }

  module _ (w : Walking c T k) where
    pub walking_ends : k ≡ 0 → T c.none
    walking_ends z = go w.along w.holds
      where
        go : {l : S} → Along c k l → T l → T c.none
        go (along_end e) h = h
        go (along_more n o s a) h = absurd (omega (arith, n.0))

    -- the first of what is left
    record First : Type 0 where
      named : Name c.last k
      onward : Onward c.last k (c.next k)
      sound : c.Sound k
      after : S
      along : Along c (c.next k) after
      holds : T (c.put k after)

    module _ (n : k ≡ 0 → ⊥) where
      first : First
      first = go w.along w.holds
        where
          go : {l : S} → Along c k l → T l → First
          go (along_end e) h = absurd (n e)
          go (along_more {l = l} m o s a) h = record { named = m; onward = o; sound = s; after = l; along = a; holds = h }

      pub walking_sound : c.Sound k
      walking_sound = first.sound

      pub walking_named : Name c.last k
      walking_named = first.named

      pub walking_onward : Onward c.last k (c.next k)
      walking_onward = first.onward

      -- what this record settles, whatever follows
      pub walking_found : {B : Type 0} → ((l : S) → T (c.put k l) → B) → B
      walking_found f = f first.after first.holds

      module _ {x : ℕ} (e : x ≡ c.next k) where
        pub walking_on : {U : S → Type 0} → ((l : S) → T (c.put k l) → U l) → Walking c U x
        walking_on f = record { left = first.after; along = rw e first.along; holds = f first.after first.holds }

        pub walking_falls : falling c.last x < falling c.last k
        walking_falls = rw e (falls c.last k (c.next k) first.named first.onward)

-- a chain that the reader of such records does not refuse
module _ {A : Type 0} {last : ℕ} {next : ℕ → ℕ} (item : ℕ → A) {Sound : ℕ → Type 0} (r : ℕ) (sound : ℕ → Bool)
    (tells : (k : ℕ) → sound k ≡ true → Sound k × Onward last k (next k)) where
  abbrev links : Links (List A)
  links = listed last next item Sound

  pub read_along : (f k : ℕ) → Enough last f k → refusal_along (suc r) next sound f k ≡ 0 → Along links k (list_along next item f k)
  read_along zero k h = λ e. along_end (enough_end last k h)
  read_along (suc f) k h =
      choose (λ (n : ℕ). n ≡ 0) (Along links k) (eqb k 0) (λ z _. along_end (eqb-true k 0 z)) (λ z e.
      let n = eqb-false k 0 z in
      let u = (passed r (sound k) (refusal_along (suc r) (next) sound f (next k))).0 e in
      let t = tells k u.0 in
      let here : Name last k = (omega arith, h.0) in
      let less = falls last k (next k) here t.1 in
      along_more here t.1 t.0 (read_along f (next k) (onward_le last k (next k) t.1, omega arith) u.1))

-- ---- a chain that is being read

-- the reader has come to record k: the refusal is that of the chain from k on, for which the fuel is enough
pub record Reading (last r : ℕ) (next : ℕ → ℕ) (sound : ℕ → Bool) (all k : ℕ) : Type 0 where
  pub fuel : ℕ
  pub enough : Enough last fuel k
  pub same : all ≡ refusal_along r next sound fuel k

module _ {last r : ℕ} {next : ℕ → ℕ} {sound : ℕ → Bool} {k : ℕ} where
  pub reading_starts : {f first : ℕ} → k ≡ first → Enough last f first → Reading last r next sound (refusal_along r next sound f first) k
  reading_starts {f} e h = record { fuel = f; enough = rw e h; same = rw e }

  module _ {all : ℕ} (w : Reading last r next sound all k) where
    pub reading_ends : k ≡ 0 → 0 ≡ all
    reading_ends z = sym (w.same ∙ end w.fuel)
      where
        end : (f : ℕ) → refusal_along r next sound f k ≡ 0
        end zero = refl
        end (suc f) = rw z

    module _ (n : k ≡ 0 → ⊥) where
      pub reading_stops : sound k ≡ false → r ≡ all
      reading_stops s = go w.fuel w.enough w.same
        where
          go : (f : ℕ) → Enough last f k → all ≡ refusal_along r next sound f k → r ≡ all
          go zero h e = absurd (n (enough_end last k h))
          go (suc f) h e = rw (e, ne_eqb k 0 n, s)

      module _ {x : ℕ} (s : sound k ≡ true) (o : Onward last k (next k)) (e : x ≡ next k) where
        pub reading_falls : falling last x < falling last k
        reading_falls = rw e (falls last k (next k) (omega arith, w.enough.0) o)

        pub reading_on : Reading last r next sound all x
        reading_on = go w.fuel w.enough w.same
          where
            go : (f : ℕ) → Enough last f k → all ≡ refusal_along r next sound f k → Reading last r next sound all x
            go zero h d = absurd (n (enough_end last k h))
            go (suc f) h d = record { fuel = f; enough = (rw e (onward_le last k (next k) o), omega (arith, reading_falls)); same = d ∙ rw (ne_eqb k 0 n, s, e) }
