-- The index: what enters it, the rows that are raised by it, and `close`. Assumes nothing.
use Prim.Native.Nat.{◌*◌, ◌+◌, ◌-◌, ◌<◌, ◌^◌, ◌≤◌, suc, zero, ℕ}
use lib.ListN.{get_or, length, replicate, set}
use mathlib.Core.Bool.{Bool, false, true}
use mathlib.Core.List.{List, [], ◌∷◌, foldl}
use mathlib.Core.Logic.{inl, inr}
use mathlib.Core.Path.{◌∙◌, ◌≡◌, ap, refl, subst, sym}
use native.Mathlib.Omega.{arith}
use Rattle.closure.proofs.Passes.{Held, held_closed, held_lifted, held_on, held_starts}
use Rattle.closure.proofs.Steps.{lifted_length}
use Rattle.closure.specs.Index.{Entry, Heads, Met, Nexts, Raisable, Raised, Rises, raised_more, raised_none, records}
use Rattle.closure.specs.Rows.{Closed, Grown, begun, lifted}
use Rattle.frames.proofs.Frames.{only_none, only_then}
use Rattle.meaning.specs.Limits.{most_classes}
use Rattle.meaning.specs.Lists.{All, ◌∈◌, here, there}
use Rattle.meaning.specs.Records.{Name, Onward, falling, last_of}
use Rattle.meaning.specs.Vocabulary.{Axiom, axiom_at, axiom_fits, axiom_kind, axiom_left, axiom_next, axiom_right, class_count, first_axiom}
use Rattle.meaning.specs.Vocabulary.{vocabulary_of, vocabulary_refusal}
use Rattle.records.proofs.Chains.{Walking, walking_falls, walking_found, walking_named, walking_on, walking_onward, walking_sound}
use Rattle.records.proofs.Chains.{walking_starts}
use Rattle.theory.proofs.Rules.{all_at, head}
use Rattle.theory.proofs.Stated.{subclass_at, subclass_named}
use Rattle.theory.proofs.Wellformed.{accepted_axioms, accepted_counts, accepted_size, axiom_named}
use Rattle.vocabulary.proofs.Chain.{axiom_links, axioms_along}
use Rattle.words.proofs.Growth.{sum_most}
use Rattle.words.proofs.Laws.{zeros_at}
use Rattle.words.specs.Rows.{class_words}
use Rattle.words.specs.Sets.{word_sum}

-- ---- entries

-- what is true of each word of a list, after one is set
set_all : (P : ℕ → ℕ → Type 0) (l : List ℕ) (i x : ℕ) → ((j : ℕ) → P j (get_or l j 0)) → P i x → (j : ℕ) → P j (get_or (set l i x) j 0)
set_all P [] i x all new j = all j
set_all P (y ∷ l) zero x all new zero = new
set_all P (y ∷ l) zero x all new (suc j) = all (suc j)
set_all P (y ∷ l) (suc i) x all new zero = all zero
set_all P (y ∷ l) (suc i) x all new (suc j) = set_all (λ n. P (suc n)) l i x (λ n. all (suc n)) new j

-- the two names of a record that says that a class is below another
rising_named : (v : List ℕ) (k : ℕ) → axiom_kind v k ≡ 1 → axiom_fits v k ≡ true →
    Name (class_count v) (axiom_left v k) × Name (class_count v) (axiom_right v k)
rising_named v k e f =
    head (subst (All _) (subclass_at v k e) (subclass_named v (axiom_at v k) (axiom_named v k f)))

module _ (v : List ℕ) where
  pub heads_none : (n b : ℕ) → Heads v (replicate n 0) b
  heads_none n b = record { at = λ a z. absurd (z (zeros_at n a)) }

  pub nexts_none : (n : ℕ) → Nexts v (replicate n 0)
  nexts_none n = record { at = λ k z. absurd (z (zeros_at n k)) }

  later : {h : List ℕ} {b b' : ℕ} → b ≤ b' → Heads v h b → Heads v h b'
  later l e = record { at = λ a z. let x = e.at a z in (omega (arith, x.0), x.1) }

  -- `enter`
  module _ (h n : List ℕ) (k : ℕ) (pre : (class_count v ≤ most_classes) × Met v k × Heads v h k × Nexts v n) where
    same : Heads v h (k + 1)
    same = later (omega arith) pre.2

    pub enter_below : (a : ℕ) {m : ℕ} → axiom_kind v k ≡ 1 → m ≡ k → Heads v (set h a k) (k + 1) × Nexts v (set n m (get_or h a 0))
    enter_below a o q =
        let new : Rises v k = record { met = pre.1; kind = o } in
        rw q (
          record { at = set_all (λ i x. Entry v (k + 1) x) h a k same.at (λ z. (omega arith, new)) },
          record { at = set_all (λ i x. Entry v i x) n k (get_or h a 0) pre.3.at (pre.2.at a) },
        )

-- ---- the walk that fills the index

-- what is met when the walk is at record k is before this: 0 is after the last
abbrev before : ℕ → ℕ
before zero = records
before (suc j) = suc j

-- the walk is at record k, and what the index has so far
pub record Indexing (v h n : List ℕ) (k : ℕ) : Type 0 where
  pub walk : Walking (axiom_links v) (λ l. (x : Axiom) → x ∈ l → x ∈ (vocabulary_of v).axioms) k
  pub heads : Heads v h (before k)
  pub nexts : Nexts v n

module _ (v : List ℕ) (r : vocabulary_refusal v ≡ 0) where
  pub indexing_starts : {h n : List ℕ} {k : ℕ} → Heads v h 0 → Nexts v n → k ≡ first_axiom v → Indexing v h n k
  indexing_starts p q e = record { walk = walking_starts (axioms_along v r) e (λ x m. m); heads = later v (omega arith) p; nexts = q }

  module _ {h n : List ℕ} {k : ℕ} (w : Indexing v h n k) where
    pub indexing_ends : k ≡ 0 → Heads v h records × Nexts v n
    indexing_ends z = (subst (λ (i : ℕ). Heads v h (before i)) z w.heads, w.nexts)

    module _ (z : k ≡ 0 → ⊥) where
      at_record : (j : ℕ) → (j ≡ 0 → ⊥) → before j ≡ j
      at_record zero y = absurd (y refl)
      at_record (suc j) y = refl

      pub indexing_met : (class_count v ≤ most_classes) × Met v k × Heads v h k × Nexts v n
      unfolding axiom_links
      indexing_met =
          let i = walking_named w.walk z in (
            (accepted_counts v r).0.1,
            record { within = (i.0, omega (arith, i.1, (accepted_size v r).2)); fits = walking_sound w.walk z; stated = walking_found w.walk z (λ l m. m (axiom_at v k) (here refl)) },
            rw (at_record k z) at w.heads,
            w.nexts,
          )

      module _ {x : ℕ} (p : x ≡ axiom_next v k) where
        pub indexing_falls : falling (last_of 4 v) x < falling (last_of 4 v) k
        unfolding axiom_links
        indexing_falls = walking_falls w.walk z p

        pub indexing_on : {h' n' : List ℕ} → Heads v h' (k + 1) × Nexts v n' → Indexing v h' n' x
        unfolding axiom_links
        indexing_on e =
            let on = further x (walking_named w.walk z) (rw p (walking_onward w.walk z)) in
            record { walk = walking_on w.walk z p (λ l m y t. m y (there t)); heads = later v on e.0; nexts = e.1 }
          where
            further : (y : ℕ) → Name (last_of 4 v) k → Onward (last_of 4 v) k y → k + 1 ≤ before y
            further zero i o = omega (arith, i.1, (accepted_size v r).2)
            further (suc y) i (inl q) = absurd (omega arith)
            further (suc y) i (inr q) = omega (arith, q.0)

-- ---- rows that are raised

module _ {v w : List ℕ} where
  pub raised_then : {u t : List ℕ} → Raised v w u → Raised v u t → Raised v w t
  raised_then a (raised_none e) = rw e a
  raised_then a (raised_more b m e) = raised_more (raised_then a b) m e

  pub raised_length : vocabulary_refusal v ≡ 0 → class_count v * class_words ≤ length w → {t : List ℕ} → Raised v w t → length t ≡ length w
  raised_length r f (raised_none e) = ap length e
  raised_length r f (raised_more {u = u} {x = x} b m e) =
      let l = raised_length r f b in
      ap length e ∙ (lifted_length v u x (all_at (accepted_axioms v r) m) (omega arith) ∙ l)

  pub raised_held : vocabulary_refusal v ≡ 0 → {w₀ t : List ℕ} → class_count v * class_words ≤ length w₀ → Held v w₀ w → Raised v w t →
      Held v w₀ t
  raised_held r f h (raised_none e) = rw e h
  raised_held r {w₀ = w₀} f h (raised_more {x = x} b m e) =
      rw e (held_lifted v w₀ f r (raised_held r f h b) x m)

-- ---- `raise`

-- a head that is taken leaves a smaller sum
taken : (h : List ℕ) (i : ℕ) → word_sum (set h i 0) + get_or h i 0 ≡ word_sum h
unfolding word_sum
taken [] i = refl
taken (x ∷ h) zero = omega arith
taken (x ∷ h) (suc i) = omega (arith, taken h i)

-- from the rows w₀ and the heads h₀, of which k₀ is taken: record k is next
pub record Raising (v w₀ h₀ : List ℕ) (k₀ : ℕ) (w h : List ℕ) (k : ℕ) : Type 0 where
  pub raised : Raised v w₀ w
  pub heads : Heads v h records
  pub fewer : word_sum h ≤ word_sum h₀
  pub entry : Entry v records k
  pub lower : k ≤ k₀

module _ (v w₀ h₀ n : List ℕ) {c : ℕ} (i : ℕ) (p : Raisable v w₀ h₀ n c) where
  pub raising_starts : Raising v w₀ (set h₀ i 0) (get_or h₀ i 0) w₀ (set h₀ i 0) (get_or h₀ i 0)
  raising_starts = record {
    raised = raised_none refl;
    heads = record { at = set_all (λ j x. Entry v records x) h₀ i 0 p.heads.at (λ z. absurd (z refl)) };
    fewer = omega arith;
    entry = p.heads.at i;
    lower = omega arith;
  }

  module _ {w h : List ℕ} {k : ℕ} (l : Raising v w₀ (set h₀ i 0) (get_or h₀ i 0) w h k) where
    pub raising_length : length w ≡ length w₀
    raising_length = raised_length p.accepted p.room l.raised

    pub raising_ends : Raised v w₀ w × (Heads v h records × (word_sum h ≤ word_sum h₀))
    raising_ends = (l.raised, (l.heads, omega (arith, l.fewer, taken h₀ i)))

    module _ (z : k ≡ 0 → ⊥) where
      rises : Rises v k
      rises = (l.entry z).1

      pub raising_within : k < records
      raising_within = (l.entry z).0

      -- the call for the class above
      pub raising_falls : word_sum h < word_sum h₀
      raising_falls = omega (arith, l.fewer, l.lower, taken h₀ i)

      pub raising_call : {b : ℕ} → b ≡ axiom_right v k → Raisable v w h n b
      raising_call e = record {
        accepted = p.accepted;
        room = omega (arith, p.room, raising_length);
        class = omega (arith, (rising_named v k rises.kind rises.met.fits).1.1, (accepted_counts v p.accepted).0.1);
        heads = l.heads;
        nexts = p.nexts;
      }

      -- the record's own step, after the call
      pub raising_fits : {u : List ℕ} → Raised v w u → (axiom_fits v k ≡ true) × (class_count v * class_words ≤ length u)
      raising_fits a = (rises.met.fits, omega (arith, p.room, raised_length p.accepted p.room (raised_then l.raised a)))

      -- the next record
      pub raising_less : {m : ℕ} → m ≡ k → get_or n m 0 < k
      raising_less e = rw e (go (get_or n k 0) refl)
        where
          go : (x : ℕ) → get_or n k 0 ≡ x → get_or n k 0 < k
          go zero y = omega (arith, z)
          go (suc x) y = (p.nexts.at k (λ t. omega arith)).0

      pub raising_on : {u t h' : List ℕ} {m : ℕ} → Raised v w u → Heads v h' records × (word_sum h' ≤ word_sum h) →
          t ≡ lifted u (axiom_at v k) → m ≡ k → Raising v w₀ (set h₀ i 0) (get_or h₀ i 0) t h' (get_or n m 0)
      raising_on {m = m} a b e s = record {
        raised = raised_more (raised_then l.raised a) rises.met.stated e;
        heads = b.0;
        fewer = omega (arith, l.fewer, b.1);
        entry = λ y. let x = p.nexts.at m y in (omega (arith, x.0, raising_within), x.1);
        lower = omega (arith, l.lower, raising_less s);
      }

-- ---- `close`

-- what may still grow
abbrev pub slack : ℕ → List ℕ → ℕ
slack n w = n * 2 ^ 32 - word_sum w

-- from w₀, with the rows begun in x and raised in u
module _ (v w₀ x : List ℕ) {n : ℕ} (r : vocabulary_refusal v ≡ 0) (f : class_count v * class_words ≤ length w₀) (e : n ≡ class_count v)
    (b : x ≡ begun n w₀) where
  starts : Held v w₀ x
  starts = held_starts v w₀ f r (b ∙ ap (λ (i : ℕ). begun i w₀) e)

  pub close_begun : class_count v * class_words ≤ length x
  close_begun = omega (arith, starts.only.size)

  module _ {u : List ℕ} (a : Raised v x u) where
    begins : Held v w₀ u
    begins = raised_held r f starts a

    pub close_starts : Held v u u
    close_starts = record { only = only_none; sound = begins.sound; self = begins.self }

    module _ {w : List ℕ} (h : Held v u w) where
      pub close_fits : class_count v * class_words ≤ length w
      close_fits = omega (arith, h.only.size, begins.only.size)

      -- a pass from w to t
      module _ {t : List ℕ} (p : t ≡ foldl lifted w (vocabulary_of v).axioms) where
        pub close_on : Held v u t
        close_on = held_on v u (omega (arith, begins.only.size)) r h p

        pub close_length : length t ≡ length w₀
        close_length = close_on.only.size ∙ begins.only.size

        module _ {d : Bool} (g : Grown d w t) where
          pub close_less : d ≡ true → ((k : ℕ) → get_or t k 0 < 2 ^ 32) → slack (length u) t < slack (length u) w
          close_less z m =
              let more : Grown true w t = subst (λ (b : Bool). Grown b w t) z g in
              let most = sum_most t (2 ^ 32) m in
              let size = ap (λ (i : ℕ). i * 2 ^ 32) close_on.only.size in
              omega arith

          pub close_ends : d ≡ false → Closed v w₀ t
          close_ends z =
              let still : Grown false w t = subst (λ (b : Bool). Grown b w t) z g in
              let last = held_closed v u (omega (arith, begins.only.size)) r h (sym p ∙ still) in
              rw still (record { only = only_then begins.only last.only; closed = last.closed })
