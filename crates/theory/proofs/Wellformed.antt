-- What the tables that are not refused state: axioms and terms with names of their series, and not too many.
use Prim.Native.Nat.{◌%◌, ◌+◌, ◌≤◌, max, suc, zero, ℕ}
use mathlib.Core.Bool.{Bool, So, cond, false, true}
use mathlib.Core.List.{List, [], ◌∷◌}
use mathlib.Core.Path.{◌≡◌, ap, refl}
use lib.Dec.{eqb, eqb-suc-zero}
use lib.ListN.{length}
use native.Mathlib.Omega.{arith}
use borrow.Author.Tests.{eqb-false}
use Rattle.meaning.specs.Accepted.{Accepted, AxiomOf, ChainOf, Here, NamedChain, Reads, ReadsTerms, count, depth, reads_class}
use Rattle.meaning.specs.Accepted.{reads_end, reads_impossible, reads_interval, reads_none, reads_some, reads_term, total}
use Rattle.meaning.specs.Limits.{most_axioms, most_classes, most_features, most_policy_words, most_roles, most_vocabulary_words}
use Rattle.meaning.specs.Lists.{All, any, cons, nil}
use Rattle.meaning.specs.Policy.{Chain, Policy, Walk, chain_from, child_of, conjunct_at, end, fault, fault_of, first_term, kind_of}
use Rattle.meaning.specs.Policy.{next_of, onward, policy_of, policy_refusal, reached, record_fits, sound_record, terms_from, walk}
use Rattle.meaning.specs.Records.{Enough, Name, is_sized, last_of}
use Rattle.meaning.specs.Vocabulary.{axiom_at, axiom_fits, axiom_kind, axiom_next, axioms_from, axioms_of, axioms_refusal, class_count}
use Rattle.meaning.specs.Vocabulary.{feature_count, first_axiom, headed_vocabulary, is_opposed, role_count, vocabulary_of, vocabulary_refusal}
use Rattle.theory.proofs.Links.{Once, choose, enough_end, falling_le, length-once-≤, once_more, once_none, passed, split, tests}
use Rattle.theory.proofs.Refusals.{or_else_zero}
use Rattle.theory.proofs.Terms.{chain_at, chain_is, child_enough, next_enough}

-- ---- the vocabulary

-- Read vocabulary refuses nothing: 1, 2, 3 and 44 in order
pub record SoundVocabulary (v : List ℕ) : Type 0 where
  pub sized : is_sized 4 most_vocabulary_words (length v) ≡ true
  pub headed : headed_vocabulary v ≡ true
  pub chain : axioms_refusal (length v) v (first_axiom v) ≡ 0
  pub apart : is_opposed (axioms_of v) ≡ false

pub vocabulary_sound : (v : List ℕ) → vocabulary_refusal v ≡ 0 → SoundVocabulary v
unfolding vocabulary_refusal
vocabulary_sound v h =
    let u = simp (passed 0, passed 1) at h in
    let a = or_else_zero (axioms_refusal (length v) v (first_axiom v)) _ u.1.1 in
    record { sized = u.0; headed = u.1.0; chain = a.0; apart = unopposed (is_opposed (axioms_of v)) a.1 }
  where
    unopposed : (b : Bool) → ◌≡◌ {A = ℕ} (cond b 44 0) 0 → b ≡ false
    unopposed true e = absurd (omega arith)
    unopposed false e = refl

pub sound_vocabulary : (v : List ℕ) → SoundVocabulary v → vocabulary_refusal v ≡ 0
unfolding vocabulary_refusal
sound_vocabulary v s = rw (s.sized, s.headed, s.chain, s.apart)

module _ (v : List ℕ) where
  pub axiom_named : (k : ℕ) → axiom_fits v k ≡ true → AxiomOf v (axiom_at v k)
  axiom_named k =
      choose So (AxiomOf v) (eqb (axiom_kind v k) 1) (λ _ h. simp tests at h) (λ _.
      choose So (AxiomOf v) (eqb (axiom_kind v k) 2) (λ _ h. simp tests at h) (λ _.
      choose So (AxiomOf v) (eqb (axiom_kind v k) 3) (λ _ h. let u = simp tests at h in u.0) (λ _.
      choose So (AxiomOf v) (eqb (axiom_kind v k) 4) (λ _ h. let u = simp tests at h in u.0) (λ _.
      choose So (AxiomOf v) (eqb (axiom_kind v k) 5) (λ _ h. simp tests at h) (λ _.
      choose So (AxiomOf v) (eqb (axiom_kind v k) 6) (λ _ h. let u = simp tests at h in u.0) (λ _ h. let u = simp tests at h in u.1.0))))))

  pub axioms_named : (f k : ℕ) → axioms_refusal f v k ≡ 0 → All (AxiomOf v) (axioms_from f v k)
  axioms_named zero k = λ h. nil
  axioms_named (suc f) k =
      choose (λ (n : ℕ). n ≡ 0) (All (AxiomOf v)) (eqb k 0) (λ _ _. nil) (λ _ h.
      let u = simp (passed 2, tests) at h in cons (axiom_named k u.0.0) (axioms_named f (axiom_next v k) u.1))

  pub accepted_axioms : vocabulary_refusal v ≡ 0 → All (AxiomOf v) (vocabulary_of v).axioms
  unfolding vocabulary_of axioms_of
  accepted_axioms h = axioms_named (length v) (first_axiom v) (vocabulary_sound v h).chain

  pub accepted_counts : vocabulary_refusal v ≡ 0 → Name most_classes (class_count v) × (role_count v ≤ most_roles) × (feature_count v ≤ most_features)
  accepted_counts h = let u = simp tests at (vocabulary_sound v h).headed in omega arith

  -- whole records, at most 1,024 behind the header
  pub accepted_size : vocabulary_refusal v ≡ 0 → (length v % 4 ≡ 0) × (length v ≤ most_vocabulary_words) × (last_of 4 v ≤ most_axioms)
  accepted_size h = let u = simp tests at (vocabulary_sound v h).sized in (u.0, u.1.1, omega arith)

-- ---- the walk

-- a walk faults, with a number from 1, or reaches records of which A is true
pub data Walked (A : List ℕ → Type 0) : Walk → Type 0 where
  faulted : {n : ℕ} → Walked A (fault (suc n))
  arrived : {seen : List ℕ} → A seen → Walked A (reached seen)

then : {A B : List ℕ → Type 0} {w : Walk} {go : List ℕ → Walk} → Walked A w → ((seen : List ℕ) → A seen → Walked B (go seen)) → Walked B (onward w go)
then faulted on = faulted
then (arrived {seen = s} a) on = on s a

also : {A B : List ℕ → Type 0} {w : Walk} → ((seen : List ℕ) → A seen → B seen) → Walked A w → Walked B w
also f faulted = faulted
also f (arrived {seen = s} a) = arrived (f s a)

-- what a walk from record k on at depth d finds, when it starts with the records seen and ends with seen': a chain
pub record Chained (v p : List ℕ) (d k : ℕ) (seen seen' : List ℕ) (c : Chain) : Type 0 where
  pub reads : Reads p k c
  pub named : ChainOf v c
  pub shallow : depth c + d ≤ 17
  pub counted : length seen' ≡ length seen + count c
  pub once : Once (last_of 6 p) seen → Once (last_of 6 p) seen'

-- and at depth 0, in the header's chain: a policy
pub record Termed (v p : List ℕ) (k : ℕ) (seen seen' : List ℕ) (P : Policy) : Type 0 where
  pub reads : ReadsTerms p k P
  pub named : All (ChainOf v) P
  pub shallow : All (λ c. depth c ≤ 16) P
  pub counted : length seen' ≡ length seen + total P
  pub once : Once (last_of 6 p) seen → Once (last_of 6 p) seen'

-- the walk meets no fault at record k
record Visit (v p : List ℕ) (d k : ℕ) (seen : List ℕ) : Type 0 where
  pub here : Here p k
  pub fits : record_fits v p d k ≡ true
  pub new : any (eqb k) seen ≡ false
  pub shallow : d ≡ 17 → ⊥

module _ (v p : List ℕ) where
  visit : (A : List ℕ → Type 0) (f d k : ℕ) (seen : List ℕ) → k ≤ last_of 6 p → (eqb k 0 ≡ true → A seen) →
      (eqb k 0 ≡ false → Visit v p d k seen → Walked A (onward (walk f v p (suc d) (child_of p k) (k ∷ seen)) (walk f v p d (next_of p k)))) →
      Walked A (walk (suc f) v p d k seen)
  unfolding walk
  visit A f d k seen inside stop go =
      split (Walked A) (eqb k 0) (λ z. arrived (stop z)) (λ z.
      split (Walked A) (any (eqb k) seen) (λ _. faulted) (λ new.
      split (Walked A) (sound_record v p d k) (λ s. split (Walked A) (eqb d 17) (λ _. faulted) (λ m. go z (met z new s m))) (λ _. faulted)))
    where
      met : eqb k 0 ≡ false → any (eqb k) seen ≡ false → sound_record v p d k ≡ true → eqb d 17 ≡ false → Visit v p d k seen
      met z new s m =
          let n = eqb-false k 0 z in
          let u = simp tests at s in
          record { here = record { inside = omega arith; child = u.1.0; next = u.1.1 }; fits = u.0; new = new; shallow = eqb-false d 17 m }

  nothing : {d k : ℕ} {seen : List ℕ} → k ≡ 0 → d ≤ 17 → Chained v p d k seen seen end
  nothing e h = record { reads = reads_end e; named = tt; shallow = omega arith; counted = omega arith; once = λ s. s }

  conjunct : {d k : ℕ} {seen s t : List ℕ} {b c : Chain} → Visit v p (suc d) k seen →
      Chained v p (suc (suc d)) (child_of p k) (k ∷ seen) s b → Chained v p (suc d) (next_of p k) s t c → Chained v p (suc d) k seen t (conjunct_at p k b c)
  conjunct {d} {k} {seen} {s} {t} {b} {c} w inner later =
      choose So P (eqb (kind_of p k) 1)
      (λ e h. let u = simp tests at h in plain u.1.1.1 (reads_class w.here (simp tests at e) later.reads) (u.0, later.named) (omega arith) refl) (λ _.
      choose So P (eqb (kind_of p k) 2)
      (λ e h. let u = simp tests at h in plain u.1.1.1 (reads_impossible w.here (simp tests at e) later.reads) later.named (omega arith) refl) (λ _.
      choose So P (eqb (kind_of p k) 3)
      (λ e h. let u = simp tests at h in built (reads_some w.here (simp tests at e) inner.reads later.reads) (u.0, inner.named, later.named) (omega arith) refl)
      (λ _ h. let u = simp tests at h in plain u.1.1 (reads_interval w.here u.0 later.reads) (u.1.0, later.named) (omega arith) refl)))
      (rw (eqb-suc-zero d) at w.fits)
    where
      P : Chain → Type 0
      P x = Chained v p (suc d) k seen t x

      built : {x : Chain} → Reads p k x → ChainOf v x → depth x ≤ max (suc (depth b)) (depth c) → count x ≡ suc (count b + count c) → P x
      built r n h e = record {
        reads = r;
        named = n;
        shallow = let i = inner.shallow in let j = later.shallow in omega arith;
        counted = let i = inner.counted in let j = later.counted in omega arith;
        once = λ s. later.once (inner.once (once_more w.here.inside w.new s));
      }

      -- a record without a child chain
      plain : child_of p k ≡ 0 → {x : Chain} → Reads p k x → ChainOf v x → depth x ≤ max 1 (depth c) → count x ≡ suc (count c) → P x
      plain z r n h e = let i = ap count (chain_is inner.reads zero (rw z (omega arith))) in built r n (omega arith) (omega arith)

  -- the walk from a conjunct on, with fuel that is enough, faults or reads a chain
  pub walked : (f d k : ℕ) (seen : List ℕ) → Enough (last_of 6 p) f k → d ≤ 16 → Walked (λ s. Chained v p (suc d) k seen s (chain_from f p k)) (walk f v p (suc d) k seen)
  unfolding walk
  walked zero d k seen h l = arrived (nothing (enough_end (last_of 6 p) k h) (omega arith))
  walked (suc f) d k seen h l =
      visit (λ s. Chained v p (suc d) k seen s (chain_from (suc f) p k)) f (suc d) k seen h.0 (λ z. rw z (nothing (simp tests at z) (omega arith))) (λ z w.
      let o = w.shallow in
      then (walked f (suc d) (child_of p k) (k ∷ seen) (child_enough w.here h) (omega arith))
      (λ s b. also (λ t c. rw z (conjunct w b c)) (walked f d (next_of p k) s (next_enough w.here h) l)))

  no_terms_lem : {k : ℕ} {seen : List ℕ} → k ≡ 0 → Termed v p k seen seen []
  no_terms_lem e = record { reads = reads_none e; named = nil; shallow = nil; counted = omega arith; once = λ s. s }

  term : {k : ℕ} {seen s t : List ℕ} {c : Chain} {P : Policy} → Visit v p 0 k seen →
      Chained v p 1 (child_of p k) (k ∷ seen) s c → Termed v p (next_of p k) s t P → Termed v p k seen t (c ∷ P)
  term {c = c} w inner later = record {
    reads = let u = simp tests at w.fits in reads_term w.here (u.0, u.1.0) inner.reads later.reads;
    named = cons inner.named later.named;
    shallow = let i = inner.shallow in cons {x = c} (omega arith) later.shallow;
    counted = let i = inner.counted in let j = later.counted in omega arith;
    once = λ s. later.once (inner.once (once_more w.here.inside w.new s));
  }

  -- the walk from a term on
  pub terms_walked : (f k : ℕ) (seen : List ℕ) → Enough (last_of 6 p) f k → Walked (λ s. Termed v p k seen s (terms_from f p k)) (walk f v p 0 k seen)
  unfolding walk
  terms_walked zero k seen h = arrived (no_terms_lem (enough_end (last_of 6 p) k h))
  terms_walked (suc f) k seen h =
      visit (λ s. Termed v p k seen s (terms_from (suc f) p k)) f 0 k seen h.0 (λ z. rw z (no_terms_lem (simp tests at z))) (λ z w.
      then (walked f 0 (child_of p k) (k ∷ seen) (child_enough w.here h) (omega arith))
      (λ s b. also (λ t c. rw (z, chain_at b.reads) (term w b c)) (terms_walked f (next_of p k) s (next_enough w.here h))))

pub accepted : (v p : List ℕ) → policy_refusal v p ≡ 0 → Accepted v p
unfolding policy_refusal policy_of
accepted v p h =
    let u = simp (passed 3, passed 4, tests) at h in
    let enough = falling_le (last_of 6 p) (first_term p) in
    go u.0.1.1 (terms_walked v p (length p) (first_term p) [] (u.1.0.0, omega arith)) u.1.1
  where
    go : length p ≤ most_policy_words → {w : Walk} → Walked (λ s. Termed v p (first_term p) [] s (policy_of p)) w → fault_of w ≡ 0 → Accepted v p
    go l faulted e = absurd (omega arith)
    go l (arrived a) e = record {
      reads = a.reads;
      named = a.named;
      shallow = a.shallow;
      few = let c = a.counted in omega (arith, length-once-≤ (a.once once_none));
      small = omega arith;
    }

pub accepted_terms : (v p : List ℕ) → policy_refusal v p ≡ 0 → All (NamedChain (class_count v) (role_count v) (feature_count v)) (policy_of p)
accepted_terms v p h = (accepted v p h).named
