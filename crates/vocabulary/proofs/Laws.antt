-- Laws of the definitions, over plain lists and numbers: what a function's proof cites at its returns.
use Prim.Native.Nat.{◌<◌, ◌≤◌, ℕ}
use mathlib.Core.Bool.{Bool, cond, false, not, true}
use mathlib.Core.List.{List}
use mathlib.Core.Path.{◌∙◌, ◌≡◌, ap, refl, sym}
use lib.Dec.{leb}
use lib.ListN.{length}
use native.Mathlib.Omega.{arith}
use borrow.Author.Tests.{le-leb, lt-leb, not-false, not-true}
use Rattle.meaning.specs.Answers.{Answer, ReadingResult, accepted, refused, result}
use Rattle.meaning.specs.Limits.{most_classes, most_features, most_roles, most_vocabulary_words}
use Rattle.meaning.specs.Operations.{read_vocabulary, unless}
use Rattle.meaning.specs.Records.{Onward, falling, is_name, is_sized, last_of}
use Rattle.meaning.specs.Vocabulary.{axiom_next, axioms_refusal, class_count, feature_count}
use Rattle.meaning.specs.Vocabulary.{first_axiom, headed_vocabulary, role_count, sound_axiom, vocabulary_refusal}
use Rattle.records.proofs.Chains.{Reading, reading_ends, reading_falls, reading_on, reading_starts, reading_stops}
use Rattle.theory.proofs.Links.{bounds, falling_le, passed, tests}
use Rattle.vocabulary.specs.Names.{chain_refusal}

-- ---- the header: its four tests in order, each with those before it

module _ (v : List ℕ) {N : ℕ} {t : Bool} (eN : N ≡ class_count v) (et : t ≡ is_name most_classes N) where
  pub header_classes : t ≡ false → t ≡ headed_vocabulary v
  header_classes h = rw (sym eN, sym et, h)

  module _ {R : ℕ} (h : t ≡ true) (eR : R ≡ role_count v) where
    pub header_roles : most_roles < R → leb R most_roles ≡ headed_vocabulary v
    header_roles g = rw (sym eN, sym et, h, sym eR, lt-leb R most_roles g)

    module _ {F : ℕ} (g : R ≤ most_roles) (eF : F ≡ feature_count v) where
      pub header_features : most_features < F → leb F most_features ≡ headed_vocabulary v
      header_features f = rw (sym eN, sym et, h, sym eR, le-leb R most_roles g, sym eF, lt-leb F most_features f)

      pub header_first : {x l : ℕ} → F ≤ most_features → x ≡ first_axiom v → l ≡ last_of 4 v → leb x l ≡ headed_vocabulary v
      header_first f ex el = rw (sym eN, sym et, h, sym eR, le-leb R most_roles g, sym eF, le-leb F most_features f, ex, el)

-- ---- a record

-- the refusal of record k; 0 is none
abbrev Refuses : List ℕ → ℕ → ℕ → Type 0
Refuses v k r = r ≡ cond (sound_axiom v k) 0 3

-- ---- the chain

-- the reader has come to record k
pub record ReadingAxioms (v : List ℕ) (k : ℕ) : Type 0 where
  pub reading : Reading (last_of 4 v) 3 (axiom_next v) (sound_axiom v) (axioms_refusal (length v) v (first_axiom v)) k

pub axioms_start : {v : List ℕ} {k : ℕ} → k ≡ first_axiom v → first_axiom v ≤ last_of 4 v → ReadingAxioms v k
axioms_start {v} e h = record { reading = reading_starts {f = length v} e (h, omega (arith, falling_le (last_of 4 v) (first_axiom v))) }

pub axioms_end : {v : List ℕ} {k : ℕ} → ReadingAxioms v k → k ≡ 0 → 0 ≡ axioms_refusal (length v) v (first_axiom v)
axioms_end w z = reading_ends w.reading z

module _ {v : List ℕ} {k r : ℕ} (w : ReadingAxioms v k) (n : k ≡ 0 → ⊥) (e : Refuses v k r) where
  pub axioms_stop : (r ≡ 0 → ⊥) → r ≡ axioms_refusal (length v) v (first_axiom v)
  axioms_stop z = go (sound_axiom v k) refl e
    where
      go : (b : Bool) → sound_axiom v k ≡ b → r ≡ cond b 0 3 → r ≡ axioms_refusal (length v) v (first_axiom v)
      go true s h = absurd (z h)
      go false s h = h ∙ reading_stops w.reading n s

  module _ (z : r ≡ 0) where
    sound : sound_axiom v k ≡ true
    sound = ((passed 2 (sound_axiom v k) 0).0 (sym e ∙ z)).0

    onward : Onward (last_of 4 v) k (axiom_next v k)
    onward = let u = simp tests at sound in u.1

    pub axioms_fall : {x : ℕ} → x ≡ axiom_next v k → falling (last_of 4 v) x < falling (last_of 4 v) k
    axioms_fall p = reading_falls w.reading n sound onward p

    pub axioms_on : {x : ℕ} → x ≡ axiom_next v k → ReadingAxioms v x
    axioms_on p = record { reading = reading_on w.reading n sound onward p }

-- ---- the whole

pub first : (v : List ℕ) → headed_vocabulary v ≡ true → first_axiom v ≤ last_of 4 v
first v h = let u = simp bounds at h in u.1.1.1

module _ (v : List ℕ) {t : Bool} (e : t ≡ headed_vocabulary v) (h : not t ≡ false) where
  pub right_header : headed_vocabulary v ≡ true
  right_header = sym e ∙ not-false t h

module _ (v : List ℕ) {t : Bool} (e : t ≡ is_sized 4 most_vocabulary_words (length v)) where
  pub wrong_size : not t ≡ true → 1 ≡ vocabulary_refusal v
  unfolding vocabulary_refusal
  wrong_size h = rw (sym e ∙ not-true t h)

  module _ (h : not t ≡ false) where
    right_size : is_sized 4 most_vocabulary_words (length v) ≡ true
    right_size = sym e ∙ not-false t h

    pub least : 4 ≤ length v
    least = let u = simp bounds at right_size in u.1.0

    pub wrong_header : {s : Bool} → s ≡ headed_vocabulary v → not s ≡ true → 2 ≡ vocabulary_refusal v
    unfolding vocabulary_refusal
    wrong_header {s} f g = rw (right_size, sym f ∙ not-true s g)

    pub chained : {s : Bool} {r : ℕ} → s ≡ headed_vocabulary v → not s ≡ false → r ≡ chain_refusal v → r ≡ vocabulary_refusal v
    unfolding vocabulary_refusal
    chained f g p = rw (right_size, right_header v f g) p

pub told : (v : List ℕ) {r : ℕ} {a : Answer ReadingResult} → r ≡ vocabulary_refusal v → a ≡ unless refused r (result accepted) → a ≡ read_vocabulary v
unfolding read_vocabulary
told v e h = h ∙ ap (λ (n : ℕ). unless refused n (result accepted)) e
