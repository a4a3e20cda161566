-- Laws of the definitions, over plain lists and numbers: what a function's proof cites at its returns.
use Prim.Native.Nat.{◌≤◌, ℕ}
use mathlib.Core.Bool.{Bool, ◌&&◌, and_assoc, cond, false, not, true}
use mathlib.Core.List.{List, []}
use mathlib.Core.Path.{◌∙◌, ◌≡◌, ap, refl, sym}
use lib.Dec.{eqb, leb}
use lib.ListN.{get_or, length, replicate}
use native.Mathlib.Omega.{arith}
use borrow.Author.Tests.{eqb-true, ne_eqb, not-false, not-true}
use Rattle.meaning.specs.Answers.{Answer, ReadingResult, accepted, refused, result}
use Rattle.meaning.specs.Limits.{most_policy_words, most_records}
use Rattle.meaning.specs.Operations.{input_refusal, read_policy, read_second_policy, unless}
use Rattle.meaning.specs.Policy.{Walk, child_of, fault_of, first_term, headed_policy, hi_of, kind_of, lo_of, name_of, next_of}
use Rattle.meaning.specs.Policy.{policy_refusal, record_fits, second_refusal, sound_record}
use Rattle.meaning.specs.Records.{is_name, is_onward, is_sized, last_of, or_else}
use Rattle.meaning.specs.Vocabulary.{class_count, feature_count, role_count, vocabulary_refusal}
use Rattle.policy.specs.Trails.{Arrived, Follows, going, levels, stopped, trail_words}
use Rattle.theory.proofs.Links.{falling_le, tests}
use Rattle.theory.proofs.Refusals.{or_else_assoc, or_else_first}
use Rattle.words.proofs.Laws.{in_zeros}

-- ---- a record

-- t is the test of where its kind stands
module _ (v p : List ℕ) (depth k : ℕ) {kind : ℕ} {t : Bool} (ek : kind ≡ kind_of p k) (et : t ≡ cond (eqb depth 0) (eqb kind 5) (not (eqb kind 5))) where
  pub misplaced : not t ≡ true → false ≡ record_fits v p depth k
  misplaced h = go (eqb depth 0) refl (sym et ∙ not-true t h)
    where
      go : (b : Bool) → eqb depth 0 ≡ b → cond b (eqb kind 5) (not (eqb kind 5)) ≡ false → false ≡ record_fits v p depth k
      go true e f = rw (e, sym ek, f)
      go false e f = rw (e, sym ek, eqb-true kind 5 (not-false (eqb kind 5) f))

  module _ (h : not t ≡ false) where
    placed : (b : Bool) → eqb kind 5 ≡ b → eqb depth 0 ≡ b
    placed b e = go b (eqb depth 0) (rw e at (sym et ∙ not-false t h))
      where
        go : (b d : Bool) → cond d b (not b) ≡ true → d ≡ b
        go true true f = refl
        go true false f = f
        go false true f = sym f
        go false false f = refl

    pub unknown : (kind ≡ 1 → ⊥) → (kind ≡ 2 → ⊥) → (kind ≡ 3 → ⊥) → (kind ≡ 4 → ⊥) → (kind ≡ 5 → ⊥) → false ≡ record_fits v p depth k
    unknown n₁ n₂ n₃ n₄ n₅ =
        rw (placed false (ne_eqb kind 5 n₅), sym ek, ne_eqb kind 1 n₁, ne_eqb kind 2 n₂, ne_eqb kind 3 n₃, ne_eqb kind 4 n₄)

    -- and a, lo, hi and child are its other words
    module _ {a lo hi child : ℕ} (ea : a ≡ name_of p k) (el : lo ≡ lo_of p k) (eh : hi ≡ hi_of p k) (ec : child ≡ child_of p k) where
      pub impossible_fits : kind ≡ 2 → eqb a 0 && ((eqb lo 0 && eqb hi 0) && eqb child 0) ≡ record_fits v p depth k
      impossible_fits z = rw (placed false (rw z), sym ek ∙ z, sym ea, sym el, sym eh, sym ec, and_assoc (eqb lo 0))

      pub term_fits : kind ≡ 5 → eqb a 0 && (eqb lo 0 && eqb hi 0) ≡ record_fits v p depth k
      term_fits z = rw (placed true (rw z), sym ek ∙ z, sym ea, sym el, sym eh)

      -- the test of its name
      module _ {f : Bool} where
        pub class_fits : kind ≡ 1 → f ≡ is_name (class_count v) a → f && ((eqb lo 0 && eqb hi 0) && eqb child 0) ≡ record_fits v p depth k
        class_fits z m = rw (placed false (rw z), sym ek ∙ z, sym ea, sym el, sym eh, sym ec, m, and_assoc (eqb lo 0))

        pub role_fits : kind ≡ 3 → f ≡ is_name (role_count v) a → f && (eqb lo 0 && eqb hi 0) ≡ record_fits v p depth k
        role_fits z m = rw (placed false (rw z), sym ek ∙ z, sym ea, sym el, sym eh, m)

        pub feature_fits : kind ≡ 4 → f ≡ is_name (feature_count v) a → f && eqb child 0 ≡ record_fits v p depth k
        feature_fits z m = rw (placed false (rw z), sym ek ∙ z, sym ea, sym ec, m)

-- with the tests of its links
pub links_sound : (v p : List ℕ) (depth k : ℕ) {last x y : ℕ} {f g h : Bool} → last ≡ last_of 6 p → f ≡ record_fits v p depth k →
    x ≡ child_of p k → g ≡ is_onward last k x → y ≡ next_of p k → h ≡ is_onward last k y → f && (g && h) ≡ sound_record v p depth k
links_sound v p depth k el ef ex eg ey eh = rw (ef, eg, eh, ex, ey, el)

-- ---- the whole

-- the header's words
pub headed : (p : List ℕ) {x last a b c d e : ℕ} → x ≡ first_term p → last ≡ last_of 6 p →
    a ≡ get_or p 1 0 → b ≡ get_or p 2 0 → c ≡ get_or p 3 0 → d ≡ get_or p 4 0 → e ≡ get_or p 5 0 →
    leb x last && (eqb a 0 && (eqb b 0 && (eqb c 0 && (eqb d 0 && eqb e 0)))) ≡ headed_policy p
headed p ex el ea eb ec ed ee = rw (ex, el, ea, eb, ec, ed, ee)

-- t is the test of the length
module _ (p : List ℕ) {t : Bool} (e : t ≡ is_sized 6 most_policy_words (length p)) (h : not t ≡ false) where
  right_size : is_sized 6 most_policy_words (length p) ≡ true
  right_size = sym e ∙ not-false t h

  pub least : 6 ≤ length p
  least = let u = simp tests at right_size in u.1.0

  pub few : last_of 6 p ≤ most_records
  few = let u = simp tests at right_size in omega arith

-- s is the test of the header
module _ (p : List ℕ) {s : Bool} (e : s ≡ headed_policy p) (h : not s ≡ false) where
  right_header : headed_policy p ≡ true
  right_header = sym e ∙ not-false s h

  pub first : {k : ℕ} → k ≡ first_term p → k ≤ last_of 6 p
  first f = let u = simp tests at right_header in rw f u.0

fault_is : {s : List ℕ} {n : ℕ} {q : Walk} → Arrived s n q → n ≡ fault_of q
fault_is (going z m) = z
fault_is (stopped z) = refl

module _ (v p : List ℕ) {t : Bool} (e : t ≡ is_sized 6 most_policy_words (length p)) where
  pub wrong_size : not t ≡ true → 4 ≡ policy_refusal v p
  unfolding policy_refusal
  wrong_size h = rw (sym e ∙ not-true t h)

  module _ {s : Bool} (h : not t ≡ false) (es : s ≡ headed_policy p) where
    pub wrong_header : not s ≡ true → 5 ≡ policy_refusal v p
    unfolding policy_refusal
    wrong_header g = rw (right_size p e h, sym es ∙ not-true s g)

    -- the walk from no bits has ended with the number n
    pub walked : {k n : ℕ} {w : List ℕ} → not s ≡ false → k ≡ first_term p → Follows v p levels k (replicate trail_words 0) w n → n ≡ policy_refusal v p
    unfolding policy_refusal
    walked {k} g ek whole =
        rw (right_size p e h, right_header p es g, sym ek)
        (fault_is (whole.arrives (length p) [] (first p es g ek, omega (arith, falling_le (last_of 6 p) k))
        (record { whole = refl; same = λ j _ _. in_zeros trail_words j })))

-- ---- the refusals in order

-- a is the vocabulary's refusal, and b comes after it
module _ (v : List ℕ) (b : ℕ) {a : ℕ} (ea : a ≡ vocabulary_refusal v) where
  pub vocabulary_first : (a ≡ 0 → ⊥) → a ≡ or_else (vocabulary_refusal v) b
  vocabulary_first n = rw (sym ea) (or_else_first a b n)

  pub then_next : {r : ℕ} → a ≡ 0 → r ≡ b → r ≡ or_else (vocabulary_refusal v) b
  then_next z er = rw (sym ea ∙ z) er

-- a is the refusal of the vocabulary and the first policy
module _ (v p q : List ℕ) {a : ℕ} (ea : a ≡ or_else (vocabulary_refusal v) (policy_refusal v p)) where
  pub input_former : (a ≡ 0 → ⊥) → a ≡ input_refusal v p q
  unfolding input_refusal
  input_former n = rw (or_else_assoc (vocabulary_refusal v) (policy_refusal v p), sym ea) (or_else_first a _ n)

  pub input_latter : {r : ℕ} → a ≡ 0 → r ≡ second_refusal (policy_refusal v q) → r ≡ input_refusal v p q
  unfolding input_refusal
  input_latter z er = rw (or_else_assoc (vocabulary_refusal v) (policy_refusal v p), sym ea ∙ z) er

-- n is the first refusal, and x its answer
module _ (v p : List ℕ) {n : ℕ} {x : Answer ReadingResult} (h : x ≡ unless refused n (result accepted)) where
  pub answers : n ≡ or_else (vocabulary_refusal v) (policy_refusal v p) → x ≡ read_policy v p
  unfolding read_policy
  answers e = h ∙ ap (λ (n : ℕ). unless refused n (result accepted)) e

  pub answers_second : n ≡ or_else (vocabulary_refusal v) (second_refusal (policy_refusal v p)) → x ≡ read_second_policy v p
  unfolding read_second_policy
  answers_second e = h ∙ ap (λ (n : ℕ). unless refused n (result accepted)) e
