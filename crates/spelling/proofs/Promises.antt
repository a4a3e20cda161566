-- What Spell promises, a sentence a theorem: of the words of a spelling, and of what the operation answers, whatever its slices hold.
use Prim.Native.Nat.{◌≤◌, ℕ}
use mathlib.Core.Bool.{Bool, ◌||◌, false, true}
use mathlib.Core.List.{List, [], ◌∷◌}
use mathlib.Core.Path.{◌∙◌, ◌≡◌, ap, refl, subst, sym}
use lib.Dec.{T, leb, ltb}
use lib.ListN.{length}
use native.Mathlib.Omega.{arith}
use borrow.Author.Tests.{leb-true, ltb-false}
use Rattle.meaning.specs.Accepted.{depth, total}
use Rattle.meaning.specs.Answers.{FillingResult, accepted, equal, result, wrote}
use Rattle.meaning.specs.Containment.{Indistinct}
use Rattle.meaning.specs.Interpretation.{In}
use Rattle.meaning.specs.Limits.{most_depth, most_records}
use Rattle.meaning.specs.Lists.{All, any, cons, nil}
use Rattle.meaning.specs.Operations.{Outcome, equality, read_policy, refuses, work_refusal}
use Rattle.meaning.specs.Policy.{Policy, policy_of, policy_refusal}
use Rattle.meaning.specs.PolicyWords.{policy_words}
use Rattle.meaning.specs.Promises.{IsRefusal}
use Rattle.meaning.specs.Records.{or_else}
use Rattle.meaning.specs.Vocabulary.{vocabulary_of, vocabulary_refusal}
use Rattle.spelling.proofs.Equal.{spelling_equal}
use Rattle.spelling.proofs.InOrder.{spelled_ordered}
use Rattle.spelling.proofs.Names.{spelled_named}
use Rattle.spelling.proofs.Reordering.{spelling_reordered}
use Rattle.spelling.proofs.Respelling.{spelled_rising, spelling_again}
use Rattle.spelling.specs.Operation.{spell, spell_of, spelling_words}
use Rattle.spelling.specs.Ordered.{Ordered, Rising}
use Rattle.spelling.specs.Reordered.{ReorderedTerms}
use Rattle.spelling.specs.Spelling.{spelled, term_key, too_long}
use Rattle.theory.proofs.Equality.{indistinct_right}
use Rattle.theory.proofs.Links.{split}
use Rattle.theory.proofs.PolicyWords.{policy_words_accepted, policy_words_read}
use Rattle.theory.proofs.Refusals.{or_else_zero, unless_all}

-- ---- what is not too long

or_false : (a b : Bool) → a || b ≡ false → (a ≡ false) × (b ≡ false)
or_false true b e = absurd (let z : T false = subst T e tt in z)
or_false false b e = (refl, e)

shallow : (P : Policy) → any (λ c. ltb most_depth (depth c)) P ≡ false → All (λ c. depth c ≤ most_depth) P
shallow [] e = nil
shallow (c ∷ P) e =
    let w = or_false (ltb most_depth (depth c)) (any (λ x. ltb most_depth (depth x)) P) e in
    cons (ltb-false most_depth (depth c) w.0) (shallow P w.1)

pub not_too_long : (P : Policy) → too_long P ≡ false → (total P ≤ most_records) × All (λ c. depth c ≤ most_depth) P
unfolding too_long
not_too_long P e =
    let w = or_false (ltb most_records (total P)) (any (λ c. ltb most_depth (depth c)) P) e in
    (ltb-false most_records (total P) w.0, shallow P w.1)

-- ---- the words of a spelling, whether or not the policy is accepted

opened : (v p : List ℕ) → spelling_words v p ≡ policy_words (spelled (vocabulary_of v) (policy_of p))
opened v p = unfold spelling_words in refl

module _ (v p : List ℕ) where
  pub words_read : policy_of (spelling_words v p) ≡ spelled (vocabulary_of v) (policy_of p)
  unfolding spelling_words
  words_read = policy_words_read (spelled (vocabulary_of v) (policy_of p))

  pub words_equal : Indistinct (vocabulary_of v) (policy_of p) (policy_of (spelling_words v p))
  words_equal = rw words_read (spelling_equal (vocabulary_of v) (policy_of p))

  words_spelled : spelled (vocabulary_of v) (policy_of (spelling_words v p)) ≡ spelled (vocabulary_of v) (policy_of p)
  words_spelled = ap (spelled (vocabulary_of v)) words_read ∙ spelling_again (vocabulary_of v) (policy_of p)

pub words_accepted : (v p : List ℕ) → vocabulary_refusal v ≡ 0 → policy_refusal v p ≡ 0 → too_long (spelled (vocabulary_of v) (policy_of p)) ≡ false →
    policy_refusal v (spelling_words v p) ≡ 0
unfolding spelling_words
words_accepted v p a b e =
    let n = not_too_long (spelled (vocabulary_of v) (policy_of p)) e in
    policy_words_accepted v (spelled (vocabulary_of v) (policy_of p)) (spelled_named v p a b) n.0 n.1

pub words_one_equal : (v p q : List ℕ) → spelling_words v p ≡ spelling_words v q → Indistinct (vocabulary_of v) (policy_of p) (policy_of q)
words_one_equal v p q e I proper s d i =
    let same : policy_of (spelling_words v p) ≡ policy_of (spelling_words v q) = ap policy_of e in
    let x = words_equal v p I proper s d i in
    let y = words_equal v q I proper s d i in
    (λ h. y.1 (subst (λ (P : Policy). In I P d) same (x.0 h)), λ h. x.1 (subst (λ (P : Policy). In I P d) (sym same) (y.0 h)))

-- ---- the operation

-- a refusal, or the spelling of an accepted policy, written whole
pub data Told (v p : List ℕ) (w o : ℕ) : Outcome FillingResult → Type 0 where
  refuses_it : (n : ℕ) → Told v p w o (refuses n)
  writes_it : vocabulary_refusal v ≡ 0 → policy_refusal v p ≡ 0 → work_refusal w ≡ 0 → too_long (spelled (vocabulary_of v) (policy_of p)) ≡ false →
      length (spelling_words v p) ≤ o → Told v p w o (record { answer = result (wrote (length (spelling_words v p))); words = spelling_words v p })

pub spell_told : (v p : List ℕ) (w o : ℕ) → Told v p w o (spell v p w o)
unfolding spell spell_of spelling_words
spell_told v p w o =
    let ws = policy_words (spelled (vocabulary_of v) (policy_of p)) in
    unless_all (Told v p w o) refuses (or_else (vocabulary_refusal v) (or_else (policy_refusal v p) (work_refusal w))) _ refuses_it (λ e.
    let a = or_else_zero (vocabulary_refusal v) (or_else (policy_refusal v p) (work_refusal w)) e in
    let b = or_else_zero (policy_refusal v p) (work_refusal w) a.1 in
    split (Told v p w o) (too_long (spelled (vocabulary_of v) (policy_of p))) (λ t. refuses_it 43) (λ t.
    split (Told v p w o) (leb (length ws) o) (λ l. writes_it a.0 b.0 b.1 t (leb-true (length ws) o l)) (λ l. refuses_it 23)))

-- reordering conjuncts and terms beforehand changes nothing
pub spell_reordered : (v p q : List ℕ) (w o : ℕ) → policy_refusal v p ≡ 0 → policy_refusal v q ≡ 0 → ReorderedTerms (policy_of p) (policy_of q) →
    spell v p w o ≡ spell v q w o
unfolding spell spell_of
spell_reordered v p q w o a b m = rw (a, b, spelling_reordered (vocabulary_of v) m)

same_again : (v p : List ℕ) (w o : ℕ) → vocabulary_refusal v ≡ 0 → policy_refusal v p ≡ 0 → too_long (spelled (vocabulary_of v) (policy_of p)) ≡ false →
    spell v (spelling_words v p) w o ≡ spell v p w o
unfolding spell spell_of
same_again v p w o a b t = rw (a, b, words_accepted v p a b t, words_spelled v p)

-- ---- where words are written

abbrev pub Wrote : List ℕ → List ℕ → ℕ → ℕ → ℕ → Type 0
Wrote v p w o n = (spell v p w o).answer ≡ result (wrote n)

-- nothing was refused
record Unrefused (v p : List ℕ) (o n : ℕ) (r : Outcome FillingResult) : Type 0 where
  vocabulary : vocabulary_refusal v ≡ 0
  policy : policy_refusal v p ≡ 0
  short : too_long (spelled (vocabulary_of v) (policy_of p)) ≡ false
  whole : r.words ≡ spelling_words v p
  number : n ≡ length r.words
  fits : n ≤ o

unrefused : {v p : List ℕ} {w o n : ℕ} (r : Outcome FillingResult) → Told v p w o r → r.answer ≡ result (wrote n) → Unrefused v p o n r
unrefused r (refuses_it k) e = absurd (let z : ◌≡◌ {A = ℕ} 0 1 = cc in omega arith)
unrefused {v} {p} {n = n} r (writes_it a b c t l) e =
    let z : n ≡ length (spelling_words v p) = cc in
    record { vocabulary = a; policy = b; short = t; whole = refl; number = z; fits = omega arith }

module _ (v p : List ℕ) (w o n : ℕ) (e : Wrote v p w o n) where
  told : Unrefused v p o n (spell v p w o)
  told = unrefused (spell v p w o) (spell_told v p w o) e

  -- the policy was accepted
  pub spell_read : policy_refusal v p ≡ 0
  spell_read = told.policy

  pub spell_whole : (spell v p w o).words ≡ spelling_words v p
  spell_whole = told.whole

  -- the answer is their number
  pub spell_fits : (n ≡ length (spell v p w o).words) × (n ≤ o)
  spell_fits = (told.number, told.fits)

  refused_never : policy_refusal v (spell v p w o).words ≡ 0
  refused_never = rw spell_whole (words_accepted v p told.vocabulary told.policy told.short)

  pub spell_accepted : read_policy v (spell v p w o).words ≡ result accepted
  unfolding read_policy
  spell_accepted = rw (told.vocabulary, refused_never)

  -- no interpretation tells the policy and what is written apart, and Equality says so where it answers
  pub spell_equal : Indistinct (vocabulary_of v) (policy_of p) (policy_of (spell v p w o).words)
  spell_equal = rw spell_whole (words_equal v p)

  pub spell_found_equal : (w' o' : ℕ) → (IsRefusal (equality v p (spell v p w o).words w' o').answer → ⊥) →
      (equality v p (spell v p w o).words w' o').answer ≡ result equal
  spell_found_equal w' o' = indistinct_right v p (spell v p w o).words w' o' spell_equal

  -- its conjuncts rise strictly, at every depth, and so do its terms
  pub spell_ordered : All Ordered (policy_of (spell v p w o).words) × Rising term_key (policy_of (spell v p w o).words)
  spell_ordered = rw (spell_whole, words_read v p) (spelled_ordered (vocabulary_of v) (policy_of p), spelled_rising (vocabulary_of v) (policy_of p))

  -- writing it again, with slices of the same lengths, is never refused and changes nothing
  pub spell_again : spell v (spell v p w o).words w o ≡ spell v p w o
  spell_again = ap (λ (q : List ℕ). spell v q w o) spell_whole ∙ same_again v p w o told.vocabulary told.policy told.short

-- two policies with one spelling are equal; `two_spellings` of TwoSpellings shows that the reverse does not hold
pub one_spelling_equal : (v p q : List ℕ) (w o n w' o' m : ℕ) → Wrote v p w o n → Wrote v q w' o' m → (spell v p w o).words ≡ (spell v q w' o').words →
    Indistinct (vocabulary_of v) (policy_of p) (policy_of q)
one_spelling_equal v p q w o n w' o' m d e h = words_one_equal v p q (sym (spell_whole v p w o n d) ∙ h ∙ spell_whole v q w' o' m e)
