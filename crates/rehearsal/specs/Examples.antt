-- SPECIFICATION 11.6: draws and loads with their words, a table.
use Rattle.std.specs.Prelude.{ℕ, List, [], ◌∷◌, ◌≡◌, length}
use Rattle.meaning.specs.Answers.{result, wrote}
use Rattle.meaning.specs.Operations.{refuses}
use Rattle.rehearsal.specs.Load.{advance_by, rehearse}

-- a seed, a number of draws and the seed after them; a seed, the classes, the terms and the length of the output, with the words written or
-- the refusal
pub data Example : Type 0 where
  draws : ℕ → ℕ → ℕ → Example
  writes : ℕ → ℕ → ℕ → ℕ → List ℕ → Example
  is_refused : ℕ → ℕ → ℕ → ℕ → ℕ → Example

abbrev pub Correct : Example → Type 0
Correct (draws s i t) = advance_by i s ≡ t
Correct (writes s N m o ws) = rehearse s N m o ≡ record { answer = result (wrote (length ws)); words = ws }
Correct (is_refused s N m o n) = rehearse s N m o ≡ refuses n

abbrev four : ℕ → ℕ → ℕ → ℕ → List ℕ → List ℕ
four a b c d rest = a ∷ (b ∷ (c ∷ (d ∷ rest)))

abbrev six : ℕ → ℕ → ℕ → ℕ → ℕ → ℕ → List ℕ → List ℕ
six a b c d e f rest = a ∷ (b ∷ (c ∷ (d ∷ (e ∷ (f ∷ rest)))))

-- one class, which is drawn all the same, and one term a policy
abbrev least : List ℕ
least =
    8 ∷ (
    four 1 0 1 1 (
    four 4 1 0 0 (
    24 ∷ (
    six 1 0 0 0 0 0 (
    six 5 0 0 0 2 0 (
    six 1 1 0 0 0 3 (
    six 4 1 94 180 0 0 (
    24 ∷ (
    six 1 0 0 0 0 0 (
    six 5 0 0 0 2 0 (
    six 1 1 0 0 0 3 (
    six 4 1 41 124 0 0 []))))))))))))

-- class 4 below class 3, and a class of 4 in each policy
abbrev four_classes : List ℕ
four_classes =
    20 ∷ (
    four 4 0 1 1 (
    four 1 2 1 2 (
    four 1 3 1 3 (
    four 1 4 3 4 (
    four 4 1 0 0 (
    24 ∷ (
    six 1 0 0 0 0 0 (
    six 5 0 0 0 2 0 (
    six 1 2 0 0 0 3 (
    six 4 1 5 39 0 0 (
    24 ∷ (
    six 1 0 0 0 0 0 (
    six 5 0 0 0 2 0 (
    six 1 3 0 0 0 3 (
    six 4 1 41 131 0 0 [])))))))))))))))

-- two terms a policy: the second's records are 4 to 6
abbrev two_terms : List ℕ
two_terms =
    16 ∷ (
    four 3 0 1 1 (
    four 1 2 1 2 (
    four 1 3 1 3 (
    four 4 1 0 0 (
    42 ∷ (
    six 1 0 0 0 0 0 (
    six 5 0 0 0 2 4 (
    six 1 1 0 0 0 3 (
    six 4 1 37 78 0 0 (
    six 5 0 0 0 5 0 (
    six 1 3 0 0 0 6 (
    six 4 1 61 66 0 0 (
    42 ∷ (
    six 1 0 0 0 0 0 (
    six 5 0 0 0 2 4 (
    six 1 3 0 0 0 3 (
    six 4 1 31 102 0 0 (
    six 5 0 0 0 5 0 (
    six 1 3 0 0 0 6 (
    six 4 1 47 96 0 0 []))))))))))))))))))))

-- C++'s minstd_rand: the standard says what its 10,000th number is
abbrev pub load_examples : List Example
load_examples =
    draws 1 10000 399268537
    ∷ (draws 1 1 48271
    ∷ (writes 1 1 1 59 least
    ∷ (writes 7 4 1 100 four_classes
    ∷ (writes 1 3 2 103 two_terms
    ∷ (is_refused 1 1 1 58 23
    ∷ (is_refused 2147483646 256 100 4642 23
    ∷ (is_refused 0 1 1 100 45
    ∷ (is_refused 2147483647 1 1 100 45
    ∷ (is_refused 1 0 1 100 45
    ∷ (is_refused 1 257 1 5000 45
    ∷ (is_refused 1 1 0 100 45
    ∷ (is_refused 1 1 101 5000 45
    ∷ (is_refused 0 257 101 0 45
    ∷ [])))))))))))))
