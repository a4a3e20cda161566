-- SPECIFICATION 6.7 and 9.13: policies with their spellings, their words and what Spell answers, a table.
use Rattle.std.specs.Prelude.{suc, zero, ℕ, Bool, false, true, List, [], ◌++◌, ◌∷◌, ◌≡◌, length}
use Rattle.meaning.specs.Answers.{result, wrote}
use Rattle.meaning.specs.Limits.{work_size}
use Rattle.meaning.specs.Operations.{refuses}
use Rattle.meaning.specs.Policy.{Chain, Policy, class, end, impossible, interval, some}
use Rattle.meaning.specs.PolicyWords.{policy_words}
use Rattle.meaning.specs.Vocabulary.{Vocabulary, below, disjoint, functional_role, many_feature, many_role, range, vocabulary_words}
use Rattle.spelling.specs.Operation.{spell}
use Rattle.spelling.specs.Spelling.{spelled, too_long}

-- 1 is below 2, 3 and 4 are disjoint; roles 1 and 2 and feature 1 are functional, one stated and two by default; what role 3 reaches is
-- in 5
abbrev pub K : Vocabulary
K = record {
  classes = 9;
  roles = 5;
  features = 3;
  axioms =
      below 1 2
      ∷ (disjoint 3 4
      ∷ (functional_role 1
      ∷ (range 3 5 ∷ (many_role 3 ∷ (many_role 4 ∷ (many_role 5 ∷ (many_feature 2 ∷ (many_feature 3 ∷ []))))))));
}

-- a policy and its spelling; whether one is too long; the words that are written for one; a policy's words with the lengths of the work
-- slice and of the output, and the words written or the refusal
pub data Example : Type 0 where
  is_spelled : Policy → Policy → Example
  is_too_long : Policy → Bool → Example
  has_words : Policy → List ℕ → Example
  writes : List ℕ → ℕ → ℕ → List ℕ → Example
  is_refused : List ℕ → ℕ → ℕ → ℕ → Example

abbrev pub Correct : Example → Type 0
Correct (is_spelled P Q) = spelled K P ≡ Q
Correct (is_too_long P b) = too_long P ≡ b
Correct (has_words P ws) = policy_words P ≡ ws
Correct (writes p w o ws) = spell (vocabulary_words K) p w o ≡ record { answer = result (wrote (length ws)); words = ws }
Correct (is_refused p w o n) = spell (vocabulary_words K) p w o ≡ refuses n

abbrev one : Chain → Policy
one c = c ∷ []

abbrev two : Chain → Chain → Policy
two c d = c ∷ (d ∷ [])

-- repeats by roles whose inner conjuncts are equal once their own repeats are dropped and they are in order, at depth 1 and 2; no other
-- class, constraint or term is dropped, though it is above or around another; terms that become equal
abbrev repeats : List Example
repeats =
    is_spelled (one (some 4 (class 1 (class 2 end)) (some 4 (class 2 (class 1 (class 1 end))) end))) (one (some 4 (class 1 (class 2 end)) end))
    ∷ (is_spelled
    (one (some 4 (some 5 (class 2 (class 1 end)) (some 5 (class 1 (class 2 end)) end)) (some 4 (some 5 (class 1 (class 2 (class 2 end))) end) end)))
    (one (some 4 (some 5 (class 1 (class 2 end)) end) end))
    ∷ (is_spelled (two (class 2 (class 1 (interval 2 0 9 (interval 2 3 4 end)))) (class 1 end))
    (two (class 1 end) (class 1 (class 2 (interval 2 0 9 (interval 2 3 4 end)))))
    ∷ (is_spelled (two (class 2 (class 1 end)) (class 1 (class 2 end))) (one (class 1 (class 2 end)))
    ∷ [])))

-- a range is written where it does not stand already, and may make a repeat; functional names merge, also below one another; the
-- impossible concept, an empty interval, disjoint classes that meet by a merge; no term left
abbrev rules : List Example
rules =
    is_spelled (one (some 3 (class 1 end) (some 3 end (some 3 (class 5 end) end)))) (one (some 3 (class 1 (class 5 end)) (some 3 (class 5 end) end)))
    ∷ (is_spelled (one (some 1 (some 2 (class 2 end) (interval 1 0 9 end)) (some 1 (interval 1 5 20 (some 2 (class 1 end) end)) end)))
    (one (some 1 (interval 1 5 9 (some 2 (class 1 (class 2 end)) end)) end))
    ∷ (is_spelled (some 4 (impossible end) end ∷ (interval 2 9 0 end ∷ two (some 1 (class 3 end) (some 1 (class 4 end) end)) (class 1 end)))
    (one (class 1 end))
    ∷ (is_spelled (one (class 3 (class 4 end))) []
    ∷ [])))

-- between lists kind 3 goes before kind 4; within one individual constraints stand before roles; the depth is compared last, a shorter
-- beginning first; feature, lo, hi; the two spellings of equal policies
abbrev orders : List Example
orders =
    is_spelled (two (interval 2 0 9 end) (some 4 end end)) (two (some 4 end end) (interval 2 0 9 end))
    ∷ (is_spelled (one (some 4 (interval 2 0 9 end) (interval 3 1 1 (some 4 (some 5 end end) (class 9 end)))))
    (one (class 9 (interval 3 1 1 (some 4 (some 5 end end) (some 4 (interval 2 0 9 end) end)))))
    ∷ (is_spelled (some 4 (some 5 end end) end ∷ two (some 4 end (some 5 end end)) (some 4 end end))
    (some 4 end end ∷ two (some 4 end (some 5 end end)) (some 4 (some 5 end end) end))
    ∷ (is_spelled (one (interval 3 0 1 (interval 2 5 9 (interval 2 5 7 (interval 2 4 99 (interval 2 5 7 end))))))
    (one (interval 2 4 99 (interval 2 5 7 (interval 2 5 9 (interval 3 0 1 end)))))
    ∷ (is_spelled (one (interval 1 0 9 end)) (one (interval 1 0 9 end))
    ∷ (is_spelled (two (interval 1 5 9 end) (interval 1 0 4 end)) (two (interval 1 0 4 end) (interval 1 5 9 end))
    ∷ [])))))

abbrev classes : ℕ → Chain
classes zero = end
classes (suc n) = class 1 (classes n)

abbrev nested : ℕ → Chain → Chain
nested zero c = c
nested (suc n) c = some 4 (nested n c) end

-- 512 records and 16 levels are written, one more is not; a term's own record counts, and stands at depth 0
abbrev limits : List Example
limits =
    is_too_long (one (classes 511)) false
    ∷ (is_too_long (one (classes 512)) true
    ∷ (is_too_long (one (nested 16 end)) false
    ∷ (is_too_long (one (nested 17 end)) true
    ∷ [])))

abbrev six : ℕ → ℕ → ℕ → ℕ → ℕ → ℕ → List ℕ → List ℕ
six a b c d e f rest = a ∷ (b ∷ (c ∷ (d ∷ (e ∷ (f ∷ rest)))))

-- role 3 with child 0, and what is written for it
abbrev reaching : List ℕ
reaching = six 1 0 0 0 0 0 (six 5 0 0 0 2 0 (six 3 3 0 0 0 0 []))

abbrev reached : List ℕ
reached = six 1 0 0 0 0 0 (six 5 0 0 0 2 0 (six 3 3 0 0 3 0 (six 1 5 0 0 0 0 [])))

-- no term is six zeros; a role's child chain stands before its next; the range at depth 16 and 17, where 43 comes before 23 and after 21;
-- an impossible term is never too deep
abbrev words : List Example
words =
    has_words [] (six 0 0 0 0 0 0 [])
    ∷ (has_words (two (class 7 (some 4 (class 8 end) (some 5 end end))) end)
    (six 1 0 0 0 0 0
    (six 5 0 0 0 2 6
    (six 1 7 0 0 0 3
    (six 3 4 0 0 4 5
    (six 1 8 0 0 0 0
    (six 3 5 0 0 0 0
    (six 5 0 0 0 0 0 [])))))))
    ∷ (writes reaching work_size 24 reached
    ∷ (is_refused reaching work_size 23 23
    ∷ (is_refused (policy_words (one (nested 14 (some 3 end end)))) work_size 0 23
    ∷ (is_refused (policy_words (one (nested 15 (some 3 end end)))) work_size 0 43
    ∷ (is_refused (policy_words (one (nested 15 (some 3 end end)))) 16383 0 21
    ∷ (writes (policy_words (one (interval 1 1 0 (nested 15 (some 3 end end))))) work_size 6 (six 0 0 0 0 0 0 [])
    ∷ [])))))))

abbrev pub spelling_examples : List Example
spelling_examples = repeats ++ (rules ++ (orders ++ (limits ++ words)))
