-- SPECIFICATION 11, the consent desk's examples: `starred` is one table, from words to answers and printed bytes.
use Rattle.std.specs.Prelude.{◌%◌, ◌/◌, suc, zero, ℕ, List, [], ◌++◌, ◌∷◌, map, ◌≡◌, length}
use Prim.Native.String.{String}
use Rattle.meaning.specs.Answers.{Answer, CheckResult, ComparisonResult, PossibilityResult, ReadingResult, VerdictResult}
use Rattle.meaning.specs.Answers.{accepted, compliant, differs, equal, first_possible, no, none_possible, outside, refused, result, yes}
use Rattle.meaning.specs.Limits.{output_size, work_size}
use Rattle.meaning.specs.Lists.{flat_map}
use Rattle.meaning.specs.NormalForm.{normal_form}
use Rattle.meaning.specs.Operations.{compliance, equality, model_check, possibility, read_policy, read_second_policy, read_vocabulary}
use Rattle.meaning.specs.Operations.{refuses}
use Rattle.meaning.specs.Policy.{policy_of}
use Rattle.meaning.specs.Program.{bytes, program}
use Rattle.meaning.specs.Splitting.{combination_count}
use Rattle.meaning.specs.Vocabulary.{vocabulary_of}

-- a record of a vocabulary, of a policy and of a model, in front of the others
abbrev four : ℕ → ℕ → ℕ → ℕ → List ℕ → List ℕ
four a b c d rest = a ∷ (b ∷ (c ∷ (d ∷ rest)))

abbrev five : ℕ → ℕ → ℕ → ℕ → ℕ → List ℕ → List ℕ
five a b c d e rest = a ∷ four b c d e rest

abbrev six : ℕ → ℕ → ℕ → ℕ → ℕ → ℕ → List ℕ → List ℕ
six a b c d e f rest = a ∷ five b c d e f rest

-- SPECIFICATION 11.1: the desk's vocabulary: its record 7, of a kind, says how many values feature 1 has, and others follow it
abbrev desk_with : ℕ → List ℕ → List ℕ
desk_with kind rest =
    four 4 3 1 1
    (four 1 2 1 2
    (four 1 4 1 3
    (four 1 4 3 4
    (four 2 1 3 5
    (four 3 1 0 6
    (four 3 2 0 7
    (four kind 1 0 8 rest)))))))

-- role 3 has range 1, and many values
abbrev ranged_many : List ℕ
ranged_many = four 5 3 1 9 (four 6 3 0 0 [])

abbrev pub desk : List ℕ
desk = desk_with 4 ranged_many

-- the same, with a feature that is not functional
abbrev pub loose : List ℕ
loose = desk_with 7 ranged_many

-- the desk's vocabulary before kind 6: role 3, of which it says nothing more, is functional
abbrev pub former : List ℕ
former = desk_with 4 (four 5 3 1 0 [])

-- role r reaching class c; R1.2 is `reaching 1 2`
abbrev reaching : ℕ → ℕ → List ℕ
reaching r c = six 1 0 0 0 0 0 (six 5 0 0 0 2 0 (six 3 r 0 0 3 0 (six 1 c 0 0 0 0 [])))

-- role 1 reaching class 1 with role 1 reaching class 3
abbrev reaching_both : List ℕ
reaching_both =
    six 1 0 0 0 0 0
    (six 5 0 0 0 2 0
    (six 3 1 0 0 3 4
    (six 1 1 0 0 0 0
    (six 3 1 0 0 5 0
    (six 1 3 0 0 0 0 [])))))

abbrev in_class4 : List ℕ
in_class4 = six 1 0 0 0 0 0 (six 5 0 0 0 2 0 (six 1 4 0 0 0 0 []))

-- R3.all
abbrev reaching_any : List ℕ
reaching_any = six 1 0 0 0 0 0 (six 5 0 0 0 2 0 (six 3 3 0 0 0 0 []))

-- lo..hi on feature 1; one or the other; one with the other
abbrev span : ℕ → ℕ → List ℕ
span lo hi = six 1 0 0 0 0 0 (six 5 0 0 0 2 0 (six 4 1 lo hi 0 0 []))

abbrev span_or : ℕ → ℕ → ℕ → ℕ → List ℕ
span_or lo hi lo' hi' =
    six 1 0 0 0 0 0 (six 5 0 0 0 2 3 (six 4 1 lo hi 0 0 (six 5 0 0 0 4 0 (six 4 1 lo' hi' 0 0 []))))

abbrev span_with : ℕ → ℕ → ℕ → ℕ → List ℕ
span_with lo hi lo' hi' = six 1 0 0 0 0 0 (six 5 0 0 0 2 0 (six 4 1 lo hi 0 3 (six 4 1 lo' hi' 0 0 [])))

-- the policy with no term, and the one whose only term is empty
abbrev nobody : List ℕ
nobody = six 0 0 0 0 0 0 []

abbrev everybody : List ℕ
everybody = six 1 0 0 0 0 0 (six 5 0 0 0 0 0 [])

-- each policy above
abbrev policies : List (List ℕ)
policies =
    reaching 1 2
    ∷ (reaching 1 1
    ∷ (reaching_both
    ∷ (in_class4
    ∷ (reaching_any
    ∷ (reaching 3 1
    ∷ (span 0 9
    ∷ (span_or 0 4 5 9
    ∷ (span_or 0 4 6 9
    ∷ (span 1 9
    ∷ (span 5 12
    ∷ (span_with 0 4 6 9
    ∷ [])))))))))))

-- a question about tables of words, with its answer; the slices are full
pub data Example : Type 0 where
  vocabulary_is : List ℕ → Answer ReadingResult → Example
  policy_is : List ℕ → List ℕ → Answer ReadingResult → Example
  second_is : List ℕ → List ℕ → Answer ReadingResult → Example
  possible_is : List ℕ → List ℕ → PossibilityResult → Example
  compliance_is : List ℕ → List ℕ → List ℕ → VerdictResult → List ℕ → Example
  equality_is : List ℕ → List ℕ → List ℕ → ComparisonResult → List ℕ → Example
  equality_refuses : List ℕ → List ℕ → List ℕ → ℕ → Example
  check_is : List ℕ → List ℕ → List ℕ → List ℕ → CheckResult → Example
  combinations_are : List ℕ → List ℕ → List ℕ → List ℕ → Example
  prints : List ℕ → List ℕ → List ℕ → List String → Example

-- a text for each line, with a line feed after each
abbrev lines : List String → List ℕ
lines ts = flat_map (λ t. bytes t ++ (10 ∷ [])) ts

-- the bytes of a word, and of the three parts
abbrev word_bytes : ℕ → List ℕ
word_bytes w = four (w % 256) (w / 256 % 256) (w / 65536 % 256) (w / 16777216) []

abbrev input : List ℕ → List ℕ → List ℕ → List ℕ
input v p q = flat_map word_bytes (length v ∷ (v ++ (length p ∷ (p ++ (length q ∷ q)))))

abbrev pub Correct : Example → Type 0
Correct (vocabulary_is v a) = read_vocabulary v ≡ a
Correct (policy_is v p a) = read_policy v p ≡ a
Correct (second_is v q a) = read_second_policy v q ≡ a
Correct (possible_is v p a) = possibility v p work_size ≡ result a
Correct (compliance_is v p q a ws) = compliance v p q work_size output_size ≡ record { answer = result a; words = ws }
Correct (equality_is v p q a ws) = equality v p q work_size output_size ≡ record { answer = result a; words = ws }
Correct (equality_refuses v p q n) = equality v p q work_size output_size ≡ refuses n
Correct (check_is v p q m a) = model_check v p q m work_size ≡ result a
Correct (combinations_are v p q n) = map (λ t. combination_count (policy_of q) (normal_form (vocabulary_of v) t)) (policy_of p) ≡ n
Correct (prints v p q text) = program (input v p q) ≡ lines text

abbrev complies : List ℕ → List ℕ → Example
complies p q = compliance_is desk p q compliant []

abbrev pub starred : List Example
starred =
    complies (reaching 1 2) (reaching 1 1)
    ∷ (prints former (reaching 1 1) (reaching 1 2) ("outside 1 1" ∷ ("edge 1 1 2" ∷ ("member 1 2" ∷ [])))
    ∷ (prints desk (reaching 1 1) (reaching 1 2) ("outside 1 1" ∷ ("edge 1 1 2" ∷ ("member 1 2" ∷ [])))
    ∷ (possible_is desk reaching_both none_possible
    ∷ (possible_is desk in_class4 none_possible
    ∷ (complies reaching_any (reaching 3 1)
    ∷ (equality_is desk (span 0 9) (span_or 0 4 5 9) equal []
    ∷ (combinations_are desk (span 0 9) (span_or 0 4 5 9) (6 ∷ [])
    ∷ (prints desk (span 0 9) (span_or 0 4 6 9) ("outside 1 4" ∷ ("value 1 1 5" ∷ []))
    ∷ (combinations_are desk (span 1 9) (span 5 12) (5 ∷ [])
    ∷ (prints desk (span 1 9) (span 5 12) ("outside 1 1" ∷ ("value 1 1 1" ∷ []))
    ∷ (possible_is desk (span_with 0 4 6 9) none_possible
    ∷ (possible_is loose (span_with 0 4 6 9) (first_possible 1)
    ∷ (map (λ p. complies nobody p) policies
    ++ map (λ p. complies p everybody) (nobody ∷ policies))))))))))))))

-- further examples, which tell the listed misreadings and others apart

-- class 3 below 2, 2 below 1: closed in two steps
abbrev chained : List ℕ
chained = four 3 0 0 1 (four 1 3 2 2 (four 1 2 1 0 []))

abbrev in_class : ℕ → List ℕ
in_class c = six 1 0 0 0 0 0 (six 5 0 0 0 2 0 (six 1 c 0 0 0 0 []))

-- role 3 reaching one whom role 3 makes reach class c, or anybody
abbrev reaching_twice : List ℕ
reaching_twice = six 1 0 0 0 0 0 (six 5 0 0 0 2 0 (six 3 3 0 0 3 0 (six 3 3 0 0 0 0 [])))

abbrev reaching_twice_in : ℕ → List ℕ
reaching_twice_in c = six 1 0 0 0 0 0 (six 5 0 0 0 2 0 (six 3 3 0 0 3 0 (six 3 3 0 0 4 0 (six 1 c 0 0 0 0 []))))

-- role r reaching lo..hi; and with the same role reaching lo'..hi'
abbrev reaching_span : ℕ → ℕ → ℕ → List ℕ
reaching_span r lo hi = six 1 0 0 0 0 0 (six 5 0 0 0 2 0 (six 3 r 0 0 3 0 (six 4 1 lo hi 0 0 [])))

abbrev reaching_span_or : ℕ → ℕ → ℕ → ℕ → ℕ → List ℕ
reaching_span_or r lo hi lo' hi' =
    six 1 0 0 0 0 0
    (six 5 0 0 0 2 4
    (six 3 r 0 0 3 0
    (six 4 1 lo hi 0 0
    (six 5 0 0 0 5 0
    (six 3 r 0 0 6 0
    (six 4 1 lo' hi' 0 0 []))))))

abbrev reaching_spans : ℕ → ℕ → ℕ → ℕ → ℕ → List ℕ
reaching_spans r lo hi lo' hi' =
    six 1 0 0 0 0 0
    (six 5 0 0 0 2 0
    (six 3 r 0 0 3 4
    (six 4 1 lo hi 0 0
    (six 3 r 0 0 5 0
    (six 4 1 lo' hi' 0 0 [])))))

-- role 1 nested so deep: records k to k + n - 1, each the child of the one before
abbrev nested_from : ℕ → ℕ → List ℕ
nested_from zero k = []
nested_from (suc zero) k = six 3 1 0 0 0 0 []
nested_from (suc (suc n)) k = six 3 1 0 0 (suc k) 0 (nested_from (suc n) (suc k))

abbrev nested : ℕ → List ℕ
nested n = six 1 0 0 0 0 0 (six 5 0 0 0 2 0 (nested_from n 2))

-- a conjunct that the header's chain reaches again: reached before (7) is found before a kind out of place (6)
abbrev reached_again : List ℕ
reached_again = six 1 0 0 0 0 0 (six 5 0 0 0 2 2 (six 1 1 0 0 0 0 []))

-- two classes, a role and 17 features, of which nothing is stated; a term with a value 0..1 of each feature has 131,072 combinations
abbrev wide : List ℕ
wide = four 2 1 17 0 []

-- n records from record k on: 0..1 on feature f, on the next feature, and so on
abbrev spans_from : ℕ → ℕ → ℕ → List ℕ
spans_from zero k f = []
spans_from (suc zero) k f = six 4 f 0 1 0 0 []
spans_from (suc (suc n)) k f = six 4 f 0 1 0 (suc k) (spans_from (suc n) (suc k) (suc f))

-- 0..1 on each feature; role 1 reaching that; that or class c; class c or that
abbrev many_spans : List ℕ
many_spans = six 1 0 0 0 0 0 (six 5 0 0 0 2 0 (spans_from 17 2 1))

abbrev reaching_many : List ℕ
reaching_many = six 1 0 0 0 0 0 (six 5 0 0 0 2 0 (six 3 1 0 0 3 0 (spans_from 17 3 1)))

abbrev many_or_class : ℕ → List ℕ
many_or_class c = six 1 0 0 0 0 0 (six 5 0 0 0 2 19 (spans_from 17 2 1 ++ six 5 0 0 0 20 0 (six 1 c 0 0 0 0 [])))

abbrev class_or_many : ℕ → List ℕ
class_or_many c = six 1 0 0 0 0 0 (six 5 0 0 0 2 3 (six 1 c 0 0 0 0 (six 5 0 0 0 4 0 (spans_from 17 4 1))))

-- R1.all, and the impossible concept
abbrev reaching_all : List ℕ
reaching_all = six 1 0 0 0 0 0 (six 5 0 0 0 2 0 (six 3 1 0 0 0 0 []))

abbrev bottom : List ℕ
bottom = six 1 0 0 0 0 0 (six 5 0 0 0 2 0 (six 2 0 0 0 0 0 []))

-- the short way, with too many combinations to be tried
abbrev shortcuts : List Example
shortcuts =
    compliance_is wide many_spans many_spans compliant []
    -- a right side with no conjuncts passes at any depth
    ∷ (compliance_is wide reaching_many reaching_all compliant []
    ∷ (compliance_is wide reaching_many everybody compliant []
    -- each term by another term of the consent
    ∷ (compliance_is wide (many_or_class 1) (class_or_many 1) compliant []
    ∷ (equality_is wide (many_or_class 1) (class_or_many 1) equal []
    -- it fails for the policy as one, and 22 looks at the term that passed whole, too
    ∷ (prints wide (many_or_class 2) (class_or_many 1) ("refused 22" ∷ [])
    ∷ (prints wide many_spans bottom ("refused 22" ∷ [])
    ∷ (prints wide many_spans nobody ("refused 22" ∷ [])
    -- each direction of Equality by itself
    ∷ (equality_is wide everybody many_spans (differs 1 1 1 5) (five 0 1 0 0 0 [])
    ∷ (equality_is wide many_spans everybody (differs 2 1 1 5) (five 0 1 0 0 0 [])
    ∷ (equality_refuses wide (in_class 1) many_spans 22
    ∷ (equality_refuses wide many_spans (in_class 1) 22
    ∷ [])))))))))))

-- a class, a role and a feature, with such records
abbrev small : List ℕ → List ℕ
small records = four 1 1 1 1 records

-- kind 3 with kind 6
abbrev both_ways : List ℕ
both_ways = small (four 3 1 0 2 (four 6 1 0 0 []))

-- one value unless a record of kind 6 or 7 says otherwise
abbrev valued : List Example
valued =
    vocabulary_is both_ways (refused 44)
    ∷ (vocabulary_is (small (four 7 1 0 2 (four 4 1 0 0 []))) (refused 44)
    -- in every operation straight after 3, which is told of any record of the chain
    ∷ (policy_is both_ways (nested 17) (refused 44)
    ∷ (prints both_ways (nested 17) nobody ("refused 44" ∷ [])
    ∷ (vocabulary_is (small (four 3 1 0 2 (four 6 1 0 3 (four 6 2 0 0 [])))) (refused 3)
    -- a wrong zero, and a kind past the last
    ∷ (vocabulary_is (small (four 6 1 1 0 [])) (refused 3)
    ∷ (vocabulary_is (small (four 8 1 0 0 [])) (refused 3)
    -- a role and a feature of one number are two names, and one may be named twice
    ∷ (vocabulary_is (small (four 3 1 0 2 (four 7 1 0 3 (four 7 1 0 0 [])))) (result accepted)
    -- by default a feature has one value, a role too
    ∷ (possible_is (four 1 1 1 0 []) (span_with 0 4 6 9) none_possible
    ∷ (possible_is (small (four 7 1 0 0 [])) (span_with 0 4 6 9) (first_possible 1)
    ∷ (possible_is former (reaching_spans 3 0 4 6 9) none_possible
    -- a record that is not reached lifts nothing
    ∷ (possible_is (four 1 1 1 0 (four 7 1 0 0 [])) (span_with 0 4 6 9) none_possible
    -- the default is asked of a model
    ∷ (check_is (four 1 1 1 0 []) (span 0 9) (span 0 4) (five 1 1 0 0 0 (five 3 1 1 8 2 (five 3 1 1 7 0 []))) no
    ∷ (check_is (small (four 7 1 0 0 [])) (span 0 9) (span 0 4) (five 1 1 0 0 0 (five 3 1 1 8 2 (five 3 1 1 7 0 []))) yes
    ∷ [])))))))))))))

abbrev pub further : List Example
further =
    vocabulary_is desk (result accepted)
    ∷ (policy_is desk (nested 16) (result accepted)
    ∷ (policy_is desk (nested 17) (refused 8)
    ∷ (policy_is desk reached_again (refused 7)
    ∷ (second_is desk reached_again (refused 17)
    ∷ (compliance_is chained (in_class 3) (in_class 1) compliant []
    ∷ (complies reaching_twice (reaching_twice_in 1)
    ∷ (complies (reaching_span 1 0 9) (reaching_span_or 1 0 4 5 9)
    ∷ (possible_is desk (reaching_spans 1 0 4 6 9) none_possible
    ∷ (possible_is desk (reaching_spans 3 0 4 6 9) (first_possible 1)
    -- the words written: a header and a record
    ∷ (compliance_is desk (span 0 9) (span_or 0 4 6 9) (outside 1 4 10) (five 1 1 0 0 0 (five 3 1 1 5 0 []))
    -- a gap's upper end is its value
    ∷ (compliance_is desk (span 0 9) (span_or 0 4 7 9) (outside 1 4 10) (five 1 1 0 0 0 (five 3 1 1 6 0 []))
    -- two values of a feature that is not functional, the last varying fastest
    ∷ (compliance_is loose (span_with 0 1 5 6) (span 5 5) (outside 1 2 15) (five 1 1 0 0 0 (five 3 1 1 0 2 (five 3 1 1 6 0 [])))
    ∷ (equality_is desk (span 0 9) (span 0 4) (differs 1 1 4 10) (five 1 1 0 0 0 (five 3 1 1 8 0 []))
    ∷ (equality_is desk (span 0 4) (span 0 9) (differs 2 1 4 10) (five 1 1 0 0 0 (five 3 1 1 8 0 []))
    ∷ (check_is desk (span 0 9) (span 0 4) (five 1 1 0 0 0 (five 3 1 1 8 0 [])) yes
    ∷ (check_is desk (span 0 4) (span 0 9) (five 1 1 0 0 0 (five 3 1 1 8 0 [])) no
    ∷ (check_is desk (span 0 9) (span 0 4) (five 1 1 0 0 0 (five 3 1 1 8 2 (five 3 1 1 7 0 []))) no
    ∷ (valued ++ shortcuts))))))))))))))))))
