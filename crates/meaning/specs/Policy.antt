-- SPECIFICATION 4 and 9.3: a policy's records, what Read policy refuses, and the terms that an accepted table states.
use Rattle.std.specs.Prelude.{◌*◌, ◌+◌, suc, zero, ℕ, Bool, ◌&&◌, cond, List, [], ◌∷◌, eqb, leb, get_or, length}
use Rattle.meaning.specs.Limits.{most_depth, most_policy_words}
use Rattle.meaning.specs.Lists.{any}
use Rattle.meaning.specs.Records.{is_name, is_onward, is_sized, last_of, list_along}
use Rattle.meaning.specs.Vocabulary.{class_count, feature_count, role_count}

-- SPECIFICATION 4.2: a chain of conjuncts, each a record with its child chain and its next, kinds 1 to 4
pub data Chain : Type 0 where
  end : Chain
  class : ℕ → Chain → Chain
  impossible : Chain → Chain
  some : ℕ → Chain → Chain → Chain
  interval : ℕ → ℕ → ℕ → Chain → Chain

-- a policy is its terms, each the chain of its conjuncts; there is none where the header's link is 0 (SPECIFICATION 4.5)
abbrev pub Policy : Type 0
Policy = List Chain

-- SPECIFICATION 4.2: the words of record k
abbrev pub kind_of : List ℕ → ℕ → ℕ
kind_of p k = get_or p (6 * k) 0

abbrev pub name_of : List ℕ → ℕ → ℕ
name_of p k = get_or p (6 * k + 1) 0

abbrev pub lo_of : List ℕ → ℕ → ℕ
lo_of p k = get_or p (6 * k + 2) 0

abbrev pub hi_of : List ℕ → ℕ → ℕ
hi_of p k = get_or p (6 * k + 3) 0

abbrev pub child_of : List ℕ → ℕ → ℕ
child_of p k = get_or p (6 * k + 4) 0

abbrev pub next_of : List ℕ → ℕ → ℕ
next_of p k = get_or p (6 * k + 5) 0

-- SPECIFICATION 4.1: the header
abbrev pub first_term : List ℕ → ℕ
first_term p = get_or p 0 0

abbrev pub headed_policy : List ℕ → Bool
headed_policy p =
    leb (first_term p) (last_of 6 p)
    && (eqb (get_or p 1 0) 0 && (eqb (get_or p 2 0) 0 && (eqb (get_or p 3 0) 0 && (eqb (get_or p 4 0) 0 && eqb (get_or p 5 0) 0))))

-- SPECIFICATION 4.2 and 4.3: a record's kind, name and zeros, at a depth; depth 0 is the header's chain
abbrev pub record_fits : List ℕ → List ℕ → ℕ → ℕ → Bool
record_fits v p depth k =
    cond (eqb depth 0) (eqb (kind_of p k) 5 && (eqb (name_of p k) 0 && (eqb (lo_of p k) 0 && eqb (hi_of p k) 0)))
    (cond (eqb (kind_of p k) 1) (is_name (class_count v) (name_of p k) && (eqb (lo_of p k) 0 && (eqb (hi_of p k) 0 && eqb (child_of p k) 0)))
    (cond (eqb (kind_of p k) 2) (eqb (name_of p k) 0 && (eqb (lo_of p k) 0 && (eqb (hi_of p k) 0 && eqb (child_of p k) 0)))
    (cond (eqb (kind_of p k) 3) (is_name (role_count v) (name_of p k) && (eqb (lo_of p k) 0 && eqb (hi_of p k) 0))
    (eqb (kind_of p k) 4 && (is_name (feature_count v) (name_of p k) && eqb (child_of p k) 0)))))

-- and both links, as in SPECIFICATION 2.3
abbrev pub sound_record : List ℕ → List ℕ → ℕ → ℕ → Bool
sound_record v p depth k =
    record_fits v p depth k && (is_onward (last_of 6 p) k (child_of p k) && is_onward (last_of 6 p) k (next_of p k))

-- the records reached so far, or the first fault
pub data Walk : Type 0 where
  reached : List ℕ → Walk
  fault : ℕ → Walk

abbrev pub onward : Walk → (List ℕ → Walk) → Walk
onward (reached seen) go = go seen
onward (fault n) go = fault n

-- SPECIFICATION 4.4: a record, then its child chain, then its next; at one record 7, reached before, then 6, not sound, then 8, too
-- deep. From record k on, at a depth, with the records reached before
unfoldable pub walk : ℕ → List ℕ → List ℕ → ℕ → ℕ → List ℕ → Walk
walk zero v p depth k seen = reached seen
walk (suc f) v p depth k seen =
    let inner = walk f v p (suc depth) (child_of p k) (k ∷ seen) in
    let on = onward inner (walk f v p depth (next_of p k)) in
    let deep = cond (eqb depth (suc most_depth)) (fault 8) on in
    let sound = cond (sound_record v p depth k) deep (fault 6) in
    let fresh = cond (any (eqb k) seen) (fault 7) sound in
    cond (eqb k 0) (reached seen) fresh

abbrev pub fault_of : Walk → ℕ
fault_of (reached seen) = 0
fault_of (fault n) = n

-- 4: the length; then 5, the header; then the walk's first fault. The first refusal of Read policy (SPECIFICATION 9.3); 0 is none
unfoldable pub policy_refusal : List ℕ → List ℕ → ℕ
policy_refusal v p =
    let walked = fault_of (walk (length p) v p 0 (first_term p) []) in
    let header = cond (headed_policy p) walked 5 in
    cond (is_sized 6 most_policy_words (length p)) header 4

-- SPECIFICATION 9.4: a second policy's numbers are 14 to 18
abbrev pub second_refusal : ℕ → ℕ
second_refusal zero = 0
second_refusal (suc n) = 10 + suc n

-- the conjunct at record k, in front of the others
abbrev pub conjunct_at : List ℕ → ℕ → Chain → Chain → Chain
conjunct_at p k child next =
    cond (eqb (kind_of p k) 1) (class (name_of p k) next)
    (cond (eqb (kind_of p k) 2) (impossible next)
    (cond (eqb (kind_of p k) 3) (some (name_of p k) child next)
    (interval (name_of p k) (lo_of p k) (hi_of p k) next)))

abbrev pub chain_from : ℕ → List ℕ → ℕ → Chain
chain_from zero p k = end
chain_from (suc f) p k =
    let child = chain_from f p (child_of p k) in
    let next = chain_from f p (next_of p k) in
    let this = conjunct_at p k child next in
    cond (eqb k 0) end this

-- the conjuncts of the term at record k
abbrev pub term_at : List ℕ → ℕ → Chain
term_at p k = chain_from (length p) p (child_of p k)

abbrev pub terms_from : ℕ → List ℕ → ℕ → Policy
terms_from f p k = list_along (next_of p) (term_at p) f k

-- the terms of the header's chain
unfoldable pub policy_of : List ℕ → Policy
policy_of p = terms_from (length p) p (first_term p)
