-- SPECIFICATION 2, what the tables share: names, links, lengths, and refusals in order.
use Rattle.std.specs.Prelude.{◌%◌, ◌-◌, ◌/◌, ◌<◌, ◌≤◌, suc, zero, ℕ, Bool, ◌&&◌, ◌||◌, cond, List, [], ◌++◌, ◌∷◌, ◌⊎◌, ◌≡◌, eqb, leb, ltb, length}

-- SPECIFICATION 2.2: x is a name of a series with so many
abbrev pub Name : ℕ → ℕ → Type 0
Name count x = (1 ≤ x) × (x ≤ count)

abbrev pub is_name : ℕ → ℕ → Bool
is_name count x = leb 1 x && leb x count

-- SPECIFICATION 2.3: record k may link to next, where 0 ends the chain
abbrev pub Onward : ℕ → ℕ → ℕ → Type 0
Onward last k next = (next ≡ 0) ⊎ ((k < next) × (next ≤ last))

abbrev pub is_onward : ℕ → ℕ → ℕ → Bool
is_onward last k next = eqb next 0 || (ltb k next && leb next last)

-- n words are whole records of so many words, a header among them, and at most so many in all
abbrev pub is_sized : ℕ → ℕ → ℕ → Bool
is_sized width most n = eqb (n % width) 0 && (leb width n && leb n most)

-- SPECIFICATION 2.1: the number of the last record; the header is record 0
abbrev pub last_of : ℕ → List ℕ → ℕ
last_of width l = length l / width - 1

-- how many records a chain from record k on can still have: it falls along links
abbrev pub falling : ℕ → ℕ → ℕ
falling last zero = 0
falling last (suc j) = last - j

-- so many steps are enough for a chain from record k on
abbrev pub Enough : ℕ → ℕ → ℕ → Type 0
Enough last steps k = (k ≤ last) × (falling last k ≤ steps)

-- what stands along a chain from record k on, at most so many records of it: a record's next, and what stands at it
abbrev pub list_along : {A : Type 0} → (ℕ → ℕ) → (ℕ → A) → ℕ → ℕ → List A
list_along next item zero k = []
list_along next item (suc f) k =
    let rest = item k ∷ list_along next item f (next k) in
    cond (eqb k 0) [] rest

-- the refusal r where a record along the chain is not sound, the first of them being met before its link is followed; 0 is none
abbrev pub refusal_along : ℕ → (ℕ → ℕ) → (ℕ → Bool) → ℕ → ℕ → ℕ
refusal_along r next sound zero k = 0
refusal_along r next sound (suc f) k =
    let rest = refusal_along r next sound f (next k) in
    let this = cond (sound k) rest r in
    cond (eqb k 0) 0 this

-- records that are written follow each other: the link to record k, where there is one
abbrev pub link_to : {A : Type 0} → ℕ → List A → ℕ
link_to k [] = 0
link_to k (x ∷ l) = k

-- their words from record k on, by what stands in a record and its link
abbrev pub chained_words : {A : Type 0} → (A → ℕ → List ℕ) → ℕ → List A → List ℕ
chained_words words k [] = []
chained_words words k (x ∷ l) = words x (link_to (suc k) l) ++ chained_words words (suc k) l

-- the first refusal in an operation's order (SPECIFICATION 9.1); 0 is none
abbrev pub or_else : ℕ → ℕ → ℕ
or_else zero later = later
or_else (suc n) later = suc n
