-- The items of a policy whose classes stand in front: they are as many records as its own, as deep, and their words are the policy's.
-- Assumes nothing.
use Prim.Native.Nat.{◌+◌, ◌<◌, max, suc, ℕ}
use mathlib.Core.Bool.{Bool, ◌||◌, cond, false, true}
use mathlib.Core.List.{List, [], ◌++◌, ◌∷◌, append_assoc}
use mathlib.Core.Path.{◌∙◌, ◌≡◌, ap, ap₂, refl, sym}
use lib.Dec.{eqb, eqb-suc-zero, ltb}
use lib.ListN.{length}
use native.Mathlib.Nat.{add-zero}
use native.Mathlib.Omega.{arith}
use borrow.Author.Tests.{eq-eqb, le-ltb, lt-ltb, ltb-false, ltb-true, ne_eqb}
use Rattle.arrangement.specs.Runs.{Fronted, chain_items, classes_of, policy_items, role_item}
use Rattle.entries.specs.Entries.{Item}
use Rattle.meaning.specs.Accepted.{count, depth, total}
use Rattle.meaning.specs.Limits.{most_depth, most_records}
use Rattle.meaning.specs.Lists.{All, any, cons, nil}
use Rattle.meaning.specs.Policy.{Chain, Policy, class, end, impossible, interval, some}
use Rattle.meaning.specs.PolicyWords.{chain_link, chain_words, policy_words, record_words, term_words}
use Rattle.meaning.specs.Records.{link_to}
use Rattle.spelling.specs.Spelling.{too_long}
use Rattle.writing.specs.Written.{are_too_long, class_records, deepest, first_records, is_deep, item_records, item_words, link_below}
use Rattle.writing.specs.Written.{link_beside, records_in, where_any}

-- ---- how many

front_none : (c : Chain) → Fronted false c → classes_of c ≡ []
front_none end f = refl
front_none (class a next) f = absurd f.0
front_none (impossible next) f = absurd f
front_none (some r child next) f = refl
front_none (interval a lo hi next) f = refl

records_append : (l m : List Item) → records_in (l ++ m) ≡ records_in l + records_in m
records_append [] m = omega arith
records_append (x ∷ l) m = omega (arith, records_append l m)

-- a chain's records are its items' and those of the classes in front
chain_records : (c : Chain) (b : Bool) (d : ℕ) → Fronted b c → length (classes_of c) + records_in (chain_items d c) ≡ count c
chain_records end b d f = refl
chain_records (class a next) b d f = omega (arith, chain_records next true d f.1)
chain_records (impossible next) b d f = absurd f
chain_records (some r child next) b d f =
    let n = ap length (front_none next f.1) in
    let s = records_append (chain_items (suc d) child) (chain_items d next) in
    omega (arith, chain_records child true (suc d) f.0, chain_records next false d f.1)
chain_records (interval a lo hi next) b d f = omega (arith, chain_records next false d f, ap length (front_none next f))

pub items_records : (P : Policy) → All (Fronted true) P → records_in (policy_items P) ≡ total P
items_records [] nil = refl
items_records (c ∷ P) (cons f fs) =
    omega (arith, chain_records c true 1 f, records_append (chain_items 1 c) (policy_items P), items_records P fs)

-- ---- how deep

-- the depth of the deepest record
peak : List Item → ℕ
peak [] = 0
peak (x ∷ l) = max (deepest x) (peak l)

peak_append : (l m : List Item) → peak (l ++ m) ≡ max (peak l) (peak m)
unfolding peak
peak_append [] m = omega arith
peak_append (x ∷ l) m = omega (arith, peak_append l m)

ltb_max : (n a b : ℕ) → ltb n (max a b) ≡ ltb n a || ltb n b
ltb_max n a b = go (ltb n a) refl (ltb n b) refl
  where
    go : (s : Bool) → ltb n a ≡ s → (t : Bool) → ltb n b ≡ t → ltb n (max a b) ≡ s || t
    go true e t f = lt-ltb n (max a b) (let h = ltb-true n a e in omega arith)
    go false e true f = lt-ltb n (max a b) (let h = ltb-true n b f in omega arith)
    go false e false f = le-ltb n (max a b) (let h = ltb-false n a e in let g = ltb-false n b f in omega arith)

peak_deep : (l : List Item) → any is_deep l ≡ ltb most_depth (peak l)
unfolding peak
peak_deep [] = refl
peak_deep (x ∷ l) = ap (λ (b : Bool). is_deep x || b) (peak_deep l) ∙ sym (ltb_max most_depth (deepest x) (peak l))

-- an item of depth d, with the chain of what it reaches
chain_peak : (c : Chain) (b : Bool) (d : ℕ) → Fronted b c →
    max (where_any (classes_of c) (suc d) d) (peak (chain_items (suc d) c)) ≡ d + depth c
unfolding peak
chain_peak end b d f = omega arith
chain_peak (class a next) b d f = go (classes_of next) (chain_peak next true d f.1)
  where
    go : (cs : List ℕ) → max (where_any cs (suc d) d) (peak (chain_items (suc d) next)) ≡ d + depth next →
        max (suc d) (peak (chain_items (suc d) next)) ≡ d + max 1 (depth next)
    go [] e = omega arith
    go (x ∷ cs) e = omega arith
chain_peak (impossible next) b d f = absurd f
chain_peak (some r child next) b d f =
    let n = rw (front_none next f.1) at (chain_peak next false d f.1) in
    let s = peak_append (chain_items (suc (suc d)) child) (chain_items (suc d) next) in
    omega (arith, chain_peak child true (suc d) f.0)
chain_peak (interval a lo hi next) b d f = omega (arith, rw (front_none next f) at (chain_peak next false d f))

items_deep : (P : Policy) → All (Fronted true) P → any is_deep (policy_items P) ≡ any (λ c. ltb most_depth (depth c)) P
unfolding peak
items_deep [] nil = refl
items_deep (c ∷ P) (cons f fs) =
    let t = role_item 0 0 (classes_of c) ∷ chain_items 1 c in
    let z : peak t ≡ depth c = omega (arith, chain_peak c true 0 f) in
    peak_deep (t ++ policy_items P)
    ∙ ap (ltb most_depth) (peak_append t (policy_items P))
    ∙ ltb_max most_depth (peak t) (peak (policy_items P))
    ∙ ap₂ ◌||◌ (ap (ltb most_depth) z) (sym (peak_deep (policy_items P)) ∙ items_deep P fs)

pub items_too_long : (P : Policy) → All (Fronted true) P → are_too_long (policy_items P) ≡ too_long P
unfolding are_too_long too_long
items_too_long P f = ap₂ (λ (n : ℕ) (b : Bool). ltb most_records n || b) (items_records P f) (items_deep P f)

-- ---- the links

-- the first item, if there is one, stands above depth d
abbrev Above : ℕ → List Item → Type 0
Above d [] = Unit {0}
Above d (x ∷ l) = x.fields.depth < d

above_more : (d : ℕ) (l : List Item) → Above d l → Above (suc d) l
above_more d [] h = tt
above_more d (x ∷ l) h = omega arith

above_chain : (c : Chain) (d : ℕ) (l : List Item) → Above d l → Above (suc d) (chain_items d c ++ l)
above_chain end d l h = above_more d l h
above_chain (class a next) d l h = above_chain next d l h
above_chain (impossible next) d l h = above_chain next d l h
above_chain (some r child next) d l h = omega arith
above_chain (interval a lo hi next) d l h = omega arith

below_none : (k d : ℕ) (l : List Item) → Above (suc d) l → link_below k d l ≡ 0
below_none k d [] h = refl
below_none k d (x ∷ l) h = rw (le-ltb d x.fields.depth (omega arith))

beside_none : (k d : ℕ) (l : List Item) → Above d l → link_beside k d l ≡ 0
beside_none k d [] h = refl
beside_none k d (x ∷ l) h = rw (le-ltb d x.fields.depth (omega arith), ne_eqb x.fields.depth d (λ e. omega arith))

-- the items below a deeper individual are passed over
beside_past : (c : Chain) (k d e : ℕ) (l : List Item) → d < e → link_beside k d (chain_items e c ++ l) ≡ link_beside (k + records_in (chain_items e c)) d l
beside_past end k d e l h = rw (add-zero k)
beside_past (class a next) k d e l h = beside_past next k d e l h
beside_past (impossible next) k d e l h = beside_past next k d e l h
beside_past (some r child next) k d e l h =
    let n = suc (length (classes_of child)) in
    let a = chain_items (suc e) child in
    let b = chain_items e next in
    let m : k + n + records_in a + records_in b ≡ k + (n + records_in (a ++ b)) = omega (arith, records_append a b) in
    rw (lt-ltb d e h, append_assoc a b l)
    (beside_past child (k + n) d (suc e) (b ++ l) (omega arith) ∙ beside_past next (k + n + records_in a) d e l h ∙ ap (λ (j : ℕ). link_beside j d l) m)
beside_past (interval a lo hi next) k d e l h =
    let m : k + 1 + records_in (chain_items e next) ≡ k + (1 + records_in (chain_items e next)) = omega arith in
    rw (lt-ltb d e h) (beside_past next (k + 1) d e l h ∙ ap (λ (j : ℕ). link_beside j d l) m)

beside_here : (c : Chain) (k d : ℕ) (l : List Item) → Fronted false c → Above d l → link_beside k d (chain_items d c ++ l) ≡ chain_link k c
beside_here end k d l f h = beside_none k d l h
beside_here (class a next) k d l f h = absurd f.0
beside_here (impossible next) k d l f h = absurd f
beside_here (some r child next) k d l f h = rw (le-ltb d d (omega arith), eq-eqb d d refl)
beside_here (interval a lo hi next) k d l f h = rw (le-ltb d d (omega arith), eq-eqb d d refl)

-- the link to a chain's first record: a class's, or its first item's
inside : (c : Chain) (b : Bool) (k d : ℕ) (l : List Item) → Fronted b c → Above (suc d) l →
    where_any (classes_of c) k (link_below (k + length (classes_of c)) d (chain_items (suc d) c ++ l)) ≡ chain_link k c
inside end b k d l f h = below_none (k + 0) d l h
inside (class a next) b k d l f h = refl
inside (impossible next) b k d l f h = absurd f
inside (some r child next) b k d l f h = rw (lt-ltb d (suc d) (omega arith)) (add-zero k)
inside (interval a lo hi next) b k d l f h = rw (lt-ltb d (suc d) (omega arith)) (add-zero k)

-- ---- the words

-- the classes in front of a chain and its items, from record k on, with others behind them
abbrev spelled_from : ℕ → ℕ → Chain → List Item → List ℕ
spelled_from k d c l =
    let after = k + length (classes_of c) in
    class_records k (classes_of c) (link_below after d (chain_items (suc d) c ++ l)) (item_records after (chain_items (suc d) c ++ l))

-- a role or a term, with the words of what it reaches
role_words_lem : (k d r : ℕ) (c : Chain) (l : List Item) → Fronted true c → Above (suc d) l →
    spelled_from (suc k) d c l ≡ chain_words (suc k) c (item_records (suc k + count c) l) →
    item_records k (role_item d r (classes_of c) ∷ (chain_items (suc d) c ++ l))
    ≡ record_words (cond (eqb d 0) 5 3) r 0 0 (chain_link (suc k) c) (link_beside (suc k + count c) d l) (chain_words (suc k) c (item_records (suc k + count c) l))
unfolding item_records first_records
role_words_lem k d r c l f h ih =
    let n = length (classes_of c) in
    let m : k + suc n ≡ suc k + n = omega arith in
    let z : suc k + n + records_in (chain_items (suc d) c) ≡ suc k + count c = omega (arith, chain_records c true (suc d) f) in
    let beside : link_beside (suc k + n) d (chain_items (suc d) c ++ l) ≡ link_beside (suc k + count c) d l =
    beside_past c (suc k + n) d (suc d) l (omega arith) ∙ ap (λ (j : ℕ). link_beside j d l) z in
    rw (m, inside c true (suc k) d l f h, beside, ih)

-- a chain with no class in front
plain_words : (k d : ℕ) (c : Chain) (l : List Item) {ws : List ℕ} → Fronted false c → spelled_from k d c l ≡ ws → item_records k (chain_items (suc d) c ++ l) ≡ ws
plain_words k d c l f ih = rw (front_none c f, add-zero k) at ih

chain_words_lem : (c : Chain) (b : Bool) (k d : ℕ) (l : List Item) → Fronted b c → Above (suc d) l → spelled_from k d c l ≡ chain_words k c (item_records (k + count c) l)
unfolding item_records first_records
chain_words_lem end b k d l f h = refl
chain_words_lem (class a next) b k d l f h =
    let m : k + suc (length (classes_of next)) ≡ suc k + length (classes_of next) = omega arith in
    let n : k + suc (count next) ≡ suc k + count next = omega arith in
    rw (m, n, inside next true (suc k) d l f.1 h, chain_words_lem next true (suc k) d l f.1 h)
chain_words_lem (impossible next) b k d l f h = absurd f
chain_words_lem (some r child next) b k d l f h =
    let j = suc k + count child in
    let l' = chain_items (suc d) next ++ l in
    let g = above_chain next (suc d) l h in
    let n : k + suc (count child + count next) ≡ j + count next = omega arith in
    rw (add-zero k, append_assoc (chain_items (suc (suc d)) child) (chain_items (suc d) next) l)
    (role_words_lem k (suc d) r child l' f.0 g (chain_words_lem child true (suc k) (suc d) l' f.0 g)
    ∙ rw (eqb-suc-zero d, beside_here next j (suc d) l f.1 h, plain_words j d next l f.1 (chain_words_lem next false j d l f.1 h), n))
chain_words_lem (interval a lo hi next) b k d l f h =
    let n : k + suc (count next) ≡ suc k + count next = omega arith in
    let m : k + 1 ≡ suc k = omega arith in
    rw (
      add-zero k,
      n,
      eqb-suc-zero d,
      m,
      below_none (suc k) (suc d) (chain_items (suc d) next ++ l) (above_chain next (suc d) l h),
      beside_here next (suc k) (suc d) l f h,
      plain_words (suc k) d next l f (chain_words_lem next false (suc k) d l f h),
    )

term_words_lem : (P : Policy) (k : ℕ) → All (Fronted true) P → item_records k (policy_items P) ≡ term_words k P
unfolding item_records
term_words_lem [] k nil = refl
term_words_lem (c ∷ P) k (cons f fs) =
    let l = policy_items P in
    let h = above_terms P in
    role_words_lem k 0 0 c l f h (chain_words_lem c true (suc k) 0 l f h) ∙ rw (term_link P (suc k + count c), term_words_lem P (suc k + count c) fs)
  where
    above_terms : (P : Policy) → Above 1 (policy_items P)
    above_terms [] = tt
    above_terms (c ∷ P) = omega arith

    term_link : (P : Policy) (k : ℕ) → link_beside k 0 (policy_items P) ≡ link_to k P
    term_link [] k = refl
    term_link (c ∷ P) k = refl

pub items_words : (P : Policy) → All (Fronted true) P → item_words (policy_items P) ≡ policy_words P
unfolding item_words policy_words
items_words P f = ap₂ (λ (k : ℕ) (ws : List ℕ). record_words k 0 0 0 0 0 ws) (link P) (term_words_lem P 1 f)
  where
    link : (P : Policy) → link_to 1 (policy_items P) ≡ link_to 1 P
    link [] = refl
    link (c ∷ P) = refl
