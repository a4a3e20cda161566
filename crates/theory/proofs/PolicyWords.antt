-- A policy's words are read as the policy, and accepted.
use Prim.Native.Nat.{◌*◌, ◌+◌, ◌<◌, ◌≤◌, suc, zero, ℕ}
use mathlib.Core.Bool.{false, true}
use mathlib.Core.List.{List, [], ◌∷◌}
use mathlib.Core.Logic.{inl, inr}
use mathlib.Core.Path.{◌≡◌, refl, subst, sym}
use lib.Dec.{eqb, eqb-suc-zero}
use lib.ListN.{drop, length}
use native.Mathlib.Nat.{add-zero}
use native.Mathlib.Omega.{arith}
use borrow.Author.Tests.{ne_eqb}
use Rattle.meaning.specs.Accepted.{ChainOf, Here, Reads, ReadsTerms, count, depth, reads_class, reads_end, reads_impossible, reads_interval}
use Rattle.meaning.specs.Accepted.{reads_none, reads_some, reads_term, total}
use Rattle.meaning.specs.Limits.{most_depth, most_policy_words, most_records}
use Rattle.meaning.specs.Lists.{All, any, cons, nil}
use Rattle.meaning.specs.Policy.{Chain, Policy, Walk, child_of, class, end, headed_policy, hi_of, impossible, interval, kind_of, lo_of, name_of}
use Rattle.meaning.specs.Policy.{next_of, policy_of, policy_refusal, reached, some, sound_record, walk}
use Rattle.meaning.specs.PolicyWords.{chain_link, chain_words, policy_words, term_words}
use Rattle.meaning.specs.Records.{Name, Onward, is_sized, last_of, link_to}
use Rattle.meaning.specs.Vocabulary.{class_count, feature_count, role_count}
use Rattle.theory.proofs.Chained.{record_after, word_at_lem}
use Rattle.theory.proofs.Links.{falling_le, onward_le, tests}
use Rattle.theory.proofs.Rules.{all_mono, head, tail}
use Rattle.theory.proofs.Terms.{terms_are}

-- ---- lengths

chain_length : (k : ℕ) (c : Chain) (l : List ℕ) → length (chain_words k c l) ≡ 6 * count c + length l
chain_length k end l = omega arith
chain_length k (class a next) l = let h = chain_length (suc k) next l in omega arith
chain_length k (impossible next) l = let h = chain_length (suc k) next l in omega arith
chain_length k (some r child next) l =
    let h = chain_length (suc k + count child) next l in
    let g = chain_length (suc k) child (chain_words (suc k + count child) next l) in
    omega arith
chain_length k (interval f lo hi next) l = let h = chain_length (suc k) next l in omega arith

pub term_length : (k : ℕ) (P : Policy) → length (term_words k P) ≡ 6 * total P
term_length k [] = refl
term_length k (c ∷ P) =
    let h = term_length (suc k + count c) P in
    let g = chain_length (suc k) c (term_words (suc k + count c) P) in
    omega arith

pub policy_length : (P : Policy) → length (policy_words P) ≡ 6 + 6 * total P
unfolding policy_words
policy_length P = let h = term_length 1 P in omega arith

pub policy_last : (P : Policy) → last_of 6 (policy_words P) ≡ total P
policy_last P = let h = policy_length P in omega arith

-- ---- record k of the words p

module _ (p : List ℕ) (k : ℕ) where
  -- its six words, and those behind it
  pub record Written (kind a lo hi child next : ℕ) (l : List ℕ) : Type 0 where
    pub kind_is : kind_of p k ≡ kind
    pub name_is : name_of p k ≡ a
    pub lo_is : lo_of p k ≡ lo
    pub hi_is : hi_of p k ≡ hi
    pub child_is : child_of p k ≡ child
    pub next_is : next_of p k ≡ next
    pub rest : drop (6 * suc k) p ≡ l

  pub written_at : {kind a lo hi child next : ℕ} {l : List ℕ} → drop (6 * k) p ≡ kind ∷ (a ∷ (lo ∷ (hi ∷ (child ∷ (next ∷ l))))) →
      Written kind a lo hi child next l
  written_at e = record {
    kind_is = rw add-zero at (word_at_lem 6 p k e 0);
    name_is = word_at_lem 6 p k e 1;
    lo_is = word_at_lem 6 p k e 2;
    hi_is = word_at_lem 6 p k e 3;
    child_is = word_at_lem 6 p k e 4;
    next_is = word_at_lem 6 p k e 5;
    rest = record_after 6 p k e;
  }

-- the same place
moved : (p : List ℕ) (m n : ℕ) (l : List ℕ) → m ≡ n → drop (6 * m) p ≡ l → drop (6 * n) p ≡ l
moved p m n l e h = subst (λ (i : ℕ). drop (6 * i) p ≡ l) e h

-- the words behind a chain
behind : (p : List ℕ) (k : ℕ) (c : Chain) (l : List ℕ) → drop (6 * k) p ≡ chain_words k c l → drop (6 * (k + count c)) p ≡ l
behind p k end l e = rw add-zero e
behind p k (class a next) l e = moved p (suc k + count next) (k + suc (count next)) l (omega arith) (behind p (suc k) next l (written_at p k e).rest)
behind p k (impossible next) l e = moved p (suc k + count next) (k + suc (count next)) l (omega arith) (behind p (suc k) next l (written_at p k e).rest)
behind p k (some r child next) l e =
    moved p (suc k + count child + count next) (k + suc (count child + count next)) l (omega arith)
    (behind p (suc k + count child) next l (behind p (suc k) child (chain_words (suc k + count child) next l) (written_at p k e).rest))
behind p k (interval f lo hi next) l e = moved p (suc k + count next) (k + suc (count next)) l (omega arith) (behind p (suc k) next l (written_at p k e).rest)

-- links go onward
chain_onward : (last k j : ℕ) (c : Chain) → j < k → k + count c ≤ suc last → Onward last j (chain_link k c)
chain_onward last k j end h g = inl refl
chain_onward last k j (class a next) h g = inr (h, omega arith)
chain_onward last k j (impossible next) h g = inr (h, omega arith)
chain_onward last k j (some r child next) h g = inr (h, omega arith)
chain_onward last k j (interval f lo hi next) h g = inr (h, omega arith)

term_onward : (last k j : ℕ) (P : Policy) → j < k → k + total P ≤ suc last → Onward last j (link_to k P)
term_onward last k j [] h g = inl refl
term_onward last k j (c ∷ P) h g = inr (h, omega arith)

-- ---- read back

module _ (p : List ℕ) where
  abbrev last : ℕ
  last = last_of 6 p

  here_at : (k : ℕ) {child next : ℕ} → child_of p k ≡ child → next_of p k ≡ next → Name last k → Onward last k child → Onward last k next → Here p k
  here_at k e f n a b = record { inside = n; child = subst (Onward last k) (sym e) a; next = subst (Onward last k) (sym f) b }

  -- from record k on the words are those of c
  reads_chain : (k : ℕ) (c : Chain) (l : List ℕ) → 1 ≤ k → k + count c ≤ suc last → drop (6 * k) p ≡ chain_words k c l → Reads p (chain_link k c) c
  reads_chain k end l h g e = reads_end refl
  reads_chain k (class a next) l h g e =
      let w = written_at p k e in
      let r = reads_chain (suc k) next l (omega arith) (omega arith) w.rest in
      subst (λ (z : ℕ). Reads p k (class z next)) w.name_is
      (reads_class (here_at k w.child_is w.next_is (h, omega arith) (inl refl) (chain_onward last (suc k) k next (omega arith) (omega arith))) w.kind_is
      (subst (λ (z : ℕ). Reads p z next) (sym w.next_is) r))
  reads_chain k (impossible next) l h g e =
      let w = written_at p k e in
      let r = reads_chain (suc k) next l (omega arith) (omega arith) w.rest in
      reads_impossible (here_at k w.child_is w.next_is (h, omega arith) (inl refl)
      (chain_onward last (suc k) k next (omega arith) (omega arith))) w.kind_is
      (subst (λ (z : ℕ). Reads p z next) (sym w.next_is) r)
  reads_chain k (some r child next) l h g e =
      let w = written_at p k e in
      let more = chain_words (suc k + count child) next l in
      let q = reads_chain (suc k) child more (omega arith) (omega arith) w.rest in
      let s = reads_chain (suc k + count child) next l (omega arith) (omega arith) (behind p (suc k) child more w.rest) in
      subst (λ (z : ℕ). Reads p k (some z child next)) w.name_is
      (reads_some (here_at k w.child_is w.next_is (h, omega arith) (chain_onward last (suc k) k child (omega arith) (omega arith))
      (chain_onward last (suc k + count child) k next (omega arith) (omega arith)))
      w.kind_is (subst (λ (z : ℕ). Reads p z child) (sym w.child_is) q) (subst (λ (z : ℕ). Reads p z next) (sym w.next_is) s))
  reads_chain k (interval f lo hi next) l h g e =
      let w = written_at p k e in
      let r = reads_chain (suc k) next l (omega arith) (omega arith) w.rest in
      let x : interval (name_of p k) (lo_of p k) (hi_of p k) next ≡ interval f lo hi next = cc in
      subst (λ (z : Chain). Reads p k z) x
      (reads_interval (here_at k w.child_is w.next_is (h, omega arith) (inl refl) (chain_onward last (suc k) k next (omega arith) (omega arith)))
      w.kind_is
      (subst (λ (z : ℕ). Reads p z next) (sym w.next_is) r))

  reads_terms : (k : ℕ) (P : Policy) → 1 ≤ k → k + total P ≤ suc last → drop (6 * k) p ≡ term_words k P → ReadsTerms p (link_to k P) P
  reads_terms k [] h g e = reads_none refl
  reads_terms k (c ∷ P) h g e =
      let w = written_at p k e in
      let more = term_words (suc k + count c) P in
      let q = reads_chain (suc k) c more (omega arith) (omega arith) w.rest in
      let s = reads_terms (suc k + count c) P (omega arith) (omega arith) (behind p (suc k) c more w.rest) in
      reads_term (here_at k w.child_is w.next_is (h, omega arith) (chain_onward last (suc k) k c (omega arith) (omega arith))
      (term_onward last (suc k + count c) k P (omega arith) (omega arith)))
      (w.kind_is, w.name_is) (subst (λ (z : ℕ). Reads p z c) (sym w.child_is) q) (subst (λ (z : ℕ). ReadsTerms p z P) (sym w.next_is) s)

-- the policy that is read is the one written
pub policy_words_read : (P : Policy) → policy_of (policy_words P) ≡ P
unfolding policy_of policy_words
policy_words_read P =
    let p = policy_words P in
    let last = policy_last P in
    terms_are (reads_terms p 1 P (omega arith) (omega arith) refl) (length p) (omega (arith, falling_le (last_of 6 p) (link_to 1 P)))

-- ---- accepted

-- the walk ends without a fault, having seen records up to n only
pub record Reaches (n : ℕ) (w : Walk) : Type 0 where
  pub seen : List ℕ
  pub ends : w ≡ reached seen
  pub below : All (λ j. j < n) seen

more_below : {m n : ℕ} {seen : List ℕ} → m ≤ n → All (λ j. j < m) seen → All (λ j. j < n) seen
more_below h a = all_mono (λ j g. omega arith) a

not_seen : (k : ℕ) {seen : List ℕ} → All (λ j. j < k) seen → any (eqb k) seen ≡ false
not_seen k nil = refl
not_seen k (cons {x = j} {l = seen} h t) = rw (ne_eqb k j (λ e. omega arith)) (not_seen k t)

module _ (v p : List ℕ) where
  walk_end : (f d : ℕ) (seen : List ℕ) → walk f v p d 0 seen ≡ reached seen
  unfolding walk
  walk_end zero d seen = refl
  walk_end (suc f) d seen = refl

  -- one record, its child chain and its next
  walk_on : (f d k child next : ℕ) (seen : List ℕ) {m n : ℕ} → child_of p k ≡ child → next_of p k ≡ next → 1 ≤ k → All (λ j. j < k) seen →
      sound_record v p d k ≡ true → eqb d (suc most_depth) ≡ false → Reaches m (walk f v p (suc d) child (k ∷ seen)) →
      ((s : List ℕ) → All (λ j. j < m) s → Reaches n (walk f v p d next s)) → Reaches n (walk (suc f) v p d k seen)
  unfolding walk
  walk_on f d k child next seen {m} {n} e g h a sound deep inner on =
      let r = on inner.seen inner.below in
      record {
        seen = r.seen;
        ends = rw (ne_eqb k 0 (λ z. omega arith), not_seen k a, sound, deep, e, inner.ends, g) r.ends;
        below = r.below;
      }

  still : (f d k n : ℕ) (seen : List ℕ) → All (λ j. j < k) seen → k ≤ n → Reaches n (walk f v p d 0 seen)
  still f d k n seen a h = record { seen = seen; ends = walk_end f d seen; below = more_below h a }

  no_fuel : (d k i n : ℕ) (seen : List ℕ) → All (λ j. j < k) seen → k ≤ n → Reaches n (walk zero v p d i seen)
  unfolding walk
  no_fuel d k i n seen a h = record { seen = seen; ends = refl; below = more_below h a }

  -- what a record is, by its kind
  class_fits : (d k : ℕ) {a next : ℕ} {l : List ℕ} → Written p k 1 a 0 0 0 next l → Name (class_count v) a → Onward (last_of 6 p) k next →
      sound_record v p (suc d) k ≡ true
  class_fits d k w n o =
      simp (eqb-suc-zero, w.kind_is, w.name_is, w.lo_is, w.hi_is, w.child_is, w.next_is, tests) ((n, (refl, (refl, refl))), (inl refl, o))

  impossible_fits : (d k : ℕ) {next : ℕ} {l : List ℕ} → Written p k 2 0 0 0 0 next l → Onward (last_of 6 p) k next → sound_record v p (suc d) k ≡ true
  impossible_fits d k w o =
      simp (eqb-suc-zero, w.kind_is, w.name_is, w.lo_is, w.hi_is, w.child_is, w.next_is, tests) ((refl, (refl, (refl, refl))), (inl refl, o))

  some_fits : (d k : ℕ) {r child next : ℕ} {l : List ℕ} → Written p k 3 r 0 0 child next l → Name (role_count v) r → Onward (last_of 6 p) k child →
      Onward (last_of 6 p) k next →
      sound_record v p (suc d) k ≡ true
  some_fits d k w n q o = simp (eqb-suc-zero, w.kind_is, w.name_is, w.lo_is, w.hi_is, w.child_is, w.next_is, tests) ((n, (refl, refl)), (q, o))

  interval_fits : (d k : ℕ) {f lo hi next : ℕ} {l : List ℕ} → Written p k 4 f lo hi 0 next l → Name (feature_count v) f → Onward (last_of 6 p) k next →
      sound_record v p (suc d) k ≡ true
  interval_fits d k w n o = simp (eqb-suc-zero, w.kind_is, w.name_is, w.lo_is, w.hi_is, w.child_is, w.next_is, tests) ((refl, (n, refl)), (inl refl, o))

  term_fits : (k : ℕ) {child next : ℕ} {l : List ℕ} → Written p k 5 0 0 0 child next l → Onward (last_of 6 p) k child → Onward (last_of 6 p) k next →
      sound_record v p 0 k ≡ true
  term_fits k w q o = simp (w.kind_is, w.name_is, w.lo_is, w.hi_is, w.child_is, w.next_is, tests) ((refl, (refl, (refl, refl))), (q, o))

  -- a chain that is written from record k on, at depth d + 1
  chain_walk : (c : Chain) (f d k m : ℕ) (seen l : List ℕ) → 1 ≤ k → k + count c ≤ suc (last_of 6 p) → drop (6 * k) p ≡ chain_words k c l →
      ChainOf v c → depth c + suc d ≤ suc most_depth →
      All (λ j. j < k) seen → k + count c ≤ m → Reaches m (walk f v p (suc d) (chain_link k c) seen)
  chain_walk end f d k m seen l h g e n s a b = still f (suc d) k m seen a (omega arith)
  chain_walk (class x next) zero d k m seen l h g e n s a b = no_fuel (suc d) k k m seen a (omega arith)
  chain_walk (class x next) (suc f) d k m seen l h g e n s a b =
      let w = written_at p k e in
      let o = chain_onward (last_of 6 p) (suc k) k next (omega arith) (omega arith) in
      walk_on f (suc d) k 0 (chain_link (suc k) next) seen w.child_is w.next_is h a (class_fits d k w n.0 o)
      (ne_eqb (suc d) (suc most_depth) (λ z. omega arith))
      (still f (suc (suc d)) (suc k) (suc k) (k ∷ seen) (cons {x = k} (omega arith) (more_below (omega arith) a)) (omega arith))
      (λ t c. chain_walk next f d (suc k) m t l (omega arith) (omega arith) w.rest n.1 (omega arith) c (omega arith))
  chain_walk (impossible next) zero d k m seen l h g e n s a b = no_fuel (suc d) k k m seen a (omega arith)
  chain_walk (impossible next) (suc f) d k m seen l h g e n s a b =
      let w = written_at p k e in
      let o = chain_onward (last_of 6 p) (suc k) k next (omega arith) (omega arith) in
      walk_on f (suc d) k 0 (chain_link (suc k) next) seen w.child_is w.next_is h a (impossible_fits d k w o)
      (ne_eqb (suc d) (suc most_depth) (λ z. omega arith))
      (still f (suc (suc d)) (suc k) (suc k) (k ∷ seen) (cons {x = k} (omega arith) (more_below (omega arith) a)) (omega arith))
      (λ t c. chain_walk next f d (suc k) m t l (omega arith) (omega arith) w.rest (n) (omega arith) c (omega arith))
  chain_walk (some r child next) zero d k m seen l h g e n s a b = no_fuel (suc d) k k m seen a (omega arith)
  chain_walk (some r child next) (suc f) d k m seen l h g e n s a b =
      let w = written_at p k e in
      let more = chain_words (suc k + count child) next l in
      let q = chain_onward (last_of 6 p) (suc k) k child (omega arith) (omega arith) in
      let o = chain_onward (last_of 6 p) (suc k + count child) k next (omega arith) (omega arith) in
      walk_on f (suc d) k (chain_link (suc k) child) (chain_link (suc k + count child) next) seen w.child_is w.next_is h a
      (some_fits d k w n.0 q o) (ne_eqb (suc d) (suc most_depth) (λ z. omega arith))
      (chain_walk child f (suc d) (suc k) (suc k + count child) (k ∷ seen) more (omega arith) (omega arith) w.rest n.1 (omega arith)
      (cons {x = k} (omega arith) (more_below (omega arith) a)) (omega arith))
      (λ t c. chain_walk next f d (suc k + count child) m t l (omega arith) (omega arith) (behind p (suc k) child more w.rest) n.2
      (omega arith) c (omega arith))
  chain_walk (interval x lo hi next) zero d k m seen l h g e n s a b = no_fuel (suc d) k k m seen a (omega arith)
  chain_walk (interval x lo hi next) (suc f) d k m seen l h g e n s a b =
      let w = written_at p k e in
      let o = chain_onward (last_of 6 p) (suc k) k next (omega arith) (omega arith) in
      walk_on f (suc d) k 0 (chain_link (suc k) next) seen w.child_is w.next_is h a (interval_fits d k w n.0 o)
      (ne_eqb (suc d) (suc most_depth) (λ z. omega arith))
      (still f (suc (suc d)) (suc k) (suc k) (k ∷ seen) (cons {x = k} (omega arith) (more_below (omega arith) a)) (omega arith))
      (λ t c. chain_walk next f d (suc k) m t l (omega arith) (omega arith) w.rest n.1 (omega arith) c (omega arith))

  terms_walk : (P : Policy) (f k m : ℕ) (seen : List ℕ) → 1 ≤ k → k + total P ≤ suc (last_of 6 p) → drop (6 * k) p ≡ term_words k P →
      All (ChainOf v) P → All (λ c. depth c ≤ most_depth) P →
      All (λ j. j < k) seen → k + total P ≤ m → Reaches m (walk f v p 0 (link_to k P) seen)
  terms_walk [] f k m seen h g e n s a b = still f 0 k m seen a (omega arith)
  terms_walk (c ∷ P) zero k m seen h g e n s a b = no_fuel 0 k k m seen a (omega arith)
  terms_walk (c ∷ P) (suc f) k m seen h g e n s a b =
      let w = written_at p k e in
      let more = term_words (suc k + count c) P in
      let shallow = head s in
      let q = chain_onward (last_of 6 p) (suc k) k c (omega arith) (omega arith) in
      let o = term_onward (last_of 6 p) (suc k + count c) k P (omega arith) (omega arith) in
      walk_on f 0 k (chain_link (suc k) c) (link_to (suc k + count c) P) seen w.child_is w.next_is h a (term_fits k w q o) refl
      (chain_walk c f 0 (suc k) (suc k + count c) (k ∷ seen) more (omega arith) (omega arith) w.rest (head n) (omega arith)
      (cons {x = k} (omega arith) (more_below (omega arith) a)) (omega arith))
      (λ t i. terms_walk P f (suc k + count c) m t (omega arith) (omega arith) (behind p (suc k) c more w.rest) (tail n) (tail s) i (omega arith))

-- with names of their series, and no more records and levels than a policy may have
pub policy_words_accepted : (v : List ℕ) (P : Policy) → All (ChainOf v) P → total P ≤ most_records → All (λ c. depth c ≤ most_depth) P →
    policy_refusal v (policy_words P) ≡ 0
unfolding policy_refusal policy_words
policy_words_accepted v P n few s =
    let p = policy_words P in
    let long = policy_length P in
    let last = policy_last P in
    let fits : is_sized 6 most_policy_words (length p) ≡ true = simp tests (omega arith) in
    let first = onward_le (total P) 0 (link_to 1 P) (term_onward (total P) 1 0 P (omega arith) (omega arith)) in
    let header : headed_policy p ≡ true = simp tests (omega arith) in
    let r = terms_walk v p P (length p) 1 (suc (total P)) [] (omega arith) (omega arith) refl n s nil (omega arith) in
    rw (fits, header, r.ends)
