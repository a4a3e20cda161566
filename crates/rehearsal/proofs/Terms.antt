-- A policy's terms drawn one after another. Assumes nothing.
use Prim.Native.Nat.{◌*◌, ◌+◌, ◌<◌, ◌≤◌, suc, zero, ℕ}
use mathlib.Core.Bool.{cond}
use mathlib.Core.List.{List, [], ◌++◌}
use mathlib.Core.Path.{◌∙◌, ◌≡◌, ap, refl, sym}
use lib.Dec.{eqb}
use lib.ListN.{length}
use native.Mathlib.Numerals.{add-one}
use native.Mathlib.Omega.{arith}
use borrow.Author.Tests.{eq-eqb, ne_eqb}
use Rattle.frames.proofs.Puts.{Rest, put_as, put_then, rest_end, rest_more, rest_start}
use Rattle.frames.specs.Rows.{Put}
use Rattle.meaning.specs.PolicyWords.{chain_words, record_words, term_words}
use Rattle.meaning.specs.Records.{link_to}
use Rattle.rehearsal.proofs.Seeds.{terms_total, three_more}
use Rattle.rehearsal.specs.Drawing.{Drawn, Drawable}
use Rattle.rehearsal.specs.Load.{advance, advance_by, draw, load_policy, load_term}
use Rattle.rehearsal.specs.declared.Cursor.{Cursor}
use Rattle.theory.proofs.PolicyWords.{term_length}

terms_size : (k s N n : ℕ) → length (term_words k (load_policy s N n)) ≡ 18 * n
terms_size k s N n = omega (arith, term_length k (load_policy s N n), terms_total s N n)

-- a term's three records, and the others behind them
abbrev one : ℕ → ℕ → ℕ → ℕ → List ℕ
one s N k next = record_words 5 0 0 0 (k + 1) next (chain_words (k + 1) (load_term s N) [])

-- the link to the term behind it, where n are left
next_link : (s N t n m : ℕ) → t + suc n ≡ m → cond (eqb (t + 1) m) 0 (3 * t + 4) ≡ link_to (suc (3 * t + 1) + 2) (load_policy s N n)
next_link s N t zero m h = rw (eq-eqb (t + 1) m (omega arith))
next_link s N t (suc n) m h = rw (ne_eqb (t + 1) m (λ e. omega arith)) (omega arith)

terms_split : (s N t n m : ℕ) → t + suc n ≡ m →
    term_words (3 * t + 1) (load_policy s N (suc n)) ≡ one s N (3 * t + 1) (cond (eqb (t + 1) m) 0 (3 * t + 4)) ++ term_words (3 * (t + 1) + 1) (load_policy (advance_by 3 s) N n)
terms_split s N t n m h =
    let e : 3 * (t + 1) + 1 ≡ suc (3 * t + 1) + 2 = omega arith in
    rw (next_link (advance_by 3 s) N t n m h, e, add-one (3 * t + 1))

-- ---- the loop: term t is next, and n terms are left

pub record TermsLeft (o₀ : List ℕ) (c : Cursor) (N m : ℕ) (o : List ℕ) (d : Cursor) (t : ℕ) : Type 0 where
  pub n : ℕ
  pub count : t + n ≡ m
  pub rest : Rest o₀ c.at (term_words 1 (load_policy c.seed N m)) o d.at (term_words (3 * t + 1) (load_policy d.seed N n))
  pub seed : advance_by (3 * n) d.seed ≡ advance_by (3 * m) c.seed

pub terms_start : (o : List ℕ) (c : Cursor) (N m : ℕ) → TermsLeft o c N m o c 0
terms_start o c N m = record { n = m; count = omega arith; rest = rest_start o c.at (term_words 1 (load_policy c.seed N m)); seed = refl }

module _ {o₀ : List ℕ} {c : Cursor} {N m : ℕ} {o : List ℕ} {d : Cursor} {t : ℕ} (g : TermsLeft o₀ c N m o d t) where
  pub terms_room : Drawable o₀ c (18 * m) N m → t < m → d.at + 18 ≤ length o
  terms_room r h =
      omega (arith, g.count, g.rest.ends, g.rest.size, r.long, terms_size (3 * t + 1) d.seed N g.n, terms_size 1 c.seed N m)

  pub terms_more : {next : ℕ} {o' : List ℕ} {d' : Cursor} → t < m → next ≡ cond (eqb (t + 1) m) 0 (3 * t + 4) →
      Drawn o d (one d.seed N (3 * t + 1) next) (advance_by 3 d.seed) o' d' → TermsLeft o₀ c N m o' d' (t + 1)
  terms_more {next} {o'} {d'} h e p = go g.n refl
    where
      go : (n : ℕ) → g.n ≡ n → TermsLeft o₀ c N m o' d' (t + 1)
      go zero z = absurd (omega (arith, g.count))
      go (suc n) z =
          let s = d.seed in
          let later = term_words (3 * (t + 1) + 1) (load_policy d'.seed N n) in
          let words : term_words (3 * t + 1) (load_policy s N g.n) ≡ one s N (3 * t + 1) next ++ later =
          rw (z, e, p.seed) (terms_split s N t n m (omega (arith, g.count))) in
          record {
            n = n;
            count = omega (arith, g.count);
            rest = rest_more g.rest (one s N (3 * t + 1) next) later words p.words;
            seed = ap (advance_by (3 * n)) p.seed ∙ sym (three_more n s) ∙ ap (λ (i : ℕ). advance_by (3 * i) s) (sym z) ∙ g.seed;
          }

  pub terms_put : m ≤ t → Drawn o₀ c (term_words 1 (load_policy c.seed N m)) (advance_by (3 * m) c.seed) o d
  terms_put h =
      let z : g.n ≡ 0 = omega (arith, g.count) in
      record { words = rest_end g.rest (rw z); seed = rw z at g.seed }

-- ---- a term: three draws, three records

pub term_put : (N k : ℕ) {o o₁ o₂ o₃ : List ℕ} {c r : Cursor} {next class lo span at₁ at₂ : ℕ} → class ≡ 1 + draw c.seed N → lo ≡ draw (advance c.seed) 100 →
    span ≡ draw (advance (advance c.seed)) 100 → Put o c.at (record_words 5 0 0 0 (k + 1) next []) o₁ at₁ → Put o₁ at₁ (record_words 1 class 0 0 0 (k + 2) []) o₂ at₂ →
    Put o₂ at₂ (record_words 4 1 lo (lo + span) 0 0 []) o₃ r.at → r.seed ≡ advance_by 3 c.seed → Drawn o c (one c.seed N k next) (advance_by 3 c.seed) o₃ r
term_put N k {c = c} {next = next} {class = class} {lo = lo} {span = span} e f g p q r s =
    let link : k + 2 ≡ suc (k + 1) = omega arith in
    let all = put_then (put_then p q) r in
    let words : record_words 5 0 0 0 (k + 1) next (record_words 1 class 0 0 0 (k + 2) (record_words 4 1 lo (lo + span) 0 0 [])) ≡ one c.seed N k next =
    rw (e, f, g, link) in
    record { words = put_as words all; seed = s }
