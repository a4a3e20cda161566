-- Laws of the rounds: after each the records that wait no longer are right.
use Prim.Native.Nat.{◌+◌, ◌<◌, ◌≤◌, suc, zero, ℕ}
use mathlib.Core.Bool.{Bool, ◌&&◌, ◌||◌, and_comm, and-false, cond, false, or-false, true}
use mathlib.Core.List.{List, []}
use mathlib.Core.Logic.{inl, inr, ⊎_elim}
use mathlib.Core.Path.{◌∙◌, ◌≡◌, ap, refl, sym}
use lib.Dec.{eqb, eqb-suc-suc}
use native.Mathlib.Numerals.{add-one}
use native.Mathlib.Omega.{arith}
use borrow.Author.Tests.{eq-eqb, eqb-false, eqb-true, ne_eqb}
use Rattle.extension.proofs.Columns.{due_child}
use Rattle.extension.proofs.Conjuncts.{cut, inside}
use Rattle.extension.proofs.Heights.{measured_at}
use Rattle.extension.proofs.Links.{link_same}
use Rattle.extension.specs.Columns.{AllFilled, EdgesMarked, below, column_of, hands, mask_of}
use Rattle.extension.specs.Depths.{AllMeasured, Measured, NoneDueTo, Settled, height_of, is_due, rank}
use Rattle.extension.specs.Sets.{AllMarked, Charted, Sized, early, edge_into, onward, own, reached}
use Rattle.frames.proofs.Frames.{only_behind, row_before}
use Rattle.meaning.specs.Accepted.{depth}
use Rattle.meaning.specs.Limits.{most_roles}
use Rattle.meaning.specs.Lists.{any}
use Rattle.meaning.specs.Model.{fact_name, fact_other, fact_owner, facts_of, individual_count}
use Rattle.meaning.specs.Policy.{child_of, kind_of, name_of}
use Rattle.meaning.specs.Records.{Name, is_name, last_of}
use Rattle.policy.specs.Terms.{conjuncts_at}
use Rattle.satisfaction.proofs.Classes.{interpreted_kept}
use Rattle.satisfaction.proofs.Facts.{by_kind}
use Rattle.satisfaction.specs.Classes.{Interpreted, owner_of}
use Rattle.satisfaction.specs.Places.{height_place, record_words, records_of, set_place}
use Rattle.spans.proofs.Joining.{any_stated, never}
use Rattle.std.specs.List.{list_any, range_with_len}
use Rattle.theory.proofs.Links.{tests}
use Rattle.theory.proofs.Rules.{order}
use Rattle.words.proofs.Laws.{named_within}
use Rattle.words.specs.Sets.{in_set}

-- ---- whose turn it is

height_is : {p w : List ℕ} {j : ℕ} → Measured p w → Charted p j → height_of w j ≡ depth (conjuncts_at p j)
height_is {p} {w} {j} t c = ⊎_elim (λ h. measured_at t (inr (h, inside c)) c) (λ h. measured_at t (inl (omega arith)) c) (order 0 j)

module _ {p w : List ℕ} (t : Measured p w) {k : ℕ} (z : k ≡ 0 → ⊥) (c : Charted p k) (n : ℕ) where
  child_height : kind_of p k ≡ 3 → height_of w (onward p k (child_of p k)) ≡ depth (conjuncts_at p (child_of p k))
  child_height e = let x = cut [] z c in rw (link_same p k (child_of p k) x.here.child) (height_is t (x.child e))

  due_is : is_due p w k n ≡ eqb (rank p k) (n + 1)
  due_is = go (eqb (kind_of p k) 3) refl
    where
      go : (b : Bool) → eqb (kind_of p k) 3 ≡ b → b && eqb (height_of w (onward p k (child_of p k))) n ≡ eqb (cond b (suc (depth (conjuncts_at p (child_of p k)))) 0) (n + 1)
      go true e = rw (child_height (eqb-true (kind_of p k) 3 e), add-one n, eqb-suc-suc (depth (conjuncts_at p (child_of p k))) n)
      go false e = sym (ne_eqb 0 (n + 1) (λ d. omega arith))

  due_rank : rank p k ≡ n + 1 → is_due p w k n ≡ true
  due_rank e = due_is ∙ eq-eqb (rank p k) (n + 1) e

  undue_rank : (rank p k ≡ n + 1 → ⊥) → is_due p w k n ≡ false
  undue_rank e = due_is ∙ ne_eqb (rank p k) (n + 1) e

-- ---- what the edges hand over

eqb_swap : (u v : ℕ) → eqb v u ≡ eqb u v
eqb_swap u v = go (eqb u v) refl
  where
    go : (b : Bool) → eqb u v ≡ b → eqb v u ≡ b
    go true e = eq-eqb v u (sym (eqb-true u v e))
    go false e = ne_eqb v u (λ d. eqb-false u v e (sym d))

module _ {p m w c : List ℕ} {n : ℕ} (s : Settled p m n w) (x : AllFilled p m w n c) {k : ℕ} (z : k ≡ 0 → ⊥) (ch : Charted p k) (i : ℕ) where
  named : Name (last_of 6 p) k
  named = (omega arith, inside ch)

  handed_none : (rank p k ≡ n + 1 → ⊥) → any (hands c i k) (facts_of m) ≡ false
  handed_none d = any_stated (hands c i k) (λ y. false) s.interpreted.readable (λ f q. by_kind q (λ y. hands c i k y ≡ false) (λ _. refl) (λ _. one (fact_name m f) (fact_owner m f) (fact_other m f) (is_name most_roles (fact_name m f)) refl) (λ _. refl)) ∙ never (facts_of m)
    where
      undue : is_due p w k n ≡ false
      undue = undue_rank s.measured z ch n d

      one : (a o j : ℕ) (b : Bool) → is_name most_roles a ≡ b → eqb i o && (b && (in_set (column_of c j) k && in_set (mask_of c a) k)) ≡ false
      one a o j true e = rw (x.mask k named a (simp tests at e), undue, and-false (in_set (column_of c j) k), and-false (eqb i o))
      one a o j false e = and-false (eqb i o)

  handed_due : rank p k ≡ n + 1 → any (hands c i k) (facts_of m) ≡ reached p m k i
  handed_due d = any_stated (hands c i k) (λ y. eqb i (owner_of y) && edge_into (name_of p k) (below p m k) y) s.interpreted.readable (λ f q.
      by_kind q (λ y. hands c i k y ≡ eqb i (owner_of y) && edge_into (name_of p k) (below p m k) y) (λ _. sym (and-false (eqb i (fact_owner m f))))
      (λ e. ap (λ (b : Bool). eqb i (fact_owner m f) && b) (one (fact_name m f) (fact_other m f) (q.target e) (is_name most_roles (fact_name m f)) refl)) (λ _. sym (and-false (eqb i (fact_owner m f)))))
    where
      due : is_due p w k n ≡ true
      due = due_rank s.measured z ch n d

      role : Name most_roles (name_of p k)
      role = (cut m z ch).role (due_child p k n d).0

      one : (a j : ℕ) → Name (individual_count m) j → (b : Bool) → is_name most_roles a ≡ b → b && (in_set (column_of c j) k && in_set (mask_of c a) k) ≡ eqb (name_of p k) a && below p m k j
      one a j q true e = rw (x.mask k named a (simp tests at e), due, x.column s.known k named ch due d j q) (turn (name_of p k) a (below p m k j))
        where
          turn : (u v : ℕ) (b : Bool) → b && eqb v u ≡ eqb u v && b
          turn u v b = rw (and_comm b (eqb v u), eqb_swap u v)
      one a j q false e = rw (ne_eqb (name_of p k) a (λ g. foreign (rw g at role)))
        where
          foreign : Name most_roles a → ⊥
          foreign y = let v : true ≡ false = sym (named_within most_roles a y.0 y.1) ∙ e in let u : ◌≡◌ {A = ℕ} 0 1 = cc in omega arith

-- ---- one round

-- records from 1 on, each one behind a number of a range, of which none passes
none_passes : (f : ℕ → Bool) (k n : ℕ) → list_any (λ i. f (i + 1)) (range_with_len k n) ≡ false → (i : ℕ) → k < i → i ≤ k + n → f i ≡ false
none_passes f k zero h i a b = absurd (omega arith)
none_passes f k (suc n) h i a b = go (λ g c. none_passes f (k + 1) n g i c (omega arith)) (f (k + 1)) refl h (eqb i (k + 1)) refl
  where
    go : (list_any (λ i. f (i + 1)) (range_with_len (k + 1) n) ≡ false → k + 1 < i → f i ≡ false) → (t : Bool) → f (k + 1) ≡ t →
        t || list_any (λ i. f (i + 1)) (range_with_len (k + 1) n) ≡ false → (e : Bool) → eqb i (k + 1) ≡ e → f i ≡ false
    go rest true d g e z = absurd (let y : ◌≡◌ {A = ℕ} 0 1 = cc in omega arith)
    go rest false d g true z = let s = eqb-true i (k + 1) z in rw s d
    go rest false d g false z = let s = eqb-false i (k + 1) z in rest g (omega arith)

pub undue_all : {p w : List ℕ} {n last : ℕ} {b : Bool} → b ≡ list_any (λ k. is_due p w (k + 1) n) (range_with_len 0 last) → b ≡ false → NoneDueTo p w n last
undue_all {p} {w} {n} {last} e h = record { undue = λ k q. none_passes (λ k. is_due p w k n) 0 last (sym e ∙ h) k q.0 (omega arith) }

module _ {p m w : List ℕ} {n : ℕ} (s : Settled p m n w) where
  pub settled_none : NoneDueTo p w n (last_of 6 p) → Settled p m (n + 1) w
  settled_none x = record {
    interpreted = s.interpreted;
    measured = s.measured;
    known = record {
      right = λ k i z ch h q. s.known.right k i z ch (let d = other k z ch in go k h d) q;
      blank = λ k i z ch h q. s.known.blank k i z ch (omega arith) q;
    };
  }
    where
      other : (k : ℕ) → (k ≡ 0 → ⊥) → Charted p k → rank p k ≡ n + 1 → ⊥
      other k z ch d =
          let v : true ≡ false = sym (due_rank s.measured z ch n d) ∙ x.undue k (omega arith, inside ch) in
          let u : ◌≡◌ {A = ℕ} 0 1 = cc in omega arith

      go : (k : ℕ) → rank p k ≤ n + 1 → (rank p k ≡ n + 1 → ⊥) → rank p k ≤ n
      go k h d = omega arith

module _ {p m w c : List ℕ} {n : ℕ} (sz : Sized p) (s : Settled p m n w) (x : AllFilled p m w n c) where
  pub settled_on : {w' : List ℕ} → EdgesMarked m c w w' → Settled p m (n + 1) w'
  settled_on {w'} e = record {
    interpreted = interpreted_kept (omega arith) e.only s.interpreted;
    measured = record {
      none = only_behind e.only (height_place 0) (omega arith) ∙ s.measured.none;
      tells = λ k h ch. only_behind e.only (height_place k) (omega arith) ∙ s.measured.tells k h ch;
    };
    known = record {
      right = λ k i z ch h q. right k i z ch h q (eqb (rank p k) (n + 1)) refl;
      blank = λ k i z ch h q. let d : rank p k ≡ n + 1 → ⊥ = λ d. omega arith in bits k i z ch q ∙ rw (s.known.blank k i z ch (omega arith) q) (handed_none s x z ch i d);
    };
  }
    where
      bits : (k i : ℕ) → (k ≡ 0 → ⊥) → Charted p k → Name (individual_count m) i → in_set (records_of w' i) k ≡ in_set (records_of w i) k || any (hands c i k) (facts_of m)
      bits k i z ch q =
          let g = s.interpreted.readable.individuals in
          let h = inside ch in
          let f = sz.few in
          e.bits i k (omega arith, omega arith) (omega arith, omega arith)

      role_own : (k i : ℕ) → kind_of p k ≡ 3 → reached p m k i ≡ own p m k i
      role_own k i d = rw d

      right : (k i : ℕ) → (k ≡ 0 → ⊥) → Charted p k → rank p k ≤ n + 1 → Name (individual_count m) i → (b : Bool) → eqb (rank p k) (n + 1) ≡ b → in_set (records_of w' i) k ≡ own p m k i
      right k i z ch h q true g =
          let d = eqb-true (rank p k) (n + 1) g in
          bits k i z ch q ∙ rw (s.known.blank k i z ch (omega arith) q) (handed_due s x z ch i d ∙ role_own k i (due_child p k n d).0)
      right k i z ch h q false g =
          let d = eqb-false (rank p k) (n + 1) g in
          bits k i z ch q ∙ rw (handed_none s x z ch i d, or-false (in_set (records_of w i) k)) (s.known.right k i z ch (omega arith) q)

-- ---- before the first

module _ {p m w w₁ w₂ : List ℕ} {top : ℕ} (i : Interpreted m w) (a : AllMarked p m w w₁) (b : AllMeasured p w₁ w₂ top) where
  pub settled_starts : Settled p m 0 w₂
  settled_starts = record {
    interpreted = interpreted_kept (omega arith) b.only (interpreted_kept (omega arith) a.only i);
    measured = b.measured;
    known = record {
      right = λ k j z c h q. told k j z c q ∙ early_own k j (eqb (kind_of p k) 3) refl h;
      blank = λ k j z c h q. told k j z c q ∙ late k j (eqb (kind_of p k) 3) refl h;
    };
  }
    where
      told : (k j : ℕ) → (k ≡ 0 → ⊥) → Charted p k → Name (individual_count m) j → in_set (records_of w₂ j) k ≡ early p m k j
      told k j z c q =
          let g = i.readable.individuals in
          ap (λ (s : List ℕ). in_set s k) (row_before b.only record_words (set_place j) (omega arith)) ∙ a.marked.tells k j (omega arith, inside c) q

      early_own : (k j : ℕ) (t : Bool) → eqb (kind_of p k) 3 ≡ t → cond t (suc (depth (conjuncts_at p (child_of p k)))) 0 ≤ 0 → early p m k j ≡ cond t (reached p m k j) (early p m k j)
      early_own k j true e h = absurd (omega arith)
      early_own k j false e h = refl

      late : (k j : ℕ) (t : Bool) → eqb (kind_of p k) 3 ≡ t → 0 < cond t (suc (depth (conjuncts_at p (child_of p k)))) 0 → early p m k j ≡ false
      late k j true e h = rw (eqb-true (kind_of p k) 3 e)
      late k j false e h = absurd (omega arith)
