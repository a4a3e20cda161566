-- Laws of the columns and the roles' sets: one record after another, where its turn has come.
use Prim.Native.Nat.{◌*◌, ◌+◌, ◌≤◌, suc, ℕ}
use mathlib.Core.Bool.{Bool, ◌&&◌, ◌||◌, and-false, and-true, cond, false, not, or_comm, or-false, true}
use mathlib.Core.List.{List, [], ◌∷◌}
use mathlib.Core.Path.{◌∙◌, ◌≡◌, ap, refl, subst, sym}
use lib.Dec.{eqb}
use lib.ListN.{length}
use native.Mathlib.Omega.{arith}
use borrow.Author.Tests.{eq-eqb, eqb-false, eqb-true, ne_eqb, not-false, not-true}
use Rattle.extension.proofs.Conjuncts.{cut}
use Rattle.extension.proofs.Links.{link_same, onward_goes}
use Rattle.extension.proofs.Marks.{one_counted}
use Rattle.extension.specs.Columns.{CellFilled, ColumnFilled, FilledTo, MaskFilled, RecordFilled, below, column_of}
use Rattle.extension.specs.Columns.{column_place, columns_at, columns_end, mask_of, mask_place}
use Rattle.extension.specs.Depths.{Known, Passes, is_due, rank}
use Rattle.extension.specs.Sets.{Charted, Linked, onward}
use Rattle.frames.proofs.Frames.{only_none, row_before, row_behind}
use Rattle.frames.specs.Frames.{Cleared, Only, Span}
use Rattle.meaning.specs.Accepted.{depth}
use Rattle.meaning.specs.Limits.{most_individuals, most_records, most_roles}
use Rattle.meaning.specs.Lists.{any, counting}
use Rattle.meaning.specs.Model.{individual_count}
use Rattle.meaning.specs.Policy.{child_of, kind_of, name_of}
use Rattle.meaning.specs.Records.{Name, is_name, last_of}
use Rattle.model.specs.Chain.{Readable}
use Rattle.policy.specs.Terms.{conjuncts_at}
use Rattle.satisfaction.proofs.Rows.{none_in}
use Rattle.satisfaction.specs.Places.{put_in, record_words}
use Rattle.spans.proofs.Rows.{Row, row_inside, row_put, shuffle}
use Rattle.theory.proofs.Links.{onward_le, tests}
use Rattle.theory.proofs.Refusals.{cond_all}
use Rattle.words.proofs.Laws.{named_within}
use Rattle.words.specs.Sets.{in_set}

pub at_column : (j : ℕ) → Name most_individuals j → Row columns_at most_individuals j (column_place j)
at_column j n = record { named = n; place = refl }

pub at_mask : (r : ℕ) → Name most_roles r → Row 0 most_roles r (mask_place r)
at_mask r n = record { named = n; place = omega arith }

pub link_inside : {p : List ℕ} {k x l : ℕ} → Linked p k x l → l ≤ last_of 6 p
link_inside {p} {k} {x} e = rw e.link (onward_le (last_of 6 p) k (onward p k x) (onward_goes p k x))

-- ---- one cell

module _ {p w c : List ℕ} {k j x l : ℕ} {b : Bool} (ex : x ≡ child_of p k) (el : Linked p k x l) (h : Passes p w j l b) where
  pub cell_filled : {at : ℕ} {c' : List ℕ} → b ≡ true → at ≡ column_place j → c' ≡ put_in record_words c at k → CellFilled p w k j c c'
  cell_filled e ea d = record { test = b; passes = subst (λ (y : ℕ). Passes p w j y b) (el.link ∙ rw ex) h; words = d ∙ rw (e, ea) }

  pub cell_none : b ≡ false → CellFilled p w k j c c
  cell_none e = record { test = b; passes = subst (λ (y : ℕ). Passes p w j y b) (el.link ∙ rw ex) h; words = rw e }

-- ---- the columns of record k

-- where its turn has come it is a role's, and the chain below it n deep
pub due_child : (p : List ℕ) (k n : ℕ) → rank p k ≡ n + 1 → (kind_of p k ≡ 3) × (depth (conjuncts_at p (child_of p k)) ≡ n)
due_child p k n = go (eqb (kind_of p k) 3) refl
  where
    go : (b : Bool) → eqb (kind_of p k) 3 ≡ b → cond b (suc (depth (conjuncts_at p (child_of p k)))) 0 ≡ n + 1 → (kind_of p k ≡ 3) × (depth (conjuncts_at p (child_of p k)) ≡ n)
    go true e h = (eqb-true (kind_of p k) 3 e, omega arith)
    go false e h = absurd (omega arith)

-- with the individuals l left
pub record Filling (p m w : List ℕ) (k : ℕ) (c₀ c : List ℕ) (l : List ℕ) : Type 0 where
  pub only : Only (Span columns_at columns_end) c₀ c
  pub left : (n : ℕ) → Known p m n w → Charted p k → rank p k ≡ n + 1 → (d : ℕ) → Name (individual_count m) d →
      in_set (column_of c d) k || any (λ e. eqb d e && below p m k e) l ≡ in_set (column_of c₀ d) k || below p m k d
  pub others : (d j : ℕ) → Name most_individuals d → (j ≡ k → ⊥) → in_set (column_of c d) j ≡ in_set (column_of c₀ d) j

module _ {p m w : List ℕ} {k : ℕ} where
  pub filling_starts : {c : List ℕ} {n : ℕ} → n ≡ individual_count m → Filling p m w k c c (counting 1 n)
  filling_starts {n = n} e = record {
    only = only_none;
    left = λ q y h r d nd. rw (one_counted (below p m k) n d (omega arith));
    others = λ d j nd h. refl;
  }

  pub filling_ends : {c₀ c : List ℕ} → Filling p m w k c₀ c [] → ColumnFilled p m w k c₀ c
  filling_ends {c = c} t = record { only = t.only; tells = λ n y h r d nd. sym (or-false (in_set (column_of c d) k)) ∙ t.left n y h r d nd; others = t.others }

  pub filling_on : {c₀ c c' : List ℕ} {i : ℕ} → Readable m → Name most_records k → columns_end ≤ length c → Name (individual_count m) i → CellFilled p w k i c c' →
      (l : List ℕ) → Filling p m w k c₀ c (i ∷ l) → Filling p m w k c₀ c' l
  filling_on {c₀} {c} {c'} {i} rm nk room ni x l t = record {
    only = rw x.words (cond_all (Only (Span columns_at columns_end) c₀) x.test (row_inside c k (at_column i named) nk (omega arith) (omega arith) (omega arith) refl t.only) t.only);
    left = λ n y h r d nd. rw x.words (go d nd x.test (test_is n y h r) (t.left n y h r d nd));
    others = λ d j nd h. rw x.words (off d j nd h x.test) ∙ t.others d j nd h;
  }
    where
      named : Name most_individuals i
      named = let q = rm.individuals in omega arith

      test_is : (n : ℕ) → Known p m n w → Charted p k → rank p k ≡ n + 1 → x.test ≡ below p m k i
      test_is n y h r =
          let u = due_child p k n r in
          let v = cut m (λ z. omega arith) h in
          let s = link_same p k (child_of p k) v.here.child in
          let e = u.1 in
          x.passes.tells m n y (rw s (v.child u.0)) (rw s (omega arith)) ni ∙ rw s

      rest : ℕ → Bool
      rest d = any (λ e. eqb d e && below p m k e) l

      put : (d j : ℕ) → Name most_individuals d → in_set (column_of (put_in record_words c (column_place i) k) d) j ≡ (eqb d i && eqb j k) || in_set (column_of c d) j
      put d j nd = row_put c k (at_column i named) nk (omega arith) (at_column d nd) j

      go : (d : ℕ) → Name (individual_count m) d → (b : Bool) → b ≡ below p m k i → in_set (column_of c d) k || ((eqb d i && below p m k i) || rest d) ≡ in_set (column_of c₀ d) k || below p m k d →
          in_set (column_of (cond b (put_in record_words c (column_place i) k) c) d) k || rest d ≡ in_set (column_of c₀ d) k || below p m k d
      go d nd true e f =
          let q = rm.individuals in
          let g : in_set (column_of c d) k || ((eqb d i && true) || rest d) ≡ in_set (column_of c₀ d) k || below p m k d = rw (← e) at f in
          rw (put d k (omega arith), eq-eqb k k refl) (shuffle (eqb d i && true) (in_set (column_of c d) k) (rest d) ∙ g)
      go d nd false e f =
          let g : in_set (column_of c d) k || ((eqb d i && false) || rest d) ≡ in_set (column_of c₀ d) k || below p m k d = rw (← e) at f in
          rw (and-false (eqb d i)) at g

      off : (d j : ℕ) → Name most_individuals d → (j ≡ k → ⊥) → (b : Bool) → in_set (column_of (cond b (put_in record_words c (column_place i) k) c) d) j ≡ in_set (column_of c d) j
      off d j nd h true = put d j nd ∙ rw (ne_eqb j k h, and-false (eqb d i))
      off d j nd h false = refl

-- ---- the set of its role

pub mask_named : {a : ℕ} {b : Bool} → b ≡ is_name most_roles a → b ≡ true → Name most_roles a
mask_named e t = simp tests at (sym e ∙ t)

pub mask_room : (c : List ℕ) {a at : ℕ} → Name most_roles a → at ≡ mask_place a → columns_end ≤ length c → at + record_words ≤ length c
mask_room c n e h = omega arith

module _ {p c : List ℕ} {k a : ℕ} {b : Bool} (ea : a ≡ name_of p k) (e : b ≡ is_name most_roles a) where
  pub mask_none : b ≡ false → MaskFilled p k c c
  mask_none f = record { only = only_none; tells = λ r n. rw (← ea, ne_eqb r a (foreign r n), or-false (in_set (mask_of c r) k)); others = λ r d n h. refl }
    where
      foreign : (r : ℕ) → Name most_roles r → r ≡ a → ⊥
      foreign r n d = let z : true ≡ false = sym (named_within most_roles a (omega arith) (omega arith)) ∙ sym e ∙ f in let y : ◌≡◌ {A = ℕ} 0 1 = cc in omega arith

  pub mask_filled : {at : ℕ} {c' : List ℕ} → b ≡ true → Name most_records k → columns_end ≤ length c → at ≡ mask_place a → c' ≡ put_in record_words c at k → MaskFilled p k c c'
  mask_filled {at} {c'} t nk room ep d = record {
    only = row_inside c k here nk (omega arith) (omega arith) (omega arith) (d ∙ rw ep) only_none;
    tells = λ r n. put r k n ∙ rw (eq-eqb k k refl, and-true (eqb r a), ea) (or_comm (eqb r (name_of p k)) (in_set (mask_of c r) k));
    others = λ r j n h. put r j n ∙ rw (ne_eqb j k h, and-false (eqb r a));
  }
    where
      here : Row 0 most_roles a (mask_place a)
      here = at_mask a (mask_named e t)

      put : (r j : ℕ) → Name most_roles r → in_set (mask_of c' r) j ≡ (eqb r a && eqb j k) || in_set (mask_of c r) j
      put r j n = rw (d, ep) (row_put c k here nk (omega arith) (at_mask r n) j)

-- ---- both

pub fill_none : {p w : List ℕ} (m : List ℕ) {k n : ℕ} (c : List ℕ) {b : Bool} → b ≡ is_due p w k n → not b ≡ true → RecordFilled p m w k n c c
fill_none {p} {w} m {k} {n} c {b} e h = record {
  size = refl;
  column = λ t. absurd (let v : true ≡ false = sym t ∙ undue in let y : ◌≡◌ {A = ℕ} 0 1 = cc in omega arith);
  columns = λ j d n q. refl;
  mask = λ a n. rw undue (sym (or-false (in_set (mask_of c a) k)));
  masks = λ a d n q. refl;
}
  where
    undue : is_due p w k n ≡ false
    undue = sym e ∙ not-true b h

module _ {p m w c c₁ c₂ : List ℕ} {k : ℕ} (x : ColumnFilled p m w k c c₁) (y : MaskFilled p k c₁ c₂) where
  column_kept : (j : ℕ) → column_of c₂ j ≡ column_of c₁ j
  column_kept j = row_behind y.only record_words (column_place j) (omega arith)

  mask_kept : (a : ℕ) → Name most_roles a → mask_of c₁ a ≡ mask_of c a
  mask_kept a q = row_before x.only record_words (mask_place a) (omega arith)

  pub fill_both : {n : ℕ} {b : Bool} → b ≡ is_due p w k n → not b ≡ false → RecordFilled p m w k n c c₂
  fill_both {n} {b} e h = record {
    size = y.only.size ∙ x.only.size;
    column = λ _ q z t j i. ap (λ (s : List ℕ). in_set s k) (column_kept j) ∙ x.tells n q z t j i;
    columns = λ j d q z. ap (λ (s : List ℕ). in_set s d) (column_kept j) ∙ x.others j d q z;
    mask = λ a q. y.tells a q ∙ rw (mask_kept a q, ← e, not-false b h);
    masks = λ a d q z. y.others a d q z ∙ ap (λ (s : List ℕ). in_set s d) (mask_kept a q);
  }

-- ---- one record after another

module _ {p m w c c₁ : List ℕ} {n i : ℕ} where
  pub filled_starts : columns_end ≤ length c → i ≡ individual_count m → Cleared 0 (columns_at + i * record_words) c c₁ → FilledTo p m w n 0 c₁
  filled_starts room e x = record {
    room = let s = x.only.size in omega arith;
    column = λ y k q. absurd (omega arith);
    mask = λ k q. absurd (omega arith);
    columns = λ k l j q. none_in record_words c₁ (column_place j) (λ i a b. x.zeros i (omega arith) (omega arith)) k;
    masks = λ k l a q. none_in record_words c₁ (mask_place a) (λ i a b. x.zeros i (omega arith) (omega arith)) k;
  }

module _ {p m w c c' : List ℕ} {n l : ℕ} (rm : Readable m) (t : FilledTo p m w n l c) (x : RecordFilled p m w (l + 1) n c c') where
  pub filled_on : FilledTo p m w n (l + 1) c'
  filled_on = record {
    room = let s = x.size in let h = t.room in omega arith;
    column = λ y k q z d e j i. col y k q z d e j i (eqb k (l + 1)) refl;
    mask = λ k q a i. msk k q a i (eqb k (l + 1)) refl;
    columns = λ k h j q. let g = rm.individuals in x.columns j k (omega arith) (λ e. omega arith) ∙ t.columns k (omega arith) j q;
    masks = λ k h a q. x.masks a k q (λ e. omega arith) ∙ t.masks k (omega arith) a q;
  }
    where
      col : Known p m n w → (k : ℕ) → Name (l + 1) k → Charted p k → is_due p w k n ≡ true → rank p k ≡ n + 1 → (j : ℕ) → Name (individual_count m) j → (b : Bool) → eqb k (l + 1) ≡ b →
          in_set (column_of c' j) k ≡ below p m k j
      col y k q z d e j i true g =
          let s = eqb-true k (l + 1) g in
          rw s (x.column (rw s at d) y (rw s at z) (rw s at e) j i ∙ rw (t.columns (l + 1) (omega arith) j i))
      col y k q z d e j i false g =
          let s = eqb-false k (l + 1) g in
          let h = rm.individuals in
          x.columns j k (omega arith) s ∙ t.column y k (omega arith) z d e j i

      msk : (k : ℕ) → Name (l + 1) k → (a : ℕ) → Name most_roles a → (b : Bool) → eqb k (l + 1) ≡ b → in_set (mask_of c' a) k ≡ is_due p w k n && eqb a (name_of p k)
      msk k q a i true g =
          let s = eqb-true k (l + 1) g in
          rw s (x.mask a i ∙ rw (t.masks (l + 1) (omega arith) a i))
      msk k q a i false g =
          let s = eqb-false k (l + 1) g in
          x.masks a k i s ∙ t.mask k (omega arith) a i
