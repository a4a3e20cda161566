-- What is kept while the combinations are tried stays right where pieces alone change, and an empty table says nothing wrong.
use Prim.Native.Nat.{◌+◌, ◌<◌, ◌≤◌, pred, suc, zero, ℕ}
use mathlib.Core.Bool.{Bool, ◌&&◌}
use mathlib.Core.List.{List}
use mathlib.Core.Logic.{⊎_elim}
use mathlib.Core.Path.{◌∙◌, ◌≡◌, ap, ap₂, refl, sym}
use native.Mathlib.Omega.{arith}
use lib.Dec.{eqb}
use lib.ListN.{get_or-eq_default, get_or, get_or-replicate, length-replicate, replicate}
use Rattle.carriers.specs.Carriers.{Listed, slot_of}
use Rattle.frames.proofs.Frames.{row_same}
use Rattle.frames.specs.Frames.{Only}
use Rattle.layout.proofs.Nesting.{holder_kept, parent_kept}
use Rattle.layout.specs.Places.{individual_place}
use Rattle.layout.specs.Tables.{Pieces, constraint_at, role_at, set_at}
use Rattle.layout.specs.declared.Tables.{Tables}
use Rattle.meaning.specs.Intervals.{Constraint}
use Rattle.meaning.specs.Limits.{most_records}
use Rattle.meaning.specs.Lists.{any, counting}
use Rattle.meaning.specs.Policy.{Chain, child_of, class, end, hi_of, impossible, interval, lo_of, name_of, some}
use Rattle.meaning.specs.Subsumption.{includes}
use Rattle.policy.specs.Terms.{conjunct_of, conjuncts_at}
use Rattle.splitting.proofs.Storing.{constraint_kept}
use Rattle.std.specs.Prelude.{Option}
use Rattle.retest.specs.declared.State.{State}
use Rattle.retest.specs.Memory.{Holds, Sure, memory_place}
use Rattle.subsumption.specs.Tests.{Individual}
use Rattle.retest.specs.Reasons.{Choice, has_still, is_still}
use Rattle.subsumption.specs.Tests.{has_piece, has_successor, holds_at, is_passing, is_piece_inside}
use Rattle.theory.proofs.Rules.{order}
use Rattle.trial.specs.Trials.{Blank, Known, Remembers}
use Rattle.words.specs.Rows.{class_words}

any_below : (f g : ℕ → Bool) (n : ℕ) → ((j : ℕ) → j < n → f j ≡ g j) → any f (counting 0 n) ≡ any g (counting 0 n)
any_below f g n h = go 0 n (λ j l. h j (omega arith))
  where
    go : (o n : ℕ) → ((j : ℕ) → j < o + n → f j ≡ g j) → any f (counting o n) ≡ any g (counting o n)
    go o zero h = refl
    go o (suc n) h = rw (h o (omega arith), go (suc o) n (λ j l. h j (omega arith)))

module _ {w w' : List ℕ} (t : Tables) (k : Only (Pieces t.constraints) w w') (few : t.individuals ≤ most_records) where
  role_kept : (j : ℕ) → j < most_records → role_at w' j ≡ role_at w j
  role_kept j h = k.others (individual_place j + 1) (λ s. omega (arith, s.span.low))

  set_kept : (j : ℕ) → j < most_records → set_at w' j ≡ set_at w j
  set_kept j h = row_same class_words w w' (individual_place j + 2) k.size (λ i a b. k.others i (λ s. omega (arith, s.span.low)))

  passing_kept : (x r : ℕ) (f g : ℕ → Bool) (j : ℕ) → j < t.individuals → f (suc j) ≡ g (suc j) → is_passing w' x r f j ≡ is_passing w x r g j
  passing_kept x r f g j h e = rw (parent_kept k j (omega arith), role_kept j (omega arith), e)

  piece_kept : (v u : ℕ → Constraint) → ((m : ℕ) → v m ≡ u m) → (x f lo hi : ℕ) → has_piece v w' t.constraints x f lo hi ≡ has_piece u w t.constraints x f lo hi
  unfolding has_piece
  piece_kept v u e x f lo hi =
      any_below (is_piece_inside v w' x f lo hi) (is_piece_inside u w x f lo hi) t.constraints
      (λ m l. ap₂ (λ (a : ℕ) (b : Constraint). eqb a x && includes f lo hi b) (holder_kept k m) (e m))

  holds_kept : (v : ℕ → Constraint) (c : Chain) (x : ℕ) → Individual t x → holds_at v w' t c x ≡ holds_at v w t c x
  unfolding has_successor
  holds_kept v end x i = refl
  holds_kept v (class a next) x i = rw (set_kept (pred x) (let b = i.within in let s = i.some in omega arith), holds_kept v next x i)
  holds_kept v (impossible next) x i = refl
  holds_kept v (some r child next) x i =
      ap₂ (λ (a b : Bool). a && b)
      (any_below (is_passing w' x r (holds_at v w' t child)) (is_passing w x r (holds_at v w t child)) t.individuals
      (λ j l. passing_kept x r (holds_at v w' t child) (holds_at v w t child) j l (holds_kept v child (suc j) (record { some = omega arith; within = omega arith }))))
      (holds_kept v next x i)
  holds_kept v (interval f lo hi next) x i = ap₂ (λ (a b : Bool). a && b) (piece_kept v v (λ m. refl) x f lo hi) (holds_kept v next x i)

  choice_back : {v : ℕ → Constraint} → Choice v w' t.constraints → Choice v w t.constraints
  choice_back c = record { inside = λ m h. rw (← constraint_kept k m) (c.inside m h); full = c.full }

  listed_kept : {c : List ℕ} → Listed c w t.individuals → Listed c w' t.individuals
  listed_kept l = record {
    few = l.few;
    child = λ x h n. let a = l.child x h n in let b = a.inside in record { inside = a.inside; parent = parent_kept k _ (omega arith) ∙ a.parent; noted = a.noted };
    first = λ j h n. rw (parent_kept k j (omega arith)) (l.first j h n);
    sibling = λ j h n m. let a = l.sibling j h n m in let b = a.1.inside in
        (a.0, record { inside = a.1.inside; parent = parent_kept k _ (omega arith) ∙ a.1.parent ∙ sym (parent_kept k j (omega arith)); noted = a.1.noted });
    next = λ i j h n a b e. l.next i j h n a b (sym (parent_kept k i (omega arith)) ∙ e ∙ parent_kept k j (omega arith));
  }

  state_kept : {q c : List ℕ} {j x : ℕ} {state : Option State} → Individual t x → Holds q c w t j x state → Holds q c w' t j x state
  unfolding has_still
  state_kept {q} {c} {j} {x} i f = record {
    passes = λ e v a. holds_kept v (conjunct_of q j) x i ∙ f.passes e v (choice_back a);
    fails = λ e v a. holds_kept v (conjunct_of q j) x i ∙ f.fails e v (choice_back a);
    rests = λ e. let o = f.rests e in record {
      role = λ h v a.
          let child = conjuncts_at q (child_of q j) in
          any_below (is_still c w' x (name_of q j) (holds_at v w' t child)) (is_still c w x (name_of q j) (holds_at v w t child)) t.individuals
          (λ l b. ap (λ (y : Bool). eqb (slot_of c (suc l)) 0 && y)
          (passing_kept x (name_of q j) (holds_at v w' t child) (holds_at v w t child) l b (holds_kept v child (suc l) (record { some = omega arith; within = omega arith }))))
          ∙ o.role h v (choice_back a);
      feature = λ h. piece_kept (constraint_at w') (constraint_at w) (constraint_kept k) x (name_of q j) (lo_of q j) (hi_of q j) ∙ o.feature h;
    };
  }

  sure_kept : {q c s : List ℕ} → Sure q c w t s → Sure q c w' t s
  sure_kept m = record { known = λ j slot h i. state_kept i (m.known j slot h i) }

  pub remembers_kept : {q c s takers : List ℕ} → Remembers q c w t s takers → Remembers q c w' t s takers
  remembers_kept m = record { listed = listed_kept m.listed; sure = sure_kept m.sure; terms = m.terms }

-- ---- tables of zeros

module _ (l : List ℕ) (z : Blank l) where
  pub none_listed : (w : List ℕ) (n : ℕ) → Listed l w n
  none_listed w n = record {
    few = λ x h. omega (arith, z x);
    child = λ x h a. absurd (a (z _));
    first = λ j h a. absurd (a (z _));
    sibling = λ j h a. absurd (a (z _));
    next = λ i j h b a. absurd (a (z _));
  }

  pub none_sure : (q c w : List ℕ) (t : Tables) → Sure q c w t l
  none_sure q c w t = record { known = λ k slot h i. absurd (omega (arith, i.some, z (memory_place k slot))) }

  pub none_terms : (q : List ℕ) (i : ℕ) → Known q (get_or l i 0)
  none_terms q i h = absurd (h (z i))

pub blank : (n : ℕ) → Blank (replicate n 0)
blank n i = ⊎_elim (λ h. get_or-replicate n i 0 0 h) (λ h. get_or-eq_default (replicate n 0) 0 (omega (arith, length-replicate {A = ℕ} n 0))) (order i n)
