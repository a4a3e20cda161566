-- Laws of what is added to the tables: pending words, places that may change, a constraint placed.
use Prim.Native.Nat.{◌+◌, ◌-◌, ◌<◌, ◌≤◌, max, min, suc, zero, ℕ}
use mathlib.Core.Bool.{Bool, ◌&&◌, and-false, cond, false, true}
use mathlib.Core.List.{List, [], ◌++◌, ◌∷◌}
use mathlib.Core.Logic.{◌⊎◌, inl, inr, ⊎_elim}
use mathlib.Core.Path.{◌∙◌, ◌≡◌, ap, refl, subst, sym}
use lib.Dec.{eqb}
use lib.ListN.{drop, get_or, length, length-take, replicate, take}
use lib.Seq.{ext_get_or, get_or-take}
use native.Mathlib.Omega.{arith}
use borrow.Author.Tests.{eq-eqb, eqb-true, ne_eqb}
use Rattle.closure.specs.Rows.{row_of}
use Rattle.frames.proofs.Frames.{only_before, only_behind, only_span, only_wider, row_before, row_word}
use Rattle.frames.proofs.Rows.{length_row}
use Rattle.frames.specs.Frames.{Only, Span}
use Rattle.frames.specs.Rows.{row_at}
use Rattle.layout.proofs.Entries.{Same, constraints_kept, held_same}
use Rattle.layout.specs.Places.{InTables, constraint_place, constraints_at, individual_place, individuals_at, pending_at, role_row, row_place}
use Rattle.layout.specs.Places.{tables_end}
use Rattle.layout.specs.Tables.{ConstraintPut, ConstraintsStand, HasEntry, Held, constraint_at, held_by, interval_of}
use Rattle.meaning.specs.Intervals.{Constraint}
use Rattle.meaning.specs.Limits.{most_records, most_roles}
use Rattle.meaning.specs.NormalForm.{place_constraint}
use Rattle.normal_form.specs.Parts.{Arm, arm_at, live, words_at}
use Rattle.normal_form.specs.Steps.{Fresh, Placed, constrained, front, pended, rowed, start_of, struck}
use Rattle.words.specs.Rows.{class_words}

-- ---- words that are as they were

pub words_kept : (w w' : List ℕ) (b n : ℕ) → Same w w' b (b + n) → words_at w' b n ≡ words_at w b n
words_kept w w' b zero f = refl
words_kept w w' b (suc n) f =
    ap (λ (x : ℕ). x ∷ words_at w' (suc b) n) (f b (omega arith) (omega arith))
    ∙ ap (λ (l : List ℕ). get_or w b 0 ∷ l) (words_kept w w' (suc b) n (λ i p q. f i (omega arith) (omega arith)))

pub words_eq : (w : List ℕ) {b b' n n' : ℕ} → b ≡ b' → n ≡ n' → words_at w b n ≡ words_at w b' n'
words_eq w {b' = b'} {n = n} p q = ap (λ (x : ℕ). words_at w x n) p ∙ ap (λ (y : ℕ). words_at w b' y) q

pub words_append : (w : List ℕ) (b n m : ℕ) → words_at w b (n + m) ≡ words_at w b n ++ words_at w (b + n) m
words_append w b zero m = words_eq w {b = b} {b' = b + zero} {n = zero + m} {n' = m} (omega arith) (omega arith)
words_append w b (suc n) m =
    let e : suc n + m ≡ suc (n + m) = omega arith in
    let d : suc b + n ≡ b + suc n = omega arith in
    words_eq w {b = b} refl e
    ∙ ap (λ (l : List ℕ). get_or w b 0 ∷ l) (words_append w (suc b) n m ∙ ap (λ (l : List ℕ). words_at w (suc b) n ++ l) (words_eq w {n = m} d refl))

pub words_next : (w : List ℕ) (j e : ℕ) → j < e → words_at w j (e - j) ≡ get_or w j 0 ∷ words_at w (j + 1) (e - (j + 1))
words_next w j e h =
    let n : e - j ≡ suc (e - (j + 1)) = omega arith in
    let b : suc j ≡ j + 1 = omega arith in
    words_eq w {b = j} refl n ∙ ap (λ (l : List ℕ). get_or w j 0 ∷ l) (words_eq w {n = e - (j + 1)} b refl)

pub live_append : (p l m : List ℕ) → live p (l ++ m) ≡ live p l ++ live p m
live_append p [] m = refl
live_append p (k ∷ l) m = go (eqb k 0) (live_append p l m)
  where
    go : (b : Bool) → live p (l ++ m) ≡ live p l ++ live p m → cond b (live p (l ++ m)) (arm_at p k ∷ live p (l ++ m)) ≡ cond b (live p l) (arm_at p k ∷ live p l) ++ live p m
    go true h = h
    go false h = ap (λ (x : List Arm). arm_at p k ∷ x) h

-- the rows in front of the tables
pub front_kept : {w w' : List ℕ} → Only InTables w w' → front w' ≡ front w
unfolding front
front_kept o = row_before o pending_at 0 (omega arith)

pub front_row : (w : List ℕ) (at : ℕ) → at + class_words ≤ pending_at → tables_end ≤ length w → row_at class_words (front w) at ≡ row_at class_words w at
unfolding front
front_row w at h long =
    ext_get_or 0 (row_at class_words (take pending_at w) at) (row_at class_words w at)
    (length_row class_words (take pending_at w) at (omega (arith, length-take pending_at w)) ∙ sym (length_row class_words w at (omega arith)))
    (λ i l. go i (omega (arith, length-take class_words (drop at (take pending_at w)))))
  where
    go : (i : ℕ) → i < class_words → get_or (row_at class_words (take pending_at w) at) i 0 ≡ get_or (row_at class_words w at) i 0
    go i l = row_word class_words (take pending_at w) at i l ∙ get_or-take pending_at w (at + i) 0 (omega arith) ∙ sym (row_word class_words w at i l)

-- ---- what an individual starts with

pub start_none : (h s : List ℕ) (r : ℕ) → r ≡ 0 → s ≡ replicate class_words 0 → s ≡ start_of h r
unfolding start_of
start_none h s r e d = rw e d

pub start_range : (w s : List ℕ) (r : ℕ) → (r ≡ 0 → ⊥) → r ≤ most_roles → tables_end ≤ length w → s ≡ row_of w (role_row r) → s ≡ start_of (front w) r
unfolding start_of
start_range w s r n h long e = rw (ne_eqb r 0 n) (e ∙ sym (front_row w (row_place (role_row r)) (omega arith) long))

-- ---- places that may change

-- among others
pub fresh_in : {j e u n m j' e' u' n' m' : ℕ} → ((i : ℕ) → Span j e i → Span j' e' i ⊎ (u' ≤ i)) → u' ≤ u → n' ≤ n → m' ≤ m →
    (i : ℕ) → Fresh j e u n m i → Fresh j' e' u' n' m' i
fresh_in f a b c i (struck s t) = ⊎_elim (struck s) (pended s) (f i t)
fresh_in f a b c i (pended s t) = pended s (omega arith)
fresh_in f a b c i (rowed s t) = rowed (record { low = omega (arith, s.low); high = s.high }) (omega arith)
fresh_in f a b c i (constrained s t) = constrained (record { low = omega (arith, s.low); high = s.high }) (omega arith)

-- no pending words are struck out
pub none_struck : {j u n m j' e' u' n' m' : ℕ} → u' ≤ u → n' ≤ n → m' ≤ m → (i : ℕ) → Fresh j j u n m i → Fresh j' e' u' n' m' i
none_struck a b c i f = fresh_in (λ k s. absurd (omega (arith, s.low, s.high))) a b c i f

fresh_tables : {j e u n m : ℕ} (i : ℕ) → Fresh j e u n m i → InTables i
fresh_tables i (struck s t) = record { low = s.low; high = omega (arith, s.high) }
fresh_tables i (pended s t) = record { low = s.low; high = omega (arith, s.high) }
fresh_tables i (rowed s t) = record { low = omega (arith, s.low); high = omega (arith, s.high) }
fresh_tables i (constrained s t) = record { low = omega (arith, s.low); high = s.high }

module _ {j e u n m : ℕ} {w w' : List ℕ} (o : Only (Fresh j e u n m) w w') where
  pub in_tables : Only InTables w w'
  in_tables = only_wider fresh_tables o

  -- a word that is neither struck out nor new
  pub word_same : (i : ℕ) → (i < j) ⊎ (e ≤ i) → i < u → get_or w' i 0 ≡ get_or w i 0
  word_same i a b = o.others i (go a)
    where
      go : (i < j) ⊎ (e ≤ i) → Fresh j e u n m i → ⊥
      go (inl a) (struck s t) = omega (arith, t.low)
      go (inr a) (struck s t) = omega (arith, t.high)
      go (inl a) (pended s t) = omega arith
      go (inr a) (pended s t) = omega arith
      go (inl a) (rowed s t) = omega arith
      go (inr a) (rowed s t) = omega arith
      go (inl a) (constrained s t) = omega arith
      go (inr a) (constrained s t) = omega arith

  pub rows_same : (i : ℕ) → individuals_at ≤ i → i < individual_place n → i < constraints_at → get_or w' i 0 ≡ get_or w i 0
  rows_same i h a b = o.others i go
    where
      go : Fresh j e u n m i → ⊥
      go (struck s t) = omega (arith, s.high)
      go (pended s t) = omega (arith, s.high)
      go (rowed s t) = omega (arith, s.low)
      go (constrained s t) = omega (arith, s.low)

  pub held_still : (i : ℕ) → constraints_at ≤ i → i < constraint_place m → get_or w' i 0 ≡ get_or w i 0
  held_still i h a = o.others i go
    where
      go : Fresh j e u n m i → ⊥
      go (struck s t) = omega (arith, s.high)
      go (pended s t) = omega (arith, s.high)
      go (rowed s t) = omega (arith, s.high)
      go (constrained s t) = omega (arith, s.low)

-- ---- a constraint placed

and_right : (a b : Bool) → (a && b) ≡ true → b ≡ true
and_right true b h = h
and_right false b h = cc

length_zero : (l : List Constraint) → length l ≡ 0 → l ≡ []
length_zero [] e = refl
length_zero (s ∷ l) e = absurd (omega arith)

held_as : {x f g a b c d : ℕ} → f ≡ g → a ≡ b → c ≡ d →
    ◌≡◌ {A = Held} (record { individual = x; constraint = interval_of f a c }) (record { individual = x; constraint = interval_of g b d })
held_as p q r = cc

-- as a constraint of the table that has been put
module _ {x i f lo hi : ℕ} {w w' : List ℕ} (u : ConstraintPut i x f lo hi w w') where
  put_only : i < most_records → Only (Span (constraint_place i) tables_end) w w'
  put_only h = only_span u.only (omega arith) (omega arith)

  others_kept : (l : List Held) → ConstraintsStand w (suc i) l → ConstraintsStand w' (suc i) l
  others_kept l s = constraints_kept w w' (suc i) l (λ k g h. only_behind u.only k (omega arith)) s

module _ (one : Bool) (x i top f lo hi : ℕ) (w w' : List ℕ) (small : top < most_records) where
  -- no constraint is left
  pub placed_last : i ≡ top → ConstraintPut i x f lo hi w w' → Placed one x i top f lo hi w w' (top + 1)
  placed_last e u = record {
    ends = λ l p q. let z = length_zero l (omega arith) in rw z (omega arith);
    constraints = λ l p q. let z = length_zero l (omega arith) in rw z (u.held, tt);
    more = omega arith;
    few = omega arith;
    only = put_only u (omega arith);
  }

  module _ (less : i < top) {g : ℕ} {t : Bool} (eg : g ≡ (constraint_at w i).feature) (et : t ≡ (one && eqb g f)) where
    tested : {b : Bool} → t ≡ b → (s : Constraint) → constraint_at w i ≡ s → (one && eqb s.feature f) ≡ b
    tested h s e = rw (← e, ← eg) (sym et ∙ h)

    -- the one at i takes it
    pub placed_here : {a b : ℕ} → t ≡ true → a ≡ max (constraint_at w i).lo lo → b ≡ min (constraint_at w i).hi hi →
        ConstraintPut i x f a b w w' → Placed one x i top f lo hi w w' top
    placed_here {a} {b} t ea eb u = record {
      ends = λ l p q. ends l p q;
      constraints = λ l p q. constraints l p q;
      more = omega arith;
      few = omega arith;
      only = put_only u (omega arith);
    }
      where
        ends : (l : List Constraint) → top ≡ i + length l → ConstraintsStand w i (held_by x l) → top ≡ i + length (place_constraint one (interval_of f lo hi) l)
        ends [] p q = absurd (omega arith)
        ends (s ∷ l) p q = rw (tested t s (ap (λ (h : Held). h.constraint) q.0)) p

        constraints : (l : List Constraint) → top ≡ i + length l → ConstraintsStand w i (held_by x l) →
            ConstraintsStand w' i (held_by x (place_constraint one (interval_of f lo hi) l))
        constraints [] p q = absurd (omega arith)
        constraints (s ∷ l) p q =
            let c : constraint_at w i ≡ s = ap (λ (h : Held). h.constraint) q.0 in
            let e = tested t s c in
            let d : s.feature ≡ f = eqb-true s.feature f (and_right one (eqb s.feature f) e) in
            rw e (u.held ∙ held_as (sym d) (ea ∙ ap (λ (y : Constraint). max y.lo lo) c) (eb ∙ ap (λ (y : Constraint). min y.hi hi) c), others_kept u (held_by x l) q.1)

    -- one after it does
    pub placed_on : {r : ℕ} → t ≡ false → Placed one x (i + 1) top f lo hi w w' r → Placed one x i top f lo hi w w' r
    placed_on {r} t u = record {
      ends = λ l p q. ends l p q;
      constraints = λ l p q. constraints l p q;
      more = u.more;
      few = u.few;
      only = only_span u.only (omega arith) (omega arith);
    }
      where
        behind : (l : List Constraint) → ConstraintsStand w (suc i) (held_by x l) → ConstraintsStand w (i + 1) (held_by x l)
        behind l q = subst (λ (n : ℕ). ConstraintsStand w n (held_by x l)) (omega arith) q

        ends : (l : List Constraint) → top ≡ i + length l → ConstraintsStand w i (held_by x l) → r ≡ i + length (place_constraint one (interval_of f lo hi) l)
        ends [] p q = absurd (omega arith)
        ends (s ∷ l) p q = rw (tested t s (ap (λ (h : Held). h.constraint) q.0)) (let h = u.ends l (omega arith) (behind l q.1) in omega arith)

        constraints : (l : List Constraint) → top ≡ i + length l → ConstraintsStand w i (held_by x l) →
            ConstraintsStand w' i (held_by x (place_constraint one (interval_of f lo hi) l))
        constraints [] p q = absurd (omega arith)
        constraints (s ∷ l) p q =
            rw (tested t s (ap (λ (h : Held). h.constraint) q.0)) (
              held_same w w' i (λ k g h. only_before u.only k (omega arith)) ∙ q.0,
              subst (λ (n : ℕ). ConstraintsStand w' n (held_by x (place_constraint one (interval_of f lo hi) l))) (omega arith) (u.constraints l (omega arith) (behind l q.1)),
            )

-- the loop that places it has come to i, and the slice is still as it was: what is placed from i on is placed from first on
pub record Placing (one : Bool) (x first top f lo hi : ℕ) (w₀ w : List ℕ) (i : ℕ) : Type 0 where
  pub low : first ≤ i
  pub high : i ≤ top
  pub same : w ≡ w₀
  pub placed : (w' : List ℕ) (r : ℕ) → Placed one x i top f lo hi w w' r → Placed one x first top f lo hi w₀ w' r

module _ {one : Bool} {x first top f lo hi : ℕ} {w₀ : List ℕ} where
  pub placing_starts : first ≤ top → Placing one x first top f lo hi w₀ w₀ first
  placing_starts h = record { low = omega arith; high = h; same = refl; placed = λ w' r p. p }

  module _ {w : List ℕ} {i : ℕ} (small : top < most_records) (s : Placing one x first top f lo hi w₀ w i) where
    pub placing_entry : {k : ℕ} → k ≤ top → HasEntry top w₀ → HasEntry k w
    placing_entry h e = (omega arith, let n = ap length s.same in omega (arith, e.1))

    pub placing_last : {w' : List ℕ} → top ≤ i → ConstraintPut top x f lo hi w w' → Placed one x first top f lo hi w₀ w' (top + 1)
    placing_last {w'} h u =
        let e : i ≡ top = omega arith in
        s.placed w' (top + 1) (placed_last one x i top f lo hi w w' small e (subst (λ (k : ℕ). ConstraintPut k x f lo hi w w') (sym e) u))

    placing_next : i < top → (one && eqb (constraint_at w i).feature f) ≡ false → Placing one x first top f lo hi w₀ w (i + 1)
    placing_next less z = record {
      low = omega arith;
      high = omega arith;
      same = s.same;
      placed = λ w' r p. s.placed w' r (placed_on one x i top f lo hi w w' small less refl refl z p);
    }

    pub placing_apart : i < top → one ≡ false → Placing one x first top f lo hi w₀ w (i + 1)
    placing_apart less e = placing_next less (rw e)

    module _ (less : i < top) {g : ℕ} (eg : g ≡ (constraint_at w i).feature) where
      pub placing_here : {a b c d : ℕ} {w' : List ℕ} → one ≡ true → g ≡ f → a ≡ max c lo → b ≡ min d hi → c ≡ (constraint_at w i).lo → d ≡ (constraint_at w i).hi →
          ConstraintPut i x f a b w w' → Placed one x first top f lo hi w₀ w' top
      placing_here {w' = w'} z h ea eb ec ed u =
          s.placed w' top (placed_here one x i top f lo hi w w' small less eg refl (rw (z, eq-eqb g f h)) (ea ∙ ap (λ (y : ℕ). max y lo) ec) (eb ∙ ap (λ (y : ℕ). min y hi) ed) u)

      pub placing_on : (g ≡ f → ⊥) → Placing one x first top f lo hi w₀ w (i + 1)
      placing_on n = placing_next less (rw (← eg, ne_eqb g f n) (and-false one))
