-- Laws of the tables: an entry that is written, entries that a change leaves, and the constraints of a form one after another.
use Prim.Native.Nat.{◌+◌, ◌<◌, ◌≤◌, suc, ℕ}
use mathlib.Core.List.{List, [], ◌++◌, ◌∷◌, map, map-append}
use mathlib.Core.Path.{◌∙◌, ◌≡◌, ap, ap₂, refl, subst, sym}
use lib.ListN.{get_or, length, length-map, length-set, set}
use lib.Seq.{get_or-set_other, get_or-set_same}
use native.Mathlib.Omega.{arith}
use Rattle.frames.proofs.Frames.{only_none, only_put, only_set, row_same}
use Rattle.frames.proofs.Rows.{put_row}
use Rattle.frames.specs.Frames.{Span}
use Rattle.frames.specs.Rows.{put_at, row_at}
use Rattle.layout.specs.Places.{constraint_place, constraints_at, individual_place, individuals_at}
use Rattle.layout.specs.Tables.{ConstraintPut, ConstraintsStand, HasEntry, Held, IndividualPut, PiecePut, RowStands, RowsStand}
use Rattle.layout.specs.Tables.{Tabled, constraint_at, held_at, held_below, held_by, held_in, interval_of, piece_at}
use Rattle.layout.specs.declared.Tables.{Tables}
use Rattle.meaning.specs.Countermodel.{size}
use Rattle.meaning.specs.Intervals.{Constraint}
use Rattle.meaning.specs.Limits.{most_records}
use Rattle.meaning.specs.NormalForm.{Form, Successors, none, successor}
use Rattle.meaning.specs.Splitting.{constraints_below, constraints_of}
use Rattle.meaning.specs.Vocabulary.{Vocabulary}
use Rattle.words.specs.Rows.{class_words}

-- words that are as they were, from b to before e
abbrev pub Same : List ℕ → List ℕ → ℕ → ℕ → Type 0
Same w w' b e = (i : ℕ) → b ≤ i → i < e → get_or w' i 0 ≡ get_or w i 0

-- ---- an entry written

pub individual_put : {n i r : ℕ} {s w w' : List ℕ} → HasEntry n w → length s ≡ class_words →
    w' ≡ put_at (set (set w (individual_place n) i) (individual_place n + 1) r) (individual_place n + 2) s → IndividualPut n i r s w w'
individual_put {n} {i} {r} {s} {w} h es e = rw e (record {
  parent = before (individual_place n) (omega arith) ∙ get_or-set_other u (individual_place n + 1) (individual_place n) r 0 (λ d. omega arith) ∙ get_or-set_same w (individual_place n) i 0 (omega arith);
  role = before (individual_place n + 1) (omega arith) ∙ get_or-set_same u (individual_place n + 1) r 0 (omega (arith, length-set w (individual_place n) i));
  classes = ap (λ (m : ℕ). row_at m (put_at v at s) at) (sym es) ∙ put_row v at s room;
  only = only_put at s room (λ j a b. record { low = omega arith; high = omega arith })
      (only_set (individual_place n + 1) r (record { low = omega arith; high = omega arith })
      (only_set (individual_place n) i (record { low = omega arith; high = omega arith }) only_none));
})
  where
    u : List ℕ
    u = set w (individual_place n) i

    v : List ℕ
    v = set u (individual_place n + 1) r

    at : ℕ
    at = individual_place n + 2

    room : at + length s ≤ length v
    room = omega (arith, h.0, h.1, length-set u (individual_place n + 1) r, length-set w (individual_place n) i)

    before : (k : ℕ) → k < at → get_or (put_at v at s) k 0 ≡ get_or v k 0
    before k g = (only_put {A = Span at (at + length s)} {w = v} at s room (λ j a b. record { low = a; high = b }) only_none).others k (λ d. omega (arith, d.low))

held_path : {x y a b l m h k : ℕ} → x ≡ y → a ≡ b → l ≡ m → h ≡ k →
    ◌≡◌ {A = Held} (record { individual = x; constraint = interval_of a l h }) (record { individual = y; constraint = interval_of b m k })
held_path p q r s = cc

pub interval_path : {f g a b x y : ℕ} → f ≡ g → a ≡ b → x ≡ y → interval_of f a x ≡ interval_of g b y
interval_path p q r = cc

pub constraint_put : {m x f lo hi : ℕ} {w w' : List ℕ} → HasEntry m w →
    w' ≡ set (set (set (set w (constraint_place m) x) (constraint_place m + 1) f) (constraint_place m + 2) lo) (constraint_place m + 3) hi →
    ConstraintPut m x f lo hi w w'
unfolding constraint_at
constraint_put {m} {x} {f} {lo} {hi} {w} h e = rw e (record {
  held = held_path
      (get_or-set_other w3 (s + 3) s hi 0 (λ d. omega arith) ∙ get_or-set_other w2 (s + 2) s lo 0 (λ d. omega arith)
      ∙ get_or-set_other w1 (s + 1) s f 0 (λ d. omega arith) ∙ get_or-set_same w s x 0 (omega (arith, h.0, h.1)))
      (get_or-set_other w3 (s + 3) (s + 1) hi 0 (λ d. omega arith) ∙ get_or-set_other w2 (s + 2) (s + 1) lo 0 (λ d. omega arith)
      ∙ get_or-set_same w1 (s + 1) f 0 (simp length-set (omega (arith, h.0, h.1))))
      (get_or-set_other w3 (s + 3) (s + 2) hi 0 (λ d. omega arith) ∙ get_or-set_same w2 (s + 2) lo 0 (simp length-set (omega (arith, h.0, h.1))))
      (get_or-set_same w3 (s + 3) hi 0 (simp length-set (omega (arith, h.0, h.1))));
  only = only_set (s + 3) hi (record { low = omega arith; high = omega arith }) (only_set (s + 2) lo (record { low = omega arith; high = omega arith })
      (only_set (s + 1) f (record { low = omega arith; high = omega arith }) (only_set s x (record { low = omega arith; high = omega arith }) only_none)));
})
  where
    s : ℕ
    s = constraint_place m

    w1 : List ℕ
    w1 = set w s x

    w2 : List ℕ
    w2 = set w1 (s + 1) f

    w3 : List ℕ
    w3 = set w2 (s + 2) lo

pub piece_put : {m lo hi : ℕ} {w w' : List ℕ} → HasEntry m w → w' ≡ set (set w (constraint_place m + 4) lo) (constraint_place m + 5) hi → PiecePut m lo hi w w'
unfolding constraint_at piece_at
piece_put {m} {lo} {hi} {w} h e = rw e (record {
  piece = interval_path
      (get_or-set_other w1 (s + 5) (s + 1) hi 0 (λ d. omega arith) ∙ get_or-set_other w (s + 4) (s + 1) lo 0 (λ d. omega arith))
      (get_or-set_other w1 (s + 5) (s + 4) hi 0 (λ d. omega arith) ∙ get_or-set_same w (s + 4) lo 0 (omega (arith, h.0, h.1)))
      (get_or-set_same w1 (s + 5) hi 0 (simp length-set (omega (arith, h.0, h.1))));
  only = only_set (s + 5) hi (record { low = omega arith; high = omega arith }) (only_set (s + 4) lo (record { low = omega arith; high = omega arith }) only_none);
})
  where
    s : ℕ
    s = constraint_place m

    w1 : List ℕ
    w1 = set w (s + 4) lo

-- ---- entries that a change leaves

pub held_same : (w w' : List ℕ) (m : ℕ) → Same w w' (constraint_place m) (constraint_place m + 4) → held_at w' m ≡ held_at w m
unfolding constraint_at
held_same w w' m f = held_path (f (constraint_place m) (omega arith) (omega arith)) (f (constraint_place m + 1) (omega arith) (omega arith))
    (f (constraint_place m + 2) (omega arith) (omega arith)) (f (constraint_place m + 3) (omega arith) (omega arith))

-- whatever stands in the two words after each
pub constraints_same : (w w' : List ℕ) (m : ℕ) (l : List Held) → ((n : ℕ) → m ≤ n → n < m + length l → Same w w' (constraint_place n) (constraint_place n + 4)) →
    ConstraintsStand w m l → ConstraintsStand w' m l
constraints_same w w' m [] f s = tt
constraints_same w w' m (h ∷ l) f s =
    (held_same w w' m (f m (omega arith) (omega arith)) ∙ s.0, constraints_same w w' (suc m) l (λ n p q. f n (omega arith) (omega arith)) s.1)

pub constraints_kept : (w w' : List ℕ) (m : ℕ) (l : List Held) → Same w w' (constraint_place m) (constraint_place (m + length l)) →
    ConstraintsStand w m l → ConstraintsStand w' m l
constraints_kept w w' m l f s = constraints_same w w' m l (λ n p q i a b. f i (omega arith) (omega arith)) s

module _ (K : Vocabulary) (w w' : List ℕ) (same : length w' ≡ length w) where
  pub row_stays : (n i r : ℕ) (cs : List ℕ) → Same w w' (individual_place n) (individual_place (n + 1)) → RowStands K w n i r cs → RowStands K w' n i r cs
  row_stays n i r cs f s = record {
    parent = f (individual_place n) (omega arith) (omega arith) ∙ s.parent;
    role = f (individual_place n + 1) (omega arith) (omega arith) ∙ s.role;
    classes = rw (row_same class_words w w' (individual_place n + 2) same (λ h a b. f h (omega arith) (omega arith))) s.classes;
  }

  pub rows_kept : (ks : Successors) (i n : ℕ) → Same w w' (individual_place n) (individual_place (n + size ks)) → RowsStand K w ks i n → RowsStand K w' ks i n
  rows_kept none i n f s = tt
  rows_kept (successor r m under next) i n f s = (
    row_stays n i r m.classes (λ h a b. f h a (omega arith)) s.0,
    rows_kept under (suc n) (suc n) (λ h a b. f h (omega arith) (omega arith)) s.1,
    rows_kept next i (suc n + size under) (λ h a b. f h (omega arith) (omega arith)) s.2,
  )

-- ---- the constraints of a form, one after another

pub constraints_append : (w : List ℕ) (m : ℕ) (l k : List Held) → ConstraintsStand w m l → ConstraintsStand w (m + length l) k → ConstraintsStand w m (l ++ k)
constraints_append w m [] k s t = subst (λ (i : ℕ). ConstraintsStand w i k) (omega arith) t
constraints_append w m (h ∷ l) k s t = (s.0, constraints_append w (suc m) l k s.1 (subst (λ (i : ℕ). ConstraintsStand w i k) (omega arith) t))

pub held_length : (x : ℕ) (l : List Constraint) → length (held_by x l) ≡ length l
held_length x [] = refl
held_length x (s ∷ l) = ap suc (held_length x l)

held_by_lem : (x : ℕ) (l : List Constraint) → map (λ h. h.constraint) (held_by x l) ≡ l
held_by_lem x [] = refl
held_by_lem x (s ∷ l) = ap (λ (m : List Constraint). s ∷ m) (held_by_lem x l)

held_below_lem : (ks : Successors) (k : ℕ) → map (λ h. h.constraint) (held_below ks k) ≡ constraints_below ks
held_below_lem none k = refl
held_below_lem (successor r n under next) k =
    map-append (λ h. h.constraint) (held_by k n.constraints) (held_below under (suc k) ++ held_below next (suc k + size under))
    ∙ ap₂ (λ (l m : List Constraint). l ++ m) (held_by_lem k n.constraints)
    (map-append (λ h. h.constraint) (held_below under (suc k)) (held_below next (suc k + size under))
    ∙ ap₂ (λ (l m : List Constraint). l ++ m) (held_below_lem under (suc k)) (held_below_lem next (suc k + size under)))

pub held_constraints : (t : Form) → map (λ h. h.constraint) (held_in t) ≡ constraints_of t
held_constraints t =
    map-append (λ h. h.constraint) (held_by 1 t.node.constraints) (held_below t.successors 2)
    ∙ ap₂ (λ (l m : List Constraint). l ++ m) (held_by_lem 1 t.node.constraints) (held_below_lem t.successors 2)

-- a constraint of the table for each of the form's
pub held_below_length : (ks : Successors) (k : ℕ) → length (held_below ks k) ≡ length (constraints_below ks)
held_below_length ks k = sym (length-map (held_below ks k) (λ h. h.constraint)) ∙ ap length (held_below_lem ks k)

pub held_in_lem : (t : Form) → length (held_in t) ≡ length (constraints_of t)
held_in_lem t = sym (length-map (held_in t) (λ h. h.constraint)) ∙ ap length (held_constraints t)

-- ---- the tables hold the form while nothing changes but pieces and what stands before them

pub tabled_kept : (K : Vocabulary) (t : Form) (w w' : List ℕ) (r : Tables) → (r.individuals ≤ most_records) × (r.constraints ≤ most_records) → length w' ≡ length w →
    Same w w' individuals_at constraints_at → ((m : ℕ) → m < most_records → Same w w' (constraint_place m) (constraint_place m + 4)) → Tabled K t w r → Tabled K t w' r
tabled_kept K t w w' r most same f g s =
    let c = held_in_lem t in
    record {
      count = s.count;
      top = s.top;
      rows = rows_kept K w w' same (successor 0 t.node t.successors none) 0 0 (λ h p q. f h (omega arith) (omega arith)) s.rows;
      held = constraints_same w w' 0 (held_in t) (λ n p q. g n (omega arith)) s.held;
    }

-- ---- a piece that a change leaves

pub piece_same : (w w' : List ℕ) (m : ℕ) → Same w w' (constraint_place m) (constraint_place (suc m)) → piece_at w' m ≡ piece_at w m
unfolding piece_at
piece_same w w' m f = interval_path (f (constraint_place m + 1) (omega arith) (omega arith))
    (f (constraint_place m + 4) (omega arith) (omega arith)) (f (constraint_place m + 5) (omega arith) (omega arith))
