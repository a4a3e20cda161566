-- The edges of an individual, row by row, and from successor to successor.
use Prim.Native.Nat.{◌+◌, ◌-◌, ◌<◌, ◌≤◌, suc, zero, ℕ}
use mathlib.Core.Bool.{Bool, cond, false, true}
use mathlib.Core.List.{List, [], ◌++◌, ◌∷◌, append-nil}
use mathlib.Core.Path.{◌∙◌, ◌≡◌, ap, ap₂, refl, subst, sym}
use native.Mathlib.Omega.{arith}
use lib.Dec.{eqb, ltb}
use borrow.Author.Tests.{eq-eqb, le-ltb, lt-ltb, ne_eqb}
use Rattle.countermodel.specs.Facts.{edge_facts, edges_from}
use Rattle.layout.specs.Combination.{Below, Kin, next_successor}
use Rattle.layout.specs.Tables.{parent_at, piece_at, role_at}
use Rattle.layout.specs.declared.Tables.{Tables}
use Rattle.meaning.specs.Countermodel.{edges, size}
use Rattle.meaning.specs.Model.{Fact, edge}
use Rattle.meaning.specs.NormalForm.{Successors, none, successor}
use Rattle.meaning.specs.Vocabulary.{Vocabulary}

module _ (w : List ℕ) (x : ℕ) where
  -- what is left at row r, of n rows: its own edge, and those after it
  unfoldable pub edges_left : ℕ → ℕ → List Fact
  edges_left n r = let here = edge (role_at w r) x (r + 1) ∷ edges_from w x (n - (r + 1)) (r + 1) in cond (ltb r n) here []

  -- the next successor's row is the first that has an edge
  next_edge : (left j : ℕ) → edges_left (j + left) (next_successor w x left j) ≡ edges_from w x left j
  unfolding edges_left edges_from next_successor
  next_edge zero j = rw (le-ltb j (j + 0) (omega arith))
  next_edge (suc left) j = go (ltb (parent_at w j) x) (eqb (parent_at w j) x) (next_edge left (suc j))
    where
      go : (p q : Bool) → edges_left (suc j + left) (next_successor w x left (suc j)) ≡ edges_from w x left (suc j) →
          edges_left (j + suc left) (cond p (j + suc left) (cond q j (next_successor w x left (suc j))))
          ≡ cond p [] (cond q (edge (role_at w j) x (suc j) ∷ edges_from w x left (suc j)) (edges_from w x left (suc j)))
      go true q ih = rw (le-ltb (j + suc left) (j + suc left) (omega arith))
      go false true ih =
          let one : j + 1 ≡ suc j = omega arith in
          let rest : (j + suc left) - suc j ≡ left = omega arith in
          rw (lt-ltb j (j + suc left) (omega arith), one, rest)
      go false false ih = let e : suc j + left ≡ j + suc left = omega arith in rw (← e) ih

  module _ (n : ℕ) where
    next_left : (j r : ℕ) → j ≤ n → r ≡ next_successor w x (n - j) j → edges_left n r ≡ edges_from w x (n - j) j
    next_left j r h e =
        let all : j + (n - j) ≡ n = omega arith in
        subst (λ (k : ℕ). edges_left k r ≡ edges_from w x (n - j) j) all (rw e (next_edge (n - j) j))

    pub edges_start : (j r : ℕ) → j ≡ x → x ≤ n → r ≡ next_successor w x (n - j) j → edges_left n r ≡ edge_facts w n x
    edges_start j r e h q = next_left j r (omega arith) q ∙ ap (λ (k : ℕ). edges_from w x (n - k) k) e

    pub edges_more : (j r : ℕ) → j < n → r ≡ next_successor w x (n - (j + 1)) (j + 1) → edges_left n j ≡ edge (role_at w j) x (j + 1) ∷ edges_left n r
    unfolding edges_left
    edges_more j r h q = rw (lt-ltb j n h) (ap (λ (F : List Fact). edge (role_at w j) x (j + 1) ∷ F) (sym (next_left (j + 1) r (omega arith) q)))

    pub edges_end : (r : ℕ) → n ≤ r → edges_left n r ≡ []
    unfolding edges_left
    edges_end r h = rw (le-ltb r n h)

-- ---- by the definition

module _ (K : Vocabulary) (w : List ℕ) (top : ℕ) where
  -- rows of those below an individual after x have no edge of x
  over : (x i n : ℕ) (ks : Successors) (left : ℕ) → Below K w top ks i n → x < i → i ≤ n → edges_from w x (size ks + left) n ≡ edges_from w x left (n + size ks)
  unfolding edges_from
  over x i n none left b h g =
      let here : n + 0 ≡ n = omega arith in
      let rest : 0 + left ≡ left = omega arith in
      rw (here, rest)
  over x i n (successor r m under next) left b h g =
      let rows : size (successor r m under next) + left ≡ suc (size under + (size next + left)) = omega arith in
      let behind : suc n + size under + size next ≡ n + size (successor r m under next) = omega arith in
      rw (rows, le-ltb (parent_at w n) x (omega arith), ne_eqb (parent_at w n) x (λ e. omega arith))
      (over x (suc n) (suc n) under (size next + left) b.3 (omega arith) (omega arith)
      ∙ over x i (suc n + size under) next left b.4 h (omega arith)
      ∙ ap (edges_from w x left) behind)

  own : (x n : ℕ) (ks : Successors) (left : ℕ) → Below K w top ks x n → x ≤ n →
      edges_from w x (size ks + left) n ≡ edges ks x (suc n) ++ edges_from w x left (n + size ks)
  unfolding edges_from
  own x n none left b g =
      let here : n + 0 ≡ n = omega arith in
      let rest : 0 + left ≡ left = omega arith in
      rw (here, rest)
  own x n (successor r m under next) left b g =
      let p = b.0 in
      let rows : size (successor r m under next) + left ≡ suc (size under + (size next + left)) = omega arith in
      let behind : suc n + size under + size next ≡ n + size (successor r m under next) = omega arith in
      let target : suc (suc n + size under) ≡ suc (suc n) + size under = omega arith in
      rw (rows, le-ltb (parent_at w n) x (omega arith), eq-eqb (parent_at w n) x p, b.1)
      (ap (λ (F : List Fact). edge r x (suc n) ∷ F)
      (over x (suc n) (suc n) under (size next + left) b.3 (omega arith) (omega arith)
      ∙ own x (suc n + size under) next left b.4 (omega arith)
      ∙ ap₂ (λ (F G : List Fact). F ++ G) (ap (edges next x) target) (ap (edges_from w x left) behind)))

-- what is below individual x, whose rows start after it, has x's edges
pub kin_edges : {K : Vocabulary} {w : List ℕ} {t : Tables} {x : ℕ} {ks : Successors} → Kin (piece_at w) K w t x x ks → edge_facts w t.individuals x ≡ edges ks x (suc x)
unfolding edges_from
kin_edges {K} {w} {t} {x} {ks} k =
    let rows : t.individuals - x ≡ size ks + (t.individuals - (x + size ks)) = omega arith in
    rw rows (own K w t.constraints x x ks (t.individuals - (x + size ks)) k.below (omega arith)
    ∙ ap (λ (F : List Fact). edges ks x (suc x) ++ F) (ended (t.individuals - (x + size ks)) refl) ∙ append-nil (edges ks x (suc x)))
  where
    ended : (left : ℕ) → t.individuals - (x + size ks) ≡ left → edges_from w x left (x + size ks) ≡ []
    ended zero e = refl
    ended (suc left) e = rw (lt-ltb (parent_at w (x + size ks)) x (k.ends (omega arith)))
