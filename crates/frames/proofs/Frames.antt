-- Laws of frames: one change after another, a change within wider places, and what a change leaves.
use Prim.Native.Nat.{◌+◌, ◌-◌, ◌<◌, ◌≤◌, ℕ}
use mathlib.Core.List.{List}
use mathlib.Core.Logic.{◌⊎◌, inl, inr}
use mathlib.Core.Path.{◌∙◌, ◌≡◌, ap, refl, subst, sym}
use native.Mathlib.Omega.{arith}
use lib.ListN.{drop, get_or, length, length-drop, length-set, length-take, set}
use lib.Seq.{ext_get_or, get_or-drop, get_or-set_other, get_or-take}
use Rattle.frames.specs.Frames.{Only, Span}
use Rattle.frames.proofs.Rows.{length_put, put_drop, put_take}
use Rattle.frames.specs.Rows.{put_at, row_at}
use Rattle.theory.proofs.Rules.{order}

-- ---- any places

module _ {A : ℕ → Type 0} where
  pub only_none : {w : List ℕ} → Only A w w
  only_none = record { size = refl; others = λ i h. refl }

  pub only_then : {w w' w'' : List ℕ} → Only A w w' → Only A w' w'' → Only A w w''
  only_then a b = record { size = b.size ∙ a.size; others = λ i h. b.others i h ∙ a.others i h }

  pub only_wider : {B : ℕ → Type 0} {w w' : List ℕ} → ((i : ℕ) → A i → B i) → Only A w w' → Only B w w'
  only_wider f o = record { size = o.size; others = λ i h. o.others i (λ a. h (f i a)) }

  pub only_set : {w w' : List ℕ} (i x : ℕ) → A i → Only A w w' → Only A w (set w' i x)
  only_set {w' = w'} i x a o = record {
    size = length-set w' i x ∙ o.size;
    others = λ j h. get_or-set_other w' i j x 0 (λ e. h (subst A (sym e) a)) ∙ o.others j h;
  }

-- ---- a row that a change leaves

pub row_word : (n : ℕ) (w : List ℕ) (at i : ℕ) → i < n → get_or (row_at n w at) i 0 ≡ get_or w (at + i) 0
row_word n w at i h = get_or-take n (drop at w) i 0 h ∙ get_or-drop at w i 0

pub row_same : (n : ℕ) (w w' : List ℕ) (at : ℕ) → length w' ≡ length w → ((i : ℕ) → at ≤ i → i < at + n → get_or w' i 0 ≡ get_or w i 0) →
    row_at n w' at ≡ row_at n w at
row_same n w w' at e f = ext_get_or 0 (row_at n w' at) (row_at n w at) sizes (λ i h. go i (omega (arith, length-take n (drop at w'))))
  where
    sizes : length (row_at n w' at) ≡ length (row_at n w at)
    sizes = omega (arith, length-take n (drop at w'), length-take n (drop at w), length-drop at w', length-drop at w)

    go : (i : ℕ) → i < n → get_or (row_at n w' at) i 0 ≡ get_or (row_at n w at) i 0
    go i h = row_word n w' at i h ∙ f (at + i) (omega arith) (omega arith) ∙ sym (row_word n w at i h)

-- ---- the places from one to before another

module _ {from to : ℕ} {w w' : List ℕ} (o : Only (Span from to) w w') where
  pub only_before : (i : ℕ) → i < from → get_or w' i 0 ≡ get_or w i 0
  only_before i h = o.others i (λ s. omega (arith, s.low))

  pub only_behind : (i : ℕ) → to ≤ i → get_or w' i 0 ≡ get_or w i 0
  only_behind i h = o.others i (λ s. omega (arith, s.high))

  pub only_span : {from' to' : ℕ} → from' ≤ from → to ≤ to' → Only (Span from' to') w w'
  only_span f g = only_wider (λ i s. record { low = omega (arith, s.low); high = omega (arith, s.high) }) o

  pub row_before : (n at : ℕ) → at + n ≤ from → row_at n w' at ≡ row_at n w at
  row_before n at h = row_same n w w' at o.size (λ i f g. only_before i (omega arith))

  pub row_behind : (n at : ℕ) → to ≤ at → row_at n w' at ≡ row_at n w at
  row_behind n at h = row_same n w w' at o.size (λ i f g. only_behind i (omega arith))

-- ---- words put in the place of others

put_word : (w : List ℕ) (at : ℕ) (vs : List ℕ) → at + length vs ≤ length w → (i : ℕ) → (i < at) ⊎ (at + length vs ≤ i) → get_or (put_at w at vs) i 0 ≡ get_or w i 0
put_word w at vs h i (inl a) =
    sym (get_or-take at (put_at w at vs) i 0 a) ∙ ap (λ (l : List ℕ). get_or l i 0) (put_take w at vs h at (omega arith)) ∙ get_or-take at w i 0 a
put_word w at vs h i (inr a) =
    let e : at + length vs + (i - (at + length vs)) ≡ i = omega arith in
    subst (λ (j : ℕ). get_or (put_at w at vs) j 0 ≡ get_or w j 0) e
    (sym (get_or-drop (at + length vs) (put_at w at vs) (i - (at + length vs)) 0)
    ∙ ap (λ (l : List ℕ). get_or l (i - (at + length vs)) 0) (put_drop w at vs h (at + length vs) (omega arith))
    ∙ get_or-drop (at + length vs) w (i - (at + length vs)) 0)

pub only_put : {A : ℕ → Type 0} {w w' : List ℕ} (at : ℕ) (vs : List ℕ) → at + length vs ≤ length w' →
    ((i : ℕ) → at ≤ i → i < at + length vs → A i) → Only A w w' → Only A w (put_at w' at vs)
only_put {A} {w} {w'} at vs h f o = record {
  size = length_put w' at vs h ∙ o.size;
  others = λ i n. go i n (order i at) (order i (at + length vs)) ∙ o.others i n;
}
  where
    go : (i : ℕ) → (A i → ⊥) → (i < at) ⊎ (at ≤ i) → (i < at + length vs) ⊎ (at + length vs ≤ i) → get_or (put_at w' at vs) i 0 ≡ get_or w' i 0
    go i n (inl a) b = put_word w' at vs h i (inl a)
    go i n (inr a) (inl b) = absurd (n (f i a b))
    go i n (inr a) (inr b) = put_word w' at vs h i (inr b)
