-- Laws of rows of sets of records: one record more in one of them, and none in words that are 0.
use Prim.Native.Nat.{◌*◌, ◌+◌, ◌-◌, ◌≤◌, ℕ}
use mathlib.Core.Bool.{Bool, ◌&&◌, ◌||◌, false, or-true, true}
use mathlib.Core.List.{List}
use mathlib.Core.Logic.{⊎_elim}
use mathlib.Core.Path.{◌∙◌, ◌≡◌, ap, refl, sym}
use lib.Dec.{eqb}
use lib.ListN.{length}
use native.Mathlib.Omega.{arith}
use borrow.Author.Tests.{eqb-false, eqb-true}
use Rattle.frames.proofs.Frames.{row_before, row_behind}
use Rattle.frames.specs.Frames.{Only, Span}
use Rattle.frames.specs.Rows.{row_at}
use Rattle.meaning.specs.Limits.{most_records}
use Rattle.meaning.specs.Records.{Name}
use Rattle.satisfaction.proofs.Rows.{put_in_lem, put_inside, put_only}
use Rattle.satisfaction.specs.Places.{put_in, record_words}
use Rattle.theory.proofs.Rules.{order}
use Rattle.words.specs.Sets.{in_set}

pub shuffle : (e s r : Bool) → (e || s) || r ≡ s || (e || r)
shuffle true s r = sym (or-true s)
shuffle false s r = refl

-- rows one after another from a base on, the first one's number being 1
pub record Row (base most i at : ℕ) : Type 0 where
  pub named : Name most i
  pub place : at ≡ base + (i - 1) * record_words

-- what changes in another row
pub row_apart : {base most i d ai ad : ℕ} {w w' : List ℕ} → Row base most i ai → Row base most d ad → (d ≡ i → ⊥) → Only (Span ai (ai + record_words)) w w' →
    row_at record_words w' ad ≡ row_at record_words w ad
row_apart {i = i} {d} {ad = ad} x y n o =
    let a = x.place in
    let b = y.place in
    let l = x.named in
    let h = y.named in
    ⊎_elim (λ q. row_before o record_words ad (omega arith)) (λ q. row_behind o record_words ad (omega arith)) (order d i)

module _ (w : List ℕ) {base most i ai : ℕ} (k : ℕ) (x : Row base most i ai) (few : Name most_records k) (fits : base + most * record_words ≤ length w) where
  pub row_fits : ai + record_words ≤ length w
  row_fits = let a = x.place in let l = x.named in omega arith

  pub row_inside : {from to : ℕ} {w₀ w' : List ℕ} → from ≤ base → base + most * record_words ≤ to → w' ≡ put_in record_words w ai k → Only (Span from to) w₀ w → Only (Span from to) w₀ w'
  row_inside f g e o = let a = x.place in let l = x.named in put_inside record_words w ai k row_fits (omega arith) (omega arith) e o

  pub row_put : {d ad : ℕ} → Row base most d ad → (j : ℕ) → in_set (row_at record_words (put_in record_words w ai k) ad) j ≡ (eqb d i && eqb j k) || in_set (row_at record_words w ad) j
  row_put {d} {ad} y j = go (eqb d i) refl
    where
      go : (b : Bool) → eqb d i ≡ b → in_set (row_at record_words (put_in record_words w ai k) ad) j ≡ (b && eqb j k) || in_set (row_at record_words w ad) j
      go true e =
          let z = eqb-true d i e in
          let same : ad ≡ ai = y.place ∙ rw (z, x.place) in
          rw same (put_in_lem record_words w ai k row_fits few j)
      go false e = ap (λ (s : List ℕ). in_set s j) (row_apart x y (eqb-false d i e) (put_only record_words w ai k row_fits))
