-- Records that are written one after another read back: what stands along their chain is what was written, and none is refused.
use Prim.Native.Nat.{◌*◌, ◌+◌, ◌≤◌, suc, zero, ℕ}
use mathlib.Core.Bool.{Bool, ◌&&◌, true}
use mathlib.Core.List.{List, [], ◌++◌, ◌∷◌}
use mathlib.Core.Logic.{inl, inr}
use mathlib.Core.Path.{◌∙◌, ◌≡◌, ap, refl, sym}
use lib.Dec.{eqb-suc-zero}
use lib.ListN.{drop, get_or, length, length-append}
use lib.Seq.{drop-drop, get_or-drop}
use native.Mathlib.Nat.{mul-suc}
use native.Mathlib.Omega.{arith}
use Rattle.meaning.specs.Lists.{All, cons}
use Rattle.meaning.specs.Records.{Onward, chained_words, is_onward, link_to, list_along, refusal_along}
use Rattle.theory.proofs.Links.{tests}

-- record k of the words m begins with the words l
module _ (width : ℕ) (m : List ℕ) (k : ℕ) {l : List ℕ} (e : drop (width * k) m ≡ l) where
  pub word_at_lem : (j : ℕ) → get_or m (width * k + j) 0 ≡ get_or l j 0
  word_at_lem j = sym (get_or-drop (width * k) m j 0) ∙ ap (λ (s : List ℕ). get_or s j 0) e

  pub record_after : drop (width * suc k) m ≡ drop width l
  record_after = rw (mul-suc, ← drop-drop width (width * k) m, e)

-- it is an item that links on, in front of other words
pub record Stated {A : Type 0} (width : ℕ) (next : ℕ → ℕ) (item : ℕ → A) (m : List ℕ) (k : ℕ) (x : A) (link : ℕ) (l : List ℕ) : Type 0 where
  pub is : item k ≡ x
  pub links : next k ≡ link
  pub rest : drop (width * suc k) m ≡ l

pub link_onward : {A : Type 0} (last k : ℕ) (l : List A) → k + length l ≤ last → Onward last k (link_to (suc k) l)
link_onward last k [] h = inl refl
link_onward last k (x ∷ l) h = inr (omega arith, omega arith)

module _ {A : Type 0} (width : ℕ) (words : A → ℕ → List ℕ) where
  pub chained_length : ((x : A) (next : ℕ) → length (words x next) ≡ width) → (k : ℕ) (l : List A) → length (chained_words words k l) ≡ width * length l
  chained_length wide k [] = omega arith
  chained_length wide k (x ∷ l) =
      rw (length-append (words x (link_to (suc k) l)) (chained_words words (suc k) l), wide x (link_to (suc k) l), chained_length wide (suc k) l, mul-suc) (omega arith)

  module _ (m : List ℕ) (next : ℕ → ℕ) (item : ℕ → A)
      (stated : (k : ℕ) (x : A) (link : ℕ) (l : List ℕ) → drop (width * k) m ≡ words x link ++ l → Stated width next item m k x link l) where
    -- for every fuel that is enough
    pub chained_read : (f k : ℕ) (l : List A) → drop (width * suc k) m ≡ chained_words words (suc k) l → length l ≤ f →
        list_along next item f (link_to (suc k) l) ≡ l
    chained_read zero k [] e h = refl
    chained_read (suc f) k [] e h = refl
    chained_read zero k (x ∷ l) e h = absurd (omega arith)
    chained_read (suc f) k (x ∷ l) e h =
        let s = stated (suc k) x (link_to (suc (suc k)) l) (chained_words words (suc (suc k)) l) e in
        rw (eqb-suc-zero k, s.is, s.links, chained_read f (suc k) l s.rest (omega arith))

    pub chained_sound : (last r : ℕ) (fit : ℕ → Bool) (P : A → Type 0) →
        ((k : ℕ) (x : A) (link : ℕ) (l : List ℕ) → drop (width * k) m ≡ words x link ++ l → P x → fit k ≡ true) →
        (f k : ℕ) (l : List A) → drop (width * suc k) m ≡ chained_words words (suc k) l → k + length l ≤ last → All P l →
        refusal_along r next (λ i. fit i && is_onward last i (next i)) f (link_to (suc k) l) ≡ 0
    chained_sound last r fit P fits zero k l e room h = refl
    chained_sound last r fit P fits (suc f) k [] e room h = refl
    chained_sound last r fit P fits (suc f) k (x ∷ l) e room (cons h t) =
        let link = link_to (suc (suc k)) l in
        let later = chained_words words (suc (suc k)) l in
        let s = stated (suc k) x link later e in
        let on : is_onward last (suc k) link ≡ true = simp tests (link_onward last (suc k) l (omega arith)) in
        rw (eqb-suc-zero k, fits (suc k) x link later e h, s.links, on, chained_sound last r fit P fits f (suc k) l s.rest (omega arith) t)
