-- The links to the entries that follow. Assumes nothing.
use Prim.Native.Nat.{◌*◌, ◌+◌, ◌<◌, ◌≤◌, ℕ}
use mathlib.Core.Bool.{cond}
use mathlib.Core.List.{List, [], ◌∷◌}
use mathlib.Core.Path.{◌∙◌, ◌≡◌, ap, refl, sym}
use lib.Dec.{eqb, ltb}
use lib.ListN.{get_or, length}
use native.Mathlib.Omega.{arith}
use borrow.Author.Tests.{eq-eqb, le-ltb, lt-ltb, ne_eqb}
use Rattle.entries.specs.Entries.{depth_at, item_at, items_of}
use Rattle.meaning.specs.Limits.{most_classes, most_records}
use Rattle.writing.proofs.Counting.{depth_here, from_first, from_none, from_start, items_from}
use Rattle.writing.specs.Written.{CountsEntry, link_below, link_beside, record_count}

pub zero_else : (n x none : ℕ) → n ≡ 0 → none ≡ cond (eqb n 0) none x
zero_else n x none e = rw (eq-eqb n 0 e)

pub zero_not : (n x none : ℕ) → (n ≡ 0 → ⊥) → x ≡ cond (eqb n 0) none x
zero_not n x none e = rw (ne_eqb n 0 e)

-- ---- below

module _ (w ds : List ℕ) (d k : ℕ) where
  pub below_none : (o : List ℕ) → length o ≡ 0 → 0 ≡ link_below k d (items_of w ds o)
  below_none [] h = refl
  below_none (e ∷ o) h = absurd (omega arith)

  module _ (o : List ℕ) {e x : ℕ} (h : 0 < length o) (p : e ≡ get_or o 0 0) (q : x ≡ depth_at w ds e) where
    below_told : link_below k d (items_of w ds o) ≡ cond (ltb d x) k 0
    below_told = ap (link_below k d) (sym (from_start w ds o) ∙ from_first w ds o 0 p h) ∙ ap (λ (n : ℕ). cond (ltb d n) k 0) (depth_here w ds e ∙ sym q)

    pub below_some : d < x → k ≡ link_below k d (items_of w ds o)
    below_some g = sym (below_told ∙ rw (lt-ltb d x g))

    pub below_else : x ≤ d → 0 ≡ link_below k d (items_of w ds o)
    below_else g = sym (below_told ∙ rw (le-ltb d x g))

-- ---- beside: entries deeper than d stand before place at, whose records are numbered from k on

pub record Skipping (w ds o : List ℕ) (d first at k : ℕ) : Type 0 where
  pub few : k ≤ most_records + 1 + (most_classes + 1) * at
  pub says : link_beside k d (items_from w ds o at) ≡ link_beside first d (items_of w ds o)

pub skipping_starts : (w ds o : List ℕ) (d first : ℕ) → first ≤ most_records + 1 → Skipping w ds o d first 0 first
skipping_starts w ds o d first h = record { few = omega arith; says = ap (link_beside first d) (from_start w ds o) }

module _ {w ds o : List ℕ} {d first at k : ℕ} (s : Skipping w ds o d first at k) where
  module _ {e x : ℕ} (h : at < length o) (p : e ≡ get_or o at 0) (q : x ≡ depth_at w ds e) where
    abbrev further : ℕ
    further = link_beside (k + record_count (item_at w ds e)) d (items_from w ds o (at + 1))

    beside_told : link_beside first d (items_of w ds o) ≡ cond (ltb d x) further (cond (eqb x d) k 0)
    beside_told =
        sym s.says
        ∙ ap (link_beside k d) (from_first w ds o at p h)
        ∙ ap (λ (n : ℕ). cond (ltb d n) further (cond (eqb n d) k 0)) (depth_here w ds e ∙ sym q)

    pub beside_here : x ≤ d → x ≡ d → k ≡ link_beside first d (items_of w ds o)
    beside_here g f = sym (beside_told ∙ rw (le-ltb d x g, eq-eqb x d f))

    pub beside_above : x ≤ d → (x ≡ d → ⊥) → 0 ≡ link_beside first d (items_of w ds o)
    beside_above g f = sym (beside_told ∙ rw (le-ltb d x g, ne_eqb x d f))

    pub skipping_more : {m : ℕ} → d < x → CountsEntry w e m → Skipping w ds o d first (at + 1) (k + m)
    skipping_more {m} g c = record {
      few = omega (arith, s.few, c.few);
      says = ap (λ (n : ℕ). link_beside (k + n) d (items_from w ds o (at + 1))) (c.says ds) ∙ sym (beside_told ∙ rw (lt-ltb d x g));
    }

  pub skipping_ends : length o ≤ at → 0 ≡ link_beside first d (items_of w ds o)
  skipping_ends h = ap (link_beside k d) (sym (from_none w ds o at h)) ∙ s.says
