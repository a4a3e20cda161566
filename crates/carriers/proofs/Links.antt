-- Laws of one individual that goes to the front of its parent's list: what each of the three tables then holds.
use Prim.Native.Nat.{◌*◌, ◌+◌, ◌≤◌, ℕ}
use mathlib.Core.List.{List}
use mathlib.Core.Path.{◌∙◌, ◌≡◌}
use lib.Dec.{eqb}
use lib.ListN.{get_or, length, length-set, set}
use lib.Seq.{get_or-set_other, get_or-set_same}
use native.Mathlib.Omega.{arith}
use Rattle.theory.proofs.Links.{split}
use Rattle.carriers.specs.Carriers.{HasCarrier, beside_of, linked, lower_slot, slot_of, under_of}
use Rattle.meaning.specs.Limits.{most_records}

-- ---- the lower of two slots

pub lower_few : (a b m : ℕ) → a ≤ m → b ≤ m → lower_slot a b ≤ m
unfolding lower_slot
lower_few a b m f g = split (λ s. s ≤ m) (eqb a 0) (λ _. g) (λ _. omega arith)

-- ---- one individual linked

pub link_made : (c : List ℕ) (p y : ℕ) {next a b slot i j k : ℕ} → next ≡ under_of c p → a ≡ slot_of c p → b ≡ slot_of c y →
    slot ≡ lower_slot a b → i ≡ y → j ≡ p → k ≡ p →
    set (set (set c (2 * (most_records + 1) + i) next) (most_records + 1 + j) y) k slot ≡ linked p y c
unfolding linked
link_made c p y e f g h l m n = rw (l, m, n, h, e, f, g)

module _ (c : List ℕ) (p y : ℕ) (hp : HasCarrier p c) (hy : HasCarrier y c) where
  abbrev first_set : List ℕ
  first_set = set c (2 * (most_records + 1) + y) (under_of c p)

  abbrev second_set : List ℕ
  second_set = set first_set (most_records + 1 + p) y

  abbrev slot : ℕ
  slot = lower_slot (slot_of c p) (slot_of c y)

  pub linked_size : length (linked p y c) ≡ length c
  unfolding linked
  linked_size = simp length-set

  pub linked_slot : slot_of (linked p y c) p ≡ lower_slot (slot_of c p) (slot_of c y)
  unfolding linked
  linked_slot = get_or-set_same second_set p slot 0 (simp length-set (omega arith))

  pub linked_under : under_of (linked p y c) p ≡ y
  unfolding linked
  linked_under =
      get_or-set_other second_set p (most_records + 1 + p) slot 0 (λ e. omega arith)
      ∙ get_or-set_same first_set (most_records + 1 + p) y 0 (simp length-set (omega arith))

  pub linked_beside : beside_of (linked p y c) y ≡ under_of c p
  unfolding linked
  linked_beside =
      get_or-set_other second_set p (2 * (most_records + 1) + y) slot 0 (λ e. omega arith)
      ∙ get_or-set_other first_set (most_records + 1 + p) (2 * (most_records + 1) + y) y 0 (λ e. omega arith)
      ∙ get_or-set_same c (2 * (most_records + 1) + y) (under_of c p) 0 (omega arith)

  linked_kept : (i : ℕ) → (i ≡ p → ⊥) → (i ≡ most_records + 1 + p → ⊥) → (i ≡ 2 * (most_records + 1) + y → ⊥) →
      get_or (linked p y c) i 0 ≡ get_or c i 0
  unfolding linked
  linked_kept i d e f =
      get_or-set_other second_set p i slot 0 d
      ∙ get_or-set_other first_set (most_records + 1 + p) i y 0 e
      ∙ get_or-set_other c (2 * (most_records + 1) + y) i (under_of c p) 0 f

  module _ (x : ℕ) (few : x ≤ most_records) where
    pub slot_kept : (x ≡ p → ⊥) → slot_of (linked p y c) x ≡ slot_of c x
    slot_kept d = linked_kept x d (λ e. omega arith) (λ e. omega arith)

    pub under_kept : (x ≡ p → ⊥) → under_of (linked p y c) x ≡ under_of c x
    under_kept d = linked_kept (most_records + 1 + x) (λ e. omega arith) (λ e. d (omega arith)) (λ e. omega arith)

    pub beside_kept : (x ≡ y → ⊥) → beside_of (linked p y c) x ≡ beside_of c x
    beside_kept d = linked_kept (2 * (most_records + 1) + x) (λ e. omega arith) (λ e. omega arith) (λ e. d (omega arith))
