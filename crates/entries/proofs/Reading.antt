-- An entry read from the tables: a role's below the number of constraint entries, a constraint's from there on. Assumes nothing.
use Prim.Native.Nat.{◌-◌, ◌<◌, ◌≤◌, ℕ}
use mathlib.Core.List.{List}
use mathlib.Core.Path.{◌∙◌, ◌≡◌, ap}
use lib.ListN.{get_or, replicate}
use native.Mathlib.Omega.{arith}
use borrow.Author.Tests.{lt-ltb, le-ltb}
use Rattle.entries.specs.Entries.{HasItem, classes_at, constraint_fields, depth_at, fields_at, owner_at, role_fields}
use Rattle.layout.specs.Tables.{HasEntry, constraint_at, holder_at, parent_at, role_at, set_at}
use Rattle.meaning.specs.Limits.{most_records}
use Rattle.words.specs.Rows.{class_words}

module _ (w : List ℕ) (e n : ℕ) where
  module _ (h : e < most_records) (i : n ≡ e) where
    pub role_entry : HasItem e w → HasEntry n w
    role_entry g = (omega arith, g.long)

    pub role_owner : {r : ℕ} → r ≡ parent_at w n → r ≡ owner_at w e
    unfolding owner_at
    role_owner p = rw (lt-ltb e most_records h) (p ∙ ap (parent_at w) i)

    pub role_classes : {s : List ℕ} → s ≡ set_at w n → s ≡ classes_at w e
    unfolding classes_at
    role_classes p = rw (lt-ltb e most_records h) (p ∙ ap (set_at w) i)

    pub role_fields_lem : (ds : List ℕ) {r d : ℕ} → r ≡ role_at w n → d ≡ depth_at w ds e → role_fields r d ≡ fields_at w ds e
    unfolding fields_at
    role_fields_lem ds p q = rw (lt-ltb e most_records h, p, i, q)

  module _ (h : most_records ≤ e) (i : n ≡ e - most_records) where
    pub constraint_entry : HasItem e w → HasEntry n w
    constraint_entry g = (omega (arith, g.known), g.long)

    pub constraint_owner : {r : ℕ} → r ≡ holder_at w n → r ≡ owner_at w e
    unfolding owner_at
    constraint_owner p = rw (le-ltb e most_records h) (p ∙ ap (holder_at w) i)

    pub constraint_fields_lem : (ds : List ℕ) {f lo hi d : ℕ} → f ≡ (constraint_at w n).feature → lo ≡ (constraint_at w n).lo → hi ≡ (constraint_at w n).hi → d ≡ depth_at w ds e →
        constraint_fields f lo hi d ≡ fields_at w ds e
    unfolding fields_at
    constraint_fields_lem ds p q s t = rw (le-ltb e most_records h, p, q, s, i, t)

pub constraint_classes : (w : List ℕ) (e : ℕ) {s : List ℕ} → most_records ≤ e → s ≡ replicate class_words 0 → s ≡ classes_at w e
unfolding classes_at
constraint_classes w e h p = rw (le-ltb e most_records h) p

pub depth_read : (w ds : List ℕ) (e : ℕ) {r x n : ℕ} → x ≡ owner_at w e → n ≡ x → r ≡ get_or ds n 0 → r ≡ depth_at w ds e
unfolding depth_at
depth_read w ds e p q s = s ∙ ap (λ (i : ℕ). get_or ds i 0) (q ∙ p)
