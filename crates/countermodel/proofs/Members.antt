-- The classes of an individual, each from the one before.
use Prim.Native.Nat.{◌+◌, ℕ}
use mathlib.Core.List.{List, [], ◌∷◌, map}
use mathlib.Core.Path.{◌≡◌, ap}
use Rattle.countermodel.specs.Facts.{member_facts}
use Rattle.layout.specs.Tables.{set_at}
use Rattle.meaning.specs.Model.{Fact, member}
use Rattle.words.proofs.Listing.{from_end, from_more, from_start}
use Rattle.words.specs.Members.{members_from, next_member}

module _ (w : List ℕ) (i : ℕ) where
  -- what is left at class c
  unfoldable pub members_left : ℕ → List Fact
  members_left c = map (λ a. member a (i + 1)) (members_from (set_at w i) c)

  module _ {ws : List ℕ} {p : ℕ} (d : p ≡ i) (e : ws ≡ set_at w p) (c r : ℕ) where
    pub members_start : c ≡ 0 → r ≡ next_member ws c → members_left r ≡ member_facts w i
    unfolding member_facts members_left
    members_start z n = rw (n, z, e, d) (ap (map (λ a. member a (i + 1))) (from_start (set_at w i)))

    pub members_more : (c ≡ 0 → ⊥) → r ≡ next_member ws c → members_left c ≡ member c (i + 1) ∷ members_left r
    unfolding members_left
    members_more z n = rw (n, e, d) (ap (map (λ a. member a (i + 1))) (from_more (set_at w i) c z))

  pub members_end : (c : ℕ) → c ≡ 0 → members_left c ≡ []
  unfolding members_left
  members_end c z = ap (map (λ a. member a (i + 1))) (from_end (set_at w i) c z)
