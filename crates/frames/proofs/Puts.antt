-- What is put into a slice piece by piece is what is put at once. Assumes nothing.
use Prim.Native.Nat.{◌+◌, ◌<◌, ◌≤◌, ℕ}
use lib.ListN.{drop, length, length-append, length-drop, length-set, length-take, set, take}
use lib.Seq.{set_split, take_at}
use mathlib.Core.List.{List, [], ◌++◌, ◌∷◌}
use mathlib.Core.Path.{◌∙◌, ◌≡◌, ap, refl, subst, sym}
use native.Mathlib.Nat.{add-zero}
use native.Mathlib.Numerals.{add-one}
use native.Mathlib.Omega.{arith}
use Rattle.frames.proofs.Rows.{put_append, put_nil}
use Rattle.frames.specs.Rows.{Put, put_at}

pub put_nothing : (w : List ℕ) (at : ℕ) → Put w at [] w at
put_nothing w at = record { text = sym (put_nil w at); place = omega arith; size = refl }

-- a piece that leaves the slice as long as it was stands within it
within : (w : List ℕ) (at x : ℕ) (xs : List ℕ) → length (put_at w at (x ∷ xs)) ≡ length w → at + length (x ∷ xs) ≤ length w
within w at x xs e = omega (arith, simp (length-append, length-take, length-drop) at e)

-- so the next piece asks for nothing more
joined : (w : List ℕ) (at : ℕ) (xs ys : List ℕ) → length (put_at w at xs) ≡ length w → put_at (put_at w at xs) (at + length xs) ys ≡ put_at w at (xs ++ ys)
joined w at [] ys e = rw (put_nil w at, add-zero)
joined w at (x ∷ xs) ys e = put_append w at (x ∷ xs) (within w at x xs e) ys

pub put_then : {w u v : List ℕ} {at m r : ℕ} {xs ys : List ℕ} → Put w at xs u m → Put u m ys v r → Put w at (xs ++ ys) v r
put_then {w} {u} {v} {at} {m} {r} {xs} {ys} p q = record {
  text = q.text ∙ ap (λ (l : List ℕ). put_at l m ys) p.text ∙ ap (λ (k : ℕ). put_at (put_at w at xs) k ys) p.place ∙ joined w at xs ys (ap length (sym p.text) ∙ p.size);
  place = omega (arith, length-append xs ys);
  size = q.size ∙ p.size;
}

-- what is put, by another name
pub put_as : {w u : List ℕ} {at r : ℕ} {xs ys : List ℕ} → xs ≡ ys → Put w at xs u r → Put w at ys u r
put_as {w} {u} {at} {r} e p = subst (λ (l : List ℕ). Put w at l u r) e p

-- one stored
pub put_one : (w : List ℕ) (at x : ℕ) → at < length w → Put w at (x ∷ []) (set w at x) (at + 1)
put_one w at x h = record { text = rw add-one (set_split w at x h); place = refl; size = length-set w at x }

-- a slice that begins with what was put there
pub put_taken : {w u : List ℕ} {r : ℕ} {ys : List ℕ} → Put w 0 ys u r → take r u ≡ ys
put_taken {w} {u} {r} {ys} p = ap (take r) p.text ∙ take_at ys (drop (0 + length ys) w) r (omega arith)

pub put_within : {w u : List ℕ} {r : ℕ} {ys : List ℕ} → Put w 0 ys u r → r ≤ length u
put_within {w} {u} {r} {ys} p = omega (arith, ap length p.text, length-append ys (drop (0 + length ys) w))

-- ---- a walk that puts the words vs from a place on: where it has come to, the words us are left

pub record Rest (w₀ : List ℕ) (at₀ : ℕ) (vs w : List ℕ) (at : ℕ) (us : List ℕ) : Type 0 where
  pub same : put_at w at us ≡ put_at w₀ at₀ vs
  pub ends : at + length us ≡ at₀ + length vs
  pub size : length w ≡ length w₀

pub rest_start : (w : List ℕ) (at : ℕ) (vs : List ℕ) → Rest w at vs w at vs
rest_start w at vs = record { same = refl; ends = refl; size = refl }

module _ {w₀ : List ℕ} {at₀ : ℕ} {vs w : List ℕ} {at : ℕ} {us : List ℕ} (g : Rest w₀ at₀ vs w at us) where
  pub rest_more : (xs ys : List ℕ) {w' : List ℕ} {r : ℕ} → us ≡ xs ++ ys → Put w at xs w' r → Rest w₀ at₀ vs w' r ys
  rest_more xs ys {w'} {r} e p = record {
    same =
        ap (λ (l : List ℕ). put_at l r ys) p.text
        ∙ ap (λ (k : ℕ). put_at (put_at w at xs) k ys) p.place
        ∙ joined w at xs ys (ap length (sym p.text) ∙ p.size)
        ∙ ap (put_at w at) (sym e)
        ∙ g.same;
    ends = omega (arith, p.place, g.ends, ap length e, length-append xs ys);
    size = p.size ∙ g.size;
  }

  pub rest_end : us ≡ [] → Put w₀ at₀ vs w at
  rest_end e = record {
    text = sym (put_nil w at) ∙ ap (put_at w at) (sym e) ∙ g.same;
    place = omega (arith, g.ends, ap length e);
    size = g.size;
  }
