-- A line put piece by piece. Assumes nothing.
use Prim.Native.Nat.{◌*◌, ◌+◌, ◌<◌, ◌≤◌, ℕ}
use lib.ListN.{drop, drop_of_length-le, get_or, length}
use mathlib.Core.List.{List, [], ◌++◌, ◌∷◌}
use mathlib.Core.Path.{◌∙◌, ◌≡◌, ap, refl, sym}
use native.Mathlib.Omega.{arith}
use Rattle.std.proofs.lemmas.List.{drop_more}
use Rattle.frames.proofs.Puts.{put_as, put_then}
use Rattle.frames.specs.Rows.{Put}
use Rattle.meaning.specs.Program.{decimal, line}

-- the name and the first i numbers are put
pub record Lined (t₀ : List ℕ) (at : ℕ) (name ns : List ℕ) (i : ℕ) (t : List ℕ) (next : ℕ) : Type 0 where
  pub done : List ℕ
  pub put : Put t₀ at done t next
  pub left : line done (drop i ns) ≡ line name ns
  pub ends : next ≤ at + (length name + 11 * i)

pub lined_starts : (ns : List ℕ) {t₀ t name : List ℕ} {at next : ℕ} → Put t₀ at name t next → Lined t₀ at name ns 0 t next
lined_starts ns {name = name} p = record { done = name; put = p; left = refl; ends = (let e = p.place in omega arith) }

module _ {t₀ t name ns : List ℕ} {at i next : ℕ} (x : Lined t₀ at name ns i t next) where
  pub lined_more : {t' : List ℕ} {r : ℕ} → i < length ns → Put t next (32 ∷ decimal (get_or ns i 0)) t' r → r ≤ next + 11 → Lined t₀ at name ns (i + 1) t' r
  lined_more h p k = record {
    done = x.done ++ (32 ∷ decimal (get_or ns i 0));
    put = put_then x.put p;
    left = sym (ap (line x.done) (drop_more ns i 0 h)) ∙ x.left;
    ends = (let e = x.ends in omega arith);
  }

  pub lined_all : {t' : List ℕ} {r : ℕ} → length ns ≤ i → Put t next (10 ∷ []) t' r → Put t₀ at (line name ns) t' r
  lined_all h p = put_as (sym (ap (line x.done) (drop_of_length-le ns h)) ∙ x.left) (put_then x.put p)
