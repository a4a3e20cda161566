-- A name looked up in the table is looked up among those that the text declares.
use Prim.Native.Nat.{◌≤◌, suc, zero, ℕ}
use mathlib.Core.Bool.{Bool, cond, false, true}
use mathlib.Core.List.{List}
use mathlib.Core.Path.{◌≡◌, ap, refl}
use lib.Dec.{eqb}
use lib.ListN.{length}
use native.Mathlib.Omega.{arith}
use borrow.Author.Tests.{eqb-false, eqb-true}
use Rattle.std.proofs.Common.{None, Some}
use Rattle.declarations.specs.Names.{declared}
use Rattle.declarations.specs.Passes.{Sorted, base_of}
use Rattle.declarations.specs.declared.Counts.{Counts}
use Rattle.meaning.specs.Limits.{most_classes, most_features, most_roles}
use Rattle.name_table.proofs.Numbers.{number_of_range}
use Rattle.name_table.specs.Numbers.{number_found, number_of}
use Rattle.name_table.specs.Table.{Listed, names_from}
use Rattle.owl.specs.Passes.{Ready, statements_of}
use Rattle.statements.specs.Forms.{Sort, class, feature, role}
use Rattle.theory.proofs.Links.{bounds}
use Rattle.tokens.specs.Tokens.{Token}

number_le : (l : List Token) (x : Token) → number_of l x ≤ length l
number_le l x = go (eqb (number_of l x) 0) refl
  where
    go : (b : Bool) → eqb (number_of l x) 0 ≡ b → number_of l x ≤ length l
    go true e = omega (arith, eqb-true (number_of l x) 0 e)
    go false e = (number_of_range l x (eqb-false (number_of l x) 0 e)).1

names_length : (text table : List ℕ) (j n : ℕ) → length (names_from text table j n) ≡ n
names_length text table j zero = refl
names_length text table j (suc n) = rw (names_length text table (suc j) n)

pub found_is : (n k : ℕ) → Some k ≡ number_found n → k ≡ n
found_is n k e = go (eqb n 0) e
  where
    go : (b : Bool) → Some k ≡ cond b None (Some n) → k ≡ n
    go true e = cc
    go false e = cc

-- a number that was found is one of n
pub found_small : (text table : List ℕ) (base n : ℕ) (x : Token) {k : ℕ} → Some k ≡ number_found (number_of (names_from text table base n) x) → k ≤ n
found_small text table base n x {k} e =
    omega (arith, found_is _ k e, number_le (names_from text table base n) x, names_length text table base n)

-- n names of a sort stand in the table
module _ {text table : List ℕ} {s : Sort} {names : List Token} (w : Sorted text table s names) {n : ℕ} (e : n ≡ length names) where
  pub sorted_listed : Listed text table (base_of s) n
  sorted_listed = rw e w.listed

  pub sorted_names : names_from text table (base_of s) n ≡ names
  sorted_names = rw e w.same

module _ {text table : List ℕ} {c : Counts} (w : Ready text table c) where
  pub class_size : c.classes ≡ length (declared class (statements_of text))
  class_size = ap (λ (x : Counts). x.classes) w.counts

  pub role_size : c.roles ≡ length (declared role (statements_of text))
  role_size = ap (λ (x : Counts). x.roles) w.counts

  pub feature_size : c.features ≡ length (declared feature (statements_of text))
  feature_size = ap (λ (x : Counts). x.features) w.counts

  pub sizes_small : (c.classes ≤ most_classes) × (c.roles ≤ most_roles) × (c.features ≤ most_features)
  sizes_small = let u = simp bounds at w.small in (u.0.1, u.1.0, u.1.1)
