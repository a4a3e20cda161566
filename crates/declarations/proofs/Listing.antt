-- The second pass: declared names go into the table as they are read. Those in the table and those left are all.
use Prim.Native.Nat.{◌*◌, ◌+◌, ◌<◌, ◌≤◌, suc, zero, ℕ}
use mathlib.Core.List.{List, [], ◌++◌, ◌∷◌, append-nil}
use mathlib.Core.Path.{◌∙◌, ◌≡◌, ap, refl, sym}
use lib.ListN.{length, length-append}
use lib.Seq.{append_snoc}
use native.Mathlib.Numerals.{add-one}
use native.Mathlib.Omega.{arith}
use Rattle.std.proofs.Common.{Some}
use Rattle.declarations.proofs.Passing.{parses_end, parses_more, parses_on}
use Rattle.declarations.specs.Names.{declared}
use Rattle.declarations.specs.Passes.{Fits, HasRoom, Parses, Sorted, Tabled, base_of, listed_one, no_names, one_more, statements_at, table_size}
use Rattle.declarations.specs.declared.Counts.{Counts}
use Rattle.meaning.specs.Limits.{most_classes, most_features, most_roles}
use Rattle.name_table.proofs.Laws.{listed_kept, listed_more, names_kept, names_more}
use Rattle.name_table.specs.Table.{Listed, entered, names_from}
use Rattle.statements.specs.Forms.{Sort, Statement, class, feature, role}
use Rattle.statements.specs.Found.{Next, NextSays, SaidWithin, statement_of}
use Rattle.statements.specs.declared.Axiom.TheVariants.{Below, Disjoint, FunctionalFeature, FunctionalRole, Range}
use Rattle.statements.specs.declared.NameOf.TheVariants.{Class, Feature, Role}
use Rattle.statements.specs.declared.Found.{Found}
use Rattle.statements.specs.declared.Item.TheVariants.{End}
use Rattle.statements.specs.declared.Said.{Said}
use Rattle.statements.specs.declared.Said.TheVariants.{Declares, States}
use Rattle.tokens.specs.declared.Token.{Token as Place}
use Rattle.tokens.specs.Places.{Within, bytes_of}
use Rattle.tokens.specs.Tokens.{Token}

-- ---- one sort

-- n names of a sort stand in the table, and the names left are behind them
pub record Partly (text table : List ℕ) (s : Sort) (n : ℕ) (left all : List Token) : Type 0 where
  pub listed : Listed text table (base_of s) n
  pub names : names_from text table (base_of s) n ++ left ≡ all

names_length : (text table : List ℕ) (j n : ℕ) → length (names_from text table j n) ≡ n
names_length text table j zero = refl
names_length text table j (suc n) = rw (names_length text table (suc j) n)

module _ {text table : List ℕ} {s : Sort} {n : ℕ} {left all : List Token} (p : Partly text table s n left all) where
  partly_count : n + length left ≡ length all
  partly_count =
      let l = length-append (names_from text table (base_of s) n) left in
      omega (arith, l, names_length text table (base_of s) n, ap length p.names)

  -- another sort's entry is made
  partly_kept : (j from to : ℕ) → ((i : ℕ) → base_of s ≤ i → i < base_of s + n → i ≡ j → ⊥) → Partly text (entered text table j from to) s n left all
  partly_kept j from to h =
      record {
        listed = listed_kept text table j from to h p.listed;
        names = ap (λ (l : List Token). l ++ left) (names_kept text table j from to n (base_of s) h) ∙ p.names;
      }

  partly_all : left ≡ [] → Sorted text table s all
  partly_all e =
      let m : n ≡ length all = omega (arith, ap length e, partly_count) in
      record {
        listed = rw (← m) p.listed;
        same = rw (← m) (sym (append-nil (names_from text table (base_of s) n)) ∙ ap (λ (l : List Token). names_from text table (base_of s) n ++ l) (sym e) ∙ p.names);
      }

-- an entry of its own
partly_more : {text table : List ℕ} {s : Sort} {n : ℕ} (j : ℕ) (t : Place) {left all : List Token} → j ≡ base_of s + n →
    Partly text table s n (bytes_of text t ∷ left) all → 3 * (base_of s + n) + 2 < length table → Within text t →
    Partly text (entered text table j t.from t.to) s (n + 1) left all
partly_more {text} {table} {s} {n} j t {left} e p fits h =
    let a : t.from ≤ t.to = omega (arith, h.rises) in
    rw (e, add-one n) (record {
      listed = listed_more text table (base_of s) n t.from t.to p.listed fits a h.ends;
      names =
          ap (λ (l : List Token). l ++ left) (names_more text table (base_of s) n t.from t.to p.listed fits)
          ∙ append_snoc (names_from text table (base_of s) n) (bytes_of text t) left ∙ p.names;
    })

-- ---- the three sorts

pub record Parts (text table : List ℕ) (c : Counts) (left all : List Statement) : Type 0 where
  pub classes : Partly text table class c.classes (declared class left) (declared class all)
  pub roles : Partly text table role c.roles (declared role left) (declared role all)
  pub features : Partly text table feature c.features (declared feature left) (declared feature all)

-- all the names have room in the table
record Room (all : List Statement) : Type 0 where
  pub classes : length (declared class all) ≤ most_classes
  pub roles : length (declared role all) ≤ most_roles
  pub features : length (declared feature all) ≤ most_features

module _ (text table : List ℕ) (size : length table ≡ table_size) (c : Counts) (left all : List Statement) (room : Room all) where
  parts_more : (says : Said) → SaidWithin text says → Parts text table c (statement_of text says ∷ left) all →
      Parts text (listed_one text table c says) (one_more c says) left all
  parts_more (Declares (Class t)) h p =
      let n = partly_count p.classes in
      record {
        classes = partly_more c.classes t (omega arith) p.classes (omega (arith, size, room.classes)) h;
        roles = partly_kept p.roles c.classes t.from t.to (λ i x y e. omega (arith, room.classes));
        features = partly_kept p.features c.classes t.from t.to (λ i x y e. omega (arith, room.classes));
      }
  parts_more (Declares (Role t)) h p =
      let n = partly_count p.roles in
      let m = partly_count p.classes in
      record {
        classes = partly_kept p.classes (most_classes + c.roles) t.from t.to (λ i x y e. omega (arith, room.classes));
        roles = partly_more (most_classes + c.roles) t refl p.roles (omega (arith, size, room.roles)) h;
        features = partly_kept p.features (most_classes + c.roles) t.from t.to (λ i x y e. omega (arith, room.roles));
      }
  parts_more (Declares (Feature t)) h p =
      let n = partly_count p.features in
      let m = partly_count p.roles in
      let l = partly_count p.classes in
      record {
        classes = partly_kept p.classes (most_classes + most_roles + c.features) t.from t.to (λ i x y e. omega (arith, room.classes));
        roles = partly_kept p.roles (most_classes + most_roles + c.features) t.from t.to (λ i x y e. omega (arith, room.roles));
        features = partly_more (most_classes + most_roles + c.features) t refl p.features (omega (arith, size, room.features)) h;
      }
  parts_more (States (Below t u)) h p = record { classes = p.classes; roles = p.roles; features = p.features }
  parts_more (States (Disjoint t u)) h p = record { classes = p.classes; roles = p.roles; features = p.features }
  parts_more (States (FunctionalRole t)) h p = record { classes = p.classes; roles = p.roles; features = p.features }
  parts_more (States (FunctionalFeature t)) h p = record { classes = p.classes; roles = p.roles; features = p.features }
  parts_more (States (Range t u)) h p = record { classes = p.classes; roles = p.roles; features = p.features }

-- a name that is declared has a place in the table
module _ (text table : List ℕ) (c : Counts) (left all : List Statement) (room : Room all) where
  places : (says : Said) → Parts text table c (statement_of text says ∷ left) all → HasRoom c says
  places (Declares (Class t)) p = let n = partly_count p.classes in omega (arith, room.classes)
  places (Declares (Role t)) p = let n = partly_count p.roles in omega (arith, room.roles)
  places (Declares (Feature t)) p = let n = partly_count p.features in omega (arith, room.features)
  places (States a) p = tt

axioms_more : (c : Counts) (says : Said) → (one_more c says).axioms ≤ c.axioms + 1
axioms_more c (Declares (Class t)) = omega arith
axioms_more c (Declares (Role t)) = omega arith
axioms_more c (Declares (Feature t)) = omega arith
axioms_more c (States a) = omega arith

-- ---- the loop

pub record Listing (text table : List ℕ) (start at : ℕ) (c : Counts) : Type 0 where
  pub parses : Parses text at
  pub parts : Parts text table c (statements_at text at) (statements_at text start)
  pub few : c.axioms ≤ at

module _ {text entry : List ℕ} {start : ℕ} (f : Fits text entry start) where
  room : Room (statements_at text start)
  room = record { classes = f.classes; roles = f.roles; features = f.features }

  pub list_starts : Listing text entry start start no_names
  list_starts =
      let size = f.size in
      record {
        parses = f.parses;
        parts = record {
          classes = record { listed = record { room = omega arith; each = λ i a b. absurd (omega arith) }; names = refl };
          roles = record { listed = record { room = omega arith; each = λ i a b. absurd (omega arith) }; names = refl };
          features = record { listed = record { room = omega arith; each = λ i a b. absurd (omega arith) }; names = refl };
        };
        few = omega arith;
      }

  module _ {table : List ℕ} {at : ℕ} {c : Counts} (w : Listing text table start at c) where
    pub list_ends : Next text at (Some End) → Tabled text table (statements_at text start)
    list_ends n =
        let e = parses_end w.parses n in
        record {
          classes = partly_all w.parts.classes (ap (declared class) e);
          roles = partly_all w.parts.roles (ap (declared role) e);
          features = partly_all w.parts.features (ap (declared feature) e);
        }

    module _ {r : Found} (n : NextSays text at r) where
      left : Parts text table c (statement_of text r.says ∷ statements_at text r.next) (statements_at text start)
      left = rw (parses_more w.parses n) at w.parts

      -- a name that is declared has a place in the table
      pub list_room : HasRoom c r.says
      list_room = places text table c (statements_at text r.next) (statements_at text start) room r.says left

      pub list_on : length table ≡ table_size → Listing text (listed_one text table c r.says) start r.next (one_more c r.says)
      list_on size =
          record {
            parses = parses_on w.parses n;
            parts = parts_more text table size c (statements_at text r.next) (statements_at text start) room r.says n.placed.within left;
            few = omega (arith, axioms_more c r.says, w.few, n.placed.rises);
          }
