-- The passes that look names up: whether all are known, with who is functional, and the records.
use Prim.Native.Nat.{◌*◌, ◌+◌, ℕ}
use mathlib.Core.Bool.{Bool, ◌&&◌, cond, false, true}
use mathlib.Core.List.{List, [], ◌++◌, ◌∷◌}
use mathlib.Core.Path.{◌∙◌, ◌≡◌, ap, refl, sym}
use lib.Dec.{eqb}
use borrow.Author.Tests.{eqb-true}
use Rattle.std.proofs.Common.{None, Option, Some}
use Rattle.std.specs.Option.{unwrap_or}
use Rattle.name_table.specs.Numbers.{number_found}
use Rattle.declarations.proofs.Passing.{parses_end, parses_more, parses_on}
use Rattle.declarations.specs.Names.{is_known}
use Rattle.declarations.specs.Passes.{Parses, list_of, statements_at}
use Rattle.declarations.specs.declared.Counts.{Counts}
use Rattle.frames.specs.Rows.{put_at}
use Rattle.meaning.specs.Lists.{all, flat_map}
use Rattle.meaning.specs.Vocabulary.{Axiom, axiom_words, names_by}
use Rattle.owl.specs.Owl.{axioms_by, axioms_in}
use Rattle.owl.specs.Passes.{Begins, Looks, Noted, Ready, axioms, first_number, kind_of, second_number, statements_of}
use Rattle.owl.proofs.Noting.{included}
use Rattle.records.proofs.Writing.{Left, left_end, left_start, turn_more}
use Rattle.records.specs.Written.{RoomFor, Written, link_at}
use Rattle.statements.specs.Forms.{Statement, ontology, parsed}
use Rattle.statements.specs.Found.{Next, NextSays, declared_of, stated_of, statement_of}
use Rattle.statements.specs.declared.Axiom.{Axiom as Form}
use Rattle.statements.specs.declared.Axiom.TheVariants.{Below, Disjoint, FunctionalFeature, FunctionalRole, Range}
use Rattle.statements.specs.declared.Found.{Found}
use Rattle.statements.specs.declared.Item.TheVariants.{End}
use Rattle.statements.specs.declared.NameOf.{NameOf}
use Rattle.statements.specs.declared.NameOf.TheVariants.{Class, Feature, Role}
use Rattle.statements.specs.declared.Said.TheVariants.{Declares, States}
use Rattle.theory.proofs.VocabularyWords.{axiom_length}
use Rattle.tokens.specs.Tokens.{tokens}
use Rattle.words.specs.Sets.{including_all}

-- ---- the statements from the start on are all

module _ {text : List ℕ} {start : ℕ} (b : Begins text start) (e : ontology (tokens text) ≡ parsed (statements_of text)) where
  pub all_begin : statements_at text start ≡ statements_of text
  unfolding statements_at statements_of
  all_begin = ap list_of (sym b.same)

  pub begins_parses : Parses text start
  begins_parses = record { ends = b.ends; same = sym b.same ∙ e ∙ ap parsed (sym all_begin) }

abbrev axioms_from : List ℕ → ℕ → List Axiom
axioms_from text at = flat_map (axioms_by (statements_of text)) (statements_at text at)

all_from : {text table : List ℕ} {c : Counts} {start : ℕ} → Ready text table c → Begins text start → axioms_from text start ≡ axioms_in (statements_of text)
unfolding axioms_in
all_from {text} w b = ap (flat_map (axioms_by (statements_of text))) (all_begin b w.parses)

-- ---- whether all are known, and who is functional

-- with the names of a kind that are left, a set has all
pub record Gathering (text : List ℕ) (at kind : ℕ) (entry names : List ℕ) : Type 0 where
  pub same : including_all names (names_by kind (axioms_from text at)) ≡ including_all entry (names_by kind (axioms_in (statements_of text)))

pub record Knowing (text : List ℕ) (at : ℕ) (roles₀ roles features₀ features : List ℕ) : Type 0 where
  pub parses : Parses text at
  pub same : all (is_known (statements_of text)) (statements_at text at) ≡ all (is_known (statements_of text)) (statements_of text)
  pub threes : Gathering text at 3 roles₀ roles
  pub fours : Gathering text at 4 features₀ features

module _ {text table : List ℕ} {c : Counts} {start : ℕ} (w : Ready text table c) (b : Begins text start) where
  gathering_starts : (kind : ℕ) (names : List ℕ) → Gathering text start kind names names
  gathering_starts kind names = record { same = ap (λ (l : List Axiom). including_all names (names_by kind l)) (all_from w b) }

  pub knowing_starts : (roles features : List ℕ) → Knowing text start roles roles features features
  knowing_starts roles features =
      record {
        parses = begins_parses b w.parses;
        same = ap (all (is_known (statements_of text))) (all_begin b w.parses);
        threes = gathering_starts 3 roles;
        fours = gathering_starts 4 features;
      }

module _ {text : List ℕ} {at : ℕ} {roles₀ roles features₀ features : List ℕ} (w : Knowing text at roles₀ roles features₀ features) where
  module _ (n : Next text at (Some End)) where
    gathering_ends : {kind : ℕ} {entry names : List ℕ} → Gathering text at kind entry names → names ≡ including_all entry (names_by kind (axioms_in (statements_of text)))
    unfolding including_all names_by
    gathering_ends {kind} {names = names} g =
        sym (ap (λ (l : List Statement). including_all names (names_by kind (flat_map (axioms_by (statements_of text)) l))) (parses_end w.parses n)) ∙ g.same

    pub knowing_ends : (true ≡ all (is_known (statements_of text)) (statements_of text)) × (true ≡ true → Noted (axioms_in (statements_of text)) roles₀ roles features₀ features)
    knowing_ends =
        (ap (all (is_known (statements_of text))) (sym (parses_end w.parses n)) ∙ w.same, λ _. record { same_roles = gathering_ends w.threes; same_features = gathering_ends w.fours })

  module _ {r : Found} (n : NextSays text at r) {x : Bool} {roles' features' : List ℕ}
      (e : Looks (statements_of text) (statement_of text r.says) x roles roles' features features') where
    cut : x && all (is_known (statements_of text)) (statements_at text r.next) ≡ all (is_known (statements_of text)) (statements_of text)
    cut = rw e.value (ap (all (is_known (statements_of text))) (sym (parses_more w.parses n)) ∙ w.same)

    gathering_on : {kind : ℕ} {entry names names' : List ℕ} → Gathering text at kind entry names →
        names' ≡ including_all names (names_by kind (axioms_by (statements_of text) (statement_of text r.says))) → Gathering text r.next kind entry names'
    gathering_on {kind} {names = names} g q =
        record {
          same =
              included names kind (axioms_by (statements_of text) (statement_of text r.says)) (axioms_from text r.next) q
              ∙ sym (ap (λ (l : List Statement). including_all names (names_by kind (flat_map (axioms_by (statements_of text)) l))) (parses_more w.parses n))
              ∙ g.same;
        }

    pub knowing_on : x ≡ true → Knowing text r.next roles₀ roles' features₀ features'
    knowing_on h =
        let new = e.noted h in
        record {
          parses = parses_on w.parses n;
          same = rw h at cut;
          threes = gathering_on w.threes new.same_roles;
          fours = gathering_on w.fours new.same_features;
        }

-- ---- the records

-- the word of a number that may be none
pub word_of : (n : ℕ) → unwrap_or (number_found n) 0 ≡ n
word_of n = go (eqb n 0) refl
  where
    go : (b : Bool) → eqb n 0 ≡ b → unwrap_or (cond b None (Some n)) 0 ≡ n
    go true e = sym (eqb-true n 0 e)
    go false e = refl

module _ (text : List ℕ) where
  -- an axiom is one record, with the numbers of its names
  pub record Adds (a : Form) : Type 0 where
    pub one : Axiom
    pub added : axioms_by (statements_of text) (stated_of text a) ≡ one ∷ []
    pub words : (next : ℕ) → axiom_words one next ≡ kind_of a ∷ (first_number text a ∷ (second_number text a ∷ (next ∷ [])))

  adds : (a : Form) → Adds a
  adds (Below t u) = record { one = _; added = refl; words = λ next. refl }
  adds (Disjoint t u) = record { one = _; added = refl; words = λ next. refl }
  adds (FunctionalRole t) = record { one = _; added = refl; words = λ next. refl }
  adds (FunctionalFeature t) = record { one = _; added = refl; words = λ next. refl }
  adds (Range t u) = record { one = _; added = refl; words = λ next. refl }

  -- a declaration is none
  adds_none : (d : NameOf) → axioms_by (statements_of text) (declared_of text d) ≡ []
  adds_none (Class t) = refl
  adds_none (Role t) = refl
  adds_none (Feature t) = refl

-- at a place, and at record k, the axioms behind it are left
pub record Writing (text : List ℕ) (last : ℕ) (entry out : List ℕ) (at k : ℕ) : Type 0 where
  pub parses : Parses text at
  pub left : Left axioms last 1 (axioms_in (statements_of text)) entry k (axioms_from text at) out

pub write_starts : {text table : List ℕ} {c : Counts} {start : ℕ} → Ready text table c → Begins text start → (last : ℕ) (out : List ℕ) →
    Writing text last out out start 1
write_starts {text} {start = start} w b last out =
    record {
      parses = begins_parses b w.parses;
      left = left_start last 1 (axioms_in (statements_of text)) out (axioms_from text start) (all_from w b);
    }

module _ {text : List ℕ} {last : ℕ} {entry out : List ℕ} {at k : ℕ} (w : Writing text last entry out at k) where
  pub write_ends : Next text at (Some End) → Written axioms last 1 (axioms_in (statements_of text)) entry out k
  write_ends n = left_end _ w.left (ap (flat_map (axioms_by (statements_of text))) (parses_end w.parses n))

  module _ {r : Found} (n : NextSays text at r) where
    -- a declaration is passed
    pub write_passes : (d : NameOf) → r.says ≡ Declares d → Writing text last entry out r.next k
    write_passes d h =
        let e : axioms_from text at ≡ axioms_from text r.next =
        ap (flat_map (axioms_by (statements_of text))) (parses_more w.parses n) ∙ rw (h, adds_none text d) in
        record { parses = parses_on w.parses n; left = rw e at w.left }

    module _ (a : Form) (h : r.says ≡ States a) (room : RoomFor 4 last 1 (axioms_in (statements_of text)) entry) where
      new : Adds text a
      new = adds text a

      first_left : axioms_from text at ≡ new.one ∷ axioms_from text r.next
      first_left =
          let d : statement_of text r.says ≡ stated_of text a = ap (statement_of text) h in
          ap (flat_map (axioms_by (statements_of text))) (parses_more w.parses n)
          ∙ ap (λ (s : Statement). axioms_by (statements_of text) s ++ axioms_from text r.next) d ∙ rw new.added

      pub write_on : {kind x y : ℕ} {m o : Option ℕ} {out' : List ℕ} → kind ≡ kind_of a → m ≡ number_found (first_number text a) → x ≡ unwrap_or m 0 →
          o ≡ number_found (second_number text a) → y ≡ unwrap_or o 0 →
          out' ≡ put_at out (4 * k) (kind ∷ (x ∷ (y ∷ (link_at last k ∷ [])))) → Writing text last entry out' r.next (k + 1)
      write_on {kind} {x} {y} {m} {o} {out'} i p q p' q' e =
          let next = link_at last k in
          let first : x ≡ first_number text a = q ∙ rw (p, word_of (first_number text a)) in
          let second : y ≡ second_number text a = q' ∙ rw (p', word_of (second_number text a)) in
          let words : axiom_words new.one next ≡ kind ∷ (x ∷ (y ∷ (next ∷ []))) = new.words next ∙ rw (i, first, second) in
          record {
            parses = parses_on w.parses n;
            left = turn_more w.left room new.one (axioms_from text r.next) first_left axiom_length out' (e ∙ ap (put_at out (4 * k)) (sym words));
          }
