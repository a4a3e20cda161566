-- The operation: refusals in order, and the words.
use Rattle.meaning.specs.Refusals.{refusal_number}
use Rattle.meaning.specs.declared.refusals.Refusal.{Refusal}
use Rattle.std.specs.Prelude.{Err, Ok}
use Prim.Native.Nat.{◌*◌, ◌+◌, ◌<◌, ◌≤◌, suc, ℕ}
use mathlib.Core.Bool.{Bool, false, true}
use mathlib.Core.List.{List, [], ◌∷◌}
use mathlib.Core.Path.{◌∙◌, ◌≡◌, ap, refl, sym}
use lib.ListN.{length}
use native.Mathlib.Omega.{arith}
use borrow.Author.Tests.{le-leb, lt-leb}
use Rattle.std.proofs.Common.{None, Option, Some}
use Rattle.declarations.specs.Names.{counted, declared, declared_well, is_known, sound_names}
use Rattle.declarations.specs.Passes.{Fits, Tabled, axiom_count, counts_in, counts_of, list_of, parsed_at, statements_at, table_size}
use Rattle.declarations.specs.declared.Counts.{Counts}
use Rattle.meaning.specs.Answers.{result, wrote}
use Rattle.meaning.specs.Limits.{most_axioms, most_classes, most_roles, most_text}
use Rattle.meaning.specs.Lists.{all, flat_map}
use Rattle.meaning.specs.Operations.{output_after}
use Rattle.meaning.specs.Vocabulary.{vocabulary_words}
use Rattle.meaning.specs.declared.refusals.Refusal.TheVariants as refusal
use Rattle.name_table.specs.Numbers.{repeats}
use Rattle.name_table.specs.Table.{names_from}
use Rattle.owl.proofs.Looking.{class_size, feature_size, role_size, sorted_names}
use Rattle.owl.proofs.Passes.{all_begin, begins_parses}
use Rattle.owl.proofs.Records.{all_size}
use Rattle.owl.proofs.Sizes.{axioms_few}
use Rattle.owl.specs.Owl.{OwlPost, axioms_by, axioms_in, owl_refusal, owl_words, parsed_of, parsed_refusal, parsed_words, read_owl, vocabulary_in}
use Rattle.owl.specs.Passes.{Begins, Many, Ready, statements_of}
use Rattle.records.specs.Written.{RoomFor}
use Rattle.statements.specs.Forms.{Parsed, Statement, class, declares, feature, ontology, parsed, role, states, wrong}
use Rattle.statements.specs.Found.{Opens}
use Rattle.theory.proofs.Links.{bounds}
use Rattle.theory.proofs.VocabularyWords.{vocabulary_length}
use Rattle.tokens.specs.Tokens.{tokens}
use Rattle.words.proofs.Laws.{members_few}
use Rattle.words.specs.Members.{members}

-- ---- a refusal writes nothing

pub refused : (text before : List ℕ) (r : Refusal) {n : ℕ} → refusal_number r ≡ suc n → owl_refusal text ≡ suc n → OwlPost text before before (Err r)
unfolding read_owl output_after
refused text before r f e = record { answer = rw (e, f); output = rw e }

-- ---- 41

pub too_long_lem : (text : List ℕ) → most_text < length text → owl_refusal text ≡ 41
unfolding owl_refusal
too_long_lem text h = rw (lt-leb (length text) most_text h)

module _ (text : List ℕ) (short : length text ≤ most_text) where
  told : parsed_of text ≡ ontology (tokens text)
  told = rw (le-leb (length text) most_text short)

  wrong_refused : ontology (tokens text) ≡ wrong → owl_refusal text ≡ 41
  unfolding owl_refusal
  wrong_refused e = ap parsed_refusal (told ∙ e)

  pub not_opened : ontology (tokens text) ≡ wrong → owl_refusal text ≡ 41
  not_opened = wrong_refused

  pub not_parsed : None ≡ counts_of (ontology (tokens text)) → owl_refusal text ≡ 41
  not_parsed e = wrong_refused (go (ontology (tokens text)) e)
    where
      go : (p : Parsed) → None ≡ counts_of p → p ≡ wrong
      go wrong z = refl
      go (parsed l) z = cc

  -- ---- 42, the counts

  pub not_counted : {c : Counts} → Some c ≡ counts_of (ontology (tokens text)) → {x : Bool} → x ≡ counted c.classes c.roles c.features → x ≡ false → owl_refusal text ≡ 42
  unfolding owl_refusal declared_well
  not_counted {c} e {x} q f = ap parsed_refusal told ∙ go (ontology (tokens text)) e
    where
      go : (p : Parsed) → Some c ≡ counts_of p → parsed_refusal p ≡ 42
      go wrong z = cc
      go (parsed l) z =
          let d : c ≡ counts_in l = cc in
          let g : counted (length (declared class l)) (length (declared role l)) (length (declared feature l)) ≡ false =
          ap (λ (y : Counts). counted y.classes y.roles y.features) (sym d) ∙ sym q ∙ f in
          rw g

pub opened_begins : {text : List ℕ} {start : ℕ} → Opens text start → Begins text start
opened_begins o = record { ends = o.ends; same = o.same }

pub survey_counts : {text : List ℕ} {start : ℕ} → Begins text start → {c : Option Counts} → c ≡ counts_of (parsed_at text start) → c ≡ counts_of (ontology (tokens text))
survey_counts b e = e ∙ ap counts_of (sym b.same)

-- ---- the table is filled

module _ {text : List ℕ} {start : ℕ} (b : Begins text start) {c : Counts} (e : Some c ≡ counts_of (ontology (tokens text)))
    (fit : counted c.classes c.roles c.features ≡ true) where
  parses : ontology (tokens text) ≡ parsed (statements_of text)
  unfolding statements_of
  parses = go (ontology (tokens text)) e
    where
      go : (p : Parsed) → Some c ≡ counts_of p → p ≡ parsed (list_of p)
      go wrong z = cc
      go (parsed l) z = refl

  counts : c ≡ counts_in (statements_of text)
  counts = let d : Some c ≡ Some (counts_in (statements_of text)) = e ∙ ap counts_of parses in cc

  pub table_fits : {table : List ℕ} → length table ≡ table_size → length text ≤ most_text → Fits text table start
  table_fits n short =
      let u = simp bounds at fit in
      let same = all_begin b parses in
      record {
        size = n;
        short = short;
        parses = begins_parses b parses;
        classes = rw same (omega (arith, u, ap (λ (x : Counts). x.classes) counts));
        roles = rw same (omega (arith, u, ap (λ (x : Counts). x.roles) counts));
        features = rw same (omega (arith, u, ap (λ (x : Counts). x.features) counts));
      }

  pub ready : {table : List ℕ} → Tabled text table (statements_at text start) → Ready text table c
  ready t = record { parses = parses; counts = counts; small = fit; tabled = rw (all_begin b parses) at t }

-- ---- with the table

axiom_count_lem : (l m : List Statement) → length (flat_map (axioms_by l) m) ≡ axiom_count m
axiom_count_lem l [] = refl
axiom_count_lem l (declares s us ∷ m) = axiom_count_lem l m
axiom_count_lem l (states k us ∷ m) = ap suc (axiom_count_lem l m)

module _ {text table : List ℕ} {c : Counts} (w : Ready text table c) where
  -- 42, sort by sort
  module _ {x : Bool} (e : x ≡ repeats (names_from text table 0 c.classes)) where
    classes_told : x ≡ repeats (declared class (statements_of text))
    classes_told = e ∙ ap repeats (sorted_names w.tabled.classes (class_size w))

    pub sound_class : x ≡ true → false ≡ sound_names (statements_of text)
    sound_class h = rw (sym classes_told ∙ h)

    module _ (h : x ≡ false) {y : Bool} (f : y ≡ repeats (names_from text table most_classes c.roles)) where
      roles_told : y ≡ repeats (declared role (statements_of text))
      roles_told = f ∙ ap repeats (sorted_names w.tabled.roles (role_size w))

      pub sound_role : y ≡ true → false ≡ sound_names (statements_of text)
      sound_role g = rw (sym classes_told ∙ h, sym roles_told ∙ g)

      module _ (g : y ≡ false) {z : Bool} (i : z ≡ repeats (names_from text table (most_classes + most_roles) c.features)) where
        features_told : z ≡ repeats (declared feature (statements_of text))
        features_told = i ∙ ap repeats (sorted_names w.tabled.features (feature_size w))

        pub sound_feature : z ≡ true → false ≡ sound_names (statements_of text)
        sound_feature j = rw (sym classes_told ∙ h, sym roles_told ∙ g, sym features_told ∙ j)

        pub sound_known : {u : Bool} → z ≡ false → u ≡ all (is_known (statements_of text)) (statements_of text) → u ≡ sound_names (statements_of text)
        sound_known j k = rw (sym classes_told ∙ h, sym roles_told ∙ g, sym features_told ∙ j) k

  pub last_record : {roles features : List ℕ} → Many text roles features → {a b : ℕ} → a ≡ length (members roles) → b ≡ length (members features) →
      c.axioms + a + b ≡ length (vocabulary_in (statements_of text)).axioms
  unfolding axioms_in
  last_record m p q =
      omega (arith, all_size m, ap (λ (x : Counts). x.axioms) w.counts, axiom_count_lem (statements_of text) (statements_of text))

  -- the sum of the records is no overflow
  pub records_small : length text ≤ most_text → {roles features : List ℕ} → Many text roles features →
      (c.axioms ≤ most_text) × (length (members roles) ≤ most_roles) × (length (members features) ≤ most_roles)
  records_small short {roles} {features} m =
      (omega (arith, axioms_few w), omega (arith, members_few roles, m.role_words), omega (arith, members_few features, m.feature_words))

  module _ (short : length text ≤ most_text) where
    parsed_told : parsed_of text ≡ parsed (statements_of text)
    parsed_told = told text short ∙ w.parses

    counted_told : counted (length (declared class (statements_of text))) (length (declared role (statements_of text))) (length (declared feature (statements_of text))) ≡ true
    counted_told = rw (← class_size w, ← role_size w, ← feature_size w) w.small

    pub not_sound : {x : Bool} → x ≡ sound_names (statements_of text) → x ≡ false → owl_refusal text ≡ 42
    unfolding owl_refusal declared_well
    not_sound {x} e h = ap parsed_refusal parsed_told ∙ rw (counted_told, sym e ∙ h)

    module _ (sound : sound_names (statements_of text) ≡ true) {last : ℕ} (all : last ≡ length (vocabulary_in (statements_of text)).axioms) where
      -- 1
      pub too_many_lem : most_axioms < last → owl_refusal text ≡ 1
      unfolding owl_refusal declared_well
      too_many_lem m =
          ap parsed_refusal parsed_told
          ∙ rw (counted_told, sound, lt-leb (length (vocabulary_in (statements_of text)).axioms) most_axioms (omega arith))

      module _ (few : last ≤ most_axioms) where
        none_refused : owl_refusal text ≡ 0
        unfolding owl_refusal declared_well
        none_refused =
            ap parsed_refusal parsed_told
            ∙ rw (counted_told, sound, le-leb (length (vocabulary_in (statements_of text)).axioms) most_axioms (omega arith))

        words : owl_words text ≡ vocabulary_words (vocabulary_in (statements_of text))
        unfolding owl_words
        words = ap parsed_words parsed_told

        size : length (owl_words text) ≡ 4 * (last + 1)
        size = ap length words ∙ vocabulary_length (vocabulary_in (statements_of text)) ∙ omega arith

        -- 23
        pub too_short : (before : List ℕ) → length before < 4 * (last + 1) → OwlPost text before before (Err refusal.Output)
        unfolding read_owl output_after
        too_short before m =
            let d = lt-leb (length (owl_words text)) (length before) (omega (arith, size)) in
            record { answer = rw (none_refused, d); output = rw (none_refused, d) }

        module _ (before : List ℕ) (m : 4 * (last + 1) ≤ length before) where
          pub words_room : RoomFor 4 last 1 (vocabulary_in (statements_of text)).axioms before
          words_room = record { room = record { long = m; few = omega arith }; within = omega arith }

          -- the words
          pub filled : {after : List ℕ} → after ≡ output_after (vocabulary_words (vocabulary_in (statements_of text))) before →
              OwlPost text before after (Ok (4 * (last + 1)))
          unfolding read_owl
          filled q =
              let d = le-leb (length (owl_words text)) (length before) (omega (arith, size)) in
              record {
                answer = rw (none_refused, d) (ap (λ (n : ℕ). result (wrote n)) (sym size));
                output = rw (none_refused, d) (q ∙ ap (λ (ws : List ℕ). output_after ws before) (sym words));
              }
