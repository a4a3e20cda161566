-- The records that the tables give are those of the canonical model of the combination that they hold.
use Prim.Native.Nat.{◌+◌, ◌<◌, ◌≤◌, suc, ℕ}
use mathlib.Core.Bool.{Bool, ◌&&◌, false, true}
use mathlib.Core.List.{List, ◌++◌, append_assoc, append-nil}
use mathlib.Core.Path.{◌∙◌, ◌≡◌, ap, ap₂, refl}
use native.Mathlib.Omega.{arith}
use Rattle.countermodel.proofs.Edges.{kin_edges}
use Rattle.countermodel.specs.Facts.{Modelled, facts_at, facts_from, member_facts, table_facts, value_facts}
use Rattle.frames.proofs.Rows.{length_row}
use Rattle.layout.proofs.Successors.{kin_child, kin_individual, kin_inside, kin_rest}
use Rattle.layout.specs.Combination.{Combined, Individual, Kin}
use Rattle.layout.specs.Places.{individual_place}
use Rattle.layout.specs.Tables.{Above, Standing, piece_at, set_at}
use Rattle.layout.specs.declared.Tables.{Tables}
use Rattle.meaning.specs.Countermodel.{canonical_model, classes_above, countermodel, records_below, records_of, size}
use Rattle.meaning.specs.Limits.{most_classes}
use Rattle.meaning.specs.Lists.{All, any}
use Rattle.meaning.specs.Model.{Fact, model_words}
use Rattle.meaning.specs.Normal.{Bounded, Normal, NormalNode, NormalSuccessors}
use Rattle.meaning.specs.NormalForm.{Form, Node, Successors, none, successor}
use Rattle.meaning.specs.Records.{Name, is_name}
use Rattle.meaning.specs.Stated.{is_below}
use Rattle.meaning.specs.Vocabulary.{Vocabulary}
use Rattle.theory.proofs.Closure.{below_bounded}
use Rattle.theory.proofs.Rules.{all_any, any_out, is_true}
use Rattle.words.proofs.Laws.{members_are, named_within}
use Rattle.words.specs.Members.{members}
use Rattle.words.specs.Rows.{class_words}

module _ (K : Vocabulary) (few : K.classes ≤ most_classes) (bounded : Bounded K) (w : List ℕ) (t : Tables) (stand : Standing w t) where
  -- the set of an individual is among those of the vocabulary, so its members are those of the definition
  classes_are : (i : ℕ) (m : Node) → i < t.individuals → Above K (set_at w i) m.classes → All (Name K.classes) m.classes → members (set_at w i) ≡ classes_above K m
  classes_are i m h a names =
      members_are (set_at w i) (λ b. any (λ c. is_below K c b) m.classes) K.classes (omega (arith, length_row class_words w (individual_place i + 2) (omega arith)))
      (λ d. a d ∙ bound d (any (λ c. is_below K c d) m.classes) refl)
    where
      bound : (d : ℕ) (b : Bool) → any (λ c. is_below K c d) m.classes ≡ b → b ≡ (is_name K.classes d && b)
      bound d true e =
          let r = all_any names (any_out (λ c. is_below K c d) m.classes (is_true e)) in
          let o = below_bounded K bounded r.0 d r.1 r.2 in
          rw (named_within K.classes d o.0 o.1)
      bound d false e = and_false (is_name K.classes d)
        where
          and_false : (b : Bool) → false ≡ (b && false)
          and_false true = refl
          and_false false = refl

  row_facts : (i : ℕ) (m : Node) (ks : Successors) → i < t.individuals → Individual K w t.constraints i m → NormalNode (Name K.classes) K m → Kin (piece_at w) K w t (suc i) (suc i) ks →
      facts_at w t i ≡ records_of K m ks (suc i)
  unfolding facts_at member_facts value_facts
  row_facts i m ks h own normal kin =
      let e : i + 1 ≡ suc i = omega arith in
      rw (e, classes_are i m h own.classes normal.bounded, own.pieces, kin_edges kin)

  below_facts : (x j : ℕ) (ks : Successors) (left : ℕ) → x ≤ j → Kin (piece_at w) K w t x j ks → NormalSuccessors (Name K.classes) K ks →
      facts_from w t (size ks + left) j ≡ records_below K ks (suc j) ++ facts_from w t left (j + size ks)
  unfolding facts_from
  below_facts x j none left h kin normal =
      let here : j + 0 ≡ j = omega arith in
      let rest : 0 + left ≡ left = omega arith in
      rw (here, rest)
  below_facts x j (successor r m under next) left h kin normal =
      let rows : size (successor r m under next) + left ≡ suc (size under + (size next + left)) = omega arith in
      let behind : suc j + size under + size next ≡ j + size (successor r m under next) = omega arith in
      let target : suc (suc j + size under) ≡ suc (suc j) + size under = omega arith in
      let first = row_facts j m under (kin_inside kin) (kin_individual kin) normal.2 (kin_child kin h) in
      let inner = below_facts (suc j) (suc j) under (size next + left) (omega arith) (kin_child kin h) normal.3 in
      let later = below_facts x (suc j + size under) next left (omega arith) (kin_rest kin) normal.4 in
      rw (rows, first, inner, later, behind, target) (simp append_assoc)

  table_facts_of : (u : Form) → Normal (Name K.classes) K u → Combined K u w t → table_facts w t ≡ canonical_model K u
  unfolding facts_from canonical_model
  table_facts_of u normal c =
      let n = c.count in
      let rows : t.individuals ≡ suc (size u.successors + 0) = omega arith in
      let kin : Kin (piece_at w) K w t 1 1 u.successors = record { below = c.below; fits = omega arith; ends = λ h. absurd (omega arith) } in
      ap (λ (n : ℕ). facts_from w t n 0) rows
      ∙ ap₂ (λ (F G : List Fact). F ++ G) (row_facts 0 u.node u.successors (omega arith) c.root normal.node kin)
      (below_facts 1 1 u.successors 0 (omega arith) kin normal.successors ∙ append-nil (records_below K u.successors 2))

  -- so the words for the tables are the combination's countermodel
  table_words_of : (u : Form) → Normal (Name K.classes) K u → Combined K u w t → model_words t.individuals (table_facts w t) ≡ countermodel K u
  unfolding countermodel
  table_words_of u normal c = ap₂ model_words c.count (table_facts_of u normal c)

module _ {K : Vocabulary} {u : Form} {w : List ℕ} {t : Tables} (stand : Standing w t) (m : Modelled K u w t) where
  pub table_facts_lem : table_facts w t ≡ canonical_model K u
  table_facts_lem = table_facts_of K m.few m.bounded w t stand u m.normal m.combined

  pub table_words : model_words t.individuals (table_facts w t) ≡ countermodel K u
  table_words = table_words_of K m.few m.bounded w t stand u m.normal m.combined
