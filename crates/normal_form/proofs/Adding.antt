-- What adding conjuncts does to the tables.
use Prim.Native.Nat.{◌+◌, ◌<◌, ◌≤◌, ℕ}
use mathlib.Core.Bool.{Bool, ◌||◌, false, or_assoc, or-false, or-true, true}
use mathlib.Core.List.{List, [], ◌++◌, ◌∷◌}
use mathlib.Core.Logic.{inl, inr}
use mathlib.Core.Path.{◌∙◌, ◌≡◌, ap, refl, subst, sym}
use lib.ListN.{get_or, length, length-append, set}
use lib.Seq.{get_or-set_other, get_or-set_same}
use native.Mathlib.Omega.{arith}
use borrow.Author.Tests.{ne_eqb}
use Rattle.closure.specs.Rows.{row_of}
use Rattle.frames.proofs.Frames.{only_none, only_set, only_then, only_wider}
use Rattle.layout.proofs.Entries.{constraints_kept}
use Rattle.layout.specs.Places.{individuals_at, pending_at, row_place, tables_end}
use Rattle.layout.specs.Tables.{held_by, interval_of}
use Rattle.meaning.specs.Intervals.{Constraint}
use Rattle.meaning.specs.Limits.{most_classes, most_records}
use Rattle.meaning.specs.Lists.{any, cons, nil}
use Rattle.meaning.specs.NormalForm.{place_constraint}
use Rattle.meaning.specs.Records.{Name}
use Rattle.normal_form.proofs.Laws.{fresh_in, front_kept, front_row, in_tables, live_append, word_same, words_append}
use Rattle.normal_form.proofs.Laws.{words_eq, words_kept}
use Rattle.normal_form.specs.Parts.{Arm, arm_at}
use Rattle.normal_form.specs.Parts.{live, words_at}
use Rattle.normal_form.specs.Steps.{Adds, Entry, Fresh, Placed, Sure, Told, constrained, front, pended}
use Rattle.normal_form.specs.declared.Draft.{Draft}
use Rattle.theory.proofs.Rules.{all_append}
use Rattle.words.specs.Sets.{in_set}

-- ---- adding

turn : (a s x : Bool) → (a || s) || x ≡ (x || a) || s
turn true s true = refl
turn true s false = refl
turn false true true = refl
turn false true false = refl
turn false false true = refl
turn false false false = refl

module _ (p : List ℕ) (x m : ℕ) (w : List ℕ) (g : Draft) where
  pub add_none : (j e : ℕ) → Adds p x j e m (λ cs. cs) [] (λ l. l) 0 false w w g g
  add_none j e = record {
    classes = λ s cs h. h;
    pending = omega arith;
    arms = refl;
    sure = nil;
    top = λ l h s. h;
    constraints = λ l h s. s;
    few = omega arith;
    first = omega arith;
    bottom = sym (or-false g.impossible);
    only = only_none;
  }

  module _ (g' : Draft) where
    pub add_bar : g'.classes ≡ g.classes → g'.pending ≡ g.pending → g'.constraints ≡ g.constraints → g'.impossible ≡ true →
        Adds p x 0 0 m (λ cs. cs) [] (λ l. l) 0 true w w g g'
    add_bar hc hp hs hb = record {
      classes = λ s cs h. rw hc h;
      pending = omega arith;
      arms = refl;
      sure = nil;
      top = λ l h s. hs ∙ h;
      constraints = λ l h s. s;
      few = omega arith;
      first = omega arith;
      bottom = hb ∙ sym (or-true g.impossible);
      only = only_none;
    }

    pub add_class : (a : ℕ) (ws : List ℕ) → Name most_classes a → tables_end ≤ length w → ws ≡ row_of w a →
        ((d : ℕ) → in_set g'.classes.words d ≡ in_set g.classes.words d || in_set ws d) →
        g'.pending ≡ g.pending → g'.constraints ≡ g.constraints → g'.impossible ≡ g.impossible →
        Adds p x 0 0 m (λ cs. a ∷ cs) [] (λ l. l) 0 false w w g g'
    add_class a ws n long ew hc hp hs hb = record {
      classes = λ s cs h b. more s cs h b;
      pending = omega arith;
      arms = refl;
      sure = nil;
      top = λ l h s. hs ∙ h;
      constraints = λ l h s. s;
      few = omega arith;
      first = omega arith;
      bottom = hb ∙ sym (or-false g.impossible);
      only = only_none;
    }
      where
        row : ws ≡ row_of (front w) a
        row = ew ∙ sym (front_row w (row_place a) (omega arith) long)

        more : (s cs : List ℕ) → Told (front w) s g.classes.words cs → Told (front w) s g'.classes.words (a ∷ cs)
        more s cs h b =
            hc b ∙ ap (λ (t : Bool). t || in_set ws b) (h b) ∙ turn (any (λ c. in_set (row_of (front w) c) b) cs) (in_set s b) (in_set ws b)
            ∙ ap (λ (l : List ℕ). (in_set l b || any (λ c. in_set (row_of (front w) c) b) cs) || in_set s b) row

    module _ (w' : List ℕ) (low : pending_at ≤ g.pending) where
      pub add_role : (k : ℕ) → (k ≡ 0 → ⊥) → Entry p k → g.pending < individuals_at → tables_end ≤ length w → w' ≡ set w g.pending k →
          g'.classes ≡ g.classes → g'.pending ≡ g.pending + 1 → g'.constraints ≡ g.constraints → g'.impossible ≡ g.impossible →
          Adds p x 0 0 m (λ cs. cs) (arm_at p k ∷ []) (λ l. l) 0 false w w' g g'
      add_role k z en b long ew hc hp hs hb = record {
        classes = λ s cs h. rw hc h;
        pending = hp;
        arms = rw (at_end_lem, ne_eqb k 0 z);
        sure = rw at_end_lem (cons (inr en) nil);
        top = λ l h s. hs ∙ h;
        constraints = λ l h s. constraints_kept w w' m (held_by x l) (λ i q f. other i (λ e. omega arith)) s;
        few = omega arith;
        first = omega arith;
        bottom = hb ∙ sym (or-false g.impossible);
        only = rw ew (only_set g.pending k (pended (record { low = low; high = b }) (omega arith)) only_none);
      }
        where
          at_end_lem : get_or w' g.pending 0 ≡ k
          at_end_lem = ap (λ (l : List ℕ). get_or l g.pending 0) ew ∙ get_or-set_same w g.pending k 0 (omega arith)

          other : (i : ℕ) → (i ≡ g.pending → ⊥) → get_or w' i 0 ≡ get_or w i 0
          other i n = ap (λ (l : List ℕ). get_or l i 0) ew ∙ get_or-set_other w g.pending i k 0 n

      pub add_interval : (one : Bool) (f lo hi : ℕ) → g.pending ≤ individuals_at → Placed one x m g.constraints f lo hi w w' g'.constraints →
          g'.classes ≡ g.classes → g'.pending ≡ g.pending → g'.impossible ≡ g.impossible →
          Adds p x 0 0 m (λ cs. cs) [] (place_constraint one (interval_of f lo hi)) 1 false w w' g g'
      add_interval one f lo hi b u hc hp hb = record {
        classes = λ s cs h. rw hc h;
        pending = omega arith;
        arms = refl;
        sure = nil;
        top = λ l h s. u.ends l h s;
        constraints = λ l h s. u.constraints l h s;
        few = u.few;
        first = u.more;
        bottom = hb ∙ sym (or-false g.impossible);
        only = only_wider (λ i s. constrained s (omega (arith, s.low))) u.only;
      }

-- one addition after another
module _ (p : List ℕ) (x j e m : ℕ) {fc fd : List ℕ → List ℕ} {rs qs : List Arm} {fs gs : List Constraint → List Constraint} {ns ms : ℕ} {a b : Bool}
    {w w' w'' : List ℕ} {g g' g'' : Draft} where
  pub adds_then : (n : ℕ) (c : Bool) → n ≡ ns + ms → c ≡ a || b → e ≤ g.pending → Adds p x j e m fc rs fs ns a w w' g g' → Adds p x j e m fd qs gs ms b w' w'' g' g'' →
      Adds p x j e m (λ cs. fd (fc cs)) (rs ++ qs) (λ l. gs (fs l)) n c w w'' g g''
  adds_then n c en ec o s t = record {
    classes = λ y cs q. rw (front_kept (in_tables s.only)) at (t.classes y (fc cs) (rw (front_kept (in_tables s.only)) (s.classes y cs q)));
    pending = let u = s.pending in let v = t.pending in omega (arith, length-append rs qs);
    arms =
        ap (live p) words ∙ live_append p (words_at w' g.pending (length rs)) (words_at w'' g'.pending (length qs))
        ∙ ap (λ (l : List Arm). l ++ live p (words_at w'' g'.pending (length qs))) s.arms ∙ ap (λ (l : List Arm). rs ++ l) t.arms;
    sure = subst (λ (l : List ℕ). Sure p l) (sym words) (all_append s.sure t.sure);
    top = λ l h q. t.top (fs l) (s.top l h q) (s.constraints l h q);
    constraints = λ l h q. t.constraints (fs l) (s.top l h q) (s.constraints l h q);
    few = let u = s.few in let v = t.few in omega arith;
    first = let u = s.first in omega arith;
    bottom = t.bottom ∙ ap (λ (y : Bool). y || b) s.bottom ∙ or_assoc g.impossible a b ∙ ap (λ (y : Bool). g.impossible || y) (sym ec);
    only = only_then s.only (only_wider (fresh_in (λ i z. inl z) (let u = s.pending in omega arith) (omega arith) (omega arith)) t.only);
  }
    where
      words : words_at w'' g.pending (length (rs ++ qs)) ≡ words_at w' g.pending (length rs) ++ words_at w'' g'.pending (length qs)
      words =
          words_eq w'' {b = g.pending} refl (length-append rs qs) ∙ words_append w'' g.pending (length rs) (length qs)
          ∙ ap (λ (l : List ℕ). l ++ words_at w'' (g.pending + length rs) (length qs))
          (words_kept w' w'' g.pending (length rs) (λ i h f. word_same t.only i (inr (omega arith)) (omega arith)))
          ∙ ap (λ (l : List ℕ). words_at w' g.pending (length rs) ++ l) (words_eq w'' {n = length qs} (sym s.pending) refl)

-- as an addition that keeps less
pub adds_wider : {p : List ℕ} {x j e j' e' m : ℕ} {fc : List ℕ → List ℕ} {rs : List Arm} {fs : List Constraint → List Constraint} {ns : ℕ} {b : Bool} {w w' : List ℕ} {g g' : Draft} →
    ((i : ℕ) → Fresh j e g.pending most_records m i → Fresh j' e' g.pending most_records m i) → Adds p x j e m fc rs fs ns b w w' g g' → Adds p x j' e' m fc rs fs ns b w w' g g'
adds_wider f s = record {
  classes = s.classes;
  pending = s.pending;
  arms = s.arms;
  sure = s.sure;
  top = s.top;
  constraints = s.constraints;
  few = s.few;
  first = s.first;
  bottom = s.bottom;
  only = only_wider f s.only;
}
