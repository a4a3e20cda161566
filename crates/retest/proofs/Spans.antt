-- Laws of the constraints of an individual, whatever the pieces: one lies inside whole, none may pass, or a dial's piece may.
use Prim.Native.Nat.{◌+◌, ◌<◌, ◌≤◌, ℕ}
use mathlib.Core.Bool.{Bool, false, true}
use mathlib.Core.List.{List}
use mathlib.Core.Logic.{⊎_elim}
use mathlib.Core.Path.{◌∙◌, ◌≡◌, refl, subst, sym}
use native.Mathlib.Omega.{arith}
use borrow.Author.Tests.{ne_eqb}
use lib.Dec.{T, eqb, eqb→eq}
use Rattle.intervals.proofs.Touching.{part_touches}
use Rattle.layout.specs.Nesting.{Nested}
use Rattle.layout.specs.Tables.{constraint_at, holder_at}
use Rattle.layout.specs.declared.Tables.{Tables}
use Rattle.meaning.specs.Intervals.{Constraint}
use Rattle.retest.specs.declared.State.TheVariants.{Fails, Passes, Rests}
use Rattle.retest.specs.declared.State.{State}
use Rattle.retest.specs.Reasons.{Choice, Spanned, SpannedBy, may_pass}
use Rattle.subsumption.specs.Tests.{FirstOf, has_piece, is_piece_inside}
use Rattle.theory.proofs.Counting.{none_below, some_below}
use Rattle.theory.proofs.Rules.{T_and, and_T, eqb_of, is_true, order, same_test}

-- ---- one after another

-- none of those before m lies inside whole; where the state is that none may pass, none of them may
pub record Passed (w : List ℕ) (t : Tables) (x f lo hi : ℕ) (state : State) (m : ℕ) : Type 0 where
  pub within : m ≤ t.constraints
  pub some : state ≡ Passes → ⊥
  pub none : (i : ℕ) → i < m → is_piece_inside (constraint_at w) w x f lo hi i ≡ false
  pub fails : state ≡ Fails → (i : ℕ) → i < m → may_pass w x f lo hi i ≡ false
  pub after : (i : ℕ) → m ≤ i → i < t.constraints → x ≤ holder_at w i

-- of another individual
stranger : (w : List ℕ) (x f lo hi i : ℕ) → (holder_at w i ≡ x → ⊥) → may_pass w x f lo hi i ≡ false
stranger w x f lo hi i n = rw (ne_eqb (holder_at w i) x n)

pub passed_starts : {w : List ℕ} {t : Tables} (x f lo hi : ℕ) {m : ℕ} {state : State} → state ≡ Fails → FirstOf w t.constraints x m → Passed w t x f lo hi state m
passed_starts {w = w} x f lo hi e g = record {
  within = g.within;
  some = λ z. cc;
  none = λ i h. rw (ne_eqb (holder_at w i) x (λ z. omega (arith, g.before i h)));
  fails = λ _ i h. stranger w x f lo hi i (λ z. omega (arith, g.before i h));
  after = g.after;
}

module _ {w : List ℕ} {t : Tables} {x f lo hi m : ℕ} {state : State} (nest : Nested w t) (p : Passed w t x f lo hi state m) where
  told : {r : State} → r ≡ state → ((i : ℕ) → m ≤ i → i < t.constraints → holder_at w i ≡ x → ⊥) → Spanned w t.constraints x f lo hi r
  unfolding has_piece
  told e later = record {
    passes = λ z. absurd (p.some (sym e ∙ z));
    fails = λ z i l. ⊎_elim (p.fails (sym e ∙ z) i) (λ g. stranger w x f lo hi i (later i g l)) (order i m);
    none = λ _. none_below (is_piece_inside (constraint_at w) w x f lo hi) t.constraints
        (λ i l. ⊎_elim (p.none i) (λ g. rw (ne_eqb (holder_at w i) x (later i g l))) (order i m));
  }

  pub spans_end : {r : State} → r ≡ state → t.constraints ≤ m → Spanned w t.constraints x f lo hi r
  spans_end e h = told e (λ i g l. absurd (omega arith))

  module _ {y : ℕ} (less : m < t.constraints) (ey : y ≡ holder_at w m) where
    -- the constraints of a later individual have begun
    pub spans_behind : {r : State} → r ≡ state → (y ≡ x → ⊥) → Spanned w t.constraints x f lo hi r
    spans_behind e n = told e (λ i g l z. n (ey ∙ (let a = p.after m (omega arith) less in let b = nest.rising m i g l in omega arith)))

  module _ (less : m < t.constraints) {one : State} (g : SpannedBy w x f lo hi m one) where
    pub spans_found : {r : State} → one ≡ Passes → r ≡ Passes → Spanned w t.constraints x f lo hi r
    unfolding has_piece
    spans_found e z = record {
      passes = λ _. some_below (is_piece_inside (constraint_at w) w x f lo hi) t.constraints m less (g.passes e);
      fails = λ u. cc;
      none = λ n. absurd (n z);
    }

    -- the state fails only where it did, and constraint m does
    spans_on : {next : State} → (one ≡ Passes → ⊥) → (next ≡ Passes → ⊥) → (next ≡ Fails → (state ≡ Fails) × (one ≡ Fails)) → Passed w t x f lo hi next (m + 1)
    spans_on n some both =
        record {
          within = omega arith;
          some = some;
          none = λ i l. ⊎_elim (p.none i) (λ h. let z : m ≡ i = omega arith in
              subst (λ (j : ℕ). is_piece_inside (constraint_at w) w x f lo hi j ≡ false) z (g.none n)) (order i m);
          fails = λ u i l. ⊎_elim (p.fails (both u).0 i) (λ h. let z : m ≡ i = omega arith in
              subst (λ (j : ℕ). may_pass w x f lo hi j ≡ false) z (g.fails (both u).1)) (order i m);
          after = λ i h l. p.after i (omega arith) l;
        }

    pub spans_fails : {next : State} → one ≡ Fails → next ≡ state → Passed w t x f lo hi next (m + 1)
    spans_fails o e = spans_on (λ z. cc) (λ z. p.some (sym e ∙ z)) (λ u. (sym e ∙ u, o))

    pub spans_rests : {next : State} → one ≡ Rests → next ≡ Rests → Passed w t x f lo hi next (m + 1)
    spans_rests o e = spans_on (λ z. cc) (λ z. cc) (λ u. cc)

-- what is chosen of a constraint lies inside: so it may pass
pub chosen_may : (v : ℕ → Constraint) (w : List ℕ) (n x f lo hi m : ℕ) → Choice v w n → m < n → T (is_piece_inside v w x f lo hi m) → may_pass w x f lo hi m ≡ true
chosen_may v w n x f lo hi m c less h =
    let s = constraint_at w m in
    let own = T_and (eqb (holder_at w m) x) _ h in
    let part = T_and (eqb f (v m).feature) _ own.1 in
    let whole = T_and (eqb s.feature (v m).feature) _ (c.inside m less) in
    same_test _ true (λ _. tt) (λ _. and_T (eqb (holder_at w m) x) _ own.0
    (and_T (eqb f s.feature) _ (eqb_of f s.feature (eqb→eq f (v m).feature part.0 ∙ sym (eqb→eq s.feature (v m).feature whole.0)))
    (part_touches lo hi s.lo s.hi (v m).lo (v m).hi (c.full m less) whole.1 part.1)))

-- where none may pass, none does
pub none_passes : (v : ℕ → Constraint) (w : List ℕ) (n x f lo hi : ℕ) → Choice v w n → ((m : ℕ) → m < n → may_pass w x f lo hi m ≡ false) → has_piece v w n x f lo hi ≡ false
unfolding has_piece
none_passes v w n x f lo hi c none = none_below (is_piece_inside v w x f lo hi) n (λ m l. go m l (is_piece_inside v w x f lo hi m) refl)
  where
    go : (m : ℕ) → m < n → (b : Bool) → is_piece_inside v w x f lo hi m ≡ b → b ≡ false
    go m l true h = absurd (subst T (sym (chosen_may v w n x f lo hi m c l (is_true h)) ∙ none m l) tt)
    go m l false h = refl
