-- Laws of the trial: what is known at the combination that the tables stand at, and how the search goes on and ends.
use Prim.Native.Nat.{◌+◌, ◌-◌, ◌<◌, ◌≤◌, suc, zero, ℕ}
use mathlib.Core.Bool.{Bool, ◌||◌, cond, false, true}
use mathlib.Core.List.{List, [], ◌∷◌}
use mathlib.Core.Logic.{⊎_elim}
use mathlib.Core.Path.{◌∙◌, ◌≡◌, ap, ap₂, fun_ext, refl, subst, sym}
use native.Mathlib.Nat.{zero-mul}
use native.Mathlib.Omega.{arith}
use borrow.Author.Tests.{eqb-false, eqb-true}
use lib.Dec.{T, eqb}
use lib.ListN.{get_or-eq_default, get_or, length, length-set, set}
use lib.Seq.{get_or-set_other, get_or-set_same}
use Rattle.frames.proofs.Frames.{only_none, only_then}
use Rattle.frames.specs.Frames.{Only}
use Rattle.layout.proofs.Filling.{combined}
use Rattle.layout.proofs.Nesting.{nested_kept}
use Rattle.layout.specs.Tables.{Pieces, Tabled, constraint_at, piece_at}
use Rattle.layout.specs.declared.Tables.{Tables}
use Rattle.meaning.specs.Containment.{passes}
use Rattle.meaning.specs.Intervals.{Constraint, NonEmpty, is_inside}
use Rattle.meaning.specs.Limits.{most_combinations}
use Rattle.meaning.specs.Lists.{All, At, any, at_here, at_there, first_failing, found}
use Rattle.meaning.specs.NormalForm.{Form}
use Rattle.meaning.specs.Policy.{Policy, policy_of}
use Rattle.meaning.specs.Splitting.{combinations, constraints_of, pieces, product}
use Rattle.meaning.specs.Subsumption.{includes}
use Rattle.meaning.specs.Vocabulary.{Vocabulary}
use Rattle.odometer.proofs.Dials.{one_piece}
use Rattle.odometer.proofs.Digits.{behind_first, mask_bit}
use Rattle.odometer.proofs.Numbers.{low_lt, value_split}
use Rattle.odometer.proofs.Weights.{product_span}
use Rattle.odometer.specs.Digits
use Rattle.odometer.specs.Digits.{Covers, Valid, in_mask, span, value}
use Rattle.odometer.specs.Odometer.{Dialled, Outcome, Skippable, Skipped, Standing, StandsAt}
use Rattle.splitting.proofs.Callers.{constraints_at_lem, splittable_kept, tabled_turned}
use Rattle.splitting.proofs.Storing.{constraint_kept, constraints_kept}
use Rattle.splitting.specs.Constraints.{first_constraints, piece_count}
use Rattle.subsumption.proofs.Callers.{holds_filled}
use Rattle.retest.specs.Reasons.{Agrees, Choice}
use Rattle.subsumption.specs.Tests.{holds_at}
use Rattle.theory.proofs.Digits.{fill}
use Rattle.theory.proofs.Odometer.{at_lt}
use Rattle.theory.proofs.Points.{Inside, pieces_part}
use Rattle.theory.proofs.Rules.{and_T, any_in, at_any, eqb_of, head, is_true, order, same_test, tail}
use Rattle.trial.proofs.Keeping.{remembers_kept}
use Rattle.trial.proofs.Searching.{Passes, at_same, chosen, chosen_at, placed, search_ends, search_fails}
use Rattle.std.specs.Prelude.{IfSome, None, Option, Some}
use Rattle.carriers.specs.Carriers.{named}
use Rattle.trial.specs.Trials.{Askable, Failure, Known, Remembers, Searchable, Taker, Takes, Term, Tried}
use Rattle.trial.specs.declared.Taken.{Taken}

at_all : {A : Type 0} {P : A → Type 0} {x : A} {l : List A} {i : ℕ} → All P l → At x l i → P x
at_all {P = P} h (at_here e) = subst P (sym e) (head h)
at_all h (at_there a) = at_all (tail h) a

-- ---- a piece lies inside its constraint

module _ (Q : Policy) (s p : Constraint) (f : NonEmpty s.lo s.hi) {d : ℕ} (a : At p (pieces Q s) d) where
  inside : Inside s p
  inside = (at_all (pieces_part Q s f) a).inside

  piece_inside : T (includes s.feature s.lo s.hi p)
  piece_inside = and_T (eqb s.feature p.feature) (is_inside s.lo s.hi p.lo p.hi) (eqb_of s.feature p.feature (sym inside.same)) inside.inside

-- ---- what the terms take passes

pub passes_held : (Q : Policy) {K : Vocabulary} {F : Form} {w : List ℕ} {t : Tables} → Tabled K F w t → (v : ℕ → Constraint) →
    any (λ c. holds_at v w t c 1) Q ≡ passes K Q (fill v F)
unfolding passes
passes_held [] h v = refl
passes_held (c ∷ l) h v = ap₂ (λ (a b : Bool). a || b) (holds_filled h v c) (passes_held l h v)

pub taken_any : {q dials w : List ℕ} {t : Tables} {taken : Taken} → Takes q dials w t taken → (v : ℕ → Constraint) → Choice v w t.constraints →
    Agrees dials w taken.dials v → any (λ c. holds_at v w t c 1) (policy_of q) ≡ true
taken_any {q} {w = w} {t = t} a v c g =
    same_test (any (λ c. holds_at v w t c 1) (policy_of q)) true (λ _. tt)
    (λ _. any_in (λ c. holds_at v w t c 1) (at_any a.known.within (is_true (a.takes v c g))))

-- ---- the first combination

value_none : (s : ℕ → ℕ) (n : ℕ) → value s (λ i. 0) n ≡ 0
value_none s zero = refl
value_none s (suc n) = rw (value_none s n) (omega (arith, zero-mul (s n)))

-- ---- the loop

-- what is asked of combinations by their digits is so where some term of q takes their pieces
abbrev Admits : List ℕ → List ℕ → Tables → ((ℕ → ℕ) → Bool) → Type 0
Admits q w₀ t P = (w : List ℕ) → Only (Pieces t.constraints) w₀ w → (e : ℕ → ℕ) → Valid (piece_count (policy_of q) w₀) t.constraints e →
    any (λ c. holds_at (chosen (policy_of q) w₀ e) w t c 1) (policy_of q) ≡ true → P e ≡ true

-- at counter c, counted from 1, the tables stand at that combination, and those before it are known to pass; at none all are. Term k took the last one
pub record Trying (q dials earlier carriers memory takers w₀ w : List ℕ) (t : Tables) (c k : Option ℕ) : Type 0 where
  pub only : Only (Pieces t.constraints) w₀ w
  pub size : length earlier ≡ length dials
  pub last : IfSome k (Term q)
  pub remembers : Remembers q carriers w t memory takers
  pub state : (P : (ℕ → ℕ) → Bool) → Admits q w₀ t P → Outcome (policy_of q) P dials earlier w t.constraints c

-- how many may be left
abbrev pub left : Option ℕ → ℕ
left None = 0
left (Some k) = suc (suc most_combinations - k)

module _ {q e dials counts earlier₀ w₀ : List ℕ} {t : Tables} (r : Searchable q e dials counts earlier₀ w₀ t) where
  abbrev Q : Policy
  Q = policy_of q

  abbrev n : ℕ
  n = t.constraints

  pub trying_starts : {carriers memory takers : List ℕ} → Remembers q carriers w₀ t memory takers → Trying q dials earlier₀ carriers memory takers w₀ w₀ t (Some 1) None
  trying_starts m = record {
    only = only_none;
    size = r.size;
    last = tt;
    remembers = m;
    state = λ P a. (
      λ i. 0,
      record {
        stands = r.first Q;
        number = ap suc (value_none (piece_count Q w₀) n);
        known = λ d h. behind_first refl;
      },
    );
  }

  module _ {earlier carriers memory takers w : List ℕ} {c k : Option ℕ} (y : Trying q dials earlier carriers memory takers w₀ w t c k) where
    sizes : piece_count Q w ≡ piece_count Q w₀
    sizes = fun_ext (λ j. ap (λ x. length (pieces Q x)) (constraint_kept y.only j))

    there : (e : ℕ → ℕ) → Valid (piece_count Q w) n e → Valid (piece_count Q w₀) n e
    there e v = subst (λ (s : ℕ → ℕ). Valid s n e) sizes v

    back : (e : ℕ → ℕ) → Valid (piece_count Q w₀) n e → Valid (piece_count Q w) n e
    back e v = subst (λ (s : ℕ → ℕ). Valid s n e) (sym sizes) v

    full_now : (m : ℕ) → m < n → NonEmpty (constraint_at w m).lo (constraint_at w m).hi
    full_now m h = rw (constraint_kept y.only m) (r.turnable.triable.splittable.full m h)

    now_dialled : Dialled dials w n
    now_dialled = record {
      dial = λ d h. rw (constraint_kept y.only (get_or dials d 0)) (r.turnable.dialled.dial d h);
      rising = r.turnable.dialled.rising;
      all = λ m h l. r.turnable.dialled.all m h (rw (constraint_kept y.only m) at l);
    }

    -- a constraint that is no dial has one piece
    still : (j : ℕ) → j < n → ((d : ℕ) → d < length dials → get_or dials d 0 ≡ j → ⊥) → piece_count Q w₀ j ≡ 1
    still j h f = ⊎_elim
        (λ a. let x = r.turnable.dialled.all j h a in absurd (f x.0 x.1 x.2))
        (λ a. let b = r.turnable.triable.splittable.full j h in one_piece Q (constraint_at w₀ j) (omega arith)) (order (constraint_at w₀ j).lo (constraint_at w₀ j).hi)

    -- ---- the form that the tables held at first

    module _ (K : Vocabulary) (F : Form) (h : Tabled K F w₀ t) where
      same : constraints_of F ≡ first_constraints w₀ n
      same = sym (constraints_at_lem h)

      tabled_now : (w : List ℕ) → Only (Pieces n) w₀ w → Tabled K F w t
      tabled_now w o = tabled_turned h o (r.turnable.triable.standing.individuals, r.turnable.triable.standing.constraints)

      admits : Admits q w₀ t (Passes K Q F w₀ n same)
      admits w o e v h = sym (passes_held Q (tabled_now w o) (chosen Q w₀ e)) ∙ h

    -- whoever took one that ended alike is a term
    pub trying_alike : (at : ℕ) {i : ℕ} {o : Option ℕ} → i ≡ get_or takers at 0 → o ≡ named i → IfSome o (Term q)
    trying_alike at {i} e h = rw h (go (eqb i 0) refl)
      where
        go : (b : Bool) → eqb i 0 ≡ b → IfSome (cond b None (Some i)) (Term q)
        go true n = tt
        go false n = rw e (y.remembers.terms at (λ z. eqb-false i 0 n (e ∙ z)))

    pub trying_ends : c ≡ None → Tried Q w₀ w t None
    trying_ends z = record {
      told = λ K F h. search_ends K Q F w₀ n (same K F h) (λ e v. subst (Outcome Q (Passes K Q F w₀ n (same K F h)) dials earlier w n) z (y.state _ (admits K F h)) e (back e v));
      only = y.only;
    }

    -- ---- at a combination

    module _ {i : ℕ} (z : c ≡ Some i) where
      standing : (P : (ℕ → ℕ) → Bool) → Admits q w₀ t P → (d : ℕ → ℕ) × Standing Q P dials earlier w n d i
      standing P a = subst (Outcome Q P dials earlier w n) z (y.state P a)

      plain : (d : ℕ → ℕ) × Standing Q (λ e. true) dials earlier w n d i
      plain = standing (λ e. true) (λ w o e v h. refl)

      chosen_now : (v : ℕ → Constraint) (d : ℕ → ℕ) → ((m : ℕ) → m < n → At (v m) (pieces Q (constraint_at w m)) (d m)) → Choice v w n
      chosen_now v d at = record {
        inside = λ m h. piece_inside Q (constraint_at w m) (v m) (full_now m h) (at m h);
        full = λ m h. (inside Q (constraint_at w m) (v m) (full_now m h) (at m h)).non_empty;
      }

      pub trying_askable : Askable q dials carriers w t memory
      trying_askable = record {
        testing = record {
          standing = record { long = omega (arith, y.only.size, r.turnable.triable.standing.long); individuals = r.turnable.triable.standing.individuals; constraints = r.turnable.triable.standing.constraints };
          nested = nested_kept y.only r.turnable.triable.standing.individuals r.turnable.triable.nested;
          chosen = chosen_now (piece_at w) plain.0 plain.1.stands;
          placed = λ d h. (now_dialled.dial d h).0;
          known = now_dialled.all;
          few = r.turnable.few;
        };
        listed = y.remembers.listed;
        sure = y.remembers.sure;
        some = r.turnable.triable.some;
        policy = r.turnable.triable.policy;
      }

      few_now : product Q (first_constraints w n) ≤ most_combinations
      few_now = rw (constraints_kept y.only n) r.turnable.triable.few

      below : i ≤ most_combinations
      below =
          let d = plain.0 in
          let s = piece_count Q w in
          let v : (j : ℕ) → j < 0 + n → d j < s j = λ j l. at_lt (plain.1.stands j (omega arith)) in
          let a = value_split s d 0 n in
          let l = low_lt s d 0 n v in
          let x : 0 + n ≡ n = omega arith in
          let b = ap (value s d) x in
          omega (arith, a, l, b, zero-mul (span s 0 n), plain.1.number, product_span Q w n, few_now)

      pub trying_skippable : Skippable e dials counts earlier w n i
      trying_skippable = record {
        split = record { splittable = splittable_kept y.only r.turnable.triable.splittable; policy = Q; ends = r.turnable.triable.ends; few = few_now };
        dialled = now_dialled;
        few = r.turnable.few;
        counted = record { size = r.counted.size; count = λ P a d h. r.counted.count P a d h ∙ ap (λ x. length (pieces P x)) (sym (constraint_kept y.only (get_or dials d 0))) };
        size = y.size;
        number = (omega (arith, plain.1.number), below);
      }

      -- no term takes it
      pub trying_fails : {memory' : List ℕ} {taken : Option Taken} → Taker q dials carriers w t memory' taken → taken ≡ None → Tried Q w₀ w t (Some i)
      trying_fails a h = record { told = go; only = y.only }
        where
          go : (K : Vocabulary) (F : Form) → Tabled K F w₀ t → Failure K Q F w t (Some i)
          go K F g =
              let s = standing (Passes K Q F w₀ n (same K F g)) (admits K F g) in
              let d = s.0 in
              let u = fill (piece_at w) F in
              let here : (j : ℕ) → j < n → At (piece_at w j) (pieces Q (constraint_at w₀ j)) (d j) =
              λ j l. subst (λ x. At (piece_at w j) (pieces Q x) (d j)) (constraint_kept y.only j) (s.1.stands j l) in
              let k : suc (value (piece_count Q w₀) d n) ≡ i = ap (λ (x : ℕ → ℕ). suc (value x d n)) (sym sizes) ∙ s.1.number in
              let known : Digits.Known (piece_count Q w₀) n (Passes K Q F w₀ n (same K F g)) dials earlier d =
              subst (λ (x : ℕ → ℕ). Digits.Known x n (Passes K Q F w₀ n (same K F g)) dials earlier d) sizes s.1.known in (
                u,
                subst (λ (x : ℕ). first_failing (passes K Q) 1 (combinations Q F) ≡ found x u) k
                    (search_fails K Q F w₀ n (same K F g) dials earlier r.turnable.dialled still d (λ j l. at_lt (here j l)) known u
                    (placed K Q F w₀ n (same K F g) d (piece_at w) here) (sym (passes_held Q (tabled_now K F g w y.only) (piece_at w)) ∙ a.none h)),
                combined K F w t (tabled_now K F g w y.only),
              )

      -- a term takes it: the search goes on behind what that covers
      module _ {memory' : List ℕ} {told : Option Taken} (a : Taker q dials carriers w t memory' told) {taken : Taken} (some : told ≡ Some taken) where
        takes : Takes q dials w t taken
        takes = subst (λ o. IfSome o (Takes q dials w t)) some a.taking.taken

        covers : (P : (ℕ → ℕ) → Bool) → Admits q w₀ t P → (d : ℕ → ℕ) → StandsAt Q w n d → Covers (piece_count Q w) n P d n (in_mask dials taken.dials)
        covers P admit d stands = record { pass = λ e v agree. admit w y.only e (there e v) (held e v agree) }
          where
            held : (e : ℕ → ℕ) → Valid (piece_count Q w) n e → ((j : ℕ) → j < n → in_mask dials taken.dials j ≡ true → e j ≡ d j) →
                any (λ c. holds_at (chosen Q w₀ e) w t c 1) Q ≡ true
            held e v agree =
                let at : (j : ℕ) → j < n → At (chosen Q w₀ e j) (pieces Q (constraint_at w j)) (e j) =
                λ j l. subst (λ x. At (chosen Q w₀ e j) (pieces Q x) (e j)) (sym (constraint_kept y.only j)) (chosen_at Q w₀ n e (there e v) j l) in
                taken_any takes (chosen Q w₀ e) (chosen_now (chosen Q w₀ e) e at)
                (record {
                  same = λ f l m. let g = now_dialled.dial f l in
                      at_same (at (get_or dials f 0) g.0) (subst (At (piece_at w (get_or dials f 0)) (pieces Q (constraint_at w (get_or dials f 0))))
                      (sym (agree (get_or dials f 0) g.0 (mask_bit dials taken.dials (get_or dials f 0) f l refl m))) (stands (get_or dials f 0) g.0));
                })

        module _ {w' earlier' : List ℕ} {c' : Option ℕ} (s : Skipped e dials earlier earlier' n taken.dials i w w' c') where
          pub trying_on : (at : ℕ) {takers' : List ℕ} → takers' ≡ set takers at taken.term → Trying q dials earlier' carriers memory' takers' w₀ w' t c' (Some taken.term)
          trying_on at {takers'} e = record {
            only = only_then y.only s.only;
            size = s.size ∙ y.size;
            last = takes.known;
            remembers = remembers_kept t s.only r.turnable.triable.standing.individuals (record { listed = y.remembers.listed; sure = a.taking.sure; terms = λ i. rw e (noted i) });
            state = λ P admit. let x = standing P admit in s.told Q P x.0 r.turnable.triable.ends x.1 (covers P admit x.0 x.1.stands);
          }
            where
              here : Known q taken.term
              here _ = takes.known

              noted : (i : ℕ) → Known q (get_or (set takers at taken.term) i 0)
              noted i = ⊎_elim
                  (λ l. go (eqb i at) refl l)
                  (λ l. let e : get_or (set takers at taken.term) i 0 ≡ 0 = get_or-eq_default (set takers at taken.term) 0 (omega (arith, length-set takers at taken.term)) in λ f. absurd (f e))
                  (order i (length takers))
                where
                  go : (b : Bool) → eqb i at ≡ b → i < length takers → Known q (get_or (set takers at taken.term) i 0)
                  go true eb l = rw (eqb-true i at eb, get_or-set_same takers at taken.term 0 (rw (← eqb-true i at eb) l)) here
                  go false eb l = rw (get_or-set_other takers at i taken.term 0 (eqb-false i at eb)) (y.remembers.terms i)

          pub trying_falls : left c' < left c
          trying_falls = rw z (go c' s.rises)
            where
              go : (d : Option ℕ) → IfSome d (λ j. i < j) → left d < left (Some i)
              go None h = omega (arith, below)
              go (Some j) h = omega (arith, below)
