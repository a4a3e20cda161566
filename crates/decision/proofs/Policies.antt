-- A policy: the first term to fail, the report, and one term of the loop.
use Prim.Native.Nat.{◌*◌, ◌+◌, ◌<◌, ◌≤◌, suc, ℕ}
use mathlib.Core.Bool.{Bool, ◌||◌, cond, false, true}
use mathlib.Core.List.{List, [], ◌++◌, ◌∷◌}
use mathlib.Core.Path.{◌∙◌, ◌≡◌, ap, refl, subst, sym}
use lib.ListN.{drop, length, take}
use lib.Seq.{take_at}
use native.Mathlib.Omega.{arith}
use Rattle.std.specs.Prelude.{Err, Ok, Result}
use borrow.Author.Tests.{le-leb, lt-leb}
use Rattle.decision.specs.Decisions.{Countable, Delivers, Failed, Failure, Reports, StoppedPair, decision, exceeds, settled}
use Rattle.frames.proofs.Frames.{only_then}
use Rattle.frames.proofs.Work.{outputs_none}
use Rattle.frames.specs.Frames.{Only}
use Rattle.functional.specs.declared.Functional.{Functional}
use Rattle.layout.specs.Places.{InTables}
use Rattle.layout.specs.Tables.{Standing}
use Rattle.layout.specs.declared.Tables.{Tables}
use Rattle.meaning.specs.Accepted.{ChainOf}
use Rattle.meaning.specs.Answers.{VerdictResult, outside, result}
use Rattle.meaning.specs.Containment.{contained, crowded, decide, decide_from, escapes, first_failure, or_escape, passes, resolve, too_many}
use Rattle.meaning.specs.Countermodel.{canonical_model, countermodel, individuals}
use Rattle.meaning.specs.Limits.{most_classes}
use Rattle.meaning.specs.Lists.{◌∈◌, any, first_failing, found, here, nowhere, there}
use Rattle.meaning.specs.Normal.{Bounded, Normal}
use Rattle.meaning.specs.NormalForm.{Form, normal_form, possible}
use Rattle.meaning.specs.Operations.{Outcome, compliance_of, output_after, reported, says, written}
use Rattle.meaning.specs.Policy.{Chain, Policy, next_of, policy_of, term_at}
use Rattle.meaning.specs.Records.{Name}
use Rattle.meaning.specs.Splitting.{combinations}
use Rattle.meaning.specs.Vocabulary.{Vocabulary, class_count, feature_count, role_count, vocabulary_of, vocabulary_refusal}
use Rattle.meaning.specs.declared.Verdict.{Verdict}
use Rattle.policy.proofs.Terms.{Asking, asking_found, asking_on, asking_term}
use Rattle.preparation.specs.Prepared.{Prepared}
use Rattle.short_way.proofs.Passing.{ready_still}
use Rattle.short_way.specs.Stops.{Behind, LeftAt, PreparedPair, Stops, StopsAt, StopsBy}
use Rattle.std.specs.Prelude.{None, Option, Some}
use Rattle.short_way.specs.declared.Stop.{Stop}
use Rattle.tabulation.specs.Tabulation.{Tabulated}
use Rattle.meaning.specs.declared.Verdict.TheVariants as verdict
use Rattle.meaning.specs.declared.refusals.Refusal.{Refusal}
use Rattle.meaning.specs.declared.refusals.Refusal.TheVariants as refusal
use Rattle.decision.proofs.Terms.{pieces_tables}
use Rattle.theory.proofs.Bounds.{bounded, chain_bounded}
use Rattle.theory.proofs.Containment.{witness}
use Rattle.theory.proofs.ModelWords.{model_length}
use Rattle.theory.proofs.Normal.{BoundedChain}
use Rattle.theory.proofs.Rules.{is_true}
use Rattle.theory.proofs.ShortWay.{decide_behind, resolve_decide, short_agrees, short_uncrowded, split_crowded}
use Rattle.theory.proofs.Wellformed.{accepted_counts}

-- ---- the first term to fail

found_in : {A : Type 0} (f : A → Bool) (s : ℕ) (l : List A) {k : ℕ} {x : A} → first_failing f s l ≡ found k x → x ∈ l
found_in f s [] e = absurd (let z : ◌≡◌ {A = ℕ} 0 1 = cc in omega arith)
found_in f s (y ∷ l) {k} {x} e = go (f y) (λ h. found_in f (suc s) l h) e
  where
    go : (b : Bool) → (first_failing f (suc s) l ≡ found k x → x ∈ l) → cond b (first_failing f (suc s) l) (found s y) ≡ found k x → x ∈ (y ∷ l)
    go true r e = there (r e)
    go false r e = here (let z : x ≡ y = cc in z)

-- the combination that fails is as normal as the term's normal form
pub fails_normal : (K : Vocabulary) → Bounded K → (Q : Policy) (c : Chain) (r : ℕ) (u : Form) → BoundedChain K.classes c → first_failure K Q c ≡ found r u → Normal (Name K.classes) K u
unfolding first_failure
fails_normal K b Q c r u f e = go (possible K c) refl e
  where
    go : (t : Bool) → possible K c ≡ t → cond t (first_failing (passes K Q) 1 (combinations Q (normal_form K c))) nowhere ≡ found r u → Normal (Name K.classes) K u
    go true p e = (witness K b Q c f (is_true p) u (found_in (passes K Q) 1 (combinations Q (normal_form K c)) e)).ready.normal
    go false p e = absurd (let z : ◌≡◌ {A = ℕ} 0 1 = cc in omega arith)

-- what the rest decides is what all decide, and none of the rest has too many combinations
abbrev pub Undecided : List ℕ → List ℕ → List ℕ → ℕ → Policy → Type 0
Undecided v p q s l =
    (decide_from (vocabulary_of v) (policy_of q) s l ≡ decide (vocabulary_of v) (policy_of p) (policy_of q)) × (any (exceeds (vocabulary_of v) (policy_of q)) l ≡ false)

drop_or : (a : Bool) {b : Bool} → (a || b) ≡ false → b ≡ false
drop_or true h = cc
drop_or false h = h

module _ (v p q : List ℕ) where
  -- where those before them pass whole
  undecided_behind : too_many (vocabulary_of v) (policy_of p) (policy_of q) ≡ false → {s : ℕ} {l : Policy} → Behind v p q s l → Undecided v p q s l
  unfolding too_many decide
  undecided_behind h {s} {l} b = (
    ap (λ (j : ℕ). decide_from (vocabulary_of v) (policy_of q) j l) (let e : s ≡ 1 + length b.before = omega (arith, b.place) in e) ∙ sym (decide_behind (vocabulary_of v) (policy_of q) 1 b.before l b.passed)
        ∙ ap (decide_from (vocabulary_of v) (policy_of q) 1) (sym b.split),
    go b.before (rw b.split at h),
  )
    where
      go : (before : Policy) → any (exceeds (vocabulary_of v) (policy_of q)) (before ++ l) ≡ false → any (exceeds (vocabulary_of v) (policy_of q)) l ≡ false
      go [] e = e
      go (c ∷ before) e = go before (drop_or (exceeds (vocabulary_of v) (policy_of q) c) e)

  pub undecided_starts : {s k : ℕ} → too_many (vocabulary_of v) (policy_of p) (policy_of q) ≡ false → LeftAt v p q s k → Asking (Undecided v p q) v p s k
  undecided_starts h l = record { walk = record { left = l.left; along = l.along; holds = (l.room, undecided_behind h l.behind) } }

  module _ (s : ℕ) (c : Chain) (l : Policy) (u : Undecided v p q s (c ∷ l)) where
    pub undecided_few : exceeds (vocabulary_of v) (policy_of q) c ≡ false
    undecided_few = go (exceeds (vocabulary_of v) (policy_of q) c) u.1
      where
        go : (b : Bool) → (b || any (exceeds (vocabulary_of v) (policy_of q)) l) ≡ false → b ≡ false
        go true h = h
        go false h = refl

    pub undecided_found : {r : ℕ} {x : Form} → first_failure (vocabulary_of v) (policy_of q) c ≡ found r x → escapes s r x ≡ decide (vocabulary_of v) (policy_of p) (policy_of q)
    undecided_found e = sym (ap (λ y. or_escape s y (decide_from (vocabulary_of v) (policy_of q) (suc s) l)) e) ∙ u.0

    pub undecided_on : first_failure (vocabulary_of v) (policy_of q) c ≡ nowhere → Undecided v p q (s + 1) l
    undecided_on e =
        let i : suc s ≡ s + 1 = omega arith in (
          sym (ap (λ (j : ℕ). decide_from (vocabulary_of v) (policy_of q) j l) i) ∙ sym (ap (λ y. or_escape s y (decide_from (vocabulary_of v) (policy_of q) (suc s) l)) e) ∙ u.0,
          ap (λ (b : Bool). b || any (exceeds (vocabulary_of v) (policy_of q)) l) (sym undecided_few) ∙ u.1,
        )

-- ---- the report

pub countermodel_length : (K : Vocabulary) (u : Form) → length (countermodel K u) ≡ 5 * (length (canonical_model K u) + 1)
unfolding countermodel
countermodel_length K u = model_length (individuals u) (canonical_model K u)

-- the words written stand at the front of the output
pub taken : (words o : List ℕ) {o' : List ℕ} (n : ℕ) → n ≡ length words → o' ≡ output_after words o → words ≡ take n o'
unfolding output_after
taken words o n e d = sym (ap (take n) d ∙ take_at words (drop (length words) o) n (sym e))

module _ (s q : ℕ) (words o : List ℕ) where
  pub reports_23 : length o < length words → Delivers (written (length o) (outside s q) words) o o (Err refusal.Output)
  reports_23 h = rw (lt-leb (length words) (length o) h) (record { answer = refl; output = outputs_none o })

  pub reports_words : {o' : List ℕ} {n : ℕ} → length words ≤ length o → n ≡ length words → o' ≡ output_after words o →
      Delivers (written (length o) (outside s q) words) o o' (Ok (verdict.Outside s q n))
  reports_words h e d = rw (le-leb (length words) (length o) h) (record { answer = ap (λ (k : ℕ). result (outside s q k)) e; output = d })

-- ---- what is decided

module _ (K : Vocabulary) (P Q : Policy) (o : List ℕ) where
  abbrev told : Outcome VerdictResult
  told = reported K (length o) outside (resolve K P Q) (says Rattle.meaning.specs.Answers.compliant)

  pub delivers_compliant : {o' : List ℕ} → o' ≡ o → contained ≡ decide K P Q → Delivers told o o' (Ok verdict.Compliant)
  delivers_compliant h e = rw (resolve_decide K P Q ∙ sym e) (record { answer = refl; output = h ∙ outputs_none o })

  pub delivers_report : {s q : ℕ} {u : Form} {o' : List ℕ} {r : Result Verdict Refusal} → escapes s q u ≡ decide K P Q → Delivers (written (length o) (outside s q) (countermodel K u)) o o' r →
      Delivers told o o' r
  delivers_report e d = rw (resolve_decide K P Q ∙ sym e) d

-- ---- what is known of an accepted vocabulary and of its terms

few_classes : (v : List ℕ) → vocabulary_refusal v ≡ 0 → (vocabulary_of v).classes ≤ most_classes
unfolding vocabulary_of
few_classes v e = (accepted_counts v e).0.1

term_bounded : (v : List ℕ) (c : Chain) → ChainOf v c → BoundedChain (vocabulary_of v).classes c
unfolding vocabulary_of
term_bounded v c h = chain_bounded (class_count v) (role_count v) (feature_count v) c h

-- ---- one term of the loop

module _ {c : Chain} {f : Functional} {Q : Policy} {w w' w'' : List ℕ} {t : Tables} {r : Option ℕ} (d : Tabulated c f w w' t) (g : Failed Q w' w'' t r) where
  pub term_standing : Standing w'' t
  term_standing =
      record { long = omega arith; individuals = d.standing.individuals; constraints = d.standing.constraints }

  pub term_only : Only InTables w w''
  term_only = only_then d.only (pieces_tables d.standing.constraints g.only)

module _ {v p : List ℕ} (q : List ℕ) {s k : ℕ} (a : Asking (Undecided v p q) v p s k) (n : k ≡ 0 → ⊥) where
  pub term_few : exceeds (vocabulary_of v) (policy_of q) (term_at p k) ≡ false
  term_few = asking_found a n (λ l u. undecided_few v p q s (term_at p k) l u)

  module _ {f : Functional} {w w' w'' : List ℕ} {t : Tables} {r : Option ℕ} (b : Prepared v w f) (d : Tabulated (term_at p k) f w w' t) (g : Failed (policy_of q) w' w'' t r) where
    abbrev failure : Failure (vocabulary_of v) (policy_of q) (term_at p k) w'' t r
    failure = g.told v (term_at p k) (d.impossible v b (asking_term a n).named) (d.tabled v b (asking_term a n).named)

    pub term_fails : {o o₀ o' : List ℕ} {x : Result Verdict Refusal} {first : ℕ} → r ≡ Some first → o ≡ o₀ → Reports s first w'' t o o' x → Delivers (decision v p q (length o₀)) o₀ o' x
    term_fails {o} {o₀} {o'} {x} {first} z e y =
        let i = subst (Failure (vocabulary_of v) (policy_of q) (term_at p k) w'' t) z failure in
        let h = bounded v b.accepted in
        let m = fails_normal (vocabulary_of v) h (policy_of q) (term_at p k) first i.0 (term_bounded v (term_at p k) (asking_term a n).named) i.1 in
        delivers_report (vocabulary_of v) (policy_of p) (policy_of q) o₀ (asking_found a n (λ l u. undecided_found v p q s (term_at p k) l u i.1))
        (subst (λ (l : List ℕ). Delivers (written (length l) (outside s first) (countermodel (vocabulary_of v) i.0)) l o' x) e
        (y (vocabulary_of v) i.0 (record { few = few_classes v b.accepted; bounded = h; normal = m; combined = i.2 })))

    pub term_passes : {j : ℕ} → r ≡ None → j ≡ next_of p k → Asking (Undecided v p q) v p (s + 1) j
    term_passes z e = asking_on a n e (λ l u. undecided_on v p q s (term_at p k) l u (subst (Failure (vocabulary_of v) (policy_of q) (term_at p k) w'' t) z failure))

-- ---- from the stop on

pub pair_stopped : {v p q w w' : List ℕ} {f : Functional} {stop : Option Stop} → PreparedPair v p q w f → Only InTables w w' → StopsBy p q w f stop → StoppedPair v p q w' f stop
pair_stopped {v} r o h = record { ready = ready_still r o; stops = h v r }

module _ {v p q w : List ℕ} {f : Functional} {stop : Option Stop} (a : StoppedPair v p q w f stop) where
  abbrev K : Vocabulary
  K = vocabulary_of v

  pub settles_short : (o : List ℕ) → stop ≡ None → Delivers (settled v p q (length o)) o o (Ok verdict.Compliant)
  unfolding compliance_of
  settles_short o z =
      let e = subst (Stops v p q) z a.stops in
      rw (short_uncrowded K (policy_of p) (policy_of q) e)
      (delivers_compliant K (policy_of p) (policy_of q) o refl (sym (short_agrees K (policy_of p) (policy_of q) e)))

  module _ {at : Stop} (n : stop ≡ Some at) {b : Bool} (e : b ≡ too_many (vocabulary_of v) (policy_of p) (policy_of q)) where
    stops_at : StopsAt v p q at
    stops_at = subst (Stops v p q) n a.stops

    pub stopped_crowded : b ≡ crowded (vocabulary_of v) (policy_of p) (policy_of q)
    stopped_crowded = e ∙ sym (split_crowded K (policy_of p) (policy_of q) stops_at.fails)

    pub settles_22 : (o : List ℕ) → b ≡ true → Delivers (settled v p q (length o)) o o (Err refusal.Combinations)
    unfolding compliance_of
    settles_22 o h = rw (sym stopped_crowded ∙ h) (record { answer = refl; output = outputs_none o })

    module _ (h : b ≡ false) where
      pub stopped_countable : {w' : List ℕ} → Only InTables w w' → Countable v p q w' f at.place at.term
      stopped_countable o = record { ready = ready_still a.ready o; left = stops_at.left; few = sym e ∙ h }

      pub settles_split : (o : List ℕ) {o' : List ℕ} {r : Result Verdict Refusal} → Delivers (decision v p q (length o)) o o' r → Delivers (settled v p q (length o)) o o' r
      unfolding compliance_of
      settles_split o d = rw (sym stopped_crowded ∙ h) d
