-- The passes of `close`: each keeps the rows within what is above, and one that changes nothing leaves them closed. Assumes nothing.
use Prim.Native.Nat.{◌*◌, ◌+◌, ◌≤◌, ℕ}
use mathlib.Core.Bool.{Bool, ◌||◌, cond, false, true}
use mathlib.Core.List.{List, [], ◌∷◌, foldl}
use mathlib.Core.Logic.{◌⊎◌, inl, inr, ⊎_elim}
use mathlib.Core.Path.{◌∙◌, ◌≡◌, ap, refl, subst, sym}
use lib.Dec.{T, eqb}
use lib.ListN.{length}
use native.Mathlib.Omega.{arith}
use borrow.Author.Tests.{eq-eqb, eqb-false, eqb-true}
use Rattle.closure.proofs.Rows.{Fits, fill_rows_only, fill_rows_row, joined_grows, joined_in, joined_only, joined_other, joined_shut}
use Rattle.closure.proofs.Rows.{joined_still, row_length}
use Rattle.closure.specs.Rows.{Closed, begun, empty, joined, lift, lifted, row_of}
use Rattle.frames.proofs.Frames.{only_span, only_then}
use Rattle.frames.specs.Frames.{Only, Span}
use Rattle.meaning.specs.Limits.{most_classes}
use Rattle.meaning.specs.Lists.{◌∈◌, here, there}
use Rattle.meaning.specs.Records.{Name, is_name}
use Rattle.meaning.specs.Stated.{is_below, subclass, subclasses}
use Rattle.meaning.specs.Vocabulary.{Axiom, class_count, vocabulary_of, vocabulary_refusal}
use Rattle.theory.proofs.Bounds.{bounded, subclasses_named}
use Rattle.theory.proofs.Closure.{Steps, below_bounded, below_iff, below_refl, below_subclass, below_trans, start, then}
use Rattle.theory.proofs.Rules.{T_or, all_at, any_cases, any_none, is_true, or_left, same_test}
use Rattle.theory.proofs.Stated.{subclass_stated}
use Rattle.theory.proofs.Wellformed.{accepted_counts}
use Rattle.vocabulary.proofs.Chain.{foldl_flat_map}
use Rattle.words.proofs.Growth.{covered}
use Rattle.words.proofs.Laws.{in_including, in_zeros, length_including, named_within}
use Rattle.words.specs.Rows.{class_words}
use Rattle.words.specs.Sets.{in_set, including, union_of, word_sum}

-- d is in row c
abbrev pub In : List ℕ → ℕ → ℕ → Type 0
In w c d = T (in_set (row_of w c) d)

-- ---- the rows at first

alone_length : (c : ℕ) → length (including empty c) ≡ class_words
alone_length c = length_including empty c

alone_in : (c d : ℕ) → T (in_set (including empty c) d) → c ≡ d
alone_in c d t = go (eqb d c) refl (subst T (in_including empty c d) t)
  where
    go : (b : Bool) → eqb d c ≡ b → T (cond b (is_name most_classes d) (in_set empty d)) → c ≡ d
    go true e t = sym (eqb-true d c e)
    go false e t = absurd (subst T (in_zeros class_words d) t)

in_alone : (c : ℕ) → Name most_classes c → T (in_set (including empty c) c)
in_alone c n =
    let bit : cond (eqb c c) (is_name most_classes c) (in_set empty c) ≡ true =
    rw (eq-eqb c c refl) (named_within most_classes c n.0 n.1) in
    is_true (in_including empty c c ∙ bit)

module _ (n : ℕ) (w : List ℕ) (h : n * class_words ≤ length w) where
  pub begun_only : Only (Span 0 (n * class_words)) w (begun n w)
  begun_only = only_span (fill_rows_only 0 (including empty) alone_length w n (omega arith)) (omega arith) (omega arith)

  begun_row : (c : ℕ) → Name n c → row_of (begun n w) c ≡ including empty c
  begun_row c m =
      let same : 0 + c ≡ c = omega arith in
      ap (row_of (begun n w)) (sym same) ∙ fill_rows_row 0 (including empty) alone_length w n (omega arith) c m

-- ---- what each pass keeps

-- the rows of w, where close was handed w₀
pub record Held (v w₀ w : List ℕ) : Type 0 where
  pub only : Only (Span 0 (class_count v * class_words)) w₀ w
  pub sound : (a b : ℕ) → Name (class_count v) a → In w a b → T (is_below (vocabulary_of v) a b)
  pub self : (a : ℕ) → Name (class_count v) a → In w a a

-- row a has all of row b
abbrev Shut : List ℕ → ℕ × ℕ → Type 0
Shut w p = union_of (row_of w p.0) (row_of w p.1) ≡ row_of w p.0

module _ (v w₀ : List ℕ) (fits : class_count v * class_words ≤ length w₀) where
  pub held_starts : vocabulary_refusal v ≡ 0 → {w : List ℕ} → w ≡ begun (class_count v) w₀ → Held v w₀ w
  held_starts h e = rw e (record {
    only = begun_only (class_count v) w₀ fits;
    sound = λ a b n t.
        subst (λ (c : ℕ). T (is_below (vocabulary_of v) a c)) (alone_in a b (subst (λ (l : List ℕ). T (in_set l b)) (begun_row (class_count v) w₀ fits a n) t)) (below_refl (vocabulary_of v) a);
    self = λ a n.
        subst (λ (l : List ℕ). T (in_set l a)) (sym (begun_row (class_count v) w₀ fits a n)) (in_alone a (omega arith, omega (arith, (accepted_counts v h).0.1)));
  })

  module _ {w : List ℕ} (h : Held v w₀ w) where
    -- a class's row is in the slice
    pub held_fits : (c : ℕ) → Name (class_count v) c → Fits w c
    held_fits c n = (n.0, omega (arith, h.only.size))

    module _ (a b : ℕ) (m : (a, b) ∈ subclasses (vocabulary_of v)) (p : Name (class_count v) a) (q : Name (class_count v) b) where
      up : (d : ℕ) → In w a d ⊎ In w b d → T (is_below (vocabulary_of v) a d)
      up d (inl t) = h.sound a d p t
      up d (inr t) = below_trans (vocabulary_of v) a b d (below_subclass (vocabulary_of v) a b m) (h.sound b d q t)

      -- row a takes in row b
      held_joined : Held v w₀ (joined w a b)
      held_joined = record {
        only = only_then h.only (only_span (joined_only w a b (held_fits a p) (held_fits b q)) (omega arith) (omega arith));
        sound = λ c d n t. sound_at c d n (eqb a c) refl t;
        self = λ c n. self_at c n (eqb a c) refl;
      }
        where
          in_a : (d : ℕ) → in_set (row_of (joined w a b) a) d ≡ in_set (row_of w a) d || in_set (row_of w b) d
          in_a = joined_in w a b (held_fits a p) (held_fits b q)

          other : (c d : ℕ) → Name (class_count v) c → eqb a c ≡ false → in_set (row_of (joined w a b) c) d ≡ in_set (row_of w c) d
          other c d n e = ap (λ (l : List ℕ). in_set l d) (joined_other w a b (held_fits a p) (held_fits b q) c n.0 (eqb-false a c e))

          sound_at : (c d : ℕ) → Name (class_count v) c → (s : Bool) → eqb a c ≡ s → In (joined w a b) c d → T (is_below (vocabulary_of v) c d)
          sound_at c d n true e t =
              subst (λ (i : ℕ). In (joined w a b) i d → T (is_below (vocabulary_of v) i d)) (eqb-true a c e)
              (λ r. up d (T_or (in_set (row_of w a) d) (in_set (row_of w b) d) (subst T (in_a d) r))) t
          sound_at c d n false e t = h.sound c d n (subst T (other c d n e) t)

          self_at : (c : ℕ) → Name (class_count v) c → (s : Bool) → eqb a c ≡ s → In (joined w a b) c c
          self_at c n true e =
              subst (λ (i : ℕ). In (joined w a b) i i) (eqb-true a c e) (subst T (sym (in_a a)) (or_left (in_set (row_of w a) a) (in_set (row_of w b) a) (h.self a p)))
          self_at c n false e = subst T (sym (other c c n e)) (h.self c n)

  module _ (r : vocabulary_refusal v ≡ 0) where
    -- the names of a pair that is stated
    pair_named : (p : ℕ × ℕ) → p ∈ subclasses (vocabulary_of v) → Name (class_count v) p.0 × Name (class_count v) p.1
    pair_named p m = all_at (subclasses_named v r) m

    -- the pairs of a pass, or of what is left of it
    abbrev Stated : List (ℕ × ℕ) → Type 0
    Stated R = (p : ℕ × ℕ) → p ∈ R → p ∈ subclasses (vocabulary_of v)

    later : {p : ℕ × ℕ} {R : List (ℕ × ℕ)} → Stated (p ∷ R) → Stated R
    later s q m = s q (there m)

    -- a pair's step
    held_lift : {w : List ℕ} → Held v w₀ w → (p : ℕ × ℕ) → p ∈ subclasses (vocabulary_of v) → Held v w₀ (lift w p)
    held_lift h p m = let n = pair_named p m in held_joined h p.0 p.1 m n.0 n.1

    -- which never lowers the words' sum
    lift_grows : {w : List ℕ} → Held v w₀ w → (p : ℕ × ℕ) → p ∈ subclasses (vocabulary_of v) → word_sum w ≤ word_sum (lift w p)
    lift_grows {w} h p m = let n = pair_named p m in joined_grows w p.0 p.1 (held_fits h p.0 n.0) (held_fits h p.1 n.1)

    lift_shut : {w : List ℕ} → Held v w₀ w → (p : ℕ × ℕ) → p ∈ subclasses (vocabulary_of v) → word_sum (lift w p) ≤ word_sum w → Shut w p × (lift w p ≡ w)
    lift_shut {w} h p m l =
        let n = pair_named p m in
        let shut = joined_shut w p.0 p.1 (held_fits h p.0 n.0) (held_fits h p.1 n.1) l in
        (shut, joined_still w p.0 p.1 (held_fits h p.0 n.0) (held_fits h p.1 n.1) shut)

    held_pass : {w : List ℕ} → Held v w₀ w → (R : List (ℕ × ℕ)) → Stated R → Held v w₀ (foldl lift w R)
    held_pass h [] s = h
    held_pass {w = w} h (p ∷ R) s = held_pass {w = lift w p} (held_lift h p (s p (here refl))) R (later s)

    -- a record's step
    pub held_lifted : {w : List ℕ} → Held v w₀ w → (x : Axiom) → x ∈ (vocabulary_of v).axioms → Held v w₀ (lifted w x)
    held_lifted h x m = held_pass h (subclass x) (subclass_stated (vocabulary_of v) x m)

    pass_grows : {w : List ℕ} → Held v w₀ w → (R : List (ℕ × ℕ)) → Stated R → word_sum w ≤ word_sum (foldl lift w R)
    pass_grows h [] s = omega arith
    pass_grows {w = w} h (p ∷ R) s =
        let first = lift_grows h p (s p (here refl)) in
        omega (arith, pass_grows {w = lift w p} (held_lift h p (s p (here refl))) R (later s))

    -- a pass that changes nothing finds every pair's rows shut
    pass_shut : {w : List ℕ} → Held v w₀ w → (R : List (ℕ × ℕ)) → Stated R → foldl lift w R ≡ w → (p : ℕ × ℕ) → p ∈ R → Shut w p
    pass_shut h [] s e p m = absurd (any_none m)
    pass_shut {w} h (q ∷ R) s e p m =
        let grows = pass_grows (held_lift h q (s q (here refl))) R (later s) in
        let end = ap word_sum e in
        let step = lift_shut h q (s q (here refl)) (omega arith) in
        ⊎_elim (λ k. subst (Shut w) (sym k) step.0) (pass_shut h R (later s) (subst (λ (u : List ℕ). foldl lift u R ≡ w) step.1 e) p) (any_cases m)

  module _ (r : vocabulary_refusal v ≡ 0) {w : List ℕ} (h : Held v w₀ w) where
    -- a pass goes pair by pair
    pairwise : foldl lifted w (vocabulary_of v).axioms ≡ foldl lift w (subclasses (vocabulary_of v))
    unfolding subclasses
    pairwise = foldl_flat_map lift subclass w (vocabulary_of v).axioms

    pub held_on : {u : List ℕ} → u ≡ foldl lifted w (vocabulary_of v).axioms → Held v w₀ u
    held_on e = rw (e ∙ pairwise) (held_pass r h (subclasses (vocabulary_of v)) (λ p m. m))

    module _ (e : foldl lifted w (vocabulary_of v).axioms ≡ w) where
      -- along the records upward, what is above stands in every row on the way
      carried : {a c : ℕ} → Steps (subclasses (vocabulary_of v)) a c → (d : ℕ) → In w c d → In w a d
      carried (start e) d t = subst (λ (i : ℕ). In w i d) (sym e) t
      carried (then {b = b} {c = c} s m) d t =
          let n = pair_named r (b, c) m in
          let lower = row_length w b (held_fits h b n.0) in
          let upper = row_length w c (held_fits h c n.1) in
          carried s d (covered (row_of w b) (row_of w c) (omega arith) (pass_shut r h (subclasses (vocabulary_of v)) (λ p k. k) (sym pairwise ∙ e) (b, c) m) d t)

      bounded_above : (a b : ℕ) → Name (class_count v) a → T (is_below (vocabulary_of v) a b) → Name (class_count v) b
      unfolding vocabulary_of
      bounded_above a b n t = below_bounded (vocabulary_of v) (bounded v r) a b n t

      complete : (a b : ℕ) → Name (class_count v) a → T (is_below (vocabulary_of v) a b) → In w a b
      complete a b n t = carried ((below_iff (vocabulary_of v) a b).0 t) b (h.self b (bounded_above a b n t))

      pub held_closed : Closed v w₀ w
      held_closed = record {
        only = h.only;
        closed = record {
          fits = omega (arith, h.only.size);
          rows = λ a b n. same_test (in_set (row_of w a) b) (is_below (vocabulary_of v) a b) (h.sound a b n) (complete a b n);
        };
      }
