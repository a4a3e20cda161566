-- The tests of the tables are those of the form.
use Prim.Native.Nat.{◌+◌, suc, ℕ}
use mathlib.Core.Bool.{Bool, ◌&&◌, and_assoc, and-false, and-true, false, not, true}
use mathlib.Core.List.{List, [], ◌++◌, ◌∷◌, append-nil, map}
use mathlib.Core.Path.{◌∙◌, ◌≡◌, ap, ap₂, refl, sym}
use lib.Dec.{T}
use lib.ListN.{length}
use native.Mathlib.Omega.{arith}
use Rattle.layout.proofs.Entries.{held_in_lem}
use Rattle.layout.specs.Tables.{Above, ConstraintsStand, Held, RowsStand, Tabled, constraint_at, held_below, held_by, held_in, set_at}
use Rattle.layout.specs.declared.Tables.{Tables}
use Rattle.meaning.specs.Countermodel.{size}
use Rattle.meaning.specs.Intervals.{Constraint, is_non_empty}
use Rattle.meaning.specs.Lists.{Any, ◌∈◌, all, counting}
use Rattle.meaning.specs.NormalForm.{Form, Successors, are_non_empty, clash, clean_node, clean_successors, compatible, none, successor}
use Rattle.meaning.specs.Stated.{disjoint_pairs, is_below}
use Rattle.meaning.specs.Vocabulary.{Vocabulary, vocabulary_of}
use Rattle.pairs.specs.Pairs.{PairRows, agree_in, has_both, pair_at, pair_count}
use Rattle.tabulation.specs.Clean.{DecidesClean, agree, clean_form, non_empty_at}
use Rattle.theory.proofs.Counting.{counting_append}
use Rattle.theory.proofs.Rules.{T_and, all_at, all_in, all_of, all_out, and_T, any_at, any_in, any_out, at_any, same_test}
use Rattle.words.specs.Sets.{in_set}

-- ---- all of a list

all_append : {A : Type 0} (p : A → Bool) (l m : List A) → all p (l ++ m) ≡ all p l && all p m
all_append p [] m = refl
all_append p (x ∷ l) m = ap (λ (b : Bool). p x && b) (all_append p l m) ∙ sym (and_assoc (p x) (all p l) (all p m))

all_map : {A B : Type 0} (p : B → Bool) (f : A → B) (l : List A) → all p (map f l) ≡ all (λ x. p (f x)) l
all_map p f [] = refl
all_map p f (x ∷ l) = ap (λ (b : Bool). p (f x) && b) (all_map p f l)

all_same : (p q : ℕ → Bool) → ((i : ℕ) → p i ≡ q i) → (l : List ℕ) → all p l ≡ all q l
all_same p q h [] = refl
all_same p q h (x ∷ l) = ap₂ (λ (a b : Bool). a && b) (h x) (all_same p q h l)

-- ---- constraints

-- the list's constraints have values
abbrev non_empty_all : List Held → Bool
non_empty_all l = all (λ h. is_non_empty h.constraint.lo h.constraint.hi) l

non_empty_words : (w : List ℕ) (m : ℕ) (l : List Held) → ConstraintsStand w m l → all (non_empty_at w) (counting m (length l)) ≡ non_empty_all l
non_empty_words w m [] s = refl
non_empty_words w m (h ∷ l) s =
    ap₂ (λ (a b : Bool). a && b) (ap (λ (k : Held). is_non_empty k.constraint.lo k.constraint.hi) s.0) (non_empty_words w (suc m) l s.1)

non_empty_held : (x : ℕ) (l : List Constraint) → non_empty_all (held_by x l) ≡ are_non_empty l
non_empty_held x [] = refl
non_empty_held x (s ∷ l) = ap (λ (b : Bool). is_non_empty s.lo s.hi && b) (non_empty_held x l)

-- ---- sets

module _ (K : Vocabulary) (ws cs : List ℕ) (told : Above K ws cs) where
  -- some class of the individual is below b
  has : (b : ℕ) → T (in_set ws b) → Any (λ a. T (is_below K a b)) cs
  has b t = any_out (λ a. is_below K a b) cs (rw (told b) at t)

  in_set_lem : (a b : ℕ) → a ∈ cs → T (is_below K a b) → T (in_set ws b)
  in_set_lem a b m t = rw (told b) (any_in (λ c. is_below K c b) (at_any m t))

  clash_both : (a b : ℕ) (p : ℕ × ℕ) → a ∈ cs → b ∈ cs → T (is_below K a p.0 && is_below K b p.1) → T (has_both ws p)
  clash_both a b p m n t =
      let u = T_and (is_below K a p.0) (is_below K b p.1) t in
      and_T (in_set ws p.0) (in_set ws p.1) (in_set_lem a p.0 m u.0) (in_set_lem b p.1 n u.1)

  both_clash : (p : ℕ × ℕ) → T (has_both ws p) → (a : ℕ) × (b : ℕ) × (a ∈ cs) × (b ∈ cs) × T (is_below K a p.0 && is_below K b p.1)
  both_clash p t =
      let u = T_and (in_set ws p.0) (in_set ws p.1) t in
      let x = any_at (has p.0 u.0) in
      let y = any_at (has p.1 u.1) in
      (x.0, y.0, x.1, y.1, and_T (is_below K x.0 p.0) (is_below K y.0 p.1) x.2 y.2)

  no : (b : Bool) → (T b → ⊥) → T (not b)
  no true f = absurd (f tt)
  no false f = tt

  never : (b : Bool) → T (not b) → T b → ⊥
  never true f t = f
  never false f t = t

  -- rule 7, told by the closed set
  agree_compatible : agree K ws ≡ compatible K cs
  unfolding agree
  agree_compatible = same_test (all (λ p. not (has_both ws p)) (disjoint_pairs K)) (compatible K cs) there back
    where
      there : T (all (λ p. not (has_both ws p)) (disjoint_pairs K)) → T (compatible K cs)
      there t =
          all_in (λ a. all (λ b. not (clash K a b)) cs) (all_of cs (λ a m. all_in (λ b. not (clash K a b)) (all_of cs (λ b n. no (clash K a b) (λ c.
          let s = any_at (any_out (λ p. is_below K a p.0 && is_below K b p.1) (disjoint_pairs K) c) in
          never (has_both ws s.0) (all_at (all_out (λ p. not (has_both ws p)) (disjoint_pairs K) t) s.1) (clash_both a b s.0 m n s.2))))))

      back : T (compatible K cs) → T (all (λ p. not (has_both ws p)) (disjoint_pairs K))
      back t =
          all_in (λ p. not (has_both ws p)) (all_of (disjoint_pairs K) (λ p m. no (has_both ws p) (λ h.
          let s = both_clash p h in
          never (clash K s.0 s.1)
          (all_at (all_out (λ b. not (clash K s.0 b)) cs (all_at (all_out (λ a. all (λ b. not (clash K a b)) cs) cs t) s.2)) s.3)
          (any_in (λ p. is_below K s.0 p.0 && is_below K s.1 p.1) (at_any m s.4)))))

-- ---- the list of pairs

-- the list tells what the vocabulary says
listed_agree : {v w : List ℕ} → PairRows v w → (ws : List ℕ) → agree_in w ws ≡ agree (vocabulary_of v) ws
unfolding agree agree_in
listed_agree {v} {w} h ws =
    sym (all_map (λ p. not (has_both ws p)) (pair_at w) (counting 0 (pair_count w))) ∙ ap (all (λ p. not (has_both ws p))) h.rows

-- ---- the form

-- three tests of two parts, as two of three
parts_of : (a b c d e f : Bool) → (a && b) && ((c && d) && (e && f)) ≡ (a && (c && e)) && (b && (d && f))
parts_of false b c d e f = refl
parts_of true false c d e f = sym (and-false (c && e))
parts_of true true false d e f = refl
parts_of true true true true e f = refl
parts_of true true true false e f = sym (and-false e)

module _ (K : Vocabulary) (w : List ℕ) where
  compatible_all : Successors → Bool
  compatible_all none = true
  compatible_all (successor r n under next) = compatible K n.classes && (compatible_all under && compatible_all next)

  agree_rows : (ks : Successors) (i n : ℕ) → RowsStand K w ks i n → all (λ j. agree K (set_at w j)) (counting n (size ks)) ≡ compatible_all ks
  unfolding compatible_all
  agree_rows none i n s = refl
  agree_rows (successor r m under next) i n s =
      let e : 1 + size under + size next ≡ suc (size under + size next) = omega arith in
      ap (λ (k : ℕ). all (λ j. agree K (set_at w j)) (counting n k)) e
      ∙ ap (λ (b : Bool). b && all (λ j. agree K (set_at w j)) (counting (suc n) (size under + size next))) (agree_compatible K (set_at w n) m.classes s.0.classes)
      ∙ ap (λ (b : Bool). compatible K m.classes && b)
      (ap (all (λ j. agree K (set_at w j))) (counting_append (suc n) (size under) (size next))
      ∙ all_append (λ j. agree K (set_at w j)) (counting (suc n) (size under)) (counting (suc n + size under) (size next))
      ∙ ap (λ (b : Bool). b && all (λ j. agree K (set_at w j)) (counting (suc n + size under) (size next))) (agree_rows under (suc n) (suc n) s.1)
      ∙ ap (λ (b : Bool). compatible_all under && b) (agree_rows next i (suc n + size under) s.2))

  clean_parts : (ks : Successors) (k : ℕ) → clean_successors K ks ≡ non_empty_all (held_below ks k) && compatible_all ks
  unfolding compatible_all
  clean_parts none k = refl
  clean_parts (successor r n under next) k =
      ap (λ (b : Bool). (are_non_empty n.constraints && compatible K n.classes) && (b && clean_successors K next)) (clean_parts under (suc k))
      ∙ ap (λ (b : Bool). (are_non_empty n.constraints && compatible K n.classes) && ((non_empty_all (held_below under (suc k)) && compatible_all under) && b)) (clean_parts next (suc k + size under))
      ∙ parts_of (are_non_empty n.constraints) (compatible K n.classes) (non_empty_all (held_below under (suc k))) (compatible_all under) (non_empty_all (held_below next (suc k + size under))) (compatible_all next)
      ∙ ap (λ (b : Bool). b && (compatible K n.classes && (compatible_all under && compatible_all next))) (sym whole)
    where
      whole : non_empty_all (held_below (successor r n under next) k) ≡ are_non_empty n.constraints && (non_empty_all (held_below under (suc k)) && non_empty_all (held_below next (suc k + size under)))
      whole =
          all_append (λ h. is_non_empty h.constraint.lo h.constraint.hi) (held_by k n.constraints) (held_below under (suc k) ++ held_below next (suc k + size under))
          ∙ ap (λ (b : Bool). b && non_empty_all (held_below under (suc k) ++ held_below next (suc k + size under))) (non_empty_held k n.constraints)
          ∙ ap (λ (b : Bool). are_non_empty n.constraints && b) (all_append (λ h. is_non_empty h.constraint.lo h.constraint.hi) (held_below under (suc k)) (held_below next (suc k + size under)))

-- both tests of the tables
module _ (K : Vocabulary) (w : List ℕ) (r : Tables) {a : Bool} (ea : a ≡ all (non_empty_at w) (counting 0 r.constraints)) where
  clean_form_lem : (t : Form) → Tabled K t w r → clean_form K t ≡ a && all (λ j. agree K (set_at w j)) (counting 0 r.individuals)
  clean_form_lem t s =
      ap (λ (b : Bool). clean_node K t.node && b) (sym (and-true (clean_successors K t.successors)))
      ∙ clean_parts K w (successor 0 t.node t.successors none) 1
      ∙ ap (λ (b : Bool). b && compatible_all K w (successor 0 t.node t.successors none)) holds
      ∙ ap (λ (b : Bool). a && b) (sym fit)
    where
      long : r.constraints ≡ length (held_in t)
      long = s.top ∙ sym (held_in_lem t)

      holds : non_empty_all (held_below (successor 0 t.node t.successors none) 1) ≡ a
      holds = rw append-nil (sym (ea ∙ ap (λ (n : ℕ). all (non_empty_at w) (counting 0 n)) long ∙ non_empty_words w 0 (held_in t) s.held))

      fit : all (λ j. agree K (set_at w j)) (counting 0 r.individuals) ≡ compatible_all K w (successor 0 t.node t.successors none)
      fit =
          let e : r.individuals ≡ 1 + size t.successors + 0 = omega arith in
          ap (λ (n : ℕ). all (λ j. agree K (set_at w j)) (counting 0 n)) e ∙ agree_rows K w (successor 0 t.node t.successors none) 0 0 s.rows

  pub clean_not : a ≡ false → (t : Form) → Tabled K t w r → a ≡ clean_form K t
  clean_not h t s = sym (clean_form_lem t s ∙ rw h)

  clean_both : {b : Bool} → a ≡ true → b ≡ all (λ j. agree K (set_at w j)) (counting 0 r.individuals) → (t : Form) → Tabled K t w r → b ≡ clean_form K t
  clean_both h eb t s = eb ∙ sym (clean_form_lem t s ∙ rw h)

-- so by the list, of whatever vocabulary it is
module _ (w : List ℕ) (r : Tables) {a : Bool} (ea : a ≡ all (non_empty_at w) (counting 0 r.constraints)) where
  pub clean_listed : {b : Bool} → a ≡ true → b ≡ all (λ j. agree_in w (set_at w j)) (counting 0 r.individuals) → DecidesClean w r b
  clean_listed h eb v t p s =
      clean_both (vocabulary_of v) w r ea h (eb ∙ all_same (λ j. agree_in w (set_at w j)) (λ j. agree (vocabulary_of v) (set_at w j)) (λ j. listed_agree p (set_at w j)) (counting 0 r.individuals)) t s

  pub clean_empty : a ≡ false → DecidesClean w r a
  clean_empty h v t p s = clean_not (vocabulary_of v) w r ea h t s

-- the test of an individual's set, once it is loaded
pub row_agrees : (w : List ℕ) (i : ℕ) {n : ℕ} {s : List ℕ} {t : Bool} → n ≡ i → s ≡ set_at w n → t ≡ agree_in w s → agree_in w (set_at w i) ≡ t
row_agrees w i z e d = sym (d ∙ ap (agree_in w) (e ∙ ap (set_at w) z))

-- and of a constraint's ends, once they are read
pub value_told : (w : List ℕ) (i : ℕ) {lo hi : ℕ} {t : Bool} → lo ≡ (constraint_at w i).lo → hi ≡ (constraint_at w i).hi → t ≡ is_non_empty lo hi → non_empty_at w i ≡ t
value_told w i a b e = sym (e ∙ rw (a, b))
