-- A model's words stand for its facts, and the model check accepts them.
use Prim.Native.Nat.{◌*◌, ◌≤◌, ℕ}
use mathlib.Core.Bool.{true}
use mathlib.Core.List.{List, ◌++◌}
use mathlib.Core.Path.{◌≡◌, refl}
use lib.ListN.{drop, get_or, length}
use native.Mathlib.Nat.{add-zero}
use native.Mathlib.Omega.{arith}
use Rattle.meaning.specs.Limits.{most_facts, most_individuals, most_model_words}
use Rattle.meaning.specs.Lists.{All}
use Rattle.meaning.specs.Model.{Fact, edge, fact_at, fact_fits, fact_kind, fact_next, fact_words, facts_of}
use Rattle.meaning.specs.Model.{headed_model, individual_count, member, model_refusal, model_size}
use Rattle.meaning.specs.Model.{model_words, value}
use Rattle.meaning.specs.Records.{Name, is_sized, last_of, link_to}
use Rattle.meaning.specs.Vocabulary.{class_count, feature_count, role_count}
use Rattle.theory.proofs.Chained.{Stated, chained_length, chained_read, chained_sound, link_onward, record_after, word_at_lem}
use Rattle.theory.proofs.Links.{onward_le, tests}

-- ---- lengths

pub fact_length : (x : Fact) (next : ℕ) → length (fact_words x next) ≡ 5
fact_length (member a i) next = refl
fact_length (edge r i j) next = refl
fact_length (value f i v) next = refl

pub model_length : (n : ℕ) (F : List Fact) → length (model_words n F) ≡ model_size F
unfolding model_words
model_length n F = rw (chained_length 5 fact_words fact_length 1 F) (omega arith)

pub model_individuals : (n : ℕ) (F : List Fact) → individual_count (model_words n F) ≡ n
unfolding model_words
model_individuals n F = refl

-- each name is one of the vocabulary's, each individual one of 1 to n
abbrev pub NamedFact : ℕ → ℕ → ℕ → ℕ → Fact → Type 0
NamedFact N R Fc n (member a i) = Name N a × Name n i
NamedFact N R Fc n (edge r i j) = Name R r × Name n i × Name n j
NamedFact N R Fc n (value f i v) = Name Fc f × Name n i

-- ---- record k of the words m

module _ (m : List ℕ) (k : ℕ) where
  kind : {l : List ℕ} → drop (5 * k) m ≡ l → fact_kind m k ≡ get_or l 0 0
  kind e = rw add-zero at (word_at_lem 5 m k e 0)

  pub stated : (x : Fact) (next : ℕ) (l : List ℕ) → drop (5 * k) m ≡ fact_words x next ++ l → Stated 5 (fact_next m) (fact_at m) m k x next l
  stated (member a i) next l e = record { is = simp (kind e, word_at_lem 5 m k e); links = word_at_lem 5 m k e 4; rest = record_after 5 m k e }
  stated (edge r i j) next l e = record { is = simp (kind e, word_at_lem 5 m k e); links = word_at_lem 5 m k e 4; rest = record_after 5 m k e }
  stated (value f i w) next l e = record { is = simp (kind e, word_at_lem 5 m k e); links = word_at_lem 5 m k e 4; rest = record_after 5 m k e }

  fits : (v : List ℕ) (x : Fact) (next : ℕ) (l : List ℕ) → drop (5 * k) m ≡ fact_words x next ++ l →
      NamedFact (class_count v) (role_count v) (feature_count v) (individual_count m) x → fact_fits v m k ≡ true
  fits v (member a i) next l e h = simp (kind e, word_at_lem 5 m k e, tests) (omega arith)
  fits v (edge r i j) next l e h = simp (kind e, word_at_lem 5 m k e, tests) (omega arith)
  fits v (value f i w) next l e h = simp (kind e, word_at_lem 5 m k e, tests) (omega arith)

-- ---- the whole

pub model_facts : (n : ℕ) (F : List Fact) → facts_of (model_words n F) ≡ F
unfolding facts_of model_words
model_facts n F =
    let m = model_words n F in
    chained_read 5 fact_words m (fact_next m) (fact_at m) (stated m) (length m) 0 F refl (omega (arith, model_length n F))

pub model_accepted : (v : List ℕ) (n : ℕ) (F : List Fact) → 1 ≤ n → n ≤ most_individuals → length F ≤ most_facts →
    All (NamedFact (class_count v) (role_count v) (feature_count v) n) F → model_refusal v (model_words n F) ≡ 0
unfolding model_refusal model_words
model_accepted v n F h₁ h₂ few h =
    let m = model_words n F in
    let long = model_length n F in
    let sized : is_sized 5 most_model_words (length m) ≡ true = simp tests (omega arith) in
    let first = onward_le (length F) 0 (link_to 1 F) (link_onward (length F) 0 F (omega arith)) in
    let header : headed_model m ≡ true = simp tests (omega arith) in
    let named = NamedFact (class_count v) (role_count v) (feature_count v) n in
    let chain = chained_sound 5 fact_words m (fact_next m) (fact_at m) (stated m) (last_of 5 m) 33 (fact_fits v m) named (λ k. fits m k v)
    (length m) 0 F refl (omega arith) h in
    rw (sized, header, chain)
