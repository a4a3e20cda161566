-- One conjunct by its kind, the conjuncts one after another, and whether a record joins a role.
use Prim.Native.Nat.{◌*◌, ◌+◌, ◌<◌, ◌≤◌, ℕ}
use mathlib.Core.Bool.{Bool, ◌||◌, true}
use mathlib.Core.List.{List}
use mathlib.Core.Path.{◌∙◌, ◌≡◌, refl, sym}
use lib.ListN.{length, set}
use native.Mathlib.Omega.{arith}
use Rattle.closure.specs.Rows.{row_of}
use Rattle.layout.specs.Places.{individuals_at}
use Rattle.meaning.specs.Accepted.{NamedChain}
use Rattle.meaning.specs.Limits.{most_classes, most_features, most_records, most_roles}
use Rattle.meaning.specs.Policy.{Chain, child_of, class, conjunct_at, end, hi_of, kind_of, lo_of, name_of, next_of, some}
use Rattle.meaning.specs.Records.{Name}
use Rattle.normal_form.proofs.Adding.{add_bar, add_class, add_interval, add_none, add_role, adds_then}
use Rattle.normal_form.specs.Parts.{interval_count, roles}
use Rattle.normal_form.specs.Steps.{Adding, Entry, Good, HasRoomFor, Placed, Single}
use Rattle.normal_form.specs.declared.Draft.{Draft}
use Rattle.policy.proofs.Conjuncts.{Going, conjunct_kinds, going_conjunct, going_ends, going_found, going_on, going_starts}
use Rattle.policy.specs.Terms.{conjunct_of, conjuncts_at}
use Rattle.words.specs.Rows.{class_words}
use Rattle.words.specs.Sets.{in_set}

-- each name has a row
abbrev Named : Chain → Type 0
Named c = NamedChain most_classes most_roles most_features c

-- ---- a conjunct and what is after it

module _ (p : List ℕ) (k : ℕ) (c : Chain) where
  abbrev child : Chain
  child = conjuncts_at p (child_of p k)

  named_first : Named (conjunct_at p k child c) → Named (conjunct_of p k) × Named c
  named_first =
      conjunct_kinds (λ here all. Named all → Named here × Named c) p k child c (λ a n. ((n.0, tt), n.1)) (λ n. (tt, n)) (λ r n. ((n.0, n.1, tt), n.2))
      (λ f lo hi n. ((n.0, tt), n.1))

  arms_first : length (roles (conjunct_at p k child c)) ≡ length (roles (conjunct_of p k)) + length (roles c)
  arms_first =
      conjunct_kinds (λ here all. length (roles all) ≡ length (roles here) + length (roles c)) p k child c (λ a. omega arith) (omega arith) (λ r. omega arith)
      (λ f lo hi. omega arith)

  intervals_first : interval_count (conjunct_at p k child c) ≡ interval_count (conjunct_of p k) + interval_count c
  intervals_first =
      conjunct_kinds (λ here all. interval_count all ≡ interval_count here + interval_count c) p k child c (λ a. omega arith) (omega arith) (λ r. omega arith)
      (λ f lo hi. omega arith)

  adding_first : (one : ℕ → Bool) {x m : ℕ} {w w' w'' : List ℕ} {g g' g'' : Draft} → Adding one p x m (conjunct_of p k) w w' g g' → Adding one p x m c w' w'' g' g'' →
      Adding one p x m (conjunct_at p k child c) w w'' g g''
  adding_first one {x} {m} {w} {w'} {w''} {g} {g'} {g''} =
      conjunct_kinds (λ here all. Adding one p x m here w w' g g' → Adding one p x m c w' w'' g' g'' → Adding one p x m all w w'' g g'') p k child c
      (λ a s t. adds_then p x 0 0 m _ _ (omega arith) refl (omega arith) s t)
      (λ s t. adds_then p x 0 0 m _ _ (omega arith) refl (omega arith) s t)
      (λ r s t. adds_then p x 0 0 m _ _ (omega arith) refl (omega arith) s t)
      (λ f lo hi s t. adds_then p x 0 0 m _ _ (omega arith) refl (omega arith) s t)

-- ---- one conjunct

module _ {p w : List ℕ} {m : ℕ} {g : Draft} {k : ℕ} (s : Single p w m g k) {kind : ℕ} (ek : kind ≡ kind_of p k) where
  -- a class
  module _ {a : ℕ} (ea : a ≡ name_of p k) (i : kind ≡ 1) where
    class_named : Name most_classes a
    class_named = let n : Named (class (name_of p k) end) = rw (← ek, i) at s.named in rw ea n.0

    pub class_some : 1 ≤ a
    class_some = class_named.0

    pub class_row : a * class_words ≤ length w
    class_row = let n = class_named in let r = s.room in omega arith

    pub conj_class : (one : ℕ → Bool) {x : ℕ} {g' : Draft} {ws : List ℕ} → ws ≡ row_of w a →
        ((b : ℕ) → in_set g'.classes.words b ≡ in_set g.classes.words b || in_set ws b) →
        g'.pending ≡ g.pending → g'.constraints ≡ g.constraints → g'.impossible ≡ g.impossible → Adding one p x m (conjunct_of p k) w w g g'
    conj_class one {x} {g'} {ws} ew hc hp hs hb = rw (← ek, i, ← ea) (add_class p x m w g g' a ws class_named s.room.long ew hc hp hs hb)

  -- the impossible concept
  pub conj_bar : kind ≡ 2 → (one : ℕ → Bool) {x : ℕ} {g' : Draft} → g'.classes ≡ g.classes → g'.pending ≡ g.pending → g'.constraints ≡ g.constraints →
      g'.impossible ≡ true → Adding one p x m (conjunct_of p k) w w g g'
  conj_bar i one {x} {g'} hc hp hs hb = rw (← ek, i) (add_bar p x m w g g' hc hp hs hb)

  -- a role
  module _ (i : kind ≡ 3) where
    pub role_room : g.pending < individuals_at
    role_room = let r = s.room in let e : length (roles (conjunct_of p k)) ≡ 1 = rw (← ek, i) in omega arith

    entry : Entry p k
    entry =
        let n : Named (some (name_of p k) (conjuncts_at p (child_of p k)) end) = rw (← ek, i) at s.named in
        record { role = n.0.1; good = record { reads = s.conjunct.child (sym ek ∙ i); named = n.1 } }

    pub conj_role : (one : ℕ → Bool) {x : ℕ} {g' : Draft} {w' : List ℕ} → w' ≡ set w g.pending k → g'.classes ≡ g.classes → g'.pending ≡ g.pending + 1 →
        g'.constraints ≡ g.constraints → g'.impossible ≡ g.impossible → Adding one p x m (conjunct_of p k) w w' g g'
    conj_role one {x} {g'} {w'} ew hc hp hs hb =
        rw (← ek, i) (add_role p x m w g g' w' s.room.low k s.some entry role_room s.room.long ew hc hp hs hb)

  -- a constraint
  module _ (n₁ : kind ≡ 1 → ⊥) (n₂ : kind ≡ 2 → ⊥) (n₃ : kind ≡ 3 → ⊥) where
    is_interval : kind ≡ 4
    is_interval = let b = s.conjunct.kind in omega arith

    pub interval_room : g.constraints < most_records
    interval_room = let r = s.room in let e : interval_count (conjunct_of p k) ≡ 1 = rw (← ek, is_interval) in omega arith

    pub conj_interval : (one : ℕ → Bool) {x a lo hi : ℕ} {t : Bool} {g' : Draft} {w' : List ℕ} → a ≡ name_of p k → t ≡ one a → lo ≡ lo_of p k → hi ≡ hi_of p k →
        Placed t x m g.constraints a lo hi w w' g'.constraints → g'.classes ≡ g.classes → g'.pending ≡ g.pending → g'.impossible ≡ g.impossible →
        Adding one p x m (conjunct_of p k) w w' g g'
    conj_interval one {x} {g' = g'} {w'} ea et el eh u hc hp hb =
        let r = s.room in
        let told : Placed (one (name_of p k)) x m g.constraints (name_of p k) (lo_of p k) (hi_of p k) w w' g'.constraints = rw (← ea, ← el, ← eh, ← et) u in
        rw (← ek, is_interval) (add_interval p x m w g g' w' r.low (one (name_of p k)) (name_of p k) (lo_of p k) (hi_of p k) (omega arith) told hc hp hb)

-- ---- one after another

-- the conjuncts c are still to be added: what is added by them is added from record first on
pub record Rest (one : ℕ → Bool) (p : List ℕ) (x m first : ℕ) (w₀ : List ℕ) (g₀ : Draft) (w : List ℕ) (g : Draft) (c : Chain) : Type 0 where
  pub named : Named c
  pub room : HasRoomFor w m g c
  pub whole : {w' : List ℕ} {g' : Draft} → Adding one p x m c w w' g g' → Adding one p x m (conjuncts_at p first) w₀ w' g₀ g'

pub chain_starts : {one : ℕ → Bool} {p : List ℕ} {x m k : ℕ} {w : List ℕ} {g : Draft} → Good p k → HasRoomFor w m g (conjuncts_at p k) → Going (Rest one p x m k w g w g) p k
chain_starts r d = going_starts r.reads (record { named = r.named; room = d; whole = λ a. a })

module _ {one : ℕ → Bool} {p : List ℕ} {x m first : ℕ} {w₀ : List ℕ} {g₀ : Draft} {k : ℕ} {w : List ℕ} {g : Draft} (s : Going (Rest one p x m first w₀ g₀ w g) p k) where
  pub chain_ends : k ≡ 0 → Adding one p x m (conjuncts_at p first) w₀ w g₀ g
  chain_ends z = (going_ends s z).whole (add_none p x m w g 0 0)

  module _ (z : k ≡ 0 → ⊥) where
    pub chain_single : Single p w m g k
    chain_single = going_found s z (λ c h.
        let r = h.room in
        let u = arms_first p k c in
        let v = intervals_first p k c in
        record {
          some = z;
          conjunct = going_conjunct s z;
          named = (named_first p k c h.named).0;
          room = record { long = omega arith; low = omega arith; pending = omega arith; first = omega arith; constraints = omega arith };
        })

    pub chain_on : {y : ℕ} {w' : List ℕ} {g' : Draft} → y ≡ next_of p k → Adding one p x m (conjunct_of p k) w w' g g' → Going (Rest one p x m first w₀ g₀ w' g') p y
    chain_on e a = going_on s z e (λ c h.
        let r = h.room in
        let u = arms_first p k c in
        let v = intervals_first p k c in
        record {
          named = (named_first p k c h.named).1;
          room = record { long = omega arith; low = omega arith; pending = omega arith; first = omega arith; constraints = omega arith };
          whole = λ t. h.whole (adding_first p k c one a t);
        })
