-- The individuals of pending roles, each followed by those below it: the ways of `successors`.
use Prim.Native.Nat.{◌+◌, ◌<◌, ◌≤◌, ℕ}
use mathlib.Core.Bool.{or-false}
use mathlib.Core.List.{List}
use mathlib.Core.Path.{◌∙◌, ◌≡◌, refl, sym}
use lib.ListN.{get_or, length}
use native.Mathlib.Omega.{arith}
use Rattle.frames.proofs.Frames.{only_none, only_wider}
use Rattle.functional.specs.declared.Functional.{Functional}
use Rattle.layout.specs.declared.Tables.{Tables}
use Rattle.meaning.specs.Limits.{most_records}
use Rattle.normal_form.proofs.Growing.{child_falls, child_room, next_fewer, next_room, node_built, undone}
use Rattle.normal_form.proofs.Groups.{alike}
use Rattle.normal_form.proofs.Joining.{rest_none, rest_zero, sure_tail}
use Rattle.normal_form.proofs.Laws.{none_struck}
use Rattle.normal_form.proofs.Nodes.{number}
use Rattle.normal_form.specs.Parts.{successors_of}
use Rattle.normal_form.specs.Steps.{Built, BuiltFrom, NodedFrom, Room, Waiting, rest_at}
use Rattle.normal_form.specs.declared.Draft.{Draft}

-- ---- one after another

-- the arms pending before j have their individuals: what is built from there on is built from first on
pub record Going (f : Functional) (p : List ℕ) (first stop i : ℕ) (t₀ : Tables) (w₀ : List ℕ) (w : List ℕ) (t : Tables) (j : ℕ) : Type 0 where
  pub room : Room p w j stop t.individuals t.constraints
  pub size : length w ≡ length w₀
  pub fewer : undone p w j stop ≤ undone p w₀ first stop
  pub whole : {w' : List ℕ} {u : Tables} → BuiltFrom f p j stop i t w w' u → BuiltFrom f p first stop i t₀ w₀ w' u

pub build_starts : {f : Functional} {p : List ℕ} {j stop i : ℕ} {t : Tables} {w : List ℕ} → Room p w j stop t.individuals t.constraints → Going f p j stop i t w w t j
build_starts r = record { room = r; size = refl; fewer = omega arith; whole = λ b. b }

module _ {f : Functional} {p : List ℕ} {first stop i : ℕ} {t₀ : Tables} {w₀ w : List ℕ} {t : Tables} {j : ℕ} (s : Going f p first stop i t₀ w₀ w t j) where
  pub build_ends : stop ≤ j → BuiltFrom f p first stop i t₀ w₀ w t
  unfolding successors_of
  build_ends h = s.whole (rw (rest_none p w j stop (omega (arith, s.room.order))) (record {
    grown = λ v q h. record { count = omega arith; top = omega arith; rows = tt; held = tt };
    more = (omega arith, omega arith);
    few = omega arith;
    fewer = omega arith;
    bottom = sym (or-false t.impossible);
    only = only_none;
  }))

  module _ (less : j < stop) where
    -- struck out
    pub build_skip : get_or w j 0 ≡ 0 → Going f p first stop i t₀ w₀ w t (j + 1)
    build_skip z =
        let gone : rest_at p w j stop ≡ rest_at p w (j + 1) stop = rest_zero p w j stop less z in
        let n = alike gone in
        let r = s.room in
        record {
          room = record {
            long = r.long;
            low = omega arith;
            order = omega arith;
            sure = sure_tail p w j stop less r.sure;
            pending = omega arith;
            rows = omega arith;
            constraints = omega arith;
          };
          size = s.size;
          fewer = omega (arith, s.fewer);
          whole = λ b. s.whole (rw gone (record {
            grown = b.grown;
            more = b.more;
            few = b.few;
            fewer = b.fewer;
            bottom = b.bottom;
            only = only_wider (none_struck (omega arith) (omega arith) (omega arith)) b.only;
          }));
        }

    module _ (nz : get_or w j 0 ≡ 0 → ⊥) where
      pub waits : Waiting p w j (get_or w j 0) stop t
      waits = record { less = less; here = refl; some = nz; room = s.room }

      pub individual_fits : t.individuals < most_records
      individual_fits = number waits

      -- it is made, whatever its parent
      module _ {x : ℕ} {w1 : List ℕ} {g : Draft} (nd : NodedFrom f p j (get_or w j 0) stop x t w w1 g) where
        pub below_falls : {n : ℕ} → undone p w₀ first stop ≡ n → undone p w1 stop g.pending < n
        below_falls e = omega (arith, child_falls waits nd, s.fewer)

        pub below_room : Room p w1 stop g.pending (t.individuals + 1) g.constraints
        below_room = child_room waits nd

      pub build_on : {w1 w2 : List ℕ} {g : Draft} {u : Tables} → NodedFrom f p j (get_or w j 0) stop i t w w1 g →
          Built f (rest_at p w1 stop g.pending) stop (t.individuals + 1) (t.individuals + 1) g.constraints g.impossible w1 w2 u →
          Going f p first stop i t₀ w₀ w2 u (j + 1)
      build_on nd ch = record {
        room = next_room waits nd ch;
        size = ch.only.size ∙ nd.only.size ∙ s.size;
        fewer = omega (arith, next_fewer waits nd ch, s.fewer);
        whole = λ b. s.whole (node_built waits nd ch b);
      }
