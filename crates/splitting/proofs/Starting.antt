-- The first combination: constraints at their first pieces.
use Prim.Native.Nat.{◌+◌, ◌<◌, ℕ}
use mathlib.Core.List.{List}
use mathlib.Core.Logic.{⊎_elim}
use mathlib.Core.Path.{◌∙◌, ◌≡◌, ap₂, subst}
use native.Mathlib.Numerals.{add-one}
use native.Mathlib.Omega.{arith}
use Rattle.frames.proofs.Frames.{only_then}
use Rattle.layout.specs.Tables.{PiecePut, constraint_at, interval_of, piece_at}
use Rattle.meaning.specs.Lists.{At}
use Rattle.meaning.specs.Policy.{Policy}
use Rattle.meaning.specs.Splitting.{pieces}
use Rattle.splitting.proofs.Pieces.{piece_first}
use Rattle.splitting.proofs.Storing.{constraint_kept, piece_other, pieces_more, put_kept}
use Rattle.splitting.specs.Constraints.{Splittable, Started}
use Rattle.theory.proofs.Rules.{order}

module _ {u w v : List ℕ} {n i lo : ℕ} (split : Splittable u n) (few : i < n) (s : Started i u w) (el : lo ≡ (constraint_at w i).lo) (p : PiecePut i lo lo w v) where
  abbrev First : Policy → ℕ → Type 0
  First Q m = At (piece_at v m) (pieces Q (constraint_at w m)) 0

  here : (Q : Policy) → First Q i
  here Q =
      rw (p.piece ∙ ap₂ (interval_of (constraint_at w i).feature) el el)
      (piece_first Q (constraint_at w i) (rw (constraint_kept s.only i) (split.full i few)))

  before : (Q : Policy) (m : ℕ) → m < i → First Q m
  before Q m h = rw (piece_other p m (λ z. omega arith)) (s.first Q m h)

  pub started_more : Started (i + 1) u v
  started_more =
      rw (add-one i) (record {
        first = λ Q m h. rw (constraint_kept (put_kept p) m) (⊎_elim (before Q m) (λ a. let e : i ≡ m = omega arith in subst (First Q) e (here Q)) (order m i));
        only = only_then (pieces_more s.only (omega arith)) (put_kept p);
      })
