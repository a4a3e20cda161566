-- Laws of what is prepared: that there is room for it, that it is there in the end, and that it stays while a term is worked on.
use Prim.Native.Nat.{◌*◌, ◌≤◌, ℕ}
use mathlib.Core.List.{List}
use mathlib.Core.Path.{◌≡◌}
use lib.ListN.{length}
use native.Mathlib.Omega.{arith}
use Rattle.closure.proofs.Ranges.{closed_kept, ranged_kept}
use Rattle.closure.specs.Rows.{Closed, Ranged}
use Rattle.frames.proofs.Frames.{only_span, only_then}
use Rattle.frames.specs.Frames.{Only, Span}
use Rattle.functional.specs.FunctionalNames.{FunctionalNames}
use Rattle.functional.specs.declared.Functional.{Functional}
use Rattle.layout.specs.Places.{InTables, pairs_end, role_row}
use Rattle.meaning.specs.Limits.{work_size}
use Rattle.meaning.specs.Vocabulary.{class_count, role_count, vocabulary_refusal}
use Rattle.pairs.proofs.Pairs.{pairs_kept}
use Rattle.pairs.specs.Pairs.{Listed}
use Rattle.preparation.specs.Prepared.{Prepared}
use Rattle.theory.proofs.Wellformed.{accepted_counts}
use Rattle.words.specs.Rows.{class_words}

module _ (v w : List ℕ) (a : vocabulary_refusal v ≡ 0) (full : work_size ≤ length w) where
  pub classes_fit : class_count v * class_words ≤ length w
  classes_fit = let c = accepted_counts v a in omega arith

  module _ (w₁ : List ℕ) (c : Closed v w w₁) where
    pub roles_fit : role_row (role_count v) * class_words ≤ length w₁
    roles_fit = let n = accepted_counts v a in omega arith

    module _ (w₂ : List ℕ) (r : Ranged v w₁ w₂) where
      pub pairs_fit : pairs_end ≤ length w₂
      pairs_fit = omega arith

      module _ (w₃ : List ℕ) (l : Listed v w₂ w₃) where
        pub prepared_only : Only (Span 0 pairs_end) w w₃
        prepared_only =
            let n = accepted_counts v a in
            only_then (only_span c.only (omega arith) (omega arith))
            (only_then (only_span r.only (omega arith) (omega arith)) (only_span l.only (omega arith) (omega arith)))

        pub prepared_once : {f : Functional} → FunctionalNames v f → Prepared v w₃ f
        prepared_once s =
            let n = accepted_counts v a in record {
              accepted = a;
              closed = closed_kept v w₂ w₃ l.only (omega arith) r.closed;
              ranged = ranged_kept v w₂ w₃ l.only (omega arith) r.ranged;
              paired = l.listed;
              functional = s;
            }

-- what is prepared stays so while a term is worked on
pub prepared_kept : {v w w' : List ℕ} {f : Functional} → Only InTables w w' → Prepared v w f → Prepared v w' f
prepared_kept {v} {w} {w'} o p =
    let n = accepted_counts v p.accepted in record {
      accepted = p.accepted;
      closed = closed_kept v w w' o (omega arith) p.closed;
      ranged = ranged_kept v w w' o (omega arith) p.ranged;
      paired = pairs_kept o (omega arith) p.paired;
      functional = p.functional;
    }

-- preparing, and working on terms after it, change no more than the work's words
pub worked : {w w₁ w₂ : List ℕ} → Only (Span 0 pairs_end) w w₁ → Only InTables w₁ w₂ → Only (Span 0 work_size) w w₂
worked a b = only_then (only_span a (omega arith) (omega arith)) (only_span b (omega arith) (omega arith))
