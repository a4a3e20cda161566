-- Records written one after another into the output. Assumes nothing.
use Prim.Native.Nat.{◌*◌, ◌+◌, ◌≤◌, ℕ}
use mathlib.Core.List.{List, [], ◌∷◌}
use mathlib.Core.Path.{◌∙◌, ◌≡◌, refl}
use native.Mathlib.Omega.{arith}
use lib.ListN.{drop, length}
use Rattle.countermodel.specs.Written.{facts}
use Rattle.meaning.specs.Model.{Fact, model_words}
use Rattle.meaning.specs.Operations.{output_after}
use Rattle.records.proofs.Writing.{headed_written, link_last}
use Rattle.records.specs.Written.{link_at, recorded}

-- ---- header and records

-- a header of these two words and three that are 0
abbrev headed : ℕ → ℕ → List ℕ → List ℕ
headed a n o = a ∷ (n ∷ (0 ∷ (0 ∷ (0 ∷ drop 5 o))))

module _ (a n last : ℕ) (F : List Fact) (o o' : List ℕ) (size : last ≡ length F) (room : 5 * (last + 1) ≤ length o)
    (e : o' ≡ recorded facts last 1 F (headed a n o)) where
  pub model_written : a ≡ link_at last 0 → o' ≡ output_after (model_words n F) o
  unfolding model_words
  model_written h =
      let header = a ∷ (n ∷ (0 ∷ (0 ∷ (0 ∷ [])))) in
      e ∙ headed_written facts header last F o refl size (omega arith)
      ∙ rw (h, link_last facts.words last 0 F (omega arith))
