-- Laws of what is read of a record.
use Prim.Native.Nat.{ℕ}
use mathlib.Core.Bool.{true, true≢false}
use mathlib.Core.List.{List}
use mathlib.Core.Path.{◌∙◌, ◌≡◌, sym}
use Rattle.std.specs.Prelude.{None, Option, Some}
use borrow.Author.Tests.{eq-eqb}
use Rattle.meaning.specs.Records.{is_name}
use Rattle.meaning.specs.Vocabulary.{axiom_kind}
use Rattle.vocabulary.specs.Axioms.{AxiomRead, is_of, kind_of}
use Rattle.vocabulary.specs.declared.Axiom.{Axiom}

module _ (v : List ℕ) (k kind : ℕ) where
  -- a record of one of the seven kinds is read as of it
  pub kind_read : (r : Option Axiom) → AxiomRead v k r → is_name 7 kind ≡ true → axiom_kind v k ≡ kind → is_of kind r ≡ true
  kind_read (Some x) e h z = eq-eqb (kind_of x) kind (sym e.kind ∙ z)
  kind_read None e h z = absurd (true≢false (rw (z, h) at e.kind))
