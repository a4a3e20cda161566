-- A pass over the statements of a text: what is left from a place on, by the item that is read there.
use Prim.Native.Nat.{ℕ}
use mathlib.Core.List.{List, [], ◌∷◌}
use mathlib.Core.Path.{◌∙◌, ◌≡◌, ap, refl, sym}
use Rattle.std.proofs.Common.{Some}
use Rattle.declarations.specs.Passes.{Parses, list_of, parsed_at, statements_at}
use Rattle.statements.specs.Forms.{Parsed, after, parsed, wrong}
use Rattle.statements.specs.Found.{Next, NextSays, statement_of}
use Rattle.statements.specs.declared.Found.{Found}
use Rattle.statements.specs.declared.Item.TheVariants.{End}

-- where the text keeps to the forms
module _ {text : List ℕ} {at : ℕ} (p : Parses text at) where
  pub parses_end : Next text at (Some End) → statements_at text at ≡ []
  unfolding statements_at
  parses_end n = ap list_of n

  module _ {r : Found} (n : NextSays text at r) where
    goes_on_lem : (q : Parsed) → after (statement_of text r.says) q ≡ parsed (statements_at text at) →
        (q ≡ parsed (list_of q)) × (statements_at text at ≡ statement_of text r.says ∷ list_of q)
    goes_on_lem wrong e = (cc)
    goes_on_lem (parsed l) e = (refl, let d : statement_of text r.says ∷ l ≡ statements_at text at = cc in sym d)

    more : (parsed_at text r.next ≡ parsed (list_of (parsed_at text r.next))) × (statements_at text at ≡ statement_of text r.says ∷ list_of (parsed_at text r.next))
    more = goes_on_lem (parsed_at text r.next) (sym n.same ∙ p.same)

    pub parses_more : statements_at text at ≡ statement_of text r.says ∷ statements_at text r.next
    unfolding statements_at
    parses_more = more.1

    pub parses_on : Parses text r.next
    unfolding statements_at
    parses_on = record { ends = n.placed.ends; same = more.0 }
