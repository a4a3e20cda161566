-- Symbols in front of tokens, one after another, as the functions return them.
use Prim.Native.Nat.{ℕ}
use mathlib.Core.List.{List, [], ◌∷◌}
use mathlib.Core.Path.{◌∙◌, ◌≡◌, ap}
use lib.ListN.{drop}
use native.Mathlib.Omega.{arith}
use Rattle.std.proofs.Common.{None, Option, Some}
use Rattle.meaning.specs.Program.{bytes}
use Rattle.tokens.specs.declared.Token.{Token as Place}
use Rattle.tokens.specs.Places.{bytes_of}
use Rattle.tokens.specs.Tokens.{tokens}
use Rattle.statements.specs.Forms.{Symbol, Sort, Taken, after_opening, closing, exactly, name, ontology, opening, take_symbols, with_name}
use Rattle.statements.specs.Found.{Missing, One, Opened, Stands, StandsName, Took, Two}

-- ---- names in brackets

module _ (text : List ℕ) (at : ℕ) where
  pub one_begins : Missing opening (tokens (drop at text)) → One text at None
  one_begins h = λ s ps. h (name s ∷ (closing ∷ ps))

  pub two_begins : Missing opening (tokens (drop at text)) → Two text at None
  two_begins h = λ s u. h (name s ∷ (name u ∷ (closing ∷ [])))

  module _ {from : ℕ} (o : Stands (bytes "(") text at from) where
    pub one_named : ((s : Sort) → Missing (name s) (tokens (drop from text))) → One text at None
    one_named h = λ s ps. o.same (name s ∷ (closing ∷ ps)) ∙ h s (closing ∷ ps)

    pub two_named : ((s : Sort) → Missing (name s) (tokens (drop from text))) → Two text at None
    two_named h = λ s u. o.same (name s ∷ (name u ∷ (closing ∷ []))) ∙ h s (name u ∷ (closing ∷ []))

    module _ {n : Place} (p : StandsName text from n) where
      one_inside : (s : Sort) (ps : List Symbol) →
          take_symbols (opening ∷ (name s ∷ (closing ∷ ps))) (tokens (drop at text)) ≡
          with_name s (bytes_of text n) (take_symbols (closing ∷ ps) (tokens (drop n.to text)))
      one_inside s ps = o.same (name s ∷ (closing ∷ ps)) ∙ p.same s (closing ∷ ps)

      pub one_closes : Missing closing (tokens (drop n.to text)) → One text at None
      one_closes h = λ s ps. one_inside s ps ∙ ap (with_name s (bytes_of text n)) (h ps)

      pub one_stands : {next : ℕ} → Stands (bytes ")") text n.to next → One text at (Some (record { name = n; next = next }))
      one_stands q =
          record {
            rises = omega (arith, o.rises, p.begins, p.within.rises, q.rises);
            ends = q.ends;
            within = p.within;
            same = λ s ps. one_inside s ps ∙ ap (with_name s (bytes_of text n)) (q.same ps);
          }

      pub two_other : ((s : Sort) → Missing (name s) (tokens (drop n.to text))) → Two text at None
      two_other h = λ s u.
          o.same (name s ∷ (name u ∷ (closing ∷ []))) ∙ p.same s (name u ∷ (closing ∷ []))
          ∙ ap (with_name s (bytes_of text n)) (h u (closing ∷ []))

      module _ {m : Place} (q : StandsName text n.to m) where
        two_inside : (s u : Sort) →
            take_symbols (opening ∷ (name s ∷ (name u ∷ (closing ∷ [])))) (tokens (drop at text)) ≡
            with_name s (bytes_of text n) (with_name u (bytes_of text m) (take_symbols (closing ∷ []) (tokens (drop m.to text))))
        two_inside s u =
            o.same (name s ∷ (name u ∷ (closing ∷ []))) ∙ p.same s (name u ∷ (closing ∷ []))
            ∙ ap (with_name s (bytes_of text n)) (q.same u (closing ∷ []))

        pub two_closes : Missing closing (tokens (drop m.to text)) → Two text at None
        two_closes h = λ s u. two_inside s u ∙ ap (λ (x : Taken). with_name s (bytes_of text n) (with_name u (bytes_of text m) x)) (h [])

        pub two_stands : {next : ℕ} → Stands (bytes ")") text m.to next → Two text at (Some (record { first = n; second = m; next = next }))
        two_stands z =
            record {
              rises = omega (arith, o.rises, p.begins, p.within.rises, q.begins, q.within.rises, z.rises);
              ends = z.ends;
              first = p.within;
              second = q.within;
              same = λ s u. two_inside s u ∙ ap (λ (x : Taken). with_name s (bytes_of text n) (with_name u (bytes_of text m) x)) (z.same []);
            }

-- ---- the beginning of an ontology

module _ (text : List ℕ) where
  pub opened_none : Missing (exactly (bytes "Ontology")) (tokens text) → Opened text None
  unfolding ontology
  opened_none h = ap after_opening (h (opening ∷ []))

  module _ {next : ℕ} (o : Stands (bytes "Ontology") text 0 next) where
    pub opened : (r : Option ℕ) → Took (bytes "(") text next r → Opened text r
    unfolding ontology
    opened None h = ap after_opening (o.same (opening ∷ []) ∙ h [])
    opened (Some from) h = record { ends = h.ends; same = ap after_opening (o.same (opening ∷ []) ∙ h.same []) }
