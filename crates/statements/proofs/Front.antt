-- The statement in front of tokens: its first word says which form it has.
use Prim.Native.Nat.{◌<◌, ℕ}
use mathlib.Core.Bool.{Bool, cond, false, true}
use mathlib.Core.List.{List, [], ◌∷◌}
use mathlib.Core.Path.{◌∙◌, ◌≡◌, ap, refl, sym}
use lib.ListN.{drop}
use native.Mathlib.Omega.{arith}
use Rattle.std.proofs.Common.{None, Option, Some}
use Rattle.meaning.specs.Program.{bytes}
use Rattle.tokens.proofs.Bytes.{same_true}
use Rattle.tokens.specs.declared.Token.{Token as Place}
use Rattle.tokens.specs.Places.{First, Within, bytes_of, headed}
use Rattle.tokens.specs.Tokens.{Token, same_bytes, tokens}
use Rattle.statements.specs.declared.OneName.{OneName}
use Rattle.statements.specs.declared.TwoNames.{TwoNames}
use Rattle.statements.specs.Forms.{Front, Symbol, Sort, Taken, class, closing, declares, exactly, feature, forms, front_of, name, none, nothing}
use Rattle.statements.specs.Forms.{opening, or_later, role, states, taken, take_symbols, with_name}
use Rattle.statements.specs.Found.{AxiomWithin, Missing, One, Stands, StandsOne, StandsTwo, Stated, Two, declaring, stated_of, used}
use Rattle.statements.specs.declared.NameOf.TheVariants.{Class, Feature, Role}
use Rattle.statements.specs.declared.Said.TheVariants.{Declares, States}
use Rattle.statements.specs.declared.Axiom.{Axiom}
use Rattle.statements.specs.declared.Found.{Found}

-- ---- what stands behind the word `Declaration`

abbrev sorted : Token → Sort → List Symbol
sorted w s = exactly w ∷ (opening ∷ (name s ∷ (closing ∷ (closing ∷ []))))

abbrev declared_front : List Token → Front
declared_front ts =
    or_later (declares class) (take_symbols (opening ∷ sorted (bytes "Class") class) ts)
    (or_later (declares role) (take_symbols (opening ∷ sorted (bytes "ObjectProperty") role) ts)
    (or_later (declares feature) (take_symbols (opening ∷ sorted (bytes "DataProperty") feature) ts) nothing))

front_declared : (ts : List Token) → front_of (bytes "Declaration" ∷ ts) ≡ declared_front ts
unfolding front_of forms
front_declared ts = refl

module _ (text : List ℕ) (at : ℕ) where
  declared_none : ((w : Token) (s : Sort) → take_symbols (opening ∷ sorted w s) (tokens (drop at text)) ≡ none) → Stated text (declaring text at) at None
  declared_none h =
      front_declared (tokens (drop at text)) ∙ rw (h (bytes "Class") class, h (bytes "ObjectProperty") role, h (bytes "DataProperty") feature)

  pub declared_begins : Missing opening (tokens (drop at text)) → Stated text (declaring text at) at None
  declared_begins h = declared_none (λ w s. h (sorted w s))

  module _ {from : ℕ} (o : Stands (bytes "(") text at from) where
    pub declared_sort : tokens (drop from text) ≡ [] → Stated text (declaring text at) at None
    declared_sort e = declared_none (λ w s. o.same (sorted w s) ∙ rw e)

    module _ {t : Place} (f : First text from t) where
      at_sort : (w : Token) (s : Sort) →
          take_symbols (opening ∷ sorted w s) (tokens (drop at text)) ≡
          cond (same_bytes (bytes_of text t) w) (take_symbols (opening ∷ (name s ∷ (closing ∷ (closing ∷ [])))) (tokens (drop t.to text))) none
      at_sort w s = o.same (sorted w s) ∙ ap (take_symbols (sorted w s)) f.same

      without : (b : Bool) {x : Taken} → x ≡ none → cond b x none ≡ none
      without true e = e
      without false e = refl

      pub declared_inner : One text t.to None → Stated text (declaring text at) at None
      declared_inner h = declared_none (λ w s. at_sort w s ∙ without (same_bytes (bytes_of text t) w) (h s (closing ∷ [])))

      module _ {i : OneName} (n : StandsOne text t.to i) where
        pub declared_closes : Missing closing (tokens (drop i.next text)) → Stated text (declaring text at) at None
        declared_closes h = declared_none (λ w s.
            at_sort w s ∙ without (same_bytes (bytes_of text t) w) (n.same s (closing ∷ []) ∙ ap (with_name s (bytes_of text i.name)) (h [])))

        module _ {next : ℕ} (q : Stands (bytes ")") text i.next next) where
          whole : (w : Token) (s : Sort) →
              take_symbols (opening ∷ sorted w s) (tokens (drop at text)) ≡
              cond (same_bytes (bytes_of text t) w) (taken (used s (bytes_of text i.name) ∷ []) (tokens (drop next text))) none
          whole w s =
              at_sort w s
              ∙ ap (λ (x : Taken). cond (same_bytes (bytes_of text t) w) x none)
              (n.same s (closing ∷ []) ∙ ap (with_name s (bytes_of text i.name)) (q.same []))

          begun : front_of (declaring text at) ≡
              or_later (declares class) (cond (same_bytes (bytes_of text t) (bytes "Class")) (taken (used class (bytes_of text i.name) ∷ []) (tokens (drop next text))) none)
              (or_later (declares role) (cond (same_bytes (bytes_of text t) (bytes "ObjectProperty")) (taken (used role (bytes_of text i.name) ∷ []) (tokens (drop next text))) none)
              (or_later (declares feature) (cond (same_bytes (bytes_of text t) (bytes "DataProperty")) (taken (used feature (bytes_of text i.name) ∷ []) (tokens (drop next text))) none)
              nothing))
          begun =
              front_declared (tokens (drop at text))
              ∙ rw (whole (bytes "Class") class, whole (bytes "ObjectProperty") role, whole (bytes "DataProperty") feature)

          rising : at < next
          rising = omega (arith, o.rises, f.begins, f.within.rises, n.rises, q.rises)

          pub declared_class : true ≡ same_bytes (bytes_of text t) (bytes "Class") →
              Stated text (declaring text at) at (Some (record { says = Declares (Class i.name); next = next }))
          declared_class e = record { placed = record { rises = rising; ends = q.ends; within = n.within }; same = begun ∙ rw (← e) }

          module _ (x : false ≡ same_bytes (bytes_of text t) (bytes "Class")) where
            pub declared_role : true ≡ same_bytes (bytes_of text t) (bytes "ObjectProperty") →
                Stated text (declaring text at) at (Some (record { says = Declares (Role i.name); next = next }))
            declared_role e = record { placed = record { rises = rising; ends = q.ends; within = n.within }; same = begun ∙ rw (← x, ← e) }

            module _ (y : false ≡ same_bytes (bytes_of text t) (bytes "ObjectProperty")) where
              pub declared_feature : true ≡ same_bytes (bytes_of text t) (bytes "DataProperty") →
                  Stated text (declaring text at) at (Some (record { says = Declares (Feature i.name); next = next }))
              declared_feature e = record { placed = record { rises = rising; ends = q.ends; within = n.within }; same = begun ∙ rw (← x, ← y, ← e) }

              pub declared_other : false ≡ same_bytes (bytes_of text t) (bytes "DataProperty") → Stated text (declaring text at) at None
              declared_other e = begun ∙ rw (← x, ← y, ← e)

-- ---- the other words

abbrev pub one_symbols : Sort → List Symbol
one_symbols s = opening ∷ (name s ∷ (closing ∷ []))

abbrev pub two_symbols : Sort → Sort → List Symbol
two_symbols s u = opening ∷ (name s ∷ (name u ∷ (closing ∷ [])))

abbrev pub says_one : ℕ → Token → Sort → Type 0
says_one k w s = (ts : List Token) → front_of (w ∷ ts) ≡ or_later (states k) (take_symbols (one_symbols s) ts) nothing

abbrev pub says_two : ℕ → Token → Sort → Sort → Type 0
says_two k w s u = (ts : List Token) → front_of (w ∷ ts) ≡ or_later (states k) (take_symbols (two_symbols s u) ts) nothing

pub front_below : says_two 1 (bytes "SubClassOf") class class
unfolding front_of forms
front_below ts = refl

pub front_disjoint : says_two 2 (bytes "DisjointClasses") class class
unfolding front_of forms
front_disjoint ts = refl

pub front_functional_role : says_one 3 (bytes "FunctionalObjectProperty") role
unfolding front_of forms
front_functional_role ts = refl

pub front_functional_feature : says_one 4 (bytes "FunctionalDataProperty") feature
unfolding front_of forms
front_functional_feature ts = refl

pub front_range : says_two 5 (bytes "ObjectPropertyRange") role class
unfolding front_of forms
front_range ts = refl

pub front_other : (w : Token) (ts : List Token) → false ≡ same_bytes w (bytes "Declaration") → false ≡ same_bytes w (bytes "SubClassOf") →
    false ≡ same_bytes w (bytes "DisjointClasses") → false ≡ same_bytes w (bytes "FunctionalObjectProperty") →
    false ≡ same_bytes w (bytes "FunctionalDataProperty") → false ≡ same_bytes w (bytes "ObjectPropertyRange") → front_of (w ∷ ts) ≡ nothing
unfolding front_of forms
front_other w ts a b c d e f = rw (← a, ← b, ← c, ← d, ← e, ← f)

-- ---- the same of a token that was read

module _ (text : List ℕ) (t : Place) where
  abbrev behind : List Token
  behind = tokens (drop t.to text)

  begins_with : (w : Token) → true ≡ same_bytes (bytes_of text t) w → front_of (headed text t) ≡ front_of (w ∷ behind)
  begins_with w e = ap (λ (v : Token). front_of (v ∷ behind)) (same_true (bytes_of text t) w (sym e))

  pub stated_declared : Within text t → true ≡ same_bytes (bytes_of text t) (bytes "Declaration") → (r : Option Found) →
      Stated text (declaring text t.to) t.to r → Stated text (headed text t) t.from r
  stated_declared h e None s = begins_with (bytes "Declaration") e ∙ s
  stated_declared h e (Some r) s =
      record {
        placed = record { rises = omega (arith, h.rises, s.placed.rises); ends = s.placed.ends; within = s.placed.within };
        same = begins_with (bytes "Declaration") e ∙ s.same;
      }

  module _ (k : ℕ) (w : Token) (s : Sort) (law : says_one k w s) (e : true ≡ same_bytes (bytes_of text t) w) where
    says : {x : Taken} → take_symbols (one_symbols s) behind ≡ x → front_of (headed text t) ≡ or_later (states k) x nothing
    says h = begins_with w e ∙ law behind ∙ ap (λ (x : Taken). or_later (states k) x nothing) h

    pub one_missing : One text t.to None → Stated text (headed text t) t.from None
    one_missing h = says (h s [])

    pub one_stated : Within text t → {r : OneName} → StandsOne text t.to r → (x : Axiom) → stated_of text x ≡ states k (used s (bytes_of text r.name) ∷ []) →
        AxiomWithin text x → Stated text (headed text t) t.from (Some (record { says = States x; next = r.next }))
    one_stated h n x d within =
        record { placed = record { rises = omega (arith, h.rises, n.rises); ends = n.ends; within = within }; same = says (n.same s []) ∙ rw d }

  module _ (k : ℕ) (w : Token) (s u : Sort) (law : says_two k w s u) (e : true ≡ same_bytes (bytes_of text t) w) where
    says_both : {x : Taken} → take_symbols (two_symbols s u) behind ≡ x → front_of (headed text t) ≡ or_later (states k) x nothing
    says_both h = begins_with w e ∙ law behind ∙ ap (λ (x : Taken). or_later (states k) x nothing) h

    pub two_missing : Two text t.to None → Stated text (headed text t) t.from None
    two_missing h = says_both (h s u)

    pub two_stated : Within text t → {r : TwoNames} → StandsTwo text t.to r → (x : Axiom) →
        stated_of text x ≡ states k (used s (bytes_of text r.first) ∷ (used u (bytes_of text r.second) ∷ [])) →
        AxiomWithin text x → Stated text (headed text t) t.from (Some (record { says = States x; next = r.next }))
    two_stated h n x d within =
        record { placed = record { rises = omega (arith, h.rises, n.rises); ends = n.ends; within = within }; same = says_both (n.same s u) ∙ rw d }
