-- The axioms of a text: their names, where all are sound, are names of a vocabulary, and none lets a name have many values.
use Prim.Native.Nat.{suc, zero, ℕ}
use mathlib.Core.Bool.{Bool, and-eq-true_iff, cond, false, not, true}
use mathlib.Core.List.{List, [], ◌++◌, ◌∷◌, map}
use mathlib.Core.Path.{◌∙◌, ◌≡◌, ap, refl, sym}
use lib.Dec.{eqb}
use lib.ListN.{get_or, length}
use native.Mathlib.Omega.{arith}
use borrow.Author.Tests.{eqb-false, not-true}
use Rattle.declarations.specs.Names.{declared, is_known, number_in, sound_names}
use Rattle.meaning.specs.Accepted.{NamedAxiom}
use Rattle.meaning.specs.Lists.{All, all, cons, flat_map, nil}
use Rattle.meaning.specs.Program.{bytes}
use Rattle.meaning.specs.Records.{Name}
use Rattle.meaning.specs.Vocabulary.{Axiom, below, disjoint, functional_feature, functional_role, name_by, names_by, range}
use Rattle.name_table.proofs.Numbers.{number_of_range}
use Rattle.owl.specs.Owl.{axiom_of, axioms_by, axioms_in}
use Rattle.statements.specs.Forms.{Front, Parsed, Symbol, Row, Sort, Statement, Taken, Use, after, after_opening, ahead, class, declares, exactly, feature}
use Rattle.statements.specs.Forms.{first_form, forms, front, front_of, is_last, left, name, none, nothing, ontology, opening, or_later, parsed, role}
use Rattle.statements.specs.Forms.{statements, statements_from, states, taken, take_symbols, with_name, wrong}
use Rattle.theory.proofs.Links.{bounds}
use Rattle.tokens.specs.Tokens.{Token, is_name_token, same_bytes}

-- ---- the sorts of a statement's names are those of its form's places

abbrev places_of : List Symbol → List Sort
places_of [] = []
places_of (exactly w ∷ ps) = places_of ps
places_of (name s ∷ ps) = s ∷ places_of ps

abbrev sorts_of : List Use → List Sort
sorts_of us = map (λ (u : Use). u.sort) us

abbrev Takes : Taken → List Sort → Type 0
Takes x ss = (us : List Use) (rest : List Token) → x ≡ taken us rest → sorts_of us ≡ ss

never : {ss : List Sort} → Takes none ss
never us rest e = cc

named_takes : (s : Sort) (t : Token) (x : Taken) {ss : List Sort} → Takes x ss → Takes (with_name s t x) (s ∷ ss)
named_takes s t none h us rest e = cc
named_takes s t (taken vs more) h us rest e =
    let d : record { sort = s; token = t } ∷ vs ≡ us = cc in
    sym (ap sorts_of d) ∙ ap (λ (l : List Sort). s ∷ l) (h vs more refl)

chosen : (b : Bool) {x : Taken} {ss : List Sort} → Takes x ss → Takes (cond b x none) ss
chosen true h = h
chosen false h = never

symbols_take : (ps : List Symbol) (ts : List Token) → Takes (take_symbols ps ts) (places_of ps)
symbols_take [] ts = λ us rest e. let d : [] ≡ us = cc in sym (ap sorts_of d)
symbols_take (exactly w ∷ ps) [] = never
symbols_take (name s ∷ ps) [] = never
symbols_take (exactly w ∷ ps) (t ∷ ts) = chosen (same_bytes t w) (symbols_take ps ts)
symbols_take (name s ∷ ps) (t ∷ ts) = chosen (is_name_token t) (named_takes s t (take_symbols ps ts) (symbols_take ps ts))

-- ---- what holds of all that a form can say holds of every statement

module _ (P : Statement → Type 0) where
  abbrev Says : Row → Type 0
  Says f = (us : List Use) → sorts_of us ≡ places_of f.symbols → P (f.says us)

  abbrev InFront : Front → Type 0
  InFront x = (s : Statement) (rest : List Token) → x ≡ front s rest → P s

  first_holds : (fs : List Row) (ts : List Token) → All Says fs → InFront (first_form fs ts)
  first_holds [] ts nil = λ s rest e. let z : ◌≡◌ {A = ℕ} 0 1 = cc in absurd (omega arith)
  first_holds (f ∷ fs) ts (cons h hs) = go (take_symbols f.symbols ts) (symbols_take f.symbols ts) (first_holds fs ts hs)
    where
      go : (x : Taken) → Takes x (places_of f.symbols) → InFront (first_form fs ts) → InFront (or_later f.says x (first_form fs ts))
      go none k later = later
      go (taken us more) k later = λ s rest e. let d : f.says us ≡ s = cc in rw (← d) (h us (k us more refl))

  module _ (hs : All Says forms) where
    abbrev AllHold : Parsed → Type 0
    AllHold p = (l : List Statement) → p ≡ parsed l → All P l

    after_hold : (s : Statement) (p : Parsed) → P s → AllHold p → AllHold (after s p)
    after_hold s wrong i a = λ l e. let z : ◌≡◌ {A = ℕ} 0 1 = cc in absurd (omega arith)
    after_hold s (parsed k) i a = λ l e. let d : s ∷ k ≡ l = cc in rw (← d) (cons i (a k refl))

    ahead_hold : (x : Front) (p : Parsed) → InFront x → AllHold p → AllHold (ahead x p)
    ahead_hold nothing p i a = λ l e. let z : ◌≡◌ {A = ℕ} 0 1 = cc in absurd (omega arith)
    ahead_hold (front s rest) p i a = after_hold s p (i s rest refl) a

    from_hold : (f : ℕ) (ts : List Token) → AllHold (statements_from f ts)
    unfolding front_of
    from_hold zero ts = λ l e. let z : ◌≡◌ {A = ℕ} 0 1 = cc in absurd (omega arith)
    from_hold (suc f) ts =
        go (is_last ts) (ahead_hold (front_of ts) (statements_from f (left (front_of ts))) (first_holds forms ts hs) (from_hold f (left (front_of ts))))
      where
        go : (b : Bool) → AllHold (ahead (front_of ts) (statements_from f (left (front_of ts)))) →
            AllHold (cond b (parsed []) (ahead (front_of ts) (statements_from f (left (front_of ts)))))
        go true a = λ l e. let d : [] ≡ l = cc in rw (← d) nil
        go false a = a

    ontology_holds : (ts : List Token) → AllHold (ontology ts)
    unfolding ontology statements
    ontology_holds ts = go (take_symbols (exactly (bytes "Ontology") ∷ (opening ∷ [])) ts)
      where
        go : (x : Taken) → AllHold (after_opening x)
        go none = λ l e. let z : ◌≡◌ {A = ℕ} 0 1 = cc in absurd (omega arith)
        go (taken us rest) = from_hold (length rest) rest

-- ---- the names of an axiom

module _ (l : List Statement) where
  abbrev size : Sort → ℕ
  size s = length (declared s l)

  abbrev known : List Use → Bool
  known us = all (λ (u : Use). not (eqb (number_in l u) 0)) us

  known_named : (u : Use) → not (eqb (number_in l u) 0) ≡ true → Name (size u.sort) (number_in l u)
  known_named u h = number_of_range (declared u.sort l) u.token (eqb-false _ 0 (not-true _ h))

  one_named : (us : List Use) (s : Sort) → sorts_of us ≡ s ∷ [] → known us ≡ true → Name (size s) (get_or (map (number_in l) us) 0 0)
  one_named [] s e h = let z : ◌≡◌ {A = ℕ} 0 1 = cc in absurd (omega arith)
  one_named (u ∷ us) s e h =
      let d : u.sort ≡ s = cc in
      rw (← d) (known_named u ((and-eq-true_iff (not (eqb (number_in l u) 0)) (known us)).0 h).0)

  two_named : (us : List Use) (s t : Sort) → sorts_of us ≡ s ∷ (t ∷ []) → known us ≡ true →
      Name (size s) (get_or (map (number_in l) us) 0 0) × Name (size t) (get_or (map (number_in l) us) 1 0)
  two_named [] s t e h = let z : ◌≡◌ {A = ℕ} 0 1 = cc in absurd (omega arith)
  two_named (u ∷ []) s t e h = let z : ◌≡◌ {A = ℕ} 0 1 = cc in absurd (omega arith)
  two_named (u ∷ (v ∷ us)) s t e h =
      let d : u.sort ≡ s = cc in
      let g : v.sort ≡ t = cc in
      let k = (and-eq-true_iff (not (eqb (number_in l u) 0)) (known (v ∷ us))).0 h in
      let m = (and-eq-true_iff (not (eqb (number_in l v) 0)) (known us)).0 k.1 in
      (rw (← d) (known_named u k.0), rw (← g) (known_named v m.0))

  abbrev NamedHere : Axiom → Type 0
  NamedHere = NamedAxiom (size class) (size role) (size feature)

  -- where a statement's names are known, its axiom has names of the counts
  abbrev Sound : Statement → Type 0
  Sound x = is_known l x ≡ true → All NamedHere (axioms_by l x)

  forms_sound : All (Says Sound) forms
  unfolding forms
  forms_sound =
      cons (λ us e h. nil) (cons (λ us e h. nil) (cons (λ us e h. nil)
      (cons (λ us e h. cons (two_named us class class e h) nil)
      (cons (λ us e h. cons (two_named us class class e h) nil)
      (cons (λ us e h. cons (one_named us role e h) nil)
      (cons (λ us e h. cons (one_named us feature e h) nil)
      (cons (λ us e h. cons (two_named us role class e h) nil) nil)))))))

  all_append : (xs ys : List Axiom) → All NamedHere xs → All NamedHere ys → All NamedHere (xs ++ ys)
  all_append [] ys nil k = k
  all_append (x ∷ xs) ys (cons h hs) k = cons h (all_append xs ys hs k)

  sound_named : (m : List Statement) → All Sound m → all (is_known l) m ≡ true → All NamedHere (flat_map (axioms_by l) m)
  sound_named [] nil h = nil
  sound_named (x ∷ m) (cons s ss) h =
      let k = (and-eq-true_iff (is_known l x) (all (is_known l) m)).0 h in
      all_append (axioms_by l x) (flat_map (axioms_by l) m) (s k.0) (sound_named m ss k.1)

  pub axioms_named : (ts : List Token) → ontology ts ≡ parsed l → sound_names l ≡ true → All NamedHere (axioms_in l)
  unfolding axioms_in
  axioms_named ts e h = let u = simp bounds at h in sound_named l (ontology_holds Sound forms_sound ts l e) u.1.1.1

-- ---- no axiom lets a name have many values

axiom_none : (select : Axiom → List ℕ) → ((a b : ℕ) → select (below a b) ≡ []) → ((a b : ℕ) → select (disjoint a b) ≡ []) →
    ((r : ℕ) → select (functional_role r) ≡ []) → ((f : ℕ) → select (functional_feature f) ≡ []) → ((r c : ℕ) → select (range r c) ≡ []) →
    (k : ℕ) (ns : List ℕ) → select (axiom_of k ns) ≡ []
axiom_none select h₁ h₂ h₃ h₄ h₅ k ns = go (eqb k 1) (eqb k 2) (eqb k 3) (eqb k 4)
  where
    go : (a b c d : Bool) →
        select (cond a (below (get_or ns 0 0) (get_or ns 1 0)) (cond b (disjoint (get_or ns 0 0) (get_or ns 1 0)) (cond c (functional_role (get_or ns 0 0)) (cond d (functional_feature (get_or ns 0 0)) (range (get_or ns 0 0) (get_or ns 1 0)))))) ≡ []
    go true b c d = h₁ _ _
    go false true c d = h₂ _ _
    go false false true d = h₃ _
    go false false false true = h₄ _
    go false false false false = h₅ _ _

axioms_none : (select : Axiom → List ℕ) → ((k : ℕ) (ns : List ℕ) → select (axiom_of k ns) ≡ []) → (l m : List Statement) → flat_map select (flat_map (axioms_by l) m) ≡ []
axioms_none select h l [] = refl
axioms_none select h l (declares s us ∷ m) = axioms_none select h l m
axioms_none select h l (states k us ∷ m) = rw (h k (map (number_in l) us), axioms_none select h l m)

pub no_many_role : (l : List Statement) → names_by 6 (axioms_in l) ≡ []
unfolding axioms_in names_by
no_many_role l =
    axioms_none (name_by 6) (axiom_none (name_by 6) (λ a b. refl) (λ a b. refl) (λ r. refl) (λ f. refl) (λ r c. refl)) l l

pub no_many_feature : (l : List Statement) → names_by 7 (axioms_in l) ≡ []
unfolding axioms_in names_by
no_many_feature l =
    axioms_none (name_by 7) (axiom_none (name_by 7) (λ a b. refl) (λ a b. refl) (λ r. refl) (λ f. refl) (λ r c. refl)) l l
