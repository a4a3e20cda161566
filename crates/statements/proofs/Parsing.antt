-- Statement after statement: the fuel does not matter, and the tokens left are parsed by the item that is read there.
use Prim.Native.Nat.{◌+◌, ◌<◌, ◌≤◌, suc, zero, ℕ}
use mathlib.Core.Bool.{Bool, cond, false, true}
use mathlib.Core.List.{List, [], ◌∷◌}
use mathlib.Core.Path.{◌∙◌, ◌≡◌, ap, refl, sym}
use lib.ListN.{drop, length}
use native.Mathlib.Omega.{arith}
use Rattle.meaning.specs.Lists.{All, cons, nil}
use Rattle.std.proofs.Common.{None, Some}
use Rattle.tokens.specs.declared.Token.{Token as Place}
use Rattle.tokens.specs.Places.{First, headed}
use Rattle.tokens.specs.Tokens.{Token, is_name_token, same_bytes, tokens}
use Rattle.statements.specs.declared.Found.{Found}
use Rattle.statements.specs.declared.Item.TheVariants.{End, Statement as Says}
use Rattle.statements.specs.Forms.{Front, Parsed, Symbol, Row, Sort, Statement, Taken, Use, ahead, exactly, first_form, forms, front, front_of}
use Rattle.statements.specs.Forms.{is_last, left, name, none, nothing, or_later, parsed, statements, statements_from, taken, take_symbols, with_name}
use Rattle.statements.specs.Found.{Next, Stated}

-- ---- a form takes a token for each symbol

abbrev Shortens : ℕ → List Token → Taken → Type 0
Shortens n ts x = (us : List Use) (rest : List Token) → x ≡ taken us rest → length rest + n ≡ length ts

no_taken : (n : ℕ) (ts : List Token) → Shortens n ts none
no_taken n ts us rest e = let z : ◌≡◌ {A = ℕ} 0 1 = cc in absurd (omega arith)

named_shortens : (n : ℕ) (ts : List Token) (x : Taken) (s : Sort) (t : Token) → Shortens n ts x → Shortens n ts (with_name s t x)
named_shortens n ts none s t h = no_taken n ts
named_shortens n ts (taken vs more) s t h = λ us rest e. let d : more ≡ rest = cc in rw (← d) (h vs more refl)

chosen_shortens : (b : Bool) (n : ℕ) (t : Token) (ts : List Token) (x : Taken) → Shortens n ts x → Shortens (suc n) (t ∷ ts) (cond b x none)
chosen_shortens true n t ts x h = λ us rest e. let q = h us rest e in omega arith
chosen_shortens false n t ts x h = no_taken (suc n) (t ∷ ts)

take_shortens : (ps : List Symbol) (ts : List Token) → Shortens (length ps) ts (take_symbols ps ts)
take_shortens [] ts = λ us rest e. let d : ts ≡ rest = cc in rw d (omega arith)
take_shortens (exactly w ∷ ps) [] = no_taken (suc (length ps)) []
take_shortens (name s ∷ ps) [] = no_taken (suc (length ps)) []
take_shortens (exactly w ∷ ps) (t ∷ ts) = chosen_shortens (same_bytes t w) (length ps) t ts (take_symbols ps ts) (take_shortens ps ts)
take_shortens (name s ∷ ps) (t ∷ ts) =
    chosen_shortens (is_name_token t) (length ps) t ts (with_name s t (take_symbols ps ts)) (named_shortens (length ps) ts (take_symbols ps ts) s t (take_shortens ps ts))

abbrev Shorter : List Token → Front → Type 0
Shorter ts x = (s : Statement) (rest : List Token) → x ≡ front s rest → length rest < length ts

first_shorter : (fs : List Row) (ts : List Token) → All (λ (f : Row). 1 ≤ length f.symbols) fs → Shorter ts (first_form fs ts)
first_shorter [] ts nil = λ s rest e. let z : ◌≡◌ {A = ℕ} 0 1 = cc in absurd (omega arith)
first_shorter (f ∷ fs) ts (cons h hs) = go (take_symbols f.symbols ts) (take_shortens f.symbols ts) (first_shorter fs ts hs)
  where
    go : (x : Taken) → Shortens (length f.symbols) ts x → Shorter ts (first_form fs ts) → Shorter ts (or_later f.says x (first_form fs ts))
    go none k later = later
    go (taken us more) k later = λ s rest e. let d : more ≡ rest = cc in let q = k us more refl in rw (← d) (omega arith)

front_shorter : (ts : List Token) → Shorter ts (front_of ts)
unfolding front_of forms
front_shorter ts =
    first_shorter forms ts
    (cons (omega arith) (cons (omega arith) (cons (omega arith) (cons (omega arith) (cons (omega arith) (cons (omega arith) (cons (omega arith) (cons (omega arith) nil))))))))

-- ---- the fuel does not matter

front_none : front_of [] ≡ nothing
unfolding front_of forms
front_none = refl

ahead_same : (x : Front) (p q : Parsed) → ((s : Statement) (rest : List Token) → x ≡ front s rest → p ≡ q) → ahead x p ≡ ahead x q
ahead_same nothing p q h = refl
ahead_same (front s rest) p q h = ap (ahead (front s rest)) (h s rest refl)

fuel : (f g : ℕ) (ts : List Token) → length ts ≤ f → length ts ≤ g → statements_from f ts ≡ statements_from g ts
fuel zero zero ts h k = refl
fuel zero (suc g) [] h k = rw front_none
fuel (suc f) zero [] h k = rw front_none
fuel zero (suc g) (t ∷ ts) h k = absurd (omega arith)
fuel (suc f) zero (t ∷ ts) h k = absurd (omega arith)
fuel (suc f) (suc g) [] h k = rw front_none
fuel (suc f) (suc g) (t ∷ ts) h k =
    let l = t ∷ ts in
    ap (λ (p : Parsed). cond (is_last l) (parsed []) p)
    (ahead_same (front_of l) (statements_from f (left (front_of l))) (statements_from g (left (front_of l))) (λ s rest e.
    let d : left (front_of l) ≡ rest = ap left e in
    let n = front_shorter l s rest e in
    rw d (fuel f g rest (omega arith) (omega arith))))

statements_more : (ts : List Token) → is_last ts ≡ false → statements ts ≡ ahead (front_of ts) (statements (left (front_of ts)))
unfolding statements
statements_more [] h = rw front_none
statements_more (t ∷ ts) h =
    let l = t ∷ ts in
    rw h (ahead_same (front_of l) (statements_from (length ts) (left (front_of l))) (statements_from (length (left (front_of l))) (left (front_of l))) (λ s rest e.
    let d : left (front_of l) ≡ rest = ap left e in
    let n = front_shorter l s rest e in
    rw d (fuel (length ts) (length rest) rest (omega arith) (omega arith))))

statements_last : (ts : List Token) → is_last ts ≡ true → statements ts ≡ parsed []
unfolding statements
statements_last [] h = cc
statements_last (t ∷ ts) h = rw h

-- ---- the item from a place on

module _ (text : List ℕ) (at : ℕ) where
  pub next_none : tokens (drop at text) ≡ [] → Next text at None
  unfolding statements
  next_none e = ap statements e

  module _ {t : Place} (f : First text at t) where
    pub next_end : true ≡ is_last (headed text t) → Next text at (Some End)
    next_end e = ap statements f.same ∙ statements_last (headed text t) (sym e)

    module _ (e : false ≡ is_last (headed text t)) where
      goes_on : {x : Front} → front_of (headed text t) ≡ x → statements (tokens (drop at text)) ≡ ahead x (statements (left x))
      goes_on h = ap statements f.same ∙ statements_more (headed text t) (sym e) ∙ ap (λ (x : Front). ahead x (statements (left x))) h

      pub next_wrong : Stated text (headed text t) t.from None → Next text at None
      next_wrong h = goes_on h

      pub next_says : {r : Found} → Stated text (headed text t) t.from (Some r) → Next text at (Some (Says r))
      next_says h =
          record {
            placed = record { rises = omega (arith, f.begins, h.placed.rises); ends = h.placed.ends; within = h.placed.within };
            same = goes_on h.same;
          }
