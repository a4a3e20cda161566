-- A text has no more statements than bytes.
use Prim.Native.Nat.{◌≤◌, suc, zero, ℕ}
use mathlib.Core.Bool.{Bool, cond, false, true}
use mathlib.Core.List.{List, [], ◌∷◌}
use mathlib.Core.Path.{ap}
use lib.ListN.{length}
use native.Mathlib.Omega.{arith}
use Rattle.declarations.specs.Passes.{axiom_count, list_of}
use Rattle.declarations.specs.declared.Counts.{Counts}
use Rattle.meaning.specs.Program.{bytes}
use Rattle.owl.specs.Passes.{Ready, statements_of}
use Rattle.statements.specs.Forms.{Front, Parsed, Sort, Statement, Symbol, Taken, after, after_opening, ahead, declares, exactly, front, front_of}
use Rattle.statements.specs.Forms.{is_last, left, name, none, nothing, ontology, opening, parsed, statements, statements_from, states, take_symbols}
use Rattle.statements.specs.Forms.{taken, with_name, wrong}
use Rattle.tokens.specs.Tokens.{Token, behind, goes_on, is_name_token, is_space, run, same_bytes, tokens, tokens_from}

tokens_few : (f : ℕ) (t : List ℕ) → length (tokens_from f t) ≤ f
tokens_few zero t = omega arith
tokens_few (suc f) [] = omega arith
tokens_few (suc f) (b ∷ t) = go (is_space b) (tokens_few f t) (tokens_few f (behind (goes_on b) t))
  where
    go : (s : Bool) → length (tokens_from f t) ≤ f → length (tokens_from f (behind (goes_on b) t)) ≤ f →
        length (cond s (tokens_from f t) ((b ∷ run (goes_on b) t) ∷ tokens_from f (behind (goes_on b) t))) ≤ suc f
    go true h k = omega arith
    go false h k = omega arith

-- ---- the tokens that a form leaves

abbrev leaves : Taken → ℕ
leaves none = 0
leaves (taken us rest) = length rest

named_leaves : (s : Sort) (t : Token) (x : Taken) → leaves (with_name s t x) ≤ leaves x
named_leaves s t none = omega arith
named_leaves s t (taken us rest) = omega arith

chosen_leaves : (b : Bool) (x : Taken) (n : ℕ) → leaves x ≤ n → leaves (cond b x none) ≤ suc n
chosen_leaves true x n h = omega arith
chosen_leaves false x n h = omega arith

symbols_leave : (ps : List Symbol) (ts : List Token) → leaves (take_symbols ps ts) ≤ length ts
symbols_leave [] ts = omega arith
symbols_leave (exactly w ∷ ps) [] = omega arith
symbols_leave (name s ∷ ps) [] = omega arith
symbols_leave (exactly w ∷ ps) (t ∷ ts) = chosen_leaves (same_bytes t w) (take_symbols ps ts) (length ts) (symbols_leave ps ts)
symbols_leave (name s ∷ ps) (t ∷ ts) =
    chosen_leaves (is_name_token t) (with_name s t (take_symbols ps ts)) (length ts)
    (omega (arith, named_leaves s t (take_symbols ps ts), symbols_leave ps ts))

-- ---- the statements

after_few : (s : Statement) (p : Parsed) → length (list_of (after s p)) ≤ suc (length (list_of p))
after_few s wrong = omega arith
after_few s (parsed l) = omega arith

ahead_few : (x : Front) (p : Parsed) → length (list_of (ahead x p)) ≤ suc (length (list_of p))
ahead_few nothing p = omega arith
ahead_few (front s rest) p = after_few s p

statements_few : (f : ℕ) (ts : List Token) → length (list_of (statements_from f ts)) ≤ f
statements_few zero ts = omega arith
statements_few (suc f) ts =
    go (is_last ts) (ahead_few (front_of ts) (statements_from f (left (front_of ts)))) (statements_few f (left (front_of ts)))
  where
    go : (b : Bool) → length (list_of (ahead (front_of ts) (statements_from f (left (front_of ts))))) ≤ suc (length (list_of (statements_from f (left (front_of ts))))) →
        length (list_of (statements_from f (left (front_of ts)))) ≤ f →
        length (list_of (cond b (parsed []) (ahead (front_of ts) (statements_from f (left (front_of ts)))))) ≤ suc f
    go true h k = omega arith
    go false h k = omega arith

text_few : (text : List ℕ) → length (statements_of text) ≤ length text
unfolding statements_of ontology statements tokens
text_few text =
    let ts = tokens text in
    let x = take_symbols (exactly (bytes "Ontology") ∷ (opening ∷ [])) ts in
    omega (arith, go x, symbols_leave (exactly (bytes "Ontology") ∷ (opening ∷ [])) ts, tokens_few (length text) text)
  where
    go : (x : Taken) → length (list_of (after_opening x)) ≤ leaves x
    go none = omega arith
    go (taken us rest) = statements_few (length rest) rest

axioms_fewer : (l : List Statement) → axiom_count l ≤ length l
axioms_fewer [] = omega arith
axioms_fewer (declares s us ∷ l) = omega (arith, axioms_fewer l)
axioms_fewer (states k us ∷ l) = omega (arith, axioms_fewer l)

pub axioms_few : {text table : List ℕ} {c : Counts} → Ready text table c → c.axioms ≤ length text
axioms_few {text} w =
    omega (arith, ap (λ (x : Counts). x.axioms) w.counts, axioms_fewer (statements_of text), text_few text)
