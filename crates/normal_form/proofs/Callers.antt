-- What callers cite: the terms of an accepted policy fit.
use Prim.Native.Nat.{◌≤◌, ℕ}
use mathlib.Core.List.{List}
use mathlib.Core.Path.{◌≡◌}
use lib.ListN.{length}
use native.Mathlib.Omega.{arith}
use Rattle.layout.specs.Places.{tables_end}
use Rattle.meaning.specs.Accepted.{NamedChain}
use Rattle.meaning.specs.Policy.{Chain, class, end, impossible, interval, some, term_at}
use Rattle.meaning.specs.Vocabulary.{vocabulary_refusal}
use Rattle.normal_form.specs.Tables.{Fit}
use Rattle.policy.specs.Terms.{TermOf}
use Rattle.theory.proofs.Wellformed.{accepted_counts}

named_more : {N R F N' R' F' : ℕ} → N ≤ N' → R ≤ R' → F ≤ F' → (c : Chain) → NamedChain N R F c → NamedChain N' R' F' c
named_more n r f end h = tt
named_more n r f (class a next) h = ((h.0.0, omega (arith, h.0.1)), named_more n r f next h.1)
named_more n r f (impossible next) h = named_more n r f next h
named_more n r f (some q child next) h = ((h.0.0, omega (arith, h.0.1)), named_more n r f child h.1, named_more n r f next h.2)
named_more n r f (interval g lo hi next) h = ((h.0.0, omega (arith, h.0.1)), named_more n r f next h.1)

pub term_fits : {v p w : List ℕ} {k : ℕ} → TermOf v p k → (k ≡ 0 → ⊥) → vocabulary_refusal v ≡ 0 → tables_end ≤ length w → Fit p w k
term_fits {v} {p} {k = k} t n a long =
    let u = accepted_counts v a in
    record { long = long; here = n; nameless = t.nameless; reads = t.reads; named = named_more u.0.1 u.1 u.2 (term_at p k) t.named; few = t.few }
