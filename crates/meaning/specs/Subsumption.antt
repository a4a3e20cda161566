-- SPECIFICATION 7.4, Bonatti, Algorithm 1: structural subsumption of a normal form by a term.
use Rattle.std.specs.Prelude.{ℕ, Bool, ◌&&◌, ◌||◌, false, true, eqb}
use Rattle.meaning.specs.Intervals.{Constraint, is_inside}
use Rattle.meaning.specs.Lists.{any}
use Rattle.meaning.specs.NormalForm.{Node, Successors, none, successor}
use Rattle.meaning.specs.Policy.{Chain, class, end, impossible, interval, some}
use Rattle.meaning.specs.Stated.{is_below}
use Rattle.meaning.specs.Vocabulary.{Vocabulary}

-- line 5: some conjunct ∃R.C' whose C' passes
abbrev pub any_successor : ℕ → (Node → Successors → Bool) → Successors → Bool
any_successor r f none = false
any_successor r f (successor q n under next) = (eqb r q && f n under) || any_successor r f next

-- line 4: l ≤ l' and u' ≤ u
abbrev pub includes : ℕ → ℕ → ℕ → Constraint → Bool
includes f lo hi s = eqb f s.feature && is_inside lo hi s.lo s.hi

-- the individual with its successors against the conjuncts of a term, one after another (line 6); no normal form that is
-- asked about is ⊥ (line 2)
abbrev pub subsumed : Vocabulary → Chain → Node → Successors → Bool
subsumed K end n under = true
subsumed K (class a next) n under = any (λ c. is_below K c a) n.classes && subsumed K next n under
subsumed K (impossible next) n under = false
subsumed K (some r child next) n under = any_successor r (subsumed K child) under && subsumed K next n under
subsumed K (interval f lo hi next) n under = any (includes f lo hi) n.constraints && subsumed K next n under
