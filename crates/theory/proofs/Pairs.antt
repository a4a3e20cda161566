-- The (feature, value) pairs of an individual, sorted without repeats, are those of its pieces.
use Prim.Native.Nat.{ℕ}
use mathlib.Core.Bool.{Bool, cond, false, true}
use mathlib.Core.List.{List, [], ◌∷◌}
use mathlib.Core.Path.{subst₂, sym}
use lib.Dec.{T, eqb, eqb→eq}
use Rattle.meaning.specs.Countermodel.{insert_pair, pair_before, pairs, same_pair}
use Rattle.meaning.specs.Intervals.{Constraint, value_of}
use Rattle.meaning.specs.Lists.{All, cons, nil}
use Rattle.theory.proofs.Rules.{T_and, head, tail}

module _ (P : ℕ → ℕ → Type 0) where
  -- the piece's pair has P
  abbrev Said : Constraint → Type 0
  Said s = P s.feature (value_of s)

  insert_in : (s : Constraint) (l : List Constraint) → Said s → All Said l → All Said (insert_pair s l)
  insert_in s [] h k = cons h nil
  insert_in s (t ∷ l) h k = go (same_pair s t) (pair_before s t) (insert_in s l h (tail k))
    where
      go : (a b : Bool) → All Said (insert_pair s l) → All Said (cond a (t ∷ l) (cond b (s ∷ (t ∷ l)) (t ∷ insert_pair s l)))
      go true b r = k
      go false true r = cons h k
      go false false r = cons (head k) r

  insert_out : (s : Constraint) (l : List Constraint) → All Said (insert_pair s l) → All Said (s ∷ l)
  insert_out s [] k = k
  insert_out s (t ∷ l) k = go (same_pair s t) (pair_before s t) (λ u. T_and (eqb s.feature t.feature) (eqb (value_of s) (value_of t)) u) (insert_out s l) k
    where
      go : (a b : Bool) → (T a → T (eqb s.feature t.feature) × T (eqb (value_of s) (value_of t))) → (All Said (insert_pair s l) → All Said (s ∷ l)) →
          All Said (cond a (t ∷ l) (cond b (s ∷ (t ∷ l)) (t ∷ insert_pair s l))) → All Said (s ∷ (t ∷ l))
      go true b f g k = let e = f tt in cons (subst₂ (λ (x y : ℕ). P x y) (sym (eqb→eq _ _ e.0)) (sym (eqb→eq _ _ e.1)) (head k)) k
      go false true f g k = k
      go false false f g k = let r = g (tail k) in cons (head r) (cons (head k) (tail r))

  pub pairs_in_lem : (l : List Constraint) → All Said l → All Said (pairs l)
  pairs_in_lem [] h = nil
  pairs_in_lem (s ∷ l) h = insert_in s (pairs l) (head h) (pairs_in_lem l (tail h))

  pub pairs_out : (l : List Constraint) → All Said (pairs l) → All Said l
  pairs_out [] h = nil
  pairs_out (s ∷ l) h = let r = insert_out s (pairs l) h in cons (head r) (pairs_out l (tail r))
