-- Laws of a record's links: onward or 0.
use Prim.Native.Nat.{◌<◌, ◌≤◌, ℕ}
use mathlib.Core.Bool.{and-false}
use mathlib.Core.List.{List}
use mathlib.Core.Logic.{inl, inr, ⊎_elim}
use mathlib.Core.Path.{◌∙◌, ◌≡◌, subst, sym}
use lib.Dec.{ltb}
use native.Mathlib.Omega.{arith}
use borrow.Author.Tests.{le-leb, le-ltb, lt-leb, lt-ltb}
use Rattle.extension.specs.Sets.{onward}
use Rattle.meaning.specs.Records.{Onward, last_of}
use Rattle.theory.proofs.Rules.{order}

module _ (p : List ℕ) (k x : ℕ) where
  back : x ≤ k → 0 ≡ onward p k x
  back h = rw (le-ltb k x h)

  past : last_of 6 p < x → 0 ≡ onward p k x
  past h = rw (lt-leb x (last_of 6 p) h, and-false (ltb k x))

  on : k < x → x ≤ last_of 6 p → x ≡ onward p k x
  on h l = rw (lt-ltb k x h, le-leb x (last_of 6 p) l)

  -- a link of a record that is reached
  pub link_same : Onward (last_of 6 p) k x → onward p k x ≡ x
  link_same (inl e) = sym (back (omega arith)) ∙ sym e
  link_same (inr h) = rw (lt-ltb k x h.0, le-leb x (last_of 6 p) h.1)

  pub onward_goes : Onward (last_of 6 p) k (onward p k x)
  onward_goes = ⊎_elim (λ h. ⊎_elim (λ l. inl (sym (past l))) (λ l. let e = on h l in inr (subst (λ (y : ℕ). (k < y) × (y ≤ last_of 6 p)) e (h, l))) (order (last_of 6 p) x)) (λ h. inl (sym (back h))) (order k x)
