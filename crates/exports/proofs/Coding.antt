-- An answer that is the definition's has the definition's numbers.
use Prim.Native.Nat.{ℕ}
use mathlib.Core.List.{List}
use mathlib.Core.Path.{◌≡◌, subst}
use Rattle.exports.specs.Codes.{Code, Coded, CodedComparison, CodedFilling, CodedVerdict}
use Rattle.meaning.specs.Answers.{Answer, ComparisonResult, FillingResult, VerdictResult}
use Rattle.meaning.specs.Operations.{work_after}

module _ {A : Type 0} {a b : Answer A} (e : a ≡ b) where
  pub coded : (f : Answer A → Code) {k x : ℕ} → Coded (f a) k x → Coded (f b) k x
  coded f {k} {x} h = subst (λ (c : Answer A). Coded (f c) k x) e h

  pub worked : (w : List ℕ) {w' : List ℕ} → w' ≡ work_after a w → w' ≡ work_after b w
  worked w {w'} h = subst (λ (c : Answer A). w' ≡ work_after c w) e h

pub coded_verdict : {a b : Answer VerdictResult} → a ≡ b → {k x y n : ℕ} → CodedVerdict a k x y n → CodedVerdict b k x y n
coded_verdict e {k} {x} {y} {n} h = subst (λ (c : Answer VerdictResult). CodedVerdict c k x y n) e h

pub coded_comparison : {a b : Answer ComparisonResult} → a ≡ b → {k x y z n : ℕ} → CodedComparison a k x y z n → CodedComparison b k x y z n
coded_comparison e {k} {x} {y} {z} {n} h = subst (λ (c : Answer ComparisonResult). CodedComparison c k x y z n) e h

pub coded_filling : {a b : Answer FillingResult} → a ≡ b → {k x n : ℕ} → CodedFilling a k x n → CodedFilling b k x n
coded_filling e {k} {x} {n} h = subst (λ (c : Answer FillingResult). CodedFilling c k x n) e h
