-- Laws of a chain's conjuncts, one after another, by the set of an individual.
use Prim.Native.Nat.{◌<◌, ◌≤◌, max, suc, ℕ}
use mathlib.Core.Bool.{Bool, ◌&&◌, cond, false, not, true}
use mathlib.Core.List.{List}
use mathlib.Core.Path.{◌∙◌, ◌≡◌, refl, sym}
use lib.Dec.{eqb}
use native.Mathlib.Omega.{arith}
use borrow.Author.Tests.{not-false, not-true}
use Rattle.extension.proofs.Conjuncts.{Cut, cut, no_more}
use Rattle.extension.proofs.Links.{link_same, onward_goes}
use Rattle.extension.specs.Depths.{Known, Passes, rank}
use Rattle.extension.specs.Sets.{Charted, Linked}
use Rattle.meaning.specs.Accepted.{depth}
use Rattle.meaning.specs.Model.{facts_of, individual_count}
use Rattle.meaning.specs.ModelCheck.{holds}
use Rattle.meaning.specs.Policy.{child_of, kind_of, next_of}
use Rattle.meaning.specs.Records.{Name, falling, last_of}
use Rattle.policy.specs.Terms.{conjuncts_at}
use Rattle.satisfaction.specs.Places.{records_of}
use Rattle.theory.proofs.Links.{falls, onward_le}
use Rattle.words.specs.Sets.{in_set}

-- record k waits no longer than its chain is deep
pub rank_deep : (p m : List ℕ) (k : ℕ) → Cut p m k (conjuncts_at p k) → rank p k ≤ depth (conjuncts_at p k)
rank_deep p m k x = go (eqb (kind_of p k) 3) x.deep
  where
    go : (b : Bool) → depth (conjuncts_at p k) ≡ max (cond b (suc (depth (conjuncts_at p (child_of p k)))) 1) (depth (conjuncts_at p (next_of p k))) →
        cond b (suc (depth (conjuncts_at p (child_of p k)))) 0 ≤ depth (conjuncts_at p k)
    go true e = omega arith
    go false e = omega arith

-- so far the chain from record k on is as good as that from record j on
pub record Carried (p m : List ℕ) (n i k j : ℕ) : Type 0 where
  pub charted : Charted p j
  pub deep : depth (conjuncts_at p j) ≤ n
  pub same : holds (facts_of m) (conjuncts_at p k) i ≡ holds (facts_of m) (conjuncts_at p j) i

pub record Passing (p w : List ℕ) (i k j : ℕ) : Type 0 where
  pub bound : j ≤ last_of 6 p
  pub tells : (m : List ℕ) (n : ℕ) → Known p m n w → Charted p k → depth (conjuncts_at p k) ≤ n → Name (individual_count m) i → Carried p m n i k j

pub passing_starts : {p : List ℕ} (w : List ℕ) (i k : ℕ) → k ≤ last_of 6 p → Passing p w i k k
passing_starts w i k h = record { bound = h; tells = λ m n x c d q. record { charted = c; deep = d; same = refl } }

module _ {p w : List ℕ} {i k j : ℕ} (x : Passing p w i k j) where
  pub passing_ends : j ≡ 0 → Passes p w i k true
  passing_ends z = record { tells = λ m n y c d q. sym ((x.tells m n y c d q).same ∙ rw (z, no_more p)) }

  module _ (z : j ≡ 0 → ⊥) where
    module _ {b : Bool} (e : b ≡ in_set (records_of w i) j) where
      first_told : (m : List ℕ) (n : ℕ) → Known p m n w → Carried p m n i k j → Name (individual_count m) i →
          holds (facts_of m) (conjuncts_at p j) i ≡ b && holds (facts_of m) (conjuncts_at p (next_of p j)) i
      first_told m n y c q =
          let t = cut m z c.charted in
          let r = rank_deep p m j t in
          let d = c.deep in
          t.head i ∙ rw (← y.right j i z c.charted (omega arith) q, e)

      pub passing_fails : not b ≡ true → Passes p w i k false
      passing_fails h = record {
        tells = λ m n y c d q.
            let t = x.tells m n y c d q in sym (t.same ∙ first_told m n y t q ∙ rw (not-true b h));
      }

      module _ {a l : ℕ} (ea : a ≡ next_of p j) (el : Linked p j a l) where
        pub passing_on : not b ≡ false → Passing p w i k l
        passing_on h = record {
          bound = rw el.link (onward_le (last_of 6 p) j _ (onward_goes p j a));
          tells = λ m n y c d q.
              let t = x.tells m n y c d q in
              let u = cut m z t.charted in
              let s : l ≡ next_of p j = el.link ∙ rw ea (link_same p j (next_of p j) u.here.next) in
              let v = u.deep in
              let w = t.deep in record {
                charted = rw s u.next;
                deep = rw s (omega arith);
                same = t.same ∙ first_told m n y t q ∙ rw (not-false b h, s);
              };
        }

        pub passing_falls : falling (last_of 6 p) l < falling (last_of 6 p) j
        passing_falls = let b = x.bound in rw el.link (falls (last_of 6 p) j _ (omega arith, b) (onward_goes p j a))
