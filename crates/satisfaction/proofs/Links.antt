-- Laws of the values of one number: each agrees with the first seen of its individual if and only if no individual has two.
use Prim.Native.Nat.{ℕ}
use mathlib.Core.Bool.{Bool, false, true}
use mathlib.Core.List.{List, [], ◌∷◌}
use mathlib.Core.Path.{◌∙◌, ◌≡◌, refl, subst, sym}
use native.Mathlib.Omega.{arith}
use borrow.Author.Tests.{eqb-false, eqb-true}
use lib.Dec.{eqb}
use Rattle.meaning.specs.Limits.{most_individuals}
use Rattle.meaning.specs.Lists.{here, there}
use Rattle.meaning.specs.Model.{Fact}
use Rattle.meaning.specs.Records.{Name}
use Rattle.satisfaction.specs.Links.{Gives, Link, Single, link, none}

-- by what first gave each individual a value, 0 for nothing yet, and the value that it gave; the values that are left agree with it
abbrev Agree : (Fact → Link) → (ℕ → ℕ) → (ℕ → ℕ) → List Fact → Type 0
Agree says by gave l = (i j : ℕ) → Gives says i j l → (by i ≡ 0 → ⊥) → gave i ≡ j

-- a loop with the facts l left of F: none has two in F if and only if none has two in l and l agrees with the first seen
pub record Holding (says : Fact → Link) (F : List Fact) (by gave : ℕ → ℕ) (l : List Fact) : Type 0 where
  pub down : Single says F → Agree says by gave l × Single says l
  pub up : Agree says by gave l → Single says l → Single says F
  pub named : (i j : ℕ) → Gives says i j l → Name most_individuals i

module _ {says : Fact → Link} {F : List Fact} {by gave : ℕ → ℕ} where
  pub holding_ends : Holding says F by gave [] → Single says F
  holding_ends h = h.up (λ i j m. elim m [ ]) (λ i j k m. elim m [ ])

  -- what is noted of the individuals that there are is the same
  pub holding_same : {by' gave' : ℕ → ℕ} {l : List Fact} → ((i : ℕ) → Name most_individuals i → by' i ≡ by i) → ((i : ℕ) → Name most_individuals i → gave' i ≡ gave i) →
      Holding says F by gave l → Holding says F by' gave' l
  holding_same e g h = record {
    down = λ s. (λ i j m n. let k = h.named i j m in g i k ∙ (h.down s).0 i j m (λ z. n (e i k ∙ z)), (h.down s).1);
    up = λ a s. h.up (λ i j m n. let k = h.named i j m in sym (g i k) ∙ a i j m (λ z. n (sym (e i k) ∙ z))) s;
    named = h.named;
  }

  module _ {x : Fact} {l : List Fact} (h : Holding says F by gave (x ∷ l)) where
    later : Single says F → Agree says by gave l × Single says l
    later s = let d = h.down s in (λ i j m. d.0 i j (there m), λ i j k m n. d.1 i j k (there m) (there n))

    -- a fact of another number
    pub skipped : says x ≡ none → Holding says F by gave l
    skipped e = record {
      down = later;
      up = λ a s. h.up (λ i j m. a i j (past m)) (λ i j k m n. s i j k (past m) (past n));
      named = λ i j m. h.named i j (there m);
    }
      where
        past : {i j : ℕ} → Gives says i j (x ∷ l) → Gives says i j l
        past (here d) = absurd (let z : ◌≡◌ {A = ℕ} 0 1 = cc in omega arith)
        past (there m) = m

    module _ {i j : ℕ} (e : says x ≡ link i j) where
      -- another value than the first
      pub clashing : (by i ≡ 0 → ⊥) → (gave i ≡ j → ⊥) → Single says F → ⊥
      clashing f g s = g ((h.down s).0 i j (here (sym e)) f)

      -- one value more, the same as those that follow
      single_more : ((k : ℕ) → Gives says i k l → j ≡ k) → Single says l → Single says (x ∷ l)
      single_more f s o a b (here c) (here d) = cc
      single_more f s o a b (here c) (there n) = let p : o ≡ i = cc in let q : a ≡ j = cc in q ∙ f b (subst (λ (z : ℕ). Gives says z b l) p n)
      single_more f s o a b (there m) (here d) = let p : o ≡ i = cc in let q : b ≡ j = cc in sym (q ∙ f a (subst (λ (z : ℕ). Gives says z a l) p m))
      single_more f s o a b (there m) (there n) = s o a b m n

      pub repeated : (by i ≡ 0 → ⊥) → gave i ≡ j → Holding says F by gave l
      repeated f v = record { down = later; up = λ a s. h.up (agree a) (single_more (λ k m. sym v ∙ a i k m f) s); named = λ a b m. h.named a b (there m) }
        where
          agree : Agree says by gave l → Agree says by gave (x ∷ l)
          agree a o y (here d) g = let p : o ≡ i = cc in let q : y ≡ j = cc in rw (p, q) v
          agree a o y (there m) g = a o y m g

      -- the first value of i is noted
      module _ {by' gave' : ℕ → ℕ} (z : by i ≡ 0) (f : by' i ≡ 0 → ⊥) (v : gave' i ≡ j)
          (others : (a : ℕ) → Name most_individuals a → (a ≡ i → ⊥) → (by' a ≡ by a) × (gave' a ≡ gave a)) where
        pub first_seen : Holding says F by' gave' l
        first_seen = record {
          down = λ s. (λ a b m g. at (h.down s) a b m g (eqb a i) refl, (later s).1);
          up = λ a s. h.up (agree a) (single_more (λ k m. sym v ∙ a i k m f) s);
          named = λ a b m. h.named a b (there m);
        }
          where
            at : Agree says by gave (x ∷ l) × Single says (x ∷ l) → (a b : ℕ) → Gives says a b l → (by' a ≡ 0 → ⊥) → (t : Bool) → eqb a i ≡ t → gave' a ≡ b
            at g a b m n true d =
                let p = eqb-true a i d in
                rw p (v ∙ g.1 i j b (here (sym e)) (there (subst (λ (c : ℕ). Gives says c b l) p m)))
            at g a b m n false d =
                let o = others a (h.named a b (there m)) (eqb-false a i d) in
                o.1 ∙ g.0 a b (there m) (λ y. n (o.0 ∙ y))

            agree : Agree says by' gave' l → Agree says by gave (x ∷ l)
            agree g a b (here d) n = absurd (n (let p : a ≡ i = cc in rw p z))
            agree g a b (there m) n = go (eqb a i) refl
              where
                go : (t : Bool) → eqb a i ≡ t → gave a ≡ b
                go true d = absurd (n (rw (eqb-true a i d) z))
                go false d =
                    let o = others a (h.named a b (there m)) (eqb-false a i d) in
                    sym o.1 ∙ g a b m (λ y. n (sym o.0 ∙ y))
