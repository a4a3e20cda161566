-- Laws of the numbers of a block: of each the set tells, once all facts were compared, whether an individual has two values.
use Prim.Native.Nat.{◌*◌, ◌+◌, ◌-◌, ◌<◌, ◌≤◌, ℕ}
use mathlib.Core.Bool.{Bool, ◌||◌, cond, false, not, true}
use mathlib.Core.List.{List, [], ◌∷◌}
use mathlib.Core.Logic.{◌↔◌}
use mathlib.Core.Path.{◌∙◌, ◌≡◌, ap, refl, subst, sym}
use lib.Dec.{T, eqb}
use lib.ListN.{get_or, length, set}
use lib.Seq.{get_or-set_other, get_or-set_same}
use native.Mathlib.Omega.{arith}
use borrow.Author.Tests.{eq-eqb, eqb-false, eqb-true, ne_eqb}
use Rattle.frames.proofs.Frames.{only_behind, only_none, only_set, only_span, only_then, row_before}
use Rattle.frames.specs.Frames.{Cleared, Only, Span}
use Rattle.meaning.specs.Limits.{most_individuals, work_size}
use Rattle.meaning.specs.Model.{Fact, fact_at, fact_other, fact_owner, facts_of, individual_count}
use Rattle.meaning.specs.Records.{Name}
use Rattle.model.specs.Chain.{Stated}
use Rattle.satisfaction.proofs.Classes.{interpreted_kept}
use Rattle.satisfaction.proofs.Facts.{number_few, number_other, owner_at_lem, owners_named}
use Rattle.satisfaction.proofs.Links.{Holding, clashing, first_seen, holding_ends, holding_same, repeated, skipped}
use Rattle.satisfaction.proofs.Rows.{put_in_lem, put_inside, put_only}
use Rattle.satisfaction.specs.Classes.{owner_of}
use Rattle.satisfaction.specs.Links.{BlockCompared, Comparable, Compared, Gives, InBlock, Single, Telling, clash, first}
use Rattle.satisfaction.specs.Links.{first_of, link, link_of, none, number_of, other_of, outside, same}
use Rattle.satisfaction.specs.Places.{block_size, clash_words, clashes_at, clashes_of, put_in, series_count, value_place, values_at, values_end}
use Rattle.theory.proofs.Rules.{all_any}
use Rattle.words.specs.Sets.{in_set}

-- what is said by a choice
pub said : (b : Bool) (i j o k : ℕ) → link i j ≡ cond b (link o k) none → T b × (i ≡ o) × (j ≡ k)
said true i j o k e = (tt, cc, cc)
said false i j o k e = absurd (let z : ◌≡◌ {A = ℕ} 0 1 = cc in omega arith)

-- the value that the first record of number u gave
abbrev gave_of : List ℕ → List ℕ → ℕ → ℕ → ℕ → ℕ
gave_of m w base u i = fact_other m (first_of w base u i)

-- a loop with the facts l left: a number in the set has two values, and of another nothing speaks against it so far
pub record Comparing (m : List ℕ) (base : ℕ) (w₀ w : List ℕ) (l : List Fact) : Type 0 where
  pub only : Only (Span clashes_at values_end) w₀ w
  pub found : (u : ℕ) → InBlock base u → in_set (clashes_of w) u ≡ true → Single (link_of u) (facts_of m) → ⊥
  pub holding : (u : ℕ) → InBlock base u → in_set (clashes_of w) u ≡ false → Holding (link_of u) (facts_of m) (first_of w base u) (gave_of m w base u) l
  pub kept : (u : ℕ) → (InBlock base u → ⊥) → in_set (clashes_of w) u ≡ in_set (clashes_of w₀) u

-- ---- before the first fact

pub values_fit : {m w : List ℕ} {base end : ℕ} → Telling m base end w → values_at + individual_count m * block_size ≤ length w
values_fit p = omega (arith, p.interpreted.readable.individuals)

module _ {m w w₁ : List ℕ} {base end : ℕ} (p : Telling m base end w) (new : end ≤ base) (c : Cleared values_at (individual_count m * block_size) w w₁) where
  clear_kept : clashes_of w₁ ≡ clashes_of w
  clear_kept = row_before c.only clash_words clashes_at (omega arith)

  pub comparing_starts : Comparing m base w₁ w₁ (facts_of m)
  comparing_starts = record {
    only = only_none;
    found = λ u b t. absurd (let z : true ≡ false = sym t ∙ ap (λ (s : List ℕ). in_set s u) clear_kept ∙ p.none u (let l = b.low in omega arith) in let y : ◌≡◌ {A = ℕ} 0 1 = cc in omega arith);
    holding = λ u b t. record {
      down = λ s. (λ i j g f. absurd (f (let k = named u i j g in c.zeros (value_place i (u - base - 1)) (omega arith) (omega (arith, b.low, b.high)))), s);
      up = λ g s. s;
      named = λ i j g. let k = named u i j g in omega (arith, p.interpreted.readable.individuals);
    };
    kept = λ u b. refl;
  }
    where
      named : (u i j : ℕ) → Gives (link_of u) i j (facts_of m) → Name (individual_count m) i
      named u i j g =
          let x = all_any (owners_named p.interpreted.readable) g in
          let e = said (eqb u (number_of x.0)) i j (owner_of x.0) (other_of x.0) x.2 in
          omega arith

  module _ {w₂ : List ℕ} where
    pub comparing_size : {l : List Fact} → Comparing m base w₁ w₂ l → length w₂ ≡ length w
    comparing_size t = t.only.size ∙ c.only.size

    pub comparable : {l : List Fact} {f u : ℕ} → base < series_count → Stated m f → u ≡ number_of (fact_at m f) → Comparing m base w₁ w₂ l → Comparable m w₂ f base u
    comparable {f = f} b s e t = record {
      owner = let i = p.interpreted.readable.individuals in (omega arith, omega arith);
      within = b;
      few = rw e (number_few (fact_at m f));
      long = let e = comparing_size t in omega arith;
    }

    -- after the last one
    pub comparing_ends : Comparing m base w₁ w₂ [] → BlockCompared m base w w₂ (base + block_size)
    comparing_ends t = record {
      telling = record {
        interpreted = interpreted_kept (omega arith) only p.interpreted;
        told = λ u l h. go u (record { low = l; high = h }) (in_set (clashes_of w₂) u) refl;
        none = λ u l. t.kept u (λ b. let h = b.high in omega arith) ∙ ap (λ (s : List ℕ). in_set s u) clear_kept ∙ p.none u (omega arith);
      };
      next = omega arith;
      only = only;
    }
      where
        only : Only (Span clashes_at values_end) w w₂
        only = only_then (only_span c.only (omega arith) (omega (arith, p.interpreted.readable.individuals))) t.only

        go : (u : ℕ) → InBlock base u → (b : Bool) → in_set (clashes_of w₂) u ≡ b → T (not b) ↔ Single (link_of u) (facts_of m)
        go u b true e = (λ x. absurd x, λ s. absurd (t.found u b e s))
        go u b false e = (λ _. holding_ends (t.holding u b e), λ _. tt)

-- ---- one fact more

-- of another number it says nothing
elsewhere : (x : Fact) {u : ℕ} → u ≡ number_of x → (a : ℕ) → (a ≡ u → ⊥) → link_of a x ≡ none
elsewhere x {u} e a n = rw (← e, ne_eqb a u n)

speaks : {m : List ℕ} {f u : ℕ} → Stated m f → u ≡ number_of (fact_at m f) → (u ≡ 0 → ⊥) → link_of u (fact_at m f) ≡ link (fact_owner m f) (fact_other m f)
speaks {u = u} s e n = rw (← e, eq-eqb u u refl, owner_at_lem s, number_other s (λ z. n (e ∙ z)))

-- the table with record f noted as the first of number u and individual i
module _ (w : List ℕ) (f : ℕ) {base u i : ℕ} (long : work_size ≤ length w) (owned : Name most_individuals i) (b : InBlock base u) {w' : List ℕ}
    (e : w' ≡ set w (value_place i (u - base - 1)) f) where
  first_only : Only (Span values_at values_end) w w'
  first_only =
      let l = b.low in
      let h = b.high in
      subst (Only (Span values_at values_end) w) (sym e) (only_set (value_place i (u - base - 1)) f (record { low = omega arith; high = omega arith }) only_none)

  first_clashes : clashes_of w' ≡ clashes_of w
  first_clashes = row_before first_only clash_words clashes_at (omega arith)

  first_here : first_of w' base u i ≡ f
  first_here =
      let l = b.low in
      let h = b.high in
      rw e (get_or-set_same w (value_place i (u - base - 1)) f 0 (omega arith))

  first_there : (a j : ℕ) → InBlock base a → Name most_individuals j → ((a ≡ u) × (j ≡ i) → ⊥) → first_of w' base a j ≡ first_of w base a j
  first_there a j c n d =
      let l = b.low in
      let h = b.high in
      let l' = c.low in
      let h' = c.high in
      rw e (get_or-set_other w (value_place i (u - base - 1)) (value_place j (a - base - 1)) f 0 (λ q. d (omega arith, omega arith)))

-- the set with u
module _ (w : List ℕ) {base u : ℕ} (long : work_size ≤ length w) (few : u ≤ series_count) (b : InBlock base u) {w' : List ℕ}
    (e : w' ≡ put_in clash_words w clashes_at u) where
  clash_in : (a : ℕ) → in_set (clashes_of w') a ≡ eqb a u || in_set (clashes_of w) a
  clash_in a =
      let l = b.low in
      rw e (put_in_lem clash_words w clashes_at u (omega arith) (omega arith) a)

  clash_first : (a j : ℕ) → first_of w' base a j ≡ first_of w base a j
  clash_first a j = rw e (only_behind (put_only clash_words w clashes_at u (omega arith)) (value_place j (a - base - 1)) (omega arith))

module _ {m w : List ℕ} {base f u : ℕ} (s : Stated m f) (eu : u ≡ number_of (fact_at m f)) (nf : f ≡ 0 → ⊥) (c₀ : Comparable m w f base u) where
  here_is : InBlock base u → link_of u (fact_at m f) ≡ link (fact_owner m f) (fact_other m f)
  here_is b = speaks s eu (λ z. let l = b.low in omega arith)

  module _ {w₀ w' : List ℕ} (l : List Fact) (t : Comparing m base w₀ w (fact_at m f ∷ l)) where
    pub comparing_on : Compared m base w w' f u → Comparing m base w₀ w' l
    comparing_on (outside n e) = rw e record {
      only = t.only;
      found = t.found;
      holding = λ a c h. skipped (t.holding a c h) (elsewhere (fact_at m f) eu a (λ d. n (rw d at c)));
      kept = t.kept;
    }
    comparing_on (first b z e) = record {
      only = only_then t.only (only_span (first_only w f c₀.long c₀.owner b e) (omega arith) (omega arith));
      found = λ a c h. t.found a c (sym (ap (λ (q : List ℕ). in_set q a) (first_clashes w f c₀.long c₀.owner b e)) ∙ h);
      holding = λ a c h. go a c (t.holding a c (sym (ap (λ (q : List ℕ). in_set q a) (first_clashes w f c₀.long c₀.owner b e)) ∙ h)) (eqb a u) refl;
      kept = λ a c. ap (λ (q : List ℕ). in_set q a) (first_clashes w f c₀.long c₀.owner b e) ∙ t.kept a c;
    }
      where
        go : (a : ℕ) → InBlock base a → Holding (link_of a) (facts_of m) (first_of w base a) (gave_of m w base a) (fact_at m f ∷ l) → (q : Bool) → eqb a u ≡ q →
            Holding (link_of a) (facts_of m) (first_of w' base a) (gave_of m w' base a) l
        go a c h true d =
            let p = eqb-true a u d in
            subst (λ (k : ℕ). Holding (link_of k) (facts_of m) (first_of w' base k) (gave_of m w' base k) l) (sym p)
            (first_seen (subst (λ (k : ℕ). Holding (link_of k) (facts_of m) (first_of w base k) (gave_of m w base k) (fact_at m f ∷ l)) p h) (here_is b) z
            (λ y. nf (sym (first_here w f c₀.long c₀.owner b e) ∙ y)) (ap (fact_other m) (first_here w f c₀.long c₀.owner b e))
            (λ o n d'. let k = first_there w f c₀.long c₀.owner b e u o b n (λ y. d' y.1) in (k, ap (fact_other m) k)))
        go a c h false d =
            let p = eqb-false a u d in
            skipped (holding_same (λ o n. first_there w f c₀.long c₀.owner b e a o c n (λ y. p y.0)) (λ o n. ap (fact_other m) (first_there w f c₀.long c₀.owner b e a o c n (λ y. p y.0))) h) (elsewhere (fact_at m f) eu a p)
    comparing_on (same b n g e) = rw e record {
      only = t.only;
      found = t.found;
      holding = λ a c h. go a c (t.holding a c h) (eqb a u) refl;
      kept = t.kept;
    }
      where
        go : (a : ℕ) → InBlock base a → Holding (link_of a) (facts_of m) (first_of w base a) (gave_of m w base a) (fact_at m f ∷ l) → (q : Bool) → eqb a u ≡ q →
            Holding (link_of a) (facts_of m) (first_of w base a) (gave_of m w base a) l
        go a c h true d =
            let p = eqb-true a u d in
            subst (λ (k : ℕ). Holding (link_of k) (facts_of m) (first_of w base k) (gave_of m w base k) l) (sym p)
            (repeated (subst (λ (k : ℕ). Holding (link_of k) (facts_of m) (first_of w base k) (gave_of m w base k) (fact_at m f ∷ l)) p h) (here_is b) n g)
        go a c h false d = skipped h (elsewhere (fact_at m f) eu a (eqb-false a u d))
    comparing_on (clash b n g e) = record {
      only = put_inside clash_words w clashes_at u (let q = c₀.long in omega arith) (omega arith) (omega arith) e t.only;
      found = λ a c h. go a c (eqb a u) refl (sym (clash_in w c₀.long c₀.few b e a) ∙ h);
      holding = λ a c h. on a c (eqb a u) refl (sym (clash_in w c₀.long c₀.few b e a) ∙ h);
      kept = λ a c. clash_in w c₀.long c₀.few b e a ∙ rw (ne_eqb a u (λ d. c (rw d b))) (t.kept a c);
    }
      where
        found_here : (q : Bool) → in_set (clashes_of w) u ≡ q → Single (link_of u) (facts_of m) → ⊥
        found_here true h = t.found u b h
        found_here false h = clashing (t.holding u b h) (here_is b) n g

        go : (a : ℕ) → InBlock base a → (q : Bool) → eqb a u ≡ q → q || in_set (clashes_of w) a ≡ true → Single (link_of a) (facts_of m) → ⊥
        go a c true d h = rw (eqb-true a u d) (found_here (in_set (clashes_of w) u) refl)
        go a c false d h = t.found a c h

        on : (a : ℕ) → InBlock base a → (q : Bool) → eqb a u ≡ q → q || in_set (clashes_of w) a ≡ false → Holding (link_of a) (facts_of m) (first_of w' base a) (gave_of m w' base a) l
        on a c true d h = absurd (let y : ◌≡◌ {A = ℕ} 0 1 = cc in omega arith)
        on a c false d h =
            skipped (holding_same (λ o k. clash_first w c₀.long c₀.few b e a o) (λ o k. ap (fact_other m) (clash_first w c₀.long c₀.few b e a o)) (t.holding a c h)) (elsewhere (fact_at m f) eu a (eqb-false a u d))

-- the next number was compared before
pub comparing_none : {m w : List ℕ} {base end : ℕ} → Telling m base end w → base < end → BlockCompared m base w w end
comparing_none p h = record { telling = p; next = h; only = only_none }

-- ---- what is found of record f, whose number is u

module _ (m w : List ℕ) (f : ℕ) {base u number : ℕ} (eu : u ≡ number) where
  pub compare_low : u ≤ base → Compared m base w w f number
  compare_low h = outside (λ b. let l = b.low in omega arith) refl

  pub compare_high : base + block_size < u → Compared m base w w f number
  compare_high h = outside (λ b. let l = b.high in omega arith) refl

  module _ {i at : ℕ} (l : base < u) (h : u ≤ base + block_size) (ei : i ≡ fact_owner m f) (ea : at ≡ value_place i (u - base - 1)) where
    in_block : InBlock base u
    in_block = record { low = l; high = h }

    read : get_or w at 0 ≡ first_of w base u (fact_owner m f)
    read = rw (ea, ei)

    pub compare_first : get_or w at 0 ≡ 0 → Compared m base w (set w at f) f number
    compare_first z = rw (← eu) (first in_block (sym read ∙ z) (rw (ea, ei)))

    module _ {x y : ℕ} (n : get_or w at 0 ≡ 0 → ⊥) (ex : x ≡ fact_other m (get_or w at 0)) (ey : y ≡ fact_other m f) where
      pub compare_same : x ≡ y → Compared m base w w f number
      compare_same e = rw (← eu) (same in_block (λ z. n (read ∙ z)) (ap (fact_other m) (sym read) ∙ sym ex ∙ e ∙ ey) refl)

      pub compare_clash : {w' : List ℕ} → (x ≡ y → ⊥) → w' ≡ put_in clash_words w clashes_at u → Compared m base w w' f number
      compare_clash e q = rw (← eu) (clash in_block (λ z. n (read ∙ z)) (λ z. e (ex ∙ ap (fact_other m) read ∙ z ∙ sym ey)) q)
