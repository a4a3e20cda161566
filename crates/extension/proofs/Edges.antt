-- Laws of the edges: the records of an edge's role that hold below its target are put into its owner's set.
use Prim.Native.Nat.{◌≤◌, ℕ}
use mathlib.Core.Bool.{Bool, ◌&&◌, and-false, false, not, true}
use mathlib.Core.List.{List}
use mathlib.Core.Path.{◌∙◌, ◌≡◌, refl, sym}
use lib.Dec.{eqb}
use lib.ListN.{length}
use native.Mathlib.Omega.{arith}
use borrow.Author.Tests.{not-false, not-true}
use Rattle.extension.specs.Columns.{EdgeMarked, column_of, column_place, columns_end, hands, mask_of, mask_place}
use Rattle.meaning.specs.Limits.{most_individuals, most_roles, work_size}
use Rattle.meaning.specs.Model.{fact_at, fact_kind, fact_name, fact_other, fact_owner}
use Rattle.meaning.specs.Records.{Name, is_name}
use Rattle.model.specs.Chain.{Readable, Stated}
use Rattle.satisfaction.proofs.Facts.{by_kind}
use Rattle.satisfaction.specs.Places.{record_words, set_place}
use Rattle.spans.proofs.Joining.{handed_none, joined_handed, owner_few}
use Rattle.spans.specs.Joining.{Joinable, Joined}
use Rattle.theory.proofs.Links.{tests}
use Rattle.words.specs.Sets.{in_set}

pub edge_joinable : (c w : List ℕ) {o j r at from mask : ℕ} → work_size ≤ length w → columns_end ≤ length c → Name most_individuals o → at ≡ set_place o →
    Name most_individuals j → from ≡ column_place j → Name most_roles r → mask ≡ mask_place r → Joinable at from mask w c
edge_joinable c w lw lc x ea y ef z em = record { room = omega arith; column = omega arith; masked = omega arith }

module _ {m : List ℕ} {f kind : ℕ} (s : Stated m f) (ek : kind ≡ fact_kind m f) where
  pub edge_none : (c w : List ℕ) → (kind ≡ 2 → ⊥) → EdgeMarked c (fact_at m f) w w
  edge_none c w n = handed_none w (λ i k _. by_kind s (λ x. hands c i k x ≡ false) (λ _. refl) (λ e. absurd (n (ek ∙ e))) (λ _. refl))

  module _ {r : ℕ} {b : Bool} (er : r ≡ fact_name m f) (h : b ≡ is_name most_roles r) where
    pub edge_past : (c w : List ℕ) → not b ≡ true → EdgeMarked c (fact_at m f) w w
    edge_past c w n =
        handed_none w (λ i k _.
        by_kind s (λ x. hands c i k x ≡ false) (λ _. refl) (λ _. rw (← er, ← h, not-true b n, and-false (eqb i (fact_owner m f)))) (λ _. refl))

    pub edge_role : not b ≡ false → Name most_roles r
    edge_role n = simp tests at (sym h ∙ not-false b n)

    module _ {o j : ℕ} (rm : Readable m) (e : kind ≡ 2) (eo : o ≡ fact_owner m f) (ej : j ≡ fact_other m f) where
      pub edge_target : Name most_individuals j
      edge_target = let t = s.target (sym ek ∙ e) in let i = rm.individuals in omega arith

      module _ {at from mask : ℕ} (n : not b ≡ false) (ea : at ≡ set_place o) (ef : from ≡ column_place j) (em : mask ≡ mask_place r) where
        pub edge_joined : {c w w' : List ℕ} → Joined record_words at from mask c w w' → EdgeMarked c (fact_at m f) w w'
        edge_joined {c} x = joined_handed (owner_few s rm eo) ea (λ i k _. rw (ef, em) (handed i k)) x
          where
            handed : (i k : ℕ) → hands c i k (fact_at m f) ≡ eqb i o && (in_set (column_of c j) k && in_set (mask_of c r) k)
            handed i k =
                by_kind s (λ x. hands c i k x ≡ eqb i o && (in_set (column_of c j) k && in_set (mask_of c r) k)) (λ d. absurd (omega arith))
                (λ _. rw (← er, ← h, not-false b n, ← eo, ← ej)) (λ d. absurd (omega arith))
