-- Before the search: the dials, the constraints whole, and the first combination.
use Prim.Native.Nat.{◌+◌, ◌<◌, ◌≤◌, suc, zero, ℕ}
use mathlib.Core.Bool.{Bool, true}
use mathlib.Core.List.{List, [], map}
use mathlib.Core.Path.{◌∙◌, ◌≡◌, refl, subst, sym}
use native.Mathlib.Omega.{arith}
use lib.ListN.{get_or, length, replicate, take}
use lib.Seq.{length-take-le}
use Rattle.carriers.specs.Carriers.{Listable, Listed}
use Rattle.frames.proofs.Frames.{only_none, only_then}
use Rattle.frames.specs.Frames.{Only}
use Rattle.layout.proofs.Nesting.{nested_kept}
use Rattle.layout.specs.Tables.{Pieces, constraint_at}
use Rattle.layout.specs.declared.Tables.{Tables}
use Rattle.meaning.specs.Intervals.{NonEmpty}
use Rattle.meaning.specs.Lists.{any, cons, counting, nil}
use Rattle.meaning.specs.Policy.{policy_of}
use Rattle.odometer.proofs.Weights.{pieces_any}
use Rattle.odometer.specs.Odometer.{Counted, DialsFound, Split, most_dials}
use Rattle.splitting.proofs.Callers.{constraints_at_lem, constraints_kept, splittable_kept, tabled_turned, whole_form}
use Rattle.splitting.proofs.Storing.{constraint_kept}
use Rattle.splitting.specs.Constraints.{Full, Started, first_constraints}
use Rattle.subsumption.specs.Tests.{holds_whole}
use Rattle.theory.proofs.Digits.{fill}
use Rattle.theory.proofs.Picks.{AllNonEmpty}
use Rattle.theory.proofs.Whole.{whole_passes}
use Rattle.trial.proofs.Keeping.{none_listed, none_sure, none_terms}
use Rattle.trial.proofs.Trying.{passes_held}
use Rattle.std.specs.Prelude.{None, Option}
use Rattle.trial.specs.Trials.{Blank, Formed, Positive, Remembers, Searchable, Triable, Tried, Turnable}

constraints_non_empty : (w : List ℕ) (n : ℕ) → Full w n → AllNonEmpty (first_constraints w n)
constraints_non_empty w n f = go 0 n (λ m h. f m (omega arith))
  where
    go : (o n : ℕ) → ((m : ℕ) → m < o + n → NonEmpty (constraint_at w m).lo (constraint_at w m).hi) → AllNonEmpty (map (constraint_at w) (counting o n))
    go o zero f = nil
    go o (suc n) f = cons (f o (omega arith)) (go (suc o) n (λ m h. f m (omega arith)))

-- a word beside each dial
pub dials_beside : {w : List ℕ} {n k : ℕ} {l l' : List ℕ} → DialsFound w n l l' k → most_dials ≤ length l → length {A = ℕ} (take k (replicate most_dials 0)) ≡ length (take k l')
dials_beside {k = k} {l' = l'} f h = length-take-le {A = ℕ} k (replicate most_dials 0) (omega (arith, f.within)) ∙ sym (length-take-le k l' (omega (arith, f.size, f.within)))

module _ {q e w : List ℕ} {t : Tables} (r : Triable q e w t) where
  pub triable_split : Split e w t.constraints
  triable_split = record { splittable = r.splittable; policy = policy_of q; ends = r.ends; few = r.few }

  -- the constraints whole

  pub triable_formed : Formed q w t
  triable_formed = record { standing = r.standing; nested = r.nested; some = r.some; policy = r.policy }

  pub whole_taken : {b : Bool} → b ≡ any (λ c. holds_whole w t c 1) (policy_of q) → b ≡ true → Tried (policy_of q) w w t None
  whole_taken e h = record {
    told = λ K F g.
        let same : fill (constraint_at w) F ≡ F = whole_form w t.constraints F (sym (constraints_at_lem g)) in
        let p = sym (passes_held (policy_of q) g (constraint_at w)) ∙ sym e ∙ h in
        whole_passes K (policy_of q) F (subst AllNonEmpty (constraints_at_lem g) (constraints_non_empty w t.constraints r.splittable.full)) (rw same at p);
    only = only_none;
  }

  pub triable_turnable : {l l' : List ℕ} {k : ℕ} → DialsFound w t.constraints l l' k → k ≤ length l' → Turnable q e (take k l') w t
  triable_turnable {l' = l'} {k = k} f h = record { triable = r; dialled = f.dialled; few = let x = length-take-le k l' h in omega (arith, f.within) }

module _ {q e dials w : List ℕ} {t : Tables} (r : Turnable q e dials w t) where
  module _ {w' : List ℕ} (k : Only (Pieces t.constraints) w w') where
    pub turnable_kept : Turnable q e dials w' t
    turnable_kept = record {
      triable = record {
        standing = record { long = omega (arith, k.size, r.triable.standing.long); individuals = r.triable.standing.individuals; constraints = r.triable.standing.constraints };
        nested = nested_kept k r.triable.standing.individuals r.triable.nested;
        some = r.triable.some;
        policy = r.triable.policy;
        splittable = splittable_kept k r.triable.splittable;
        ends = r.triable.ends;
        few = rw (constraints_kept k t.constraints) r.triable.few;
      };
      dialled = record {
        dial = λ d h. rw (constraint_kept k (get_or dials d 0)) (r.dialled.dial d h);
        rising = r.dialled.rising;
        all = λ m h l. r.dialled.all m h (rw (constraint_kept k m) at l);
      };
      few = r.few;
    }

    pub tried_kept : {w'' : List ℕ} {c : Option ℕ} → Tried (policy_of q) w' w'' t c → Tried (policy_of q) w w'' t c
    tried_kept y = record {
      told = λ K F h. y.told K F (tabled_turned h k (r.triable.standing.individuals, r.triable.standing.constraints));
      only = only_then k y.only;
    }

  -- ---- the first combination

  pub turnable_searchable : {w' counts earlier : List ℕ} → Started t.constraints w w' → Counted e dials w' counts → length earlier ≡ length dials →
      Searchable q e dials counts earlier w' t
  turnable_searchable s c h = record { turnable = turnable_kept s.only; first = s.first; counted = c; size = h }

-- ---- what is kept while they are tried

module _ {q e dials counts earlier w : List ℕ} {t : Tables} (r : Searchable q e dials counts earlier w t) where
  pub few_remember : Remembers q [] w t [] []
  few_remember = record { listed = none_listed [] (λ i. refl) w t.individuals; sure = none_sure [] (λ i. refl) q [] w t; terms = none_terms [] (λ i. refl) q }

  pub searchable_listable : Listable dials w t
  searchable_listable = record {
    standing = r.turnable.triable.standing;
    nested = r.turnable.triable.nested;
    inside = λ d h. (r.turnable.dialled.dial d h).0;
    few = r.turnable.few;
  }

  pub blank_remembers : {c s takers : List ℕ} → Listed c w t.individuals → Blank s → Blank takers → Remembers q c w t s takers
  blank_remembers {c} {s} {takers} l m n = record { listed = l; sure = none_sure s m q c w t; terms = none_terms takers n q }

  pub searchable_positive : Positive counts
  searchable_positive d h = rw (r.counted.count (policy_of q) r.turnable.triable.ends d (omega (arith, r.counted.size))) (pieces_any (policy_of q) w (get_or dials d 0))
