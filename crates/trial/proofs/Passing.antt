-- Laws of the test of one combination against the terms of the other policy, one after another.
use Prim.Native.Nat.{◌+◌, ◌<◌, ℕ}
use mathlib.Core.Bool.{Bool, ◌||◌, false, true}
use mathlib.Core.List.{List}
use mathlib.Core.Path.{◌∙◌, ◌≡◌, ap, refl, sym}
use native.Mathlib.Omega.{arith}
use Rattle.layout.specs.Tables.{piece_at}
use Rattle.layout.specs.declared.Tables.{Tables}
use Rattle.meaning.specs.Limits.{most_depth}
use Rattle.meaning.specs.Lists.{All, ◌∈◌, any}
use Rattle.meaning.specs.Policy.{Policy, child_of, first_term, next_of, policy_of, term_at}
use Rattle.meaning.specs.Records.{falling, last_of}
use Rattle.policy.proofs.Terms.{Asking, asking_ends, asking_falls, asking_found, asking_on, asking_starts, asking_term}
use Rattle.policy.specs.Terms.{conjuncts_at}
use Rattle.retest.specs.Memory.{Sure, TellsAll, Testable}
use Rattle.subsumption.specs.Tests as Whole
use Rattle.subsumption.specs.Tests.{Individual, holds_at, holds_whole}
use Rattle.retest.specs.declared.Reason.{Reason}
use Rattle.theory.proofs.Rules.{all_of, head, tail}
use Rattle.std.specs.Prelude.{IfSome, None, Option, Some, is_some}
use Rattle.trial.specs.Trials.{Askable, Formed, TakenBy, Taker, Taking, Term}
use Rattle.trial.specs.declared.Taken.{Taken}

-- the rest are terms of q, and what they tell is what all tell
pub record Rest (q w : List ℕ) (t : Tables) (s : ℕ) (l : Policy) : Type 0 where
  pub within : All (λ c. c ∈ policy_of q) l
  pub told : any (λ c. holds_at (piece_at w) w t c 1) l ≡ any (λ c. holds_at (piece_at w) w t c 1) (policy_of q)

-- a term whose test is known
module _ {q dials c w : List ℕ} {t : Tables} {s : List ℕ} (a : Askable q dials c w t s) where
  pub first_individual : Individual t 1
  first_individual = record { some = omega arith; within = a.some }

  none_told : {s' : List ℕ} → Sure q c w t s' → Taking q dials c w t s' None
  none_told m = record { taken = tt; sure = m }

  -- no term is asked
  pub none_taken : TakenBy q dials c w t s None None
  none_taken = record { taking = none_told a.sure; refused = λ _. tt }

  module _ (k : ℕ) {j : ℕ} (e : j ≡ child_of q k) where
    pub term_testable : Term q k → Testable q dials c w t s most_depth j
    term_testable m = record { testing = a.testing; listed = a.listed; sure = a.sure; reads = rw e m.reads; shallow = rw e m.shallow }

    module _ {s' : List ℕ} {one : Reason} (f : TellsAll q dials c w t j 1 s' one) where
      tells : one.holds ≡ holds_at (piece_at w) w t (term_at q k) 1
      tells = sym (f.tells.same (piece_at w) a.testing.chosen (record { same = λ d l h. refl })) ∙ ap (λ (i : ℕ). holds_at (piece_at w) w t (conjuncts_at q i) 1) e

      pub term_takes : {r : Taken} → Term q k → r.term ≡ k → r.dials ≡ one.dials → one.holds ≡ true → TakenBy q dials c w t s' (Some k) (Some r)
      term_takes {r} m et ed h = record {
        taking = record {
          taken = record {
            known = rw et m;
            takes = λ v d g. rw et (ap (λ (i : ℕ). holds_at v w t (conjuncts_at q i) 1) (sym e) ∙ f.tells.same v d (rw ed at g) ∙ h);
          };
          sure = f.sure;
        };
        refused = λ z. cc;
      }

      pub term_refuses : one.holds ≡ false → TakenBy q dials c w t s' (Some k) None
      term_refuses h = record { taking = none_told f.sure; refused = λ _. sym tells ∙ h }

  -- what is asked next, with what is remembered by then
  pub taking_askable : {s' : List ℕ} {k : Option ℕ} {r : Option Taken} → TakenBy q dials c w t s' k r → Askable q dials c w t s'
  taking_askable f = record { testing = a.testing; listed = a.listed; sure = f.taking.sure; some = a.some; policy = a.policy }

-- one takes it
pub taking_taker : {q dials c w : List ℕ} {t : Tables} {s : List ℕ} {k : Option ℕ} {r : Option Taken} → TakenBy q dials c w t s k r → {b : Bool} → b ≡ is_some r → b ≡ true → Taker q dials c w t s r
taking_taker f e n = record { taking = f.taking; none = λ z. cc }

none_of : (r : Option Taken) → is_some r ≡ false → r ≡ None
none_of None h = refl
none_of (Some r) h = cc

-- the terms from record k on are still to be asked
pub record Seeking (q dials c w : List ℕ) (t : Tables) (s : List ℕ) (k : ℕ) : Type 0 where
  pub askable : Askable q dials c w t s
  pub vocabulary : List ℕ
  pub place : ℕ
  pub asking : Asking (Rest q w t) vocabulary q place k

pub seeking_starts : {q dials c w : List ℕ} {t : Tables} {s : List ℕ} {k : ℕ} → Askable q dials c w t s → k ≡ first_term q → Seeking q dials c w t s k
seeking_starts {q} a e = record {
  askable = a;
  vocabulary = a.policy.vocabulary;
  place = 1;
  asking = asking_starts a.policy.accepted e (record { within = all_of (policy_of q) (λ c m. m); told = refl });
}

module _ {q dials c w : List ℕ} {t : Tables} {s : List ℕ} {k : ℕ} (g : Seeking q dials c w t s k) where
  pub seeking_ends : k ≡ 0 → Taker q dials c w t s None
  seeking_ends h = record { taking = none_told g.askable g.askable.sure; none = λ _. sym (asking_ends g.asking h).told }

  module _ (n : k ≡ 0 → ⊥) where
    pub seeking_known : IfSome (Some k) (Term q)
    seeking_known = asking_found g.asking n (λ l r. record { reads = (asking_term g.asking n).reads; shallow = (asking_term g.asking n).shallow; within = head r.within })

    pub seeking_falls : {x : ℕ} → x ≡ next_of q k → falling (last_of 6 q) x < falling (last_of 6 q) k
    seeking_falls e = asking_falls g.asking n e

    pub seeking_on : {s' : List ℕ} {one : Option Taken} {x : ℕ} → TakenBy q dials c w t s' (Some k) one → {b : Bool} → b ≡ is_some one → b ≡ false → x ≡ next_of q k → Seeking q dials c w t s' x
    seeking_on {one = one} f e h z = record {
      askable = taking_askable g.askable f;
      vocabulary = g.vocabulary;
      place = g.place + 1;
      asking = asking_on g.asking n z (λ l r. record {
        within = tail r.within;
        told = ap (λ (b : Bool). b || any (λ c. holds_at (piece_at w) w t c 1) l) (sym (f.refused (none_of one (sym e ∙ h)))) ∙ r.told;
      });
    }

-- ---- the constraints whole

-- the rest are terms of q, and what they tell is what all tell
pub record WholeRest (q w : List ℕ) (t : Tables) (s : ℕ) (l : Policy) : Type 0 where
  pub told : any (λ c. holds_whole w t c 1) l ≡ any (λ c. holds_whole w t c 1) (policy_of q)

-- the terms from record k on are still to be asked
pub record WholeSeeking (q w : List ℕ) (t : Tables) (k : ℕ) : Type 0 where
  pub formed : Formed q w t
  pub vocabulary : List ℕ
  pub place : ℕ
  pub asking : Asking (WholeRest q w t) vocabulary q place k

pub whole_starts : {q w : List ℕ} {t : Tables} {k : ℕ} → Formed q w t → k ≡ first_term q → WholeSeeking q w t k
whole_starts {q} a e = record {
  formed = a;
  vocabulary = a.policy.vocabulary;
  place = 1;
  asking = asking_starts a.policy.accepted e (record { told = refl });
}

module _ {q w : List ℕ} {t : Tables} {k : ℕ} (g : WholeSeeking q w t k) where
  pub whole_ends : {b : Bool} → b ≡ false → k ≡ 0 → b ≡ any (λ c. holds_whole w t c 1) (policy_of q)
  whole_ends z h = z ∙ (asking_ends g.asking h).told

  module _ (n : k ≡ 0 → ⊥) where
    pub whole_falls : {x : ℕ} → x ≡ next_of q k → falling (last_of 6 q) x < falling (last_of 6 q) k
    whole_falls e = asking_falls g.asking n e

    module _ {j : ℕ} (e : j ≡ child_of q k) where
      pub whole_testable : Whole.Testable q w t most_depth j
      whole_testable = record {
        standing = g.formed.standing;
        nested = g.formed.nested;
        reads = rw e (asking_term g.asking n).reads;
        shallow = rw e (asking_term g.asking n).shallow;
      }

      module _ {one : Bool} (f : one ≡ holds_whole w t (conjuncts_at q j) 1) where
        first : one ≡ holds_whole w t (term_at q k) 1
        first = f ∙ ap (λ (i : ℕ). holds_whole w t (conjuncts_at q i) 1) e

        pub whole_found : {b : Bool} → b ≡ true → one ≡ true → b ≡ any (λ c. holds_whole w t c 1) (policy_of q)
        whole_found y h = y ∙ asking_found g.asking n (λ l r. sym (ap (λ (b : Bool). b || any (λ c. holds_whole w t c 1) l) (sym first ∙ h)) ∙ r.told)

        pub whole_on : {x : ℕ} → one ≡ false → x ≡ next_of q k → WholeSeeking q w t x
        whole_on h z = record {
          formed = g.formed;
          vocabulary = g.vocabulary;
          place = g.place + 1;
          asking = asking_on g.asking n z (λ l r. record { told = ap (λ (b : Bool). b || any (λ c. holds_whole w t c 1) l) (sym h ∙ first) ∙ r.told });
        }

pub whole_first : {q w : List ℕ} {t : Tables} → Formed q w t → Individual t 1
whole_first a = record { some = omega arith; within = a.some }
