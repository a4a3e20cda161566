-- Containment over all interpretations, over those given by tests and over finite ones is one and the same.
use Prim.Native.Nat.{ℕ}
use mathlib.Core.Bool.{◌&&◌}
use mathlib.Core.List.{List}
use mathlib.Core.Logic.{◌↔◌}
use mathlib.Core.Path.{◌≡◌, subst, sym}
use lib.Dec.{eqb, eqb_refl, eqb→eq, leb, leb→le, le→leb}
use Rattle.meaning.specs.Containment.{Contained, ContainedFinite, ContainedTested}
use Rattle.meaning.specs.Interpretation.{Holds, In, Interpretation, Proper, Satisfies, Tested, interpreted}
use Rattle.meaning.specs.Lists.{All, any}
use Rattle.meaning.specs.Model.{Fact, edge, stands, value}
use Rattle.meaning.specs.ModelCheck.{has_within, is_member, reaches}
use Rattle.meaning.specs.Normal.{Bounded}
use Rattle.meaning.specs.Policy.{Chain, Policy, class, end, impossible, interval, some}
use Rattle.meaning.specs.Promises.{Complies}
use Rattle.meaning.specs.Vocabulary.{Vocabulary}
use Rattle.theory.proofs.Containment.{complete, sound}
use Rattle.theory.proofs.Intervals.{only_within, within_only}
use Rattle.theory.proofs.ModelCheck.{edge_is, is_edge, is_member_lem, is_value, member_is, value_is}
use Rattle.theory.proofs.Normal.{BoundedChain}
use Rattle.theory.proofs.Rules.{T_and, and_T, any_in, any_mono, any_out}
use Rattle.theory.proofs.Stated.{all_stated, stated_all}

-- one interpretation says what another says
pub record Agree (I J : Interpretation) : Type 0 where
  pub individuals : (i : ℕ) → I.individual i ↔ J.individual i
  pub classes : (a i : ℕ) → I.in_class a i ↔ J.in_class a i
  pub roles : (r i j : ℕ) → I.by_role r i j ↔ J.by_role r i j
  pub values : (f i v : ℕ) → I.has_value f i v ↔ J.has_value f i v

module _ (I J : Interpretation) (g : Agree I J) where
  pub agree_back : Agree J I
  agree_back = record {
    individuals = λ i. ((g.individuals i).1, (g.individuals i).0);
    classes = λ a i. ((g.classes a i).1, (g.classes a i).0);
    roles = λ r i j. ((g.roles r i j).1, (g.roles r i j).0);
    values = λ f i v. ((g.values f i v).1, (g.values f i v).0);
  }

  pub agree_holds : (q : Chain) (d : ℕ) → Holds I q d → Holds J q d
  agree_holds end d h = tt
  agree_holds (class c next) d h = ((g.classes c d).0 h.0, agree_holds next d h.1)
  agree_holds (impossible next) d h = h
  agree_holds (some r child next) d h = let v = h.0 in ((v.0, (g.roles r d v.0).0 v.1, agree_holds child v.0 v.2), agree_holds next d h.1)
  agree_holds (interval f lo hi next) d h = let v = h.0 in ((v.0, (g.values f d v.0).0 v.1, v.2), agree_holds next d h.1)

  pub agree_in_lem : (P : Policy) (d : ℕ) → In I P d → In J P d
  agree_in_lem P d h = any_mono (λ p k. agree_holds p d k) h

  pub agree_satisfies : (K : Vocabulary) → Satisfies I K → Satisfies J K
  agree_satisfies K s =
      let o = all_stated K s.obeyed in
      record {
        obeyed = stated_all K (record {
          subclass = λ a b m i p. (g.classes b i).0 (o.subclass a b m i ((g.classes a i).1 p));
          apart = λ a b m i p q. o.apart a b m i ((g.classes a i).1 p) ((g.classes b i).1 q);
          role = λ r t i j k p q. o.role r t i j k ((g.roles r i j).1 p) ((g.roles r i k).1 q);
          feature = λ f t i v w p q. o.feature f t i v w ((g.values f i v).1 p) ((g.values f i w).1 q);
          ranged = λ r c m i j p. (g.classes c j).0 (o.ranged r c m i j ((g.roles r i j).1 p));
          many_role = λ r t. tt;
          many_feature = λ f t. tt;
        });
      }

  pub agree_proper : Proper I → Proper J
  agree_proper p = record {
    inhabited = (p.inhabited.0, (g.individuals p.inhabited.0).0 p.inhabited.1);
    classes = λ a i m. (g.individuals i).0 (p.classes a i ((g.classes a i).1 m));
    sources = λ r i j m. (g.individuals i).0 (p.sources r i j ((g.roles r i j).1 m));
    targets = λ r i j m. (g.individuals j).0 (p.targets r i j ((g.roles r i j).1 m));
    holders = λ f i v m. (g.individuals i).0 (p.holders f i v ((g.values f i v).1 m));
  }

-- the tests of a list of facts
abbrev pub tests_of : ℕ → List Fact → Tested
tests_of n F = record {
  individual = λ i. leb 1 i && leb i n;
  in_class = λ a i. any (is_member a i) F;
  by_role = λ r i j. any (reaches r i (eqb j)) F;
  has_value = λ f i v. any (has_within f i v v) F;
}

facts_agree : (n : ℕ) (F : List Fact) → Agree (stands n F) (interpreted (tests_of n F))
facts_agree n F = record {
  individuals = λ i. (λ h. and_T (leb 1 i) (leb i n) (le→leb 1 i h.0) (le→leb i n h.1), λ t. let u = T_and (leb 1 i) (leb i n) t in (leb→le 1 i u.0, leb→le i n u.1));
  classes = λ a i. (λ h. any_in (is_member a i) (any_mono (λ x e. is_member_lem a i x e) h), λ t. any_mono (λ x u. member_is a i x u) (any_out (is_member a i) F t));
  roles = λ r i j. (
    λ h. any_in (reaches r i (eqb j)) (any_mono (λ x e. is_edge r i (eqb j) j (eqb_refl j) x e) h),
    λ t. any_mono (λ x u. let v = edge_is r i (eqb j) x u in subst (λ (z : ℕ). edge r i z ≡ x) (sym (eqb→eq j v.0 v.2)) v.1) (any_out (reaches r i (eqb j)) F t),
  );
  values = λ f i v. (
    λ h. any_in (has_within f i v v) (any_mono (λ x e. is_value f i v v v (within_only v) x e) h),
    λ t. any_mono (λ x u. let w = value_is f i v v x u in subst (λ (z : ℕ). value f i z ≡ x) (only_within v w.0 w.2) w.1) (any_out (has_within f i v v) F t),
  );
}

pub tested_finite : (K : Vocabulary) (P Q : Policy) → ContainedTested K P Q → ContainedFinite K P Q
tested_finite K P Q c n F p s d i h =
    let I = stands n F in
    let J = interpreted (tests_of n F) in
    let g = facts_agree n F in
    agree_in_lem J I (agree_back I J g) Q d (c (tests_of n F) (agree_proper I J g p) (agree_satisfies I J g K s) d ((g.individuals d).0 i) (agree_in_lem I J g P d h))

pub contained_finite : {K : Vocabulary} {P Q : Policy} → Contained K P Q → ContainedFinite K P Q
contained_finite c n F = c (stands n F)

-- all of them, those given by tests, finite ones, and the combinations
pub record OneContainment (K : Vocabulary) (P Q : Policy) : Type 1 where
  pub tested : Contained K P Q → ContainedTested K P Q
  pub finite : ContainedTested K P Q → ContainedFinite K P Q
  pub passes : ContainedFinite K P Q → All (Complies K Q) P
  pub contained : All (Complies K Q) P → Contained K P Q

pub one_containment : (K : Vocabulary) → Bounded K → (P Q : Policy) → All (BoundedChain K.classes) P → OneContainment K P Q
one_containment K w P Q f = record {
  tested = λ c M. c (interpreted M);
  finite = tested_finite K P Q;
  passes = complete K w P Q f;
  contained = sound K P Q;
}
