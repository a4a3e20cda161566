use mathlib.Core.Path.{refl}
use Rattle.vocabulary.proofs.Laws.{first}
use Rattle.vocabulary.proofs.Names.{features_opposed, none_opposed, roles_opposed}
use Rattle.vocabulary.proofs.check_chain.Goals as goal

pub check_axioms-requires : goal.check_axioms-requires
check_axioms-requires c = (c.requires.0, first c.args.v.now c.requires.1)

pub returns-then-do_meet : goal.returns-then-do_meet
returns-then-do_meet c =
    let e = c.in_ok-check_axioms.ensures in
    roles_opposed c.args.v.now e.value c.requires.1 refl (λ _. e.functional_roles refl) (λ _. e.many_roles refl) c.do_meet.ensures c.if-do_meet.true

pub returns-then-do_meet-2 : goal.returns-then-do_meet-2
returns-then-do_meet-2 c =
    let e = c.in_ok-check_axioms.ensures in
    features_opposed c.args.v.now e.value c.requires.1 refl (λ _. e.functional_roles refl) (λ _. e.many_roles refl) c.do_meet.ensures c.if-do_meet.false
    (λ _. e.functional_features refl) (λ _. e.many_features refl) c.do_meet-2.ensures c.if-do_meet-2.true

pub returns : goal.returns
returns c =
    let e = c.in_ok-check_axioms.ensures in
    none_opposed c.args.v.now e.value c.requires.1 refl (λ _. e.functional_roles refl) (λ _. e.many_roles refl) c.do_meet.ensures c.if-do_meet.false
    (λ _. e.functional_features refl) (λ _. e.many_features refl) c.do_meet-2.ensures c.if-do_meet-2.false
