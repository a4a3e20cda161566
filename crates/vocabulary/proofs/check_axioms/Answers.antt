use mathlib.Core.Path.{◌∙◌, refl}
use Rattle.meaning.specs.Refusals.{vocabulary_number}
use Rattle.theory.proofs.Numbers.{kept, vocabulary_numbered}
use Rattle.vocabulary.proofs.Laws.{axioms_end, axioms_fall, axioms_on, axioms_start, axioms_stop}
use Rattle.vocabulary.proofs.Names.{noting_ends, noting_on, noting_starts}
use Rattle.vocabulary.proofs.check_axioms.Goals as goal

pub loop-k-init : goal.loop-k-init
loop-k-init c =
    let e = c.first_axiom-k.ensures in
    let h = c.requires.1 in
    record { reading = axioms_start e h; functional_roles = noting_starts e h; functional_features = noting_starts e h; many_roles = noting_starts e h; many_features = noting_starts e h }

pub returns-in_err-check_axiom-clause-value : goal.returns-in_err-check_axiom-clause-value
returns-in_err-check_axiom-clause-value c =
    let e = c.in_err-check_axiom.field-0.0 in
    kept vocabulary_number c.from_residual.result c.from_residual.ensures.1
    ∙ axioms_stop c.loop-k.invariant.reading c.loop-k-test.true c.in_err-check_axiom.ensures (vocabulary_numbered e)

pub loop-k-smaller : goal.loop-k-smaller
loop-k-smaller c = axioms_fall c.loop-k.invariant.reading c.loop-k-test.true c.in_ok-check_axiom.ensures refl c.axiom_next-k.ensures

pub loop-k-preserved : goal.loop-k-preserved
loop-k-preserved c =
    let l = c.loop-k.invariant in
    let n = c.loop-k-test.true in
    let r = c.in_ok-check_axiom.ensures in
    let x = c.axiom_next-k.ensures in
    let e = c.note.ensures in
    record {
      reading = axioms_on l.reading n r refl x;
      functional_roles = noting_on l.functional_roles n r refl x e.functional_roles;
      functional_features = noting_on l.functional_features n r refl x e.functional_features;
      many_roles = noting_on l.many_roles n r refl x e.many_roles;
      many_features = noting_on l.many_features n r refl x e.many_features;
    }

pub returns : goal.returns
returns c =
    let l = c.loop-k.invariant in
    let z = c.loop-k-test.false in
    record {
      value = axioms_end l.reading z;
      functional_roles = λ _. noting_ends l.functional_roles z;
      functional_features = λ _. noting_ends l.functional_features z;
      many_roles = λ _. noting_ends l.many_roles z;
      many_features = λ _. noting_ends l.many_features z;
    }
