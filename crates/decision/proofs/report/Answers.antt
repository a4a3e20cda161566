use mathlib.Core.Path.{refl}
use native.Mathlib.Omega.{arith}
use Rattle.countermodel.proofs.Sizes.{records_most}
use Rattle.decision.proofs.Policies.{countermodel_length, reports_23, reports_words}
use Rattle.meaning.specs.Countermodel.{countermodel}
use Rattle.decision.proofs.report.Goals as goal

pub size-records-requires : goal.size-records-requires
size-records-requires c = c.requires

pub overflow_add-words : goal.overflow_add-words
overflow_add-words c = omega (arith, records_most _ _ c.requires, c.size-records.ensures.value)

pub overflow_mul-words : goal.overflow_mul-words
overflow_mul-words c = omega (arith, records_most _ _ c.requires, c.size-records.ensures.value)

pub returns-then-out-words : goal.returns-then-out-words
returns-then-out-words c = record { reports = λ K u m. reports_23 _ _ (countermodel K u) c.args.out.now (omega (arith, c.if-out-words.true, c.size-records.ensures.counts_model K u m, countermodel_length K u)); out_len_unchanged = refl }

pub write-requires : goal.write-requires
write-requires c = (c.requires, c.size-records.ensures.value, omega (arith, c.if-out-words.false))

pub shape_of-out : goal.shape_of-out
shape_of-out c = c.write.ensures.out_len_unchanged

pub returns : goal.returns
returns c = record {
  reports = λ K u m.
      let e = c.size-records.ensures.counts_model K u m in
      let l = countermodel_length K u in
      reports_words _ _ (countermodel K u) c.args.out.now (omega (arith, c.if-out-words.false)) (omega arith) (c.write.ensures.model_written K u m);
  out_len_unchanged = c.write.ensures.out_len_unchanged;
}
