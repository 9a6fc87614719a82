use Rattle.std.proofs.Common.{arith, refl, []}
use Rattle.folds.proofs.First.{on_refusal}
use Rattle.rules.specs.Refusals.{refusal_number}
use Rattle.rules.proofs.Answered.{not_accepted}
use Rattle.sheet.specs.Sheet.{refused_line}
use Rattle.intake.specs.Posted.{answer_line}
use Rattle.intake.proofs.records.put_answer.Goals as goal

pub returns-in-Ok-clause-put : goal.returns-in-Ok-clause-put
unfolding answer_line
returns-in-Ok-clause-put c = rw c.in-Ok.is (record { bytes = refl; place = omega arith })

pub returns-in-Err-clause-put : goal.returns-in-Err-clause-put
unfolding answer_line
returns-in-Err-clause-put c =
    let n = refusal_number c.in-Err.refusal in
    rw (c.in-Err.is, on_refusal n [] (refused_line c.args.place n) (not_accepted c.in-Err.refusal)) (rw c.from.ensures at c.put_refused.ensures.put)
