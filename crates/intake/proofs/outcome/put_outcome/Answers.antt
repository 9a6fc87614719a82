use Rattle.folds.proofs.First.{on_refusal}
use Rattle.sheet.specs.Sheet.{sheet_text, settlement_refused}
use Rattle.intake.specs.Posted.{outcome}
use Rattle.intake.proofs.outcome.put_outcome.Goals as goal

pub returns-then-number-eq0-clause-put : goal.returns-then-number-eq0-clause-put
unfolding outcome
returns-then-number-eq0-clause-put c = rw c.if-number-eq0.true c.put_sheet.ensures.put

pub returns-clause-put : goal.returns-clause-put
unfolding outcome
returns-clause-put c =
    rw (on_refusal c.args.number (sheet_text c.args.results.now c.args.members) (settlement_refused c.args.number) c.if-number-eq0.false) c.put_settlement_refused.ensures.put
