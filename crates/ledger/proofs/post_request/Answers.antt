-- By the request.
use Rattle.ledger.proofs.Outcomes.{deposit_is, withdrawal_is, pledge_is}
use Rattle.ledger.proofs.post_request.Goals as goal

pub returns-in-Depositing : goal.returns-in-Depositing
returns-in-Depositing c = let is = deposit_is c.args.h c.args.s.now c.in-Depositing.p in record { value = cc; s_after = cc }

pub returns-in-Withdrawing : goal.returns-in-Withdrawing
returns-in-Withdrawing c = let is = withdrawal_is c.args.h c.args.s.now c.in-Withdrawing.p in record { value = cc; s_after = cc }

pub returns-in-Pledging : goal.returns-in-Pledging
returns-in-Pledging c = let is = pledge_is c.args.h c.args.s.now c.in-Pledging.p in record { value = cc; s_after = cc }
