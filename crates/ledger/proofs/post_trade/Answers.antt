use Rattle.ledger.proofs.Outcomes.{trade_is}
use Rattle.ledger.proofs.post_trade.Goals as goal

pub returns : goal.returns
returns c =
    let is = trade_is c.args.h c.args.s.now c.args.t in
    record { value = cc; s_after = cc }
