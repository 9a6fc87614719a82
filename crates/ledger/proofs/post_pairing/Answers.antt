use Rattle.ledger.proofs.Outcomes.{pairing_is}
use Rattle.ledger.proofs.post_pairing.Goals as goal

pub returns : goal.returns
returns c =
    let is = pairing_is c.args.h c.args.s.now c.args.p in
    record { value = cc; s_after = cc }
