use Rattle.ledger.proofs.InRange.{some_contract}
use Rattle.ledger.proofs.post_alone.Goals as goal

pub post_one-requires : goal.post_one-requires
post_one-requires c = (c.requires.0, record { member = c.requires.1; contract = some_contract c.requires.0 })
