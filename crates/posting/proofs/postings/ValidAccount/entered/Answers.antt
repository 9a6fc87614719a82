-- An accepted side of a trade finds enough lots under its mark.
use Rattle.posting.specs.Fills.{Buyer, Seller}
use Rattle.posting.proofs.Outcomes.{has_enough}
use Rattle.posting.proofs.postings.ValidAccount.entered.Goals as goal

pub traded-requires : goal.traded-requires
traded-requires c =
    let t = c.in-Buys.t in
    let h = rw c.in-Buys.is at c.requires in
    (h.0.0, h.0.1, has_enough Buyer t.buying t c.args.self.account h.1)

pub traded-requires-in-Sells : goal.traded-requires-in-Sells
traded-requires-in-Sells c =
    let t = c.in-Sells.t in
    let h = rw c.in-Sells.is at c.requires in
    (h.0.0, h.0.1, has_enough Seller t.selling t c.args.self.account h.1)
