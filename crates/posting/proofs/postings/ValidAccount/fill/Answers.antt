use Rattle.posting.proofs.Sides.{side_in}
use Rattle.posting.proofs.postings.ValidAccount.fill.Goals as goal

pub invariant_of-result : goal.invariant_of-result
invariant_of-result c = record {
  few = c.requires;
  side_in = rw c.side.ensures (side_in c.args.way c.args.self.account.position c.args.self.range.position.long c.args.self.range.position.short);
}
