use Rattle.std.proofs.Common.{arith}
use Rattle.book.proofs.Places.{contract_within}
use Rattle.book.proofs.lent.Rows.contract.Goals as goal

pub contract_at-requires : goal.contract_at-requires
contract_at-requires c = omega (arith, contract_within c.args.self.now.head c.args.j c.requires, c.args.self.now.shaped.enough)
