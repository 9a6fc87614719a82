use Rattle.std.proofs.Common.{arith}
use Rattle.book.proofs.Places.{member_within}
use Rattle.book.proofs.lent.Rows.kind_number.Goals as goal

pub read-requires : goal.read-requires
read-requires c = omega (arith, member_within c.args.self.now.head c.args.m c.requires, c.args.self.now.shaped.enough)
