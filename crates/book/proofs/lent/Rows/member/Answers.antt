use Rattle.std.proofs.Common.{arith}
use Rattle.book.proofs.Places.{member_within}
use Rattle.book.proofs.lent.Rows.member.Goals as goal

pub member_at-requires : goal.member_at-requires
member_at-requires c = omega (arith, member_within c.args.self.now.head c.args.m c.requires, c.args.self.now.shaped.enough)
