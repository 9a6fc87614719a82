use Rattle.std.proofs.Common.{arith}
use Rattle.book.proofs.Places.{position_within}
use Rattle.book.proofs.lent.Rows.position.Goals as goal

pub position_at-requires : goal.position_at-requires
position_at-requires c = omega (arith, position_within c.args.self.now.head c.args.m c.args.j c.requires.0 c.requires.1, c.args.self.now.shaped.enough)
