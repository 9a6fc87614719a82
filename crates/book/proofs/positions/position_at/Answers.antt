use Rattle.std.proofs.Common.{◌∙◌}
use Rattle.book.proofs.Rows.{position_alone}
use Rattle.book.proofs.positions.position_at.Goals as goal

pub returns : goal.returns
returns c = c.position_in.ensures ∙ rw c.bytes_at.ensures (position_alone c.args.s.now c.args.off)
