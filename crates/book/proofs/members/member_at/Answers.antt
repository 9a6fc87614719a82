use Rattle.std.proofs.Common.{◌∙◌}
use Rattle.book.proofs.Rows.{member_alone}
use Rattle.book.proofs.members.member_at.Goals as goal

pub returns : goal.returns
returns c = c.member_in.ensures ∙ rw c.bytes_at.ensures (member_alone c.args.s.now c.args.off)
