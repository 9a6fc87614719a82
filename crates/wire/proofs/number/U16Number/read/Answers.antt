use Rattle.std.proofs.Common.{◌∙◌}
use Rattle.wire.proofs.Numbers.{read_bytes}
use Rattle.wire.proofs.number.U16Number.read.Goals as goal

pub returns : goal.returns
returns c = c.from_le_bytes.ensures ∙ rw c.bytes_at.ensures (read_bytes c.args.s.now c.args.off 1)
