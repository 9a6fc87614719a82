use Rattle.std.proofs.Common.{◌∙◌}
use Rattle.wire.proofs.Writes.{write_bytes}
use Rattle.wire.proofs.number.U64Number.write.Goals as goal

pub returns : goal.returns
returns c = c.put_bytes.ensures ∙ rw c.to_le_bytes.ensures (write_bytes c.args.s.now c.args.off 8 c.args.self c.requires)
