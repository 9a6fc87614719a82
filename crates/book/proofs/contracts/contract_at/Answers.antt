use Rattle.std.proofs.Common.{◌∙◌}
use Rattle.book.proofs.Rows.{contract_alone}
use Rattle.book.proofs.contracts.contract_at.Goals as goal

pub returns : goal.returns
returns c = c.contract_in.ensures ∙ rw c.bytes_at.ensures (contract_alone c.args.s.now c.args.off)
