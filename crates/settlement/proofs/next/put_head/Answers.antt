-- The counts and the three entries, one after the other.
use Rattle.settlement.proofs.Parts.{head_parts}
use Rattle.settlement.proofs.next.put_head.Goals as goal

pub returns : goal.returns
returns c = cc (head_parts c.args.evening.now.rows.head c.args.next.now, c.contracts_entry.ensures, c.members_entry.ensures, c.positions_entry.ensures)
