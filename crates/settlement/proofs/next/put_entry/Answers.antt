-- The writes one after the other are the table of fields.
use Rattle.std.proofs.Common.{refl}
use Rattle.folds.proofs.Rows.{put_row}
use Rattle.book.specs.Heads.{entry_fields}
use Rattle.settlement.proofs.next.put_entry.Goals as goal

pub returns : goal.returns
returns c = cc (put_row (entry_fields c.args.e) c.args.next.now c.args.off refl)
