-- The writes one after the other are the table of fields.
use Rattle.std.proofs.Common.{refl, arith}
use Rattle.folds.proofs.Rows.{put_row}
use Rattle.book.specs.Heads.{head_fields}
use Rattle.book.proofs.Places.{book_most}
use Rattle.settlement.proofs.next.put_counts.Goals as goal

pub overflow_cast-book_length : goal.overflow_cast-book_length
overflow_cast-book_length c =
    let rows = c.args.evening.now.rows in
    omega (arith, book_most rows.head rows.shaped.members rows.shaped.contracts)

pub returns : goal.returns
returns c = cc (put_row (head_fields c.args.evening.now.rows.head) c.args.next.now 0 refl)
