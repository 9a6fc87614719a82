-- Contract by contract.
use Rattle.std.proofs.Common.{◌+◌, ◌*◌, refl, arith}
use Rattle.numbers.specs.Fold.{fold_to}
use Rattle.folds.proofs.Laid.{sets_step}
use Rattle.book.specs.Layout.{positions_start, position_size, position_off}
use Rattle.book.specs.Positions.{put_position}
use Rattle.book.specs.Rows.{book_of}
use Rattle.book.proofs.Places.{position_within}
use Rattle.settlement.specs.Next.{position_bytes}
use Rattle.settlement.proofs.Sizes.{position_size_lem}
use Rattle.settlement.proofs.next.put_row.Goals as goal

pub loop-j-init : goal.loop-j-init
unfolding fold_to
loop-j-init c = refl

pub put_position-requires : goal.put_position-requires
put_position-requires c = omega (arith, position_within c.args.evening.now.rows.head c.args.m c.loop-j.j c.requires.1 (omega arith))

pub loop-j-preserved : goal.loop-j-preserved
unfolding position_off put_position
loop-j-preserved c =
    let rows = c.args.evening.now.rows in
    let m = c.args.m in
    cc (sets_step c.args.next.now (positions_start rows.head + m * (rows.head.contracts * position_size)) position_size (position_bytes (book_of rows) m) (position_size_lem (book_of rows) m) c.loop-j.j)
