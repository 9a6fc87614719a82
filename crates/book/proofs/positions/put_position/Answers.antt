use Rattle.std.proofs.Common.{refl}
use Rattle.folds.proofs.Rows.{row_placed}
use Rattle.book.specs.Layout.{position_size}
use Rattle.book.specs.Positions.{position_fields, put_position}
use Rattle.book.proofs.positions.put_position.Goals as goal

pub returns : goal.returns
unfolding put_position
returns c =
    let row = rw c.unwrap-row.ensures at c.first_chunk_mut.ensures.cases in
    cc (row.same, row_placed (position_fields c.args.p) c.args.s.now c.args.off position_size refl refl c.requires)
