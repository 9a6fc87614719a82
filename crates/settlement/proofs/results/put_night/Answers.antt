-- The parts one after the other are the table of fields.
use Rattle.std.proofs.Common.{refl}
use Rattle.folds.proofs.Rows.{row_placed}
use Rattle.settlement.specs.Next.{result_size, result_fields}
use Rattle.settlement.proofs.results.put_night.Goals as goal

pub returns : goal.returns
returns c =
    let row = rw c.unwrap-row.ensures at c.first_chunk_mut.ensures.cases in
    cc (row.same, row_placed (result_fields c.args.t) c.args.results.now c.args.off result_size refl refl c.requires)
