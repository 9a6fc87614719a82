use Rattle.std.proofs.Common.{refl}
use Rattle.folds.proofs.Rows.{row_placed}
use Rattle.book.specs.Layout.{contract_size}
use Rattle.book.specs.ContractRows.{contract_fields, put_contract}
use Rattle.book.proofs.contracts.put_contract.Goals as goal

pub returns : goal.returns
unfolding put_contract
returns c =
    let row = rw c.unwrap-row.ensures at c.first_chunk_mut.ensures.cases in
    cc (row.same, row_placed (contract_fields c.args.c) c.args.s.now c.args.off contract_size refl refl c.requires)
