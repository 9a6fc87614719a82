-- How many bytes each row has: the widths of its fields.
use mathlib.Core.Path.{◌≡◌}
use Prim.Native.Nat.{ℕ, ◌*◌}
use lib.ListN.{length}
use Rattle.folds.proofs.Rows.{length_row}
use Rattle.folds.proofs.Laid.{length_to}
use Rattle.book.specs.Layout.{contract_size, member_size, position_size}
use Rattle.book.specs.ContractRows.{contract_fields}
use Rattle.book.specs.Members.{member_fields}
use Rattle.book.specs.Positions.{position_fields}
use Rattle.book.specs.Books.{Book}
use Rattle.tonight.specs.Given.{Given}
use Rattle.tonight.specs.Night.{night_of}
use Rattle.settlement.specs.Next.{next_contract, next_member, next_position, contract_bytes, member_bytes, position_bytes, positions_bytes, result_size, result_fields, result_row}

module _ (b : Book) (given : Given) where
  pub contract_size_lem : (j : ℕ) → length (contract_bytes b given j) ≡ contract_size
  contract_size_lem j = length_row (contract_fields (next_contract b given j))

  pub member_size_lem : (m : ℕ) → length (member_bytes b given m) ≡ member_size
  member_size_lem m = length_row (member_fields (next_member b given m))

  pub result_size_lem : (m : ℕ) → length (result_row b given m) ≡ result_size
  result_size_lem m = length_row (result_fields (night_of b given m))

pub position_size_lem : (b : Book) (m j : ℕ) → length (position_bytes b m j) ≡ position_size
position_size_lem b m j = length_row (position_fields (next_position b m j))

-- a member's rows
pub positions_size : (b : Book) (m : ℕ) → length (positions_bytes b m) ≡ b.head.contracts * position_size
positions_size b m = length_to position_size (position_bytes b m) (position_size_lem b m) b.head.contracts
