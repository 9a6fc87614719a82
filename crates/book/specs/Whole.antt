-- 01, The book: a whole book's bytes, from its head and its rows.
use Rattle.std.specs.Prelude.{ℕ, List, [], ◌∷◌, ◌++◌, length}
use Rattle.folds.specs.Rows.{Field, row_bytes}
use Rattle.book.specs.Heads.{Head, head_fields, entry_fields, contracts_entry, members_entry, positions_entry}
use Rattle.book.specs.ContractRows.{Contract, contract_fields}
use Rattle.book.specs.Members.{Member, member_fields}
use Rattle.book.specs.Positions.{Position, position_fields}

-- the head and the table of contents, which follow from the two counts
unfoldable pub head_bytes : Head → List ℕ
head_bytes h =
    row_bytes (head_fields h)
    ++ (row_bytes (entry_fields contracts_entry) ++ (row_bytes (entry_fields (members_entry h)) ++ row_bytes (entry_fields (positions_entry h))))

-- the rows of a list, one after the other, each by its table of fields
abbrev pub rows_bytes : {R : Type 0} → (R → List Field) → List R → List ℕ
rows_bytes fields [] = []
rows_bytes fields (r ∷ rs) = row_bytes (fields r) ++ rows_bytes fields rs

-- the book of these rows; the positions member by member, within a member contract by contract
abbrev pub whole : List Contract → List Member → List Position → List ℕ
whole contracts members positions =
    head_bytes (record { members = length members; contracts = length contracts })
    ++ (rows_bytes contract_fields contracts ++ (rows_bytes member_fields members ++ rows_bytes position_fields positions))
