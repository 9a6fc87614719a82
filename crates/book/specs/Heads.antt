-- 01, The book: the head and the table of contents.
use Rattle.std.specs.Prelude.{ℕ, ◌+◌, ◌*◌, List, [], ◌∷◌}
use Rattle.wire.specs.LittleEndian.{number_at}
use Rattle.folds.specs.Rows.{Field, field}
use Rattle.book.specs.Layout.{members_at, contracts_at, total_at, contents_at, entry_size, section_at, row_size_at, offset_at, contract_size, member_size, position_size, contracts_start, members_start, positions_start, book_length}
pub use Rattle.book.specs.declared.heads.Head.{Head}
pub use Rattle.book.specs.declared.heads.Entry.{Entry}

unfoldable pub head_at : List ℕ → Head
head_at xs = record { members = number_at xs members_at 2; contracts = number_at xs contracts_at 2 }

abbrev pub total_of : List ℕ → ℕ
total_of xs = number_at xs total_at 4

-- entry i of the table of contents
abbrev pub entry_off : ℕ → ℕ
entry_off i = contents_at + i * entry_size

unfoldable pub entry_at : List ℕ → ℕ → Entry
entry_at xs off = record { section = number_at xs (off + section_at) 2; size = number_at xs (off + row_size_at) 2; start = number_at xs (off + offset_at) 4 }

-- what the entries have to be: sections 1, 2 and 3, in that order
abbrev pub entry : (section size start : ℕ) → Entry
entry section size start = record { section = section; size = size; start = start }

abbrev pub contracts_entry : Entry
contracts_entry = entry 1 contract_size contracts_start

abbrev pub members_entry : Head → Entry
members_entry h = entry 2 member_size (members_start h)

abbrev pub positions_entry : Head → Entry
positions_entry h = entry 3 position_size (positions_start h)

-- the head of a book as it is written
abbrev pub entry_fields : Entry → List Field
entry_fields e = field section_at 2 e.section ∷ field row_size_at 2 e.size ∷ field offset_at 4 e.start ∷ []

abbrev pub head_fields : Head → List Field
head_fields h = field members_at 2 h.members ∷ field contracts_at 2 h.contracts ∷ field total_at 4 (book_length h) ∷ []
