-- 01, The book: every size, offset and section's start. No other file of definitions says a number of the layout.
use Rattle.std.specs.Prelude.{ℕ, ◌+◌, ◌*◌}
pub use Rattle.book.specs.declared.heads.Head.{Head}

-- ---- the head and the table of contents

abbrev pub head_size : ℕ
head_size = 32

abbrev pub members_at : ℕ
members_at = 0

abbrev pub contracts_at : ℕ
contracts_at = 2

abbrev pub total_at : ℕ
total_at = 4

-- the first entry of the table of contents, and an entry's size and fields
abbrev pub contents_at : ℕ
contents_at = 8

abbrev pub entry_size : ℕ
entry_size = 8

abbrev pub section_at : ℕ
section_at = 0

abbrev pub row_size_at : ℕ
row_size_at = 2

abbrev pub offset_at : ℕ
offset_at = 4

-- a book has at most so many members and contracts
abbrev pub most_members : ℕ
most_members = 32

abbrev pub most_contracts : ℕ
most_contracts = 32

-- ---- section 1: contracts

abbrev pub contract_size : ℕ
contract_size = 24

abbrev pub last_at : ℕ
last_at = 0

abbrev pub multiplier_at : ℕ
multiplier_at = 4

abbrev pub rate_at : ℕ
rate_at = 8

abbrev pub fee_at : ℕ
fee_at = 12

abbrev pub delivery_at : ℕ
delivery_at = 16

abbrev pub contract_zero_at : ℕ
contract_zero_at = 20

-- ---- section 2: members

abbrev pub member_size : ℕ
member_size = 64

abbrev pub kind_at : ℕ
kind_at = 0

abbrev pub accepted_at : ℕ
accepted_at = 4

abbrev pub reserve_at : ℕ
reserve_at = 8

abbrev pub margin_at : ℕ
margin_at = 16

abbrev pub usable_at : ℕ
usable_at = 24

abbrev pub market_at : ℕ
market_at = 32

abbrev pub discount_at : ℕ
discount_at = 40

abbrev pub deposits_at : ℕ
deposits_at = 48

abbrev pub withdrawals_at : ℕ
withdrawals_at = 56

-- ---- section 3: positions. A count of the long side stands before that of the short side

abbrev pub position_size : ℕ
position_size = 48

abbrev pub long_at : ℕ
long_at = 0

abbrev pub short_at : ℕ
short_at = 4

abbrev pub opening_at : ℕ
opening_at = 0

abbrev pub closed_at : ℕ
closed_at = 8

abbrev pub new_at : ℕ
new_at = 16

abbrev pub paired_at : ℕ
paired_at = 24

abbrev pub cash_at : ℕ
cash_at = 32

abbrev pub traded_at : ℕ
traded_at = 40

abbrev pub position_zero_at : ℕ
position_zero_at = 44

-- ---- where sections begin, without gaps

abbrev pub contracts_start : ℕ
contracts_start = head_size

abbrev pub members_start : Head → ℕ
members_start h = contracts_start + h.contracts * contract_size

abbrev pub positions_start : Head → ℕ
positions_start h = members_start h + h.members * member_size

-- ---- where rows stand

unfoldable pub contract_off : ℕ → ℕ
contract_off j = contracts_start + j * contract_size

unfoldable pub member_off : Head → ℕ → ℕ
member_off h m = members_start h + m * member_size

-- member by member, within a member contract by contract
unfoldable pub position_off : Head → ℕ → ℕ → ℕ
position_off h m j = positions_start h + m * (h.contracts * position_size) + j * position_size

-- 32 + 24k + 64n + 48nk
unfoldable pub book_length : Head → ℕ
book_length h = positions_start h + h.members * (h.contracts * position_size)

-- the length of a book with as many members and contracts as it may have: 52,000
abbrev pub longest_book : ℕ
longest_book = head_size + most_contracts * contract_size + most_members * member_size + most_members * (most_contracts * position_size)
