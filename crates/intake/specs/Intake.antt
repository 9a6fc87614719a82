-- 01, The evening program: what its input says, of the bytes that are there.
use Rattle.std.specs.Prelude.{ℕ, ◌+◌, ◌*◌, ◌/◌, Bool, cond, List, [], ◌∷◌, leb, length, take, drop}
use Rattle.wire.specs.LittleEndian.{number_at}
use Rattle.folds.specs.Tests.{all_of}
use Rattle.book.specs.Layout.{head_size, most_contracts, longest_book}
use Rattle.book.specs.Heads.{total_of}
pub use Rattle.requests.specs.Records.{record_size}

-- ---- the book

-- the bytes of the head are there, and the total is neither below theirs nor above the longest book's
abbrev pub total_tests : List ℕ → List Bool
total_tests bytes = leb head_size (length bytes) ∷ leb head_size (total_of bytes) ∷ leb (total_of bytes) longest_book ∷ []

-- the length of the book that the head gives, 0 where it gives none
unfoldable pub book_total : List ℕ → ℕ
book_total bytes = cond (all_of (total_tests bytes)) (total_of bytes) 0

-- the length of the book with which the bytes begin, 0 where the input ends inside it
unfoldable pub book_there : List ℕ → ℕ
book_there bytes = cond (leb (book_total bytes) (length bytes)) (book_total bytes) 0

-- ---- the record count

abbrev pub count_size : ℕ
count_size = 4

-- a missing or short count is 0
unfoldable pub count_of : List ℕ → ℕ
count_of bytes = cond (leb count_size (length bytes)) (number_at bytes 0 count_size) 0

-- ---- the records

-- how many records are there in so many bytes, a short one at the end too
abbrev pub records_in : ℕ → ℕ
records_in n = (n + 23) / record_size

-- record i: 24 bytes, or those that are left at the end of the input
unfoldable pub record_bytes : List ℕ → ℕ → List ℕ
record_bytes bytes i = take record_size (drop (i * record_size) bytes)

-- ---- the prices

-- a settlement price and a delivery price, a u32 each
abbrev pub pair_size : ℕ
pair_size = 8

-- as many bytes as settlement has to see: the pairs of as many contracts as a book may have, and one byte more, by which bytes after the last pair are refused
abbrev pub most_prices : ℕ
most_prices = most_contracts * pair_size + 1

-- of all bytes that follow the records, those that settlement is handed
abbrev pub prices_of : List ℕ → List ℕ
prices_of rest = take most_prices rest
