-- 01, The evening program: the records posted in their order, and what is printed of them and of the settlement.
use Rattle.std.specs.Prelude.{ℕ, zero, suc, ◌+◌, ◌*◌, ◌≤◌, ◌<◌, ◌^◌, min, List, [], length}
use Rattle.folds.specs.Laid.{bytes_to}
use Rattle.folds.specs.First.{on_zero}
use Rattle.book.specs.Layout.{most_members}
use Rattle.book.specs.Heads.{head_at}
use Rattle.posting.specs.Answers.{answer, after}
use Rattle.sheet.specs.Sheet.{sheet_text, refused_line, settlement_refused, result_size, longest_refused, longest_line, header_length}
use Rattle.intake.specs.Intake.{record_bytes, records_in}

-- the book after the first n of the records
unfoldable pub book_after : List ℕ → List ℕ → ℕ → List ℕ
book_after book records zero = book
book_after book records (suc n) = after (book_after book records n) (record_bytes records n)

-- the answer to record i, on the book that the records before it have left
unfoldable pub answer_to : List ℕ → List ℕ → ℕ → ℕ
answer_to book records i = answer (book_after book records i) (record_bytes records i)

-- `refused I N` for a refused record, nothing for an accepted one
unfoldable pub answer_line : ℕ → ℕ → List ℕ
answer_line place number = on_zero number [] (refused_line place number)

-- the lines of the first n records, the first of which has the given place in the day
abbrev pub lines_to : List ℕ → List ℕ → ℕ → ℕ → List ℕ
lines_to book records place = bytes_to (λ (i : ℕ). answer_line (place + i) (answer_to book records i))

-- all that are there
abbrev pub refused_lines : List ℕ → List ℕ → ℕ → List ℕ
refused_lines book records place = lines_to book records place (records_in (length records))

abbrev pub book_posted : List ℕ → List ℕ → List ℕ
book_posted book records = book_after book records (records_in (length records))

-- the lines have room where all the records are refused, and every place is a u64
pub record LinesRoom (records : List ℕ) (place : ℕ) (lines : List ℕ) : Type 0 where
  pub room : records_in (length records) * longest_refused ≤ length lines
  pub places : place + records_in (length records) < 2 ^ 64

-- the sheet, or one line `settlement refused N`
unfoldable pub outcome : ℕ → List ℕ → ℕ → List ℕ
outcome number results members = on_zero number (sheet_text results members) (settlement_refused number)

-- the sheet's members. A book that is settled is valid and has at most so many, so that all of them are on it
abbrev pub members_on : List ℕ → ℕ
members_on book = min (head_at book).members most_members

pub record SheetRoom (members : ℕ) (results lines : List ℕ) : Type 0 where
  pub rows : members * result_size ≤ length results
  pub room : header_length + members * longest_line ≤ length lines
