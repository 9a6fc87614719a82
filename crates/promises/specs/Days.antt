-- 01, Evening settlement: day after day, each begun from the book that the evening before has left.
use Rattle.std.specs.Prelude.{ℕ, ◌≡◌, List, length, take}
use Rattle.book.specs.Layout.{book_length}
use Rattle.book.specs.Heads.{head_at}
use Rattle.tonight.specs.Given.{Given}
use Rattle.settlement.specs.Settle.{settle_answer, next_after}
use Rattle.promises.specs.Runs.{end_of}

-- the book that the evening writes: the first bytes of the room lent for it
abbrev pub next_book : (book : List ℕ) (given : Given) (next results : List ℕ) → List ℕ
next_book book given next results = take (book_length (head_at book)) (next_after book given next results)

-- what a day is given: its records, what its settlement is given, and the two buffers lent to the evening
pub record Day : Type 0 where
  pub records : List (List ℕ)
  pub given : Given
  pub next : List ℕ
  pub results : List ℕ

-- the morning books that any number of days lead to, each day's evening answered 0
pub data Morning (first : List ℕ) : List ℕ → Type 0 where
  the_first : Morning first first
  the_next : {book : List ℕ} → Morning first book → (day : Day)
      → settle_answer (end_of book day.records) day.given (length day.next) (length day.results) ≡ 0
      → Morning first (next_book (end_of book day.records) day.given day.next day.results)
