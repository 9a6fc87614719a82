-- Day after day: the book that an evening leaves is the next day's opening book, and every evening's profit is article 31's.
use Prim.Native.Nat.{ℕ, ◌<◌}
use mathlib.Core.Path.{◌≡◌}
use mathlib.Core.Bool.{true}
use mathlib.Core.List.{List}
use lib.ListN.{length}
use Rattle.rules.specs.declared.units.Fen.{Fen}
use Rattle.book.specs.Heads.{head_at}
use Rattle.validity.specs.Opening.{opening_book}
use Rattle.tonight.specs.Prices.{tonight_at, delivery_at}
use Rattle.settlement.specs.Settle.{settle_answer}
use Rattle.morning.proofs.Morning.{next_morning}
use Rattle.promises.specs.Runs.{end_of}
use Rattle.promises.specs.ByArticle.{ByArticle, written_profit}
use Rattle.promises.specs.Days.{Day, Morning, the_first, the_next}
use Rattle.promises.proofs.ProfitOnTheSheet.{profit_on_the_sheet}

-- over any number of days, every morning's book is a valid opening book
pub every_morning : (first book : List ℕ) → opening_book first ≡ true → Morning first book → opening_book book ≡ true
every_morning first book opening the_first = opening
every_morning first next opening (the_next {book = book} before day settled) = next_morning (end_of book day.records) day.given day.next day.results settled

pub every_evening : (first book : List ℕ) → opening_book first ≡ true → Morning first book → (day : Day) (m : ℕ) → m < (head_at book).members
    → settle_answer (end_of book day.records) day.given (length day.next) (length day.results) ≡ 0
    → (profit : Fen) → ByArticle book day.records (tonight_at day.given.prices) (delivery_at day.given.prices) m profit
    → written_profit (end_of book day.records) day.given day.next day.results m ≡ profit.0
every_evening first book opening days day m = profit_on_the_sheet book day.records day.given day.next day.results m (every_morning first book opening days)
