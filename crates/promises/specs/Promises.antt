-- What is promised of records and of whole days: each promise is one statement here, in document 01's words, and proofs/Promises.antt proves each.
-- `answer book r` and `after book r` are what clearing_post answers and leaves; `settle_answer`, `next_after` and `results_after` are what
-- clearing_settle answers and leaves; `end_of book records` is the book after a list of records. All are bytes, and any bytes are allowed.
use Rattle.std.specs.Prelude.{ℕ, ◌+◌, ◌<◌, ◌≡◌, ◌≢◌, true, length, get_or}
use mathlib.Core.List.{List, [], Memᴰ}
use Rattle.order.specs.Order.{Arranged}
use Rattle.order.specs.Lens.{reads}
use Rattle.rules.specs.declared.units.Fen.{Fen}
use Rattle.rules.specs.declared.units.Price.{Price}
use Rattle.book.specs.Layout.{head_size, contract_size, member_size, position_size, contract_off, member_off, position_off}
use Rattle.book.specs.Heads.{head_at}
use Rattle.book.specs.Members.{member_at}
use Rattle.validity.specs.Valid.{valid_book, check_answer}
use Rattle.validity.specs.Opening.{opening_book}
use Rattle.requests.specs.Records.{request_of}
use Rattle.book.specs.Accounts.{account_at}
use Rattle.book.specs.Views.{view_at}
use Rattle.posting.specs.Answers.{places_of, posting, answer, after}
use Rattle.tonight.specs.Given.{Given}
use Rattle.tonight.specs.Prices.{tonight_at, delivery_at}
use Rattle.settlement.specs.Settle.{settle_answer, next_after, results_after}
use Rattle.promises.specs.Naming.{named, contract_named, Common}
use Rattle.promises.specs.Runs.{end_of}
use Rattle.promises.specs.Dealings.{fills_of, traded_of, row_at}
use Rattle.promises.specs.ByArticle.{ByArticle, profit_on, written_profit}
use Rattle.promises.specs.SameDay.{SameRun, SameEvening}
use Rattle.promises.specs.Days.{next_book, Day, Morning}

-- ---- one record

-- Demand 2: a posting leaves a valid book valid, and a book that is not valid it leaves so.
abbrev pub Kept : Type 0
Kept = (book r : List ℕ) → valid_book (after book r) ≡ valid_book book

-- the size bytes from off on are the same in both
abbrev pub SameBytes : (ys xs : List ℕ) (off size : ℕ) → Type 0
SameBytes ys xs off size = (i : ℕ) → i < size → get_or ys (off + i) 0 ≡ get_or xs (off + i) 0

-- the head with its table of contents, every contract's row, the rows of members that are not named, and the named members' rows in other contracts
pub record Untouched (book r : List ℕ) : Type 0 where
  pub whole : length (after book r) ≡ length book
  pub head : SameBytes (after book r) book 0 head_size
  pub contract : (j : ℕ) → j < (head_at book).contracts → SameBytes (after book r) book (contract_off j) contract_size
  pub member : (m : ℕ) → m < (head_at book).members → ¬ Memᴰ m (named book r) → SameBytes (after book r) book (member_off (head_at book) m) member_size
  pub position : (m j : ℕ) → j < (head_at book).contracts → ¬ Memᴰ m (named book r) → SameBytes (after book r) book (position_off (head_at book) m j) position_size
  pub elsewhere : (m j : ℕ) → j < (head_at book).contracts → j ≢ contract_named book r → SameBytes (after book r) book (position_off (head_at book) m j) position_size

-- Day records: "a posting reaches no account that its record does not name". Demand 3 rests on it.
abbrev pub OnlyTheNamed : Type 0
OnlyTheNamed = (book r : List ℕ) → Untouched book r

-- Refusal numbers: "a refusal returns its number alone; all lent memory stays as it stood". Demand 2.
abbrev pub RefusedChangesNothing : Type 0
RefusedChangesNothing = (book r : List ℕ) → answer book r ≢ 0 → after book r ≡ book

-- Demand 2: the accounts that an accepted record names become what its kind's rules make of what was seen of them as they stood.
abbrev pub AcceptedMakes : Type 0
AcceptedMakes = (book r : List ℕ) → answer book r ≡ 0
    → reads account_at (head_at book) (after book r) (places_of (head_at book) r) ≡ (posting (head_at book) r (reads view_at (head_at book) book (places_of (head_at book) r))).become

-- Day records: "an accepted record adds 1 to the accepted count of each member it names". Demand 2.
abbrev pub Counted : Type 0
Counted = (book r : List ℕ) → answer book r ≡ 0 → (m : ℕ) → Memᴰ m (named book r)
    → (member_at (after book r) (member_off (head_at book) m)).accepted ≡ (member_at book (member_off (head_at book) m)).accepted + 1

-- Day records: "and a trade adds its lots to both traded counts"; any other count gets nothing. Demand 2.
abbrev pub TradedCounted : Type 0
TradedCounted = (book r : List ℕ) → answer book r ≡ 0 → (m j : ℕ) → j < (head_at book).contracts
    → (row_at (head_at book) (after book r) m j).traded.0 ≡ (row_at (head_at book) book m j).traded.0 + traded_of (fills_of (request_of (head_at book) r) m j)

-- ---- the order of records

-- Demand 3. Arranged: place i of `records` is matched with place `to i` of `other`, each place once; matched places hold equal records; and of two
-- records of `records` that name a common member, the earlier has the earlier place in `other`.
-- SameRun: matched records get equal answers, and the two runs end in equal bytes.
abbrev pub Order : Type 0
Order = (book : List ℕ) (records other : List (List ℕ)) (to : ℕ → ℕ) → Arranged (Common book) [] records other to → SameRun book records other to

-- Demand 3. Settlement of the two ends, given the same and with equal buffers lent, gives equal answers, next books and results.
abbrev pub EveningAfterOrder : Type 0
EveningAfterOrder = (book : List ℕ) (records other : List (List ℕ)) (to : ℕ → ℕ) → Arranged (Common book) [] records other to
    → (given : Given) (next results : List ℕ) → SameEvening book records other given next results

-- ---- profit or loss

-- Demand 2. From an opening book, whatever a member's profit comes to by article 31 over the accepted records, by whichever pairing of
-- today's closings with today's openings, is the document's formula on the rows at the end of the day.
abbrev pub Profit : Type 0
Profit = (book : List ℕ) (records : List (List ℕ)) (tonight delivery : ℕ → Price) (m : ℕ) → opening_book book ≡ true → m < (head_at book).members
    → (profit : Fen) → ByArticle book records tonight delivery m profit → profit ≡ profit_on (end_of book records) tonight delivery m

-- Demand 2. And there is such a pairing.
abbrev pub SomePairing : Type 0
SomePairing = (book : List ℕ) (records : List (List ℕ)) (tonight delivery : ℕ → Price) (m : ℕ) → opening_book book ≡ true → m < (head_at book).members
    → ByArticle book records tonight delivery m (profit_on (end_of book records) tonight delivery m)

-- Demand 2. Where the evening is answered 0, the profit or loss that settlement writes for a member is article 31's over the accepted
-- records, by every pairing.
abbrev pub ProfitOnTheSheet : Type 0
ProfitOnTheSheet = (book : List ℕ) (records : List (List ℕ)) (given : Given) (next results : List ℕ) (m : ℕ) → opening_book book ≡ true → m < (head_at book).members
    → settle_answer (end_of book records) given (length next) (length results) ≡ 0
    → (profit : Fen) → ByArticle book records (tonight_at given.prices) (delivery_at given.prices) m profit → written_profit (end_of book records) given next results m ≡ profit.0

-- ---- day after day

-- Evening settlement, "the next book": an evening answered 0 leaves a valid opening book in the first bytes of the room lent. Demand 2.
abbrev pub NextMorning : Type 0
NextMorning = (book : List ℕ) (given : Given) (next results : List ℕ) → settle_answer book given (length next) (length results) ≡ 0 → opening_book (next_book book given next results) ≡ true

-- Over any number of days, of any records and any evenings answered 0, every morning's book is a valid opening book. Demand 2.
abbrev pub EveryMorning : Type 0
EveryMorning = (first book : List ℕ) → opening_book first ≡ true → Morning first book → opening_book book ≡ true

-- And so the profit or loss written on any of these days' evenings is article 31's over that day's accepted records. Demand 2.
abbrev pub DayAfterDay : Type 0
DayAfterDay = (first book : List ℕ) → opening_book first ≡ true → Morning first book → (day : Day) (m : ℕ) → m < (head_at book).members
    → settle_answer (end_of book day.records) day.given (length day.next) (length day.results) ≡ 0
    → (profit : Fen) → ByArticle book day.records (tonight_at day.given.prices) (delivery_at day.given.prices) m profit
    → written_profit (end_of book day.records) day.given day.next day.results m ≡ profit.0

-- ---- one outcome

-- an outcome that clearing_check's contract allows: the number answered; it is lent nothing to write to
abbrev pub CheckAllows : (book : List ℕ) (number : ℕ) → Type 0
CheckAllows book number = number ≡ check_answer book

-- clearing_post's: the number, and the book's bytes left
pub record PostAllows (book r : List ℕ) (number : ℕ) (left : List ℕ) : Type 0 where
  pub answered : number ≡ answer book r
  pub bytes : left ≡ after book r

-- and clearing_settle's: the number, and the bytes of both buffers
pub record SettleAllows (book : List ℕ) (given : Given) (next results : List ℕ) (number : ℕ) (next' results' : List ℕ) : Type 0 where
  pub answered : number ≡ settle_answer book given (length next) (length results)
  pub book_bytes : next' ≡ next_after book given next results
  pub sheet_bytes : results' ≡ results_after book given next results

-- What the promises say: "two outcomes allowed by a promise are proved equal".
abbrev pub OneCheck : Type 0
OneCheck = (book : List ℕ) (number other : ℕ) → CheckAllows book number → CheckAllows book other → number ≡ other

abbrev pub OnePosting : Type 0
OnePosting = (book r : List ℕ) (number other : ℕ) (left left' : List ℕ) → PostAllows book r number left → PostAllows book r other left' → (number ≡ other) × (left ≡ left')

abbrev pub OneSettlement : Type 0
OneSettlement = (book : List ℕ) (given : Given) (next results : List ℕ) (number other : ℕ) (left left' sheet sheet' : List ℕ)
    → SettleAllows book given next results number left sheet → SettleAllows book given next results other left' sheet'
    → (number ≡ other) × (left ≡ left') × (sheet ≡ sheet')
