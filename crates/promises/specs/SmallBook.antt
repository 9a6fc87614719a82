-- 01, The book and Day records: a whole small book and records of every kind, with what is to come of them, each from its rows. Money in fen.
use Rattle.std.specs.Prelude.{ℕ, List, [], ◌∷◌, ◌++◌, map}
use Rattle.folds.specs.Rows.{row_bytes}
use Rattle.rules.specs.Units.{lots}
use Rattle.book.specs.declared.members.Member.{Member}
use Rattle.book.specs.declared.positions.Position.{Position}
use Rattle.book.specs.Whole.{whole}
use Rattle.requests.specs.declared.records.Record.{Record}
use Rattle.requests.specs.Records.{record_fields}
use Rattle.morning.specs.SmallRows.{amount, minus, contract, opens}
pub use Rattle.morning.specs.SmallRows.{broker, other, longs, shorts}

-- ---- the morning: 2 members, 1 contract

abbrev pub book_with : (first second : Member) (first_row second_row : Position) → List ℕ
book_with first second first_row second_row = whole (contract ∷ []) (first ∷ second ∷ []) (first_row ∷ second_row ∷ [])

abbrev pub morning : List ℕ
morning = book_with broker other longs shorts

-- The same byte by byte, so that the layout can be seen: 280 bytes; the sections of rows of 24, 64 and 48 bytes from 32, 56 and 184 on
abbrev pub morning_bytes : List ℕ
morning_bytes =
    -- the counts and the total; the table of contents
    2 ∷ 0 ∷ 1 ∷ 0 ∷ 24 ∷ 1 ∷ 0 ∷ 0
    ∷ 1 ∷ 0 ∷ 24 ∷ 0 ∷ 32 ∷ 0 ∷ 0 ∷ 0 ∷ 2 ∷ 0 ∷ 64 ∷ 0 ∷ 56 ∷ 0 ∷ 0 ∷ 0 ∷ 3 ∷ 0 ∷ 48 ∷ 0 ∷ 184 ∷ 0 ∷ 0 ∷ 0
    -- the contract: last price 500,000, multiplier 10, rate 500, fees 300 and 100
    ∷ 32 ∷ 161 ∷ 7 ∷ 0 ∷ 10 ∷ 0 ∷ 0 ∷ 0 ∷ 244 ∷ 1 ∷ 0 ∷ 0 ∷ 44 ∷ 1 ∷ 0 ∷ 0 ∷ 100 ∷ 0 ∷ 0 ∷ 0 ∷ 0 ∷ 0 ∷ 0 ∷ 0
    -- member 0: kind 1; reserve 300,000,000, margin 2,500,000
    ∷ 1 ∷ 0 ∷ 0 ∷ 0 ∷ 0 ∷ 0 ∷ 0 ∷ 0 ∷ 0 ∷ 163 ∷ 225 ∷ 17 ∷ 0 ∷ 0 ∷ 0 ∷ 0 ∷ 160 ∷ 37 ∷ 38 ∷ 0 ∷ 0 ∷ 0 ∷ 0 ∷ 0 ∷ 0 ∷ 0 ∷ 0 ∷ 0 ∷ 0 ∷ 0 ∷ 0 ∷ 0
    ∷ 0 ∷ 0 ∷ 0 ∷ 0 ∷ 0 ∷ 0 ∷ 0 ∷ 0 ∷ 0 ∷ 0 ∷ 0 ∷ 0 ∷ 0 ∷ 0 ∷ 0 ∷ 0 ∷ 0 ∷ 0 ∷ 0 ∷ 0 ∷ 0 ∷ 0 ∷ 0 ∷ 0 ∷ 0 ∷ 0 ∷ 0 ∷ 0 ∷ 0 ∷ 0 ∷ 0 ∷ 0
    -- member 1: kind 2; reserve 80,000,000, margin 2,500,000
    ∷ 2 ∷ 0 ∷ 0 ∷ 0 ∷ 0 ∷ 0 ∷ 0 ∷ 0 ∷ 0 ∷ 180 ∷ 196 ∷ 4 ∷ 0 ∷ 0 ∷ 0 ∷ 0 ∷ 160 ∷ 37 ∷ 38 ∷ 0 ∷ 0 ∷ 0 ∷ 0 ∷ 0 ∷ 0 ∷ 0 ∷ 0 ∷ 0 ∷ 0 ∷ 0 ∷ 0 ∷ 0
    ∷ 0 ∷ 0 ∷ 0 ∷ 0 ∷ 0 ∷ 0 ∷ 0 ∷ 0 ∷ 0 ∷ 0 ∷ 0 ∷ 0 ∷ 0 ∷ 0 ∷ 0 ∷ 0 ∷ 0 ∷ 0 ∷ 0 ∷ 0 ∷ 0 ∷ 0 ∷ 0 ∷ 0 ∷ 0 ∷ 0 ∷ 0 ∷ 0 ∷ 0 ∷ 0 ∷ 0 ∷ 0
    -- member 0: opening long 10; member 1: opening short 10
    ∷ 10 ∷ 0 ∷ 0 ∷ 0 ∷ 0 ∷ 0 ∷ 0 ∷ 0 ∷ 0 ∷ 0 ∷ 0 ∷ 0 ∷ 0 ∷ 0 ∷ 0 ∷ 0 ∷ 0 ∷ 0 ∷ 0 ∷ 0 ∷ 0 ∷ 0 ∷ 0 ∷ 0
    ∷ 0 ∷ 0 ∷ 0 ∷ 0 ∷ 0 ∷ 0 ∷ 0 ∷ 0 ∷ 0 ∷ 0 ∷ 0 ∷ 0 ∷ 0 ∷ 0 ∷ 0 ∷ 0 ∷ 0 ∷ 0 ∷ 0 ∷ 0 ∷ 0 ∷ 0 ∷ 0 ∷ 0
    ∷ 0 ∷ 0 ∷ 0 ∷ 0 ∷ 10 ∷ 0 ∷ 0 ∷ 0 ∷ 0 ∷ 0 ∷ 0 ∷ 0 ∷ 0 ∷ 0 ∷ 0 ∷ 0 ∷ 0 ∷ 0 ∷ 0 ∷ 0 ∷ 0 ∷ 0 ∷ 0 ∷ 0
    ∷ 0 ∷ 0 ∷ 0 ∷ 0 ∷ 0 ∷ 0 ∷ 0 ∷ 0 ∷ 0 ∷ 0 ∷ 0 ∷ 0 ∷ 0 ∷ 0 ∷ 0 ∷ 0 ∷ 0 ∷ 0 ∷ 0 ∷ 0 ∷ 0 ∷ 0 ∷ 0 ∷ 0
    ∷ []

-- ---- records, of the table of kinds: each is its fields, and its 24 bytes

abbrev written : Record → List ℕ
written q = row_bytes (record_fields q)

-- member 1 buys 4 from member 0 at 510,000; the buyer opens, the seller closes old lots
abbrev a_trade : Record
a_trade = record { kind = 1; contract = 0; first = 1; second = 0; marks = record { first = 0; second = 1 }; blank = 0; a = 510_000; b = 4 }

-- 2 of member 0's longs paired with 2 of member 1's shorts
abbrev a_pairing : Record
a_pairing = record { kind = 2; contract = 0; first = 0; second = 1; marks = record { first = 0; second = 0 }; blank = 0; a = 0; b = 2 }

-- member 1 pays in 1,000
abbrev a_deposit : Record
a_deposit = record { kind = 3; contract = 0; first = 1; second = 0; marks = record { first = 0; second = 0 }; blank = 0; a = 1_000; b = 0 }

-- member 0 takes out 5,000
abbrev a_withdrawal : Record
a_withdrawal = record { kind = 4; contract = 0; first = 0; second = 0; marks = record { first = 0; second = 0 }; blank = 0; a = 5_000; b = 0 }

-- member 1 pledges 600,000,001 at 8,000
abbrev a_pledge : Record
a_pledge = record { kind = 5; contract = 0; first = 1; second = 0; marks = record { first = 0; second = 0 }; blank = 0; a = 600_000_001; b = 8_000 }

-- ---- one trade, its two sides under different marks

abbrev pub trade : List ℕ
trade = written a_trade

-- the rows after it: one accepted record each
abbrev broker_once : Member
broker_once = record broker { accepted = 1 }

abbrev other_once : Member
other_once = record other { accepted = 1 }

-- 4 old longs closed, 2,040,000 received for 4 lots
abbrev longs_less : Position
longs_less = record longs { long = record longs.long { closed = lots 4 }; cash = amount 2_040_000; traded = lots 4 }

-- 4 new longs beside the shorts, 2,040,000 paid for 4 lots
abbrev longs_new : Position
longs_new = record shorts { long = record shorts.long { new = lots 4 }; cash = minus 2_040_000; traded = lots 4 }

abbrev pub traded : List ℕ
traded = book_with broker_once other_once longs_less longs_new

-- ---- a day: every kind and every mark, and refusals between

-- member 0 buys 1 back from member 1 at 520,000; the buyer opens, the seller closes a lot of today
abbrev pub resale : List ℕ
resale = written (record a_trade { first = 0; second = 1; marks = record { first = 0; second = 2 }; a = 520_000; b = 1 })

abbrev pub delivery : List ℕ
delivery = written a_pairing

abbrev pub deposit : List ℕ
deposit = written a_deposit

abbrev pub withdrawal : List ℕ
withdrawal = written a_withdrawal

abbrev pub pledge : List ℕ
pledge = written a_pledge

-- member 0 is to close 7 old longs
abbrev pub too_many : List ℕ
too_many = written (record a_trade { b = 7 })

-- member 0 asks for 10^12
abbrev pub too_much : List ℕ
too_much = written (record a_withdrawal { a = 1_000_000_000_000 })

-- 9 lots to be paired
abbrev pub too_few : List ℕ
too_few = written (record a_pairing { b = 9 })

-- the last of them has no bytes at all
abbrev pub day : List (List ℕ)
day = trade ∷ too_many ∷ resale ∷ delivery ∷ too_few ∷ deposit ∷ withdrawal ∷ too_much ∷ pledge ∷ [] ∷ []

abbrev pub day_numbers : List ℕ
day_numbers = 0 ∷ 4 ∷ 0 ∷ 0 ∷ 7 ∷ 0 ∷ 0 ∷ 6 ∷ 0 ∷ 1 ∷ []

-- member 0 at the end: 4 records, 5,000 taken out
abbrev broker_late : Member
broker_late = record broker { accepted = 4; day = record broker.day { withdrawals = amount 5_000 } }

-- member 1 at the end: 5 records, securities, 1,000 paid in
abbrev other_late : Member
other_late = record other { accepted = 5; securities = record { market = amount 600_000_001; discount = 8_000 }; day = record other.day { deposits = amount 1_000 } }

-- member 0: 1 new long, 2 paired long, 1,520,000 received in all, 5 lots traded
abbrev longs_late : Position
longs_late = record longs { long = record longs.long { closed = lots 4; new = lots 1; paired = lots 2 }; cash = amount 1_520_000; traded = lots 5 }

-- member 1: 3 new longs, 2 paired short
abbrev shorts_late : Position
shorts_late = record shorts {
  long = record shorts.long { new = lots 3 };
  short = record shorts.short { paired = lots 2 };
  cash = minus 1_520_000;
  traded = lots 5;
}

abbrev pub evening : List ℕ
evening = book_with broker_late other_late longs_late shorts_late

-- ---- 01's Case E: member 1 buys 4 from member 0 at 510,000, both closing old lots

abbrev pub case_e : List ℕ
case_e = written (record a_trade { marks = record { first = 1; second = 1 } })

-- ---- other books and records, for the numbers that the day does not come to

-- member 1 one fen below its minimum
abbrev pub poor : Member
poor = record other { figures = record other.figures { reserve = amount 49_999_999 } }

-- member 1 with 20,000 accepted records, and below its minimum
abbrev pub busy : Member
busy = record poor { accepted = 20_000 }

-- opening long 100,000
abbrev pub all_longs : Position
all_longs = opens 100_000 0

-- opening short 100,000
abbrev pub all_shorts : Position
all_shorts = opens 0 100_000

-- member 0 buys 1 from member 1 at 500,000; both open
abbrev an_opening : Record
an_opening = record a_trade { first = 0; second = 1; marks = record { first = 0; second = 0 }; a = 500_000; b = 1 }

abbrev pub opening : List ℕ
opening = written an_opening

-- the same; the buyer opens, the seller closes an old long, and has none
abbrev pub closing : List ℕ
closing = written (record an_opening { marks = record { first = 0; second = 1 } })

-- 3 below the minimum; 2 before 3; 5 for a side too large; 4 before 5; 10 where longs meet no shorts
abbrev pub other_numbers : List ℕ
other_numbers = 3 ∷ 2 ∷ 5 ∷ 4 ∷ 10 ∷ []

-- ---- records refused 1: each differs from a good one in one field

-- contract 1; buyer 2; seller 2; buyer and seller equal; marks 3 and 3; price 0 and 10,000,001; lots 0 and 10,001; a blank byte; 25 bytes
abbrev pub bad_trades : List (List ℕ)
bad_trades =
    map written (
    record a_trade { contract = 1 }
    ∷ record a_trade { first = 2 }
    ∷ record a_trade { second = 2 }
    ∷ record a_trade { second = 1 }
    ∷ record a_trade { marks = record a_trade.marks { first = 3 } }
    ∷ record a_trade { marks = record a_trade.marks { second = 3 } }
    ∷ record a_trade { a = 0 }
    ∷ record a_trade { a = 10_000_001 }
    ∷ record a_trade { b = 0 }
    ∷ record a_trade { b = 10_001 }
    ∷ record a_trade { blank = 256 }
    ∷ [])
    ++ ((trade ++ (0 ∷ [])) ∷ [])

-- contract 1; buyer 2; seller 2; buyer and seller equal; a mark, first and second; a price; lots 0 and 10,001; a blank byte
abbrev pub bad_pairings : List (List ℕ)
bad_pairings =
    map written (
    record a_pairing { contract = 1 }
    ∷ record a_pairing { first = 2 }
    ∷ record a_pairing { second = 2 }
    ∷ record a_pairing { second = 0 }
    ∷ record a_pairing { marks = record a_pairing.marks { first = 1 } }
    ∷ record a_pairing { marks = record a_pairing.marks { second = 1 } }
    ∷ record a_pairing { a = 1 }
    ∷ record a_pairing { b = 0 }
    ∷ record a_pairing { b = 10_001 }
    ∷ record a_pairing { blank = 1 }
    ∷ [])

-- of a deposit or a withdrawal: contract 1; member 2; a second member; a mark, first and second; amount 0 and 10^12 + 1; number B; a blank byte
abbrev bad_payments : Record → List (List ℕ)
bad_payments q =
    map written (
    record q { contract = 1 }
    ∷ record q { first = 2 }
    ∷ record q { second = 1 }
    ∷ record q { marks = record q.marks { first = 1 } }
    ∷ record q { marks = record q.marks { second = 1 } }
    ∷ record q { a = 0 }
    ∷ record q { a = 1_000_000_000_001 }
    ∷ record q { b = 1 }
    ∷ record q { blank = 256 }
    ∷ [])

abbrev pub bad_deposits : List (List ℕ)
bad_deposits = bad_payments a_deposit

abbrev pub bad_withdrawals : List (List ℕ)
bad_withdrawals = bad_payments a_withdrawal

-- contract 1; member 2; a second member; a mark, first and second; market value 10^15 + 1; discount 8,001; a blank byte; kinds 0 and 6
abbrev pub bad_pledges : List (List ℕ)
bad_pledges =
    map written (
    record a_pledge { contract = 1 }
    ∷ record a_pledge { first = 2 }
    ∷ record a_pledge { second = 1 }
    ∷ record a_pledge { marks = record a_pledge.marks { first = 1 } }
    ∷ record a_pledge { marks = record a_pledge.marks { second = 1 } }
    ∷ record a_pledge { a = 1_000_000_000_000_001 }
    ∷ record a_pledge { b = 8_001 }
    ∷ record a_pledge { blank = 1 }
    ∷ record a_pledge { kind = 0 }
    ∷ record a_pledge { kind = 6 }
    ∷ [])

abbrev pub malformed : List (List ℕ)
malformed = bad_trades ++ (bad_pairings ++ (bad_deposits ++ (bad_withdrawals ++ bad_pledges)))

-- accepted, at the ends of the ranges: a trade of 10,000 lots at 10,000,000 and of 1 at 1; deposits of 10^12 and 1; withdrawals of 10^12 and 1; securities of 10^15 at 8,000 and of none
abbrev pub edges : List (List ℕ)
edges =
    map written (
    record an_opening { a = 10_000_000; b = 10_000 }
    ∷ record an_opening { first = 1; second = 0; a = 1; b = 1 }
    ∷ record a_deposit { a = 1_000_000_000_000 }
    ∷ record a_deposit { a = 1 }
    ∷ record a_withdrawal { first = 1; a = 1_000_000_000_000 }
    ∷ record a_withdrawal { first = 1; a = 1 }
    ∷ record a_pledge { first = 0; a = 1_000_000_000_000_000; b = 8_000 }
    ∷ record a_pledge { first = 0; a = 0; b = 0 }
    ∷ [])
