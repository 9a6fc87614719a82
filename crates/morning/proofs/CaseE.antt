-- Case E by computation, from bytes to bytes.
use mathlib.Core.Path.{◌≡◌, refl}
use mathlib.Core.List.{[]}
use Rattle.numbers.specs.Fold.{fold_to}
use Rattle.wire.specs.LittleEndian.{number_at, bytes_of}
use Rattle.book.specs.Layout.{contract_off, member_off, position_off, book_length}
use Rattle.book.specs.Heads.{head_at, entry_at}
use Rattle.book.specs.ContractRows.{contract_at}
use Rattle.book.specs.Members.{figures_at, securities_at, day_at, member_at}
use Rattle.book.specs.Positions.{side_at, position_at}
use Rattle.book.specs.Books.{book_at}
use Rattle.validity.specs.Valid.{contents_ok, head_ok, contract_rows, member_rows, position_row, position_rows, traded_ok, balanced, valid_rows, valid_book}
use Rattle.tonight.specs.Prices.{none_paired, prices_ok}
use Rattle.tonight.specs.Night.{tally_in, tally_to, night_of, reserves_ok}
use Rattle.book.specs.Whole.{head_bytes}
use Rattle.settlement.specs.Next.{next_bytes, result_bytes}
use Rattle.settlement.specs.Settle.{settle_answer}
use Rattle.morning.specs.CaseE.{book_e, given_e, next_e, results_e}

pub results_of_E : result_bytes (book_at book_e) given_e ≡ results_e
unfolding fold_to number_at bytes_of contract_off member_off position_off book_length head_at entry_at contract_at figures_at securities_at day_at
    member_at side_at position_at tally_in tally_to night_of head_bytes next_bytes result_bytes
results_of_E = refl

pub next_of_E : next_bytes (book_at book_e) given_e ≡ next_e
unfolding fold_to number_at bytes_of contract_off member_off position_off book_length head_at entry_at contract_at figures_at securities_at day_at
    member_at side_at position_at tally_in tally_to night_of head_bytes next_bytes result_bytes
next_of_E = refl

-- with room for 280 and 144 bytes it is answered 0; with a byte less for either 11, and without prices 8, before 11
pub answers_of_E : (settle_answer book_e given_e 280 144 ≡ 0) × (settle_answer book_e given_e 279 144 ≡ 11) × (settle_answer book_e given_e 280 143 ≡ 11) × (settle_answer book_e (record given_e { prices = [] }) 279 144 ≡ 8)
unfolding fold_to number_at bytes_of contract_off member_off position_off book_length head_at entry_at contract_at figures_at securities_at day_at
    member_at side_at position_at tally_in tally_to night_of head_bytes none_paired prices_ok reserves_ok contents_ok head_ok contract_rows member_rows position_row
    position_rows traded_ok balanced valid_rows valid_book settle_answer
answers_of_E = (refl, refl, refl, refl)
