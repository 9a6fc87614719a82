-- The small book, by computing: it is valid, its records get their numbers, and the bytes after them are those written out. So nothing is said of nothing.
use mathlib.Core.Path.{◌≡◌, refl, ◌∙◌}
use mathlib.Core.Bool.{true}
use mathlib.Core.List.{List, [], ◌∷◌, map}
use Prim.Native.Nat.{ℕ}
use Rattle.wire.specs.LittleEndian.{number_at, bytes_of}
use Rattle.numbers.specs.Fold.{fold_to}
use Rattle.order.specs.Order.{final, answers}
use Rattle.book.specs.Layout.{contract_off, member_off, position_off, book_length}
use Rattle.book.specs.Heads.{head_at, entry_at}
use Rattle.book.specs.ContractRows.{contract_at}
use Rattle.book.specs.Members.{figures_at, securities_at, day_at, member_at, put_member}
use Rattle.book.specs.Positions.{side_at, position_at, put_position}
use Rattle.book.specs.Accounts.{account_at, put_account}
use Rattle.book.specs.Whole.{head_bytes}
use Rattle.validity.specs.Valid.{contents_ok, head_ok, contract_rows, member_rows, position_row, position_rows, traded_ok, balanced, valid_rows, valid_book}
use Rattle.requests.specs.Records.{record_at, read_trade, read_pairing, read_deposit, read_withdrawal, read_pledge, read_kind, request_of}
use Rattle.posting.specs.Postings.{trade_answer, pairing_answer, deposit_answer, withdrawal_answer, pledge_answer}
use Rattle.posting.specs.Answers.{answer, after}
use Rattle.promises.specs.SmallBook.{book_with, broker, other, longs, shorts, morning, morning_bytes, trade, traded, day, day_numbers, evening, poor, busy, all_longs, all_shorts, opening, closing, other_numbers, malformed, edges}
use Rattle.promises.proofs.Runs.{run_final, run_answers}

-- the rows stand where the layout has them
pub laid_out : morning ≡ morning_bytes
unfolding book_length bytes_of head_bytes
laid_out = refl

pub valid : valid_book morning ≡ true
unfolding valid_book head_ok contents_ok valid_rows contract_rows member_rows position_row position_rows traded_ok balanced fold_to number_at
    contract_off member_off position_off book_length bytes_of head_bytes contract_at figures_at securities_at day_at member_at side_at position_at head_at entry_at
valid = refl

pub accepted : answer morning trade ≡ 0
unfolding valid_book head_ok contents_ok valid_rows contract_rows member_rows position_row position_rows traded_ok balanced fold_to number_at
    contract_off member_off position_off book_length bytes_of head_bytes contract_at figures_at securities_at day_at member_at side_at position_at head_at entry_at answer
    account_at record_at read_trade read_pairing read_deposit read_withdrawal read_pledge read_kind request_of trade_answer pairing_answer
    deposit_answer withdrawal_answer pledge_answer
accepted = refl

pub posted : after morning trade ≡ traded
unfolding valid_book head_ok contents_ok valid_rows contract_rows member_rows position_row position_rows traded_ok balanced fold_to number_at
    contract_off member_off position_off book_length bytes_of head_bytes contract_at figures_at securities_at day_at member_at side_at position_at head_at entry_at answer
    account_at record_at read_trade read_pairing read_deposit read_withdrawal read_pledge read_kind request_of trade_answer pairing_answer
    deposit_answer withdrawal_answer pledge_answer after put_account put_member put_position
posted = refl

-- the book is checked once for the run
pub day_answers : answers after answer morning day ≡ day_numbers
unfolding valid_book head_ok contents_ok valid_rows contract_rows member_rows position_row position_rows traded_ok balanced fold_to number_at
    contract_off member_off position_off book_length bytes_of head_bytes contract_at figures_at securities_at day_at member_at side_at position_at head_at entry_at answer
    account_at record_at read_trade read_pairing read_deposit read_withdrawal read_pledge read_kind request_of trade_answer pairing_answer
    deposit_answer withdrawal_answer pledge_answer after put_account put_member put_position
day_answers = run_answers morning day valid ∙ refl

pub day_final : final after morning day ≡ evening
unfolding valid_book head_ok contents_ok valid_rows contract_rows member_rows position_row position_rows traded_ok balanced fold_to number_at
    contract_off member_off position_off book_length bytes_of head_bytes contract_at figures_at securities_at day_at member_at side_at position_at head_at entry_at answer
    account_at record_at read_trade read_pairing read_deposit read_withdrawal read_pledge read_kind request_of trade_answer pairing_answer
    deposit_answer withdrawal_answer pledge_answer after put_account put_member put_position
day_final = run_final morning day valid ∙ refl

pub other_answers :
    answer (book_with broker poor longs shorts) trade
    ∷ answer (book_with broker busy longs shorts) trade
    ∷ answer (book_with broker other all_longs all_shorts) opening
    ∷ answer (book_with broker other all_longs all_shorts) closing
    ∷ answer (book_with broker other longs longs) trade
    ∷ [] ≡ other_numbers
unfolding valid_book head_ok contents_ok valid_rows contract_rows member_rows position_row position_rows traded_ok balanced fold_to number_at
    contract_off member_off position_off book_length bytes_of head_bytes contract_at figures_at securities_at day_at member_at side_at position_at head_at entry_at answer
    account_at record_at read_trade read_pairing read_deposit read_withdrawal read_pledge read_kind request_of trade_answer pairing_answer
    deposit_answer withdrawal_answer pledge_answer
other_answers = refl

pub malformed_answers : answers after answer morning malformed ≡ map (λ (r : List ℕ). 1) malformed
unfolding valid_book head_ok contents_ok valid_rows contract_rows member_rows position_row position_rows traded_ok balanced fold_to number_at
    contract_off member_off position_off book_length bytes_of head_bytes contract_at figures_at securities_at day_at member_at side_at position_at head_at entry_at answer
    account_at record_at read_trade read_pairing read_deposit read_withdrawal read_pledge read_kind request_of trade_answer pairing_answer
    deposit_answer withdrawal_answer pledge_answer after put_account put_member put_position
malformed_answers = run_answers morning malformed valid ∙ refl

pub edges_answers : answers after answer morning edges ≡ map (λ (r : List ℕ). 0) edges
unfolding valid_book head_ok contents_ok valid_rows contract_rows member_rows position_row position_rows traded_ok balanced fold_to number_at
    contract_off member_off position_off book_length bytes_of head_bytes contract_at figures_at securities_at day_at member_at side_at position_at head_at entry_at answer
    account_at record_at read_trade read_pairing read_deposit read_withdrawal read_pledge read_kind request_of trade_answer pairing_answer
    deposit_answer withdrawal_answer pledge_answer after put_account put_member put_position
edges_answers = run_answers morning edges valid ∙ refl
