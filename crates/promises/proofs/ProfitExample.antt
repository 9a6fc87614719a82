-- The small book's day: what its accepted records list, and the profit by article 31, whichever lots the closings are paired with.
use mathlib.Core.Path.{◌≡◌, refl, ap, ◌∙◌}
use mathlib.Core.Bool.{true}
use mathlib.Core.List.{List, [], ◌∷◌}
use Prim.Native.Nat.{ℕ}
use native.Mathlib.Omega.{arith}
use lib.IntN.{pos, negsuc}
use Rattle.wire.specs.LittleEndian.{number_at, bytes_of}
use Rattle.numbers.specs.Fold.{fold_to}
use Rattle.rules.specs.declared.units.Fen.{Fen}
use Rattle.rules.specs.declared.units.Price.{Price}
use Rattle.rules.specs.Units.{fen, lots, price}
use Rattle.book.specs.Layout.{contract_off, member_off, position_off, book_length}
use Rattle.book.specs.Heads.{head_at, entry_at}
use Rattle.book.specs.ContractRows.{contract_at}
use Rattle.book.specs.Members.{figures_at, securities_at, day_at, member_at, put_member}
use Rattle.book.specs.Positions.{side_at, position_at, put_position}
use Rattle.validity.specs.Valid.{contents_ok, head_ok, contract_rows, member_rows, position_row, position_rows, traded_ok, balanced, valid_rows, valid_book}
use Rattle.validity.specs.Opening.{fresh_rows, opening_book}
use Rattle.requests.specs.declared.records.Mark.TheVariants.{Opens, ClosesOld, ClosesNew}
use Rattle.posting.specs.declared.fills.Way.TheVariants.{Long, Short}
use Rattle.posting.specs.declared.fills.Party.TheVariants.{Buyer, Seller}
use Rattle.requests.specs.Records.{record_at, read_trade, read_pairing, read_deposit, read_withdrawal, read_pledge, read_kind, request_of}
use Rattle.posting.specs.Postings.{trade_answer, pairing_answer, deposit_answer, withdrawal_answer, pledge_answer}
use Rattle.posting.specs.Answers.{answer, after}
use Rattle.book.specs.Accounts.{account_at, put_account}
use Rattle.book.specs.Whole.{head_bytes}
use Rattle.promises.specs.Dealings.{dealing, delivering, accepted_of, fills_in, dealings}
use Rattle.promises.specs.ByArticle.{ByArticle, profit_on}
use Rattle.promises.specs.SmallBook.{morning, day, case_e}
use Rattle.promises.proofs.Example.{day_answers, day_final}
use Rattle.promises.proofs.ProfitOfRecords.{the_profit}

pub opening_book_lem : opening_book morning ≡ true
unfolding opening_book fresh_rows valid_book head_ok contents_ok valid_rows contract_rows member_rows position_row position_rows traded_ok balanced
    fold_to number_at contract_off member_off position_off book_length bytes_of head_bytes contract_at figures_at securities_at day_at member_at side_at position_at head_at
    entry_at
opening_book_lem = refl

-- the refused records are not there, nor those that move money
pub dealings_of_0 : dealings morning day 0 0 ≡ dealing Seller ClosesOld (price 510_000) (lots 4) ∷ dealing Buyer Opens (price 520_000) (lots 1) ∷ delivering Long (lots 2) ∷ []
unfolding head_at number_at bytes_of head_bytes book_length record_at read_trade read_pairing read_deposit read_withdrawal read_pledge read_kind request_of
dealings_of_0 = ap (λ (ns : List ℕ). fills_in (head_at morning) (accepted_of ns day) 0 0) day_answers ∙ refl

pub dealings_of_1 : dealings morning day 1 0 ≡ dealing Buyer Opens (price 510_000) (lots 4) ∷ dealing Seller ClosesNew (price 520_000) (lots 1) ∷ delivering Short (lots 2) ∷ []
unfolding head_at number_at bytes_of head_bytes book_length record_at read_trade read_pairing read_deposit read_withdrawal read_pledge read_kind request_of
dealings_of_1 = ap (λ (ns : List ℕ). fills_in (head_at morning) (accepted_of ns day) 1 0) day_answers ∙ refl

-- settled at 505,000, delivered at 504,000
abbrev tonight : ℕ → Price
tonight j = price 505_000

abbrev delivery : ℕ → Price
delivery j = price 504_000

-- 10 × (4 × 10,000 + 6 × 5,000 − 1 × 15,000 − 2 × 1,000)
pub profit_of_0 : {profit : Fen} → ByArticle morning day tonight delivery 0 profit → profit ≡ fen (pos 530_000)
unfolding head_at number_at bytes_of head_bytes book_length contract_off position_off contract_at side_at position_at fold_to
profit_of_0 a = the_profit morning day opening_book_lem tonight delivery 0 (omega arith) a ∙ ap (λ (book : List ℕ). profit_on book tonight delivery 0) day_final ∙ refl

-- what the other loses
pub profit_of_1 : {profit : Fen} → ByArticle morning day tonight delivery 1 profit → profit ≡ fen (negsuc 529_999)
unfolding head_at number_at bytes_of head_bytes book_length contract_off position_off contract_at side_at position_at fold_to
profit_of_1 a = the_profit morning day opening_book_lem tonight delivery 1 (omega arith) a ∙ ap (λ (book : List ℕ). profit_on book tonight delivery 1) day_final ∙ refl

-- 01's Case E, settled at 505,000
pub case_e_of_0 : {profit : Fen} → ByArticle morning (case_e ∷ []) tonight (λ j. price 0) 0 profit → profit ≡ fen (pos 700_000)
unfolding valid_book head_ok contents_ok valid_rows contract_rows member_rows position_row position_rows traded_ok balanced fold_to number_at
    contract_off member_off position_off book_length bytes_of head_bytes contract_at figures_at securities_at day_at member_at side_at position_at head_at entry_at answer
    account_at record_at read_trade read_pairing read_deposit read_withdrawal read_pledge read_kind request_of trade_answer pairing_answer
    deposit_answer withdrawal_answer pledge_answer after put_account put_member put_position
case_e_of_0 a = the_profit morning (case_e ∷ []) opening_book_lem tonight (λ j. price 0) 0 (omega arith) a ∙ refl

pub case_e_of_1 : {profit : Fen} → ByArticle morning (case_e ∷ []) tonight (λ j. price 0) 1 profit → profit ≡ fen (negsuc 699_999)
unfolding valid_book head_ok contents_ok valid_rows contract_rows member_rows position_row position_rows traded_ok balanced fold_to number_at
    contract_off member_off position_off book_length bytes_of head_bytes contract_at figures_at securities_at day_at member_at side_at position_at head_at entry_at answer
    account_at record_at read_trade read_pairing read_deposit read_withdrawal read_pledge read_kind request_of trade_answer pairing_answer
    deposit_answer withdrawal_answer pledge_answer after put_account put_member put_position
case_e_of_1 a = the_profit morning (case_e ∷ []) opening_book_lem tonight (λ j. price 0) 1 (omega arith) a ∙ refl
