-- 000, article 31: a member's profit or loss of a day over all contracts, by the article from the accepted records, from the book at the end of the day, and as settlement writes it.
use Rattle.std.specs.Prelude.{ℕ, ◌+◌, ◌*◌, ◌<◌, ◌≡◌, List, ℤ}
use Rattle.wire.specs.LittleEndian.{signed_at}
use Rattle.numbers.specs.Sum.{total_to}
use Rattle.rules.specs.declared.units.Fen.{Fen}
use Rattle.rules.specs.declared.units.Price.{Price}
use Rattle.rules.specs.declared.units.Prices.{Prices}
use Rattle.rules.specs.Units.{fen}
use Rattle.rules.specs.Profit.{profit_of}
use Rattle.profit.specs.Article31.{Pairings, day_profit}
use Rattle.book.specs.declared.contracts.Contract.{Contract}
use Rattle.book.specs.declared.positions.Position.{Position}
use Rattle.book.specs.Layout.{contract_off}
use Rattle.book.specs.Heads.{head_at}
use Rattle.book.specs.ContractRows.{contract_at}
use Rattle.book.specs.Positions.{opening_of, held_sides, paired_of}
use Rattle.tonight.specs.Given.{Given}
use Rattle.settlement.specs.Next.{result_size}
use Rattle.settlement.specs.Settle.{results_after}
use Rattle.promises.specs.Dealings.{row_at, day_of}

-- the last settlement price from the contract's row, tonight's and the delivery price as handed in
abbrev pub prices_by : Contract → (tonight delivery : Price) → Prices
prices_by c tonight delivery = record { last = c.terms.last; tonight = tonight; delivery = delivery }

abbrev pub contract_in : (book : List ℕ) (j : ℕ) → Contract
contract_in book j = contract_at book (contract_off j)

-- the profit comes to so much, by some choice of the lots that each closing closes
pub record ByArticle (book : List ℕ) (rs : List (List ℕ)) (tonight delivery : ℕ → Price) (m : ℕ) (profit : Fen) : Type 0 where
  pub in_contract : ℕ → ℤ
  pub pairings : (j : ℕ) → j < (head_at book).contracts → Pairings (day_of book rs m j)
  pub article : (j : ℕ) (l : j < (head_at book).contracts)
      → in_contract j ≡ (day_profit (contract_in book j).terms.multiplier (prices_by (contract_in book j) (tonight j) (delivery j)) (day_of book rs m j) (pairings j l)).0
  pub sum : profit ≡ fen (total_to in_contract (head_at book).contracts)

-- from the book alone
abbrev pub row_profit : Contract → Position → (tonight delivery : Price) → Fen
row_profit c p tonight delivery = profit_of c.terms.multiplier p.cash (held_sides p) (opening_of p) (paired_of p) (prices_by c tonight delivery)

abbrev pub profit_on : (book : List ℕ) (tonight delivery : ℕ → Price) (m : ℕ) → Fen
profit_on book tonight delivery m = fen (total_to (λ (j : ℕ). (row_profit (contract_in book j) (row_at (head_at book) book m j) (tonight j) (delivery j)).0) (head_at book).contracts)

-- as settlement writes it in the results: the second of the nine fields of eight bytes in member m's row
abbrev pub written_profit : (book : List ℕ) (given : Given) (next results : List ℕ) (m : ℕ) → ℤ
written_profit book given next results m = signed_at (results_after book given next results) (m * result_size + 8)
