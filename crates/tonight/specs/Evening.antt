-- 01, Evening settlement: what is known once the book is valid and the prices have passed, and the ranges that follow.
use Rattle.std.specs.Prelude.{ℕ, ◌*◌, ◌^◌, ◌≤◌, ◌<◌, List, length}
use Rattle.numbers.specs.Range.{In}
use Rattle.rules.specs.declared.units.Prices.{Prices}
use Rattle.rules.specs.Ranges.{Amount, PricesIn}
use Rattle.book.specs.declared.heads.Head.{Head}
use Rattle.book.specs.declared.contracts.Terms.{Terms}
use Rattle.book.specs.declared.positions.Position.{Position}
use Rattle.book.specs.Books.{book_by}
use Rattle.book.specs.Accounts.{Shaped}
use Rattle.validity.specs.Totals.{Ranged, PositionIn}
use Rattle.validity.specs.InRange.{TermsIn}
use Rattle.tonight.specs.Given.{Given}
use Rattle.tonight.specs.Prices.{pair_size, tonight_at, delivery_at}
use Rattle.tonight.specs.Night.{Tally}

pub record Priced (h : Head) (ps : List ℕ) : Type 0 where
  pub enough : h.contracts * pair_size ≤ length ps
  pub tonight : (j : ℕ) → j < h.contracts → (tonight_at ps j).0 ≤ 10_000_000
  pub delivery : (j : ℕ) → j < h.contracts → (delivery_at ps j).0 ≤ 10_000_000

pub record Evening (xs : List ℕ) (given : Given) (h : Head) : Type 0 where
  pub shaped : Shaped xs h
  pub ranged : Ranged (book_by h xs)
  pub priced : Priced h given.prices

-- what one contract's tally is computed from
pub record RowsIn (t : Terms) (p : Position) (prices : Prices) : Type 0 where
  pub terms : TermsIn t
  pub position : PositionIn p
  pub traded : p.traded.0 ≤ 200_000_000
  pub evening : PricesIn prices

-- count contracts' profit, fee and margin at most
pub record TallyFew (count : ℕ) (t : Tally) : Type 0 where
  pub profit : In (count * (2_008 * 10 ^ 14)) t.profit.0
  pub fee : Amount (count * (2_002 * 10 ^ 10)) t.fee
  pub margin : Amount (count * (2 * 10 ^ 14)) t.margin
