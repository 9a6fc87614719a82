-- 01, The book: what is known of a row of the book that has passed its tests.
use Rattle.std.specs.Prelude.{◌*◌, ◌^◌, ◌≤◌, ◌≡◌}
use Rattle.numbers.specs.Range.{In}
use Rattle.rules.specs.Ranges.{Amount}
use Rattle.book.specs.declared.contracts.Terms.{Terms}
use Rattle.book.specs.declared.contracts.Contract.{Contract}
use Rattle.book.specs.declared.members.Member.{Member}
use Rattle.book.specs.declared.positions.Position.{Position}
use Rattle.validity.specs.Totals.{SideIn}

pub record TermsIn (t : Terms) : Type 0 where
  pub last : t.last.0 ≤ 10_000_000
  pub multiplier : t.multiplier ≤ 100
  pub rate : t.rate ≤ 10_000
  pub fee : t.fee ≤ 100_000
  pub delivery : t.delivery ≤ 100_000

pub record ContractIn (c : Contract) : Type 0 where
  pub terms : TermsIn c.terms
  pub zero : c.zero ≡ 0

pub record MemberIn (r : Member) : Type 0 where
  pub accepted : r.accepted ≤ 20_000
  pub reserve : In (10 ^ 15) r.figures.reserve.0
  pub margin : Amount (10 ^ 16) r.figures.margin
  pub usable : Amount (10 ^ 15) r.figures.usable
  pub market : Amount (10 ^ 15) r.securities.market
  pub discount : r.securities.discount ≤ 8_000
  pub deposits : Amount (10 ^ 12 * r.accepted) r.day.deposits
  pub withdrawals : Amount (10 ^ 12 * r.accepted) r.day.withdrawals

-- the cash sum's range by the row's own traded lots
pub record PositionIs (p : Position) : Type 0 where
  pub long : SideIn p.long
  pub short : SideIn p.short
  pub cash : In (10_000_000 * p.traded.0) p.cash.0
  pub zero : p.zero ≡ 0
