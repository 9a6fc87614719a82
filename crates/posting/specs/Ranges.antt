-- 01, The book and Day records: within what ranges the records and the accounts of a valid book are posted.
use Prim.{Unit}
use Rattle.std.specs.Prelude.{◌*◌, ◌^◌, ◌≤◌}
use Rattle.numbers.specs.Range.{In}
use Rattle.rules.specs.Ranges.{FiguresIn}
use Rattle.book.specs.declared.positions.Position.{Position}
use Rattle.book.specs.declared.accounts.Account.{Account}
use Rattle.validity.specs.Totals.{SideIn}
use Rattle.posting.specs.Entries.{Entry, Buys, Sells, Receives, Delivers, PaysIn, TakesOut, Pledges}

-- a position of a valid book
pub record DealtIn (p : Position) : Type 0 where
  pub long : SideIn p.long
  pub short : SideIn p.short
  pub cash : In (2 * 10 ^ 15) p.cash.0
  pub traded : p.traded.0 ≤ 200_000_000

-- an account of a valid book
pub record AccountIn (a : Account) : Type 0 where
  pub accepted : a.member.accepted ≤ 20_000
  pub figures : FiguresIn a.member.figures
  pub deposits : In (2 * 10 ^ 16) a.member.day.deposits.0
  pub withdrawals : In (2 * 10 ^ 16) a.member.day.withdrawals.0
  pub position : DealtIn a.position

-- what is known of an entry of a record that is not refused 1
abbrev pub EntryIn : Entry → Type 0
EntryIn (Buys t) = (t.price.0 ≤ 10_000_000) × (t.lots.0 ≤ 10_000)
EntryIn (Sells t) = (t.price.0 ≤ 10_000_000) × (t.lots.0 ≤ 10_000)
EntryIn (Receives p) = p.lots.0 ≤ 10_000
EntryIn (Delivers p) = p.lots.0 ≤ 10_000
EntryIn (PaysIn p) = In (10 ^ 12) p.amount.0
EntryIn (TakesOut p) = In (10 ^ 12) p.amount.0
EntryIn (Pledges p) = Unit {0}

-- an entry and the account that it is posted to
pub record PostedIn (a : Account) (e : Entry) : Type 0 where
  pub account : AccountIn a
  pub entry : EntryIn e
