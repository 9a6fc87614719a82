-- 01, The book: a contract's sums, gathered row by row, and within what ranges.
use Rattle.std.specs.Prelude.{ℕ, ◌+◌, ◌*◌, ◌^◌, ◌≤◌, ◌≡◌, true, pos, ◌+ℤ◌}
use Rattle.numbers.specs.Range.{In}
use Rattle.book.specs.declared.positions.Side.{Side}
use Rattle.book.specs.declared.positions.Position.{Position}
use Rattle.book.specs.Positions.{held_of, opening_of, held_sides, paired_of}
use Rattle.book.specs.Books.{Book}
use Rattle.validity.specs.Valid.{rows_ok, traded_ok, longs_to, shorts_to, cash_to}
pub use Rattle.validity.specs.declared.balances.SideTotals.{SideTotals}
pub use Rattle.validity.specs.declared.balances.Totals.{Totals}

abbrev pub add_side : SideTotals → Side → SideTotals
add_side t s = record { opening = t.opening + s.opening.0; held = t.held + held_of s; paired = t.paired + s.paired.0 }

abbrev pub add_row : Totals → Position → Totals
add_row t p = record { long = add_side t.long p.long; short = add_side t.short p.short; cash = t.cash +ℤ p.cash.0 }

abbrev pub no_side : SideTotals
no_side = record { opening = 0; held = 0; paired = 0 }

abbrev pub no_totals : Totals
no_totals = record { long = no_side; short = no_side; cash = pos 0 }

-- the sums of contract j over the first n members
unfoldable pub totals_to : Book → ℕ → ℕ → Totals
totals_to b j n = record {
  long = record { opening = longs_to opening_of b j n; held = longs_to held_sides b j n; paired = longs_to paired_of b j n };
  short = record { opening = shorts_to opening_of b j n; held = shorts_to held_sides b j n; paired = shorts_to paired_of b j n };
  cash = cash_to b j n;
}

-- what is known once the rows and the traded lots have passed
pub record Ranged (b : Book) : Type 0 where
  pub rows : rows_ok b ≡ true
  pub traded : traded_ok b ≡ true

pub record SideIn (s : Side) : Type 0 where
  pub closed : s.closed.0 ≤ s.opening.0
  pub opening : s.opening.0 ≤ 100_000
  pub held : held_of s ≤ 100_000
  pub paired : s.paired.0 ≤ held_of s

pub record PositionIn (p : Position) : Type 0 where
  pub long : SideIn p.long
  pub short : SideIn p.short
  pub cash : In (2 * 10 ^ 15) p.cash.0

-- at most the lots of 32 members
pub record SideFew (t : SideTotals) : Type 0 where
  pub opening : t.opening ≤ 3_200_000
  pub held : t.held ≤ 3_200_000
  pub paired : t.paired ≤ 3_200_000

pub record TotalsFew (t : Totals) : Type 0 where
  pub long : SideFew t.long
  pub short : SideFew t.short
  pub cash : In (32 * (2 * 10 ^ 15)) t.cash
