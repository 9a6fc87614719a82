-- 000, article 31, and 01, The book: a member's day in one contract, lot by lot, and the sums that the book keeps of it.
use Rattle.std.specs.Prelude.{List, map, ◌+◌, ◌-◌, ◌≤◌, ℤ, pos, ◌+ℤ◌, ◌-ℤ◌, length}
use Rattle.numbers.specs.Sum.{sum_of}
use Rattle.rules.specs.declared.units.Fen.{Fen}
use Rattle.rules.specs.declared.units.Lots.{Lots}
use Rattle.rules.specs.declared.units.Price.{Price}
use Rattle.rules.specs.declared.units.Sides.{Sides}
use Rattle.rules.specs.Units.{fen, lots}

-- One side of it. A lot that was dealt in today is its price.
pub record SideDay : Type 0 where
  pub opening : Lots  -- old lots: those held from before
  pub closed_old : List Price  -- of which closed today
  pub opened : List Price  -- opened today
  pub closed_today : List Price  -- of which closed today
  pub paired : Lots  -- paired for delivery

pub record Day : Type 0 where
  pub long : SideDay
  pub short : SideDay

-- no more old lots are closed than there are
pub record Covered (day : Day) : Type 0 where
  pub long : length day.long.closed_old ≤ day.long.opening.0
  pub short : length day.short.closed_old ≤ day.short.opening.0

-- f x + f y + .. over a list
abbrev pub sum_over : {A : Type 0} → (A → ℤ) → List A → ℤ
sum_over f xs = sum_of (map f xs)

abbrev pub worth : Price → ℤ
worth price = pos price.0

-- opening − closed old + new: 01, the book
abbrev pub held_on : SideDay → Lots
held_on side = lots (side.opening.0 - length side.closed_old + (length side.opened - length side.closed_today))

abbrev pub held_of : Day → Sides
held_of day = record { long = held_on day.long; short = held_on day.short }

abbrev pub opening_of : Day → Sides
opening_of day = record { long = day.long.opening; short = day.short.opening }

abbrev pub paired_of : Day → Sides
paired_of day = record { long = day.long.paired; short = day.short.paired }

-- what a side's closings come to less its openings
abbrev pub closed_less_opened : SideDay → ℤ
closed_less_opened side = sum_over worth side.closed_old +ℤ sum_over worth side.closed_today -ℤ sum_over worth side.opened

-- lots sold × price less lots bought × price: a long is closed by a sale and opened by a purchase, a short the other way
abbrev pub cash_of : Day → Fen
cash_of day = fen (closed_less_opened day.long -ℤ closed_less_opened day.short)
