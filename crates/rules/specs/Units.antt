-- 01, Units: lots, prices and fen, named apart: a count of lots is never taken where fen are due.
use Rattle.std.specs.Prelude.{ℕ, ℤ}
pub use Rattle.rules.specs.declared.units.Fen.{Fen}
pub use Rattle.rules.specs.declared.units.Lots.{Lots}
pub use Rattle.rules.specs.declared.units.Price.{Price}
pub use Rattle.rules.specs.declared.units.Sides.{Sides}
pub use Rattle.rules.specs.declared.units.Prices.{Prices}
pub use Rattle.rules.specs.declared.units.Figures.{Figures}
pub use Rattle.rules.specs.declared.units.Movements.{Movements}

-- money: whole fen, signed
abbrev pub fen : ℤ → Fen
fen z = record { 0 = z }

-- goods
abbrev pub lots : ℕ → Lots
lots n = record { 0 = n }

-- fen per unit of goods
abbrev pub price : ℕ → Price
price n = record { 0 = n }
