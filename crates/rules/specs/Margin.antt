-- 000, articles 25 and 26: the margin of one contract.
use Rattle.std.specs.Prelude.{ℕ, ◌+◌, ◌-◌, ◌*◌, ◌/◌, max, pos}
use Rattle.rules.specs.Units.{Fen, fen, Lots, lots, Price, Sides}

-- remaining lots = held − paired, on each side (house)
abbrev pub remaining_of : (held paired : Sides) → Sides
remaining_of held paired = record { long = lots (held.long.0 - paired.long.0); short = lots (held.short.0 - paired.short.0) }

-- one side is charged: 000, article 26; the larger (house)
abbrev pub larger_side_of : Sides → Lots
larger_side_of sides = lots (max sides.long.0 sides.short.0)

-- lots to charge × price × multiplier × rate: 000, article 25; rounded up to a fen (house)
abbrev pub margin_of : (charged : Lots) → Price → (multiplier rate : ℕ) → Fen
margin_of charged price multiplier rate = fen (pos ((charged.0 * price.0 * multiplier * rate + 9_999) / 10_000))
