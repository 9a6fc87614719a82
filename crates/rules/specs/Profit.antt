-- 000, articles 31 and 50: the profit or loss of one contract, from the sums that the book keeps of it.
use Rattle.std.specs.Prelude.{ℕ, ℤ, pos, ◌+ℤ◌, ◌-ℤ◌, ◌*ℤ◌}
use Rattle.rules.specs.Units.{Fen, fen, Sides, Prices}

-- long less short
abbrev pub net_of : Sides → ℤ
net_of sides = pos sides.long.0 -ℤ pos sides.short.0

-- cash sum, held net at tonight's price, opening net at the last, paired net from tonight's to the delivery price: 000, articles 31 and 50, on the book's sums; paired lots count as held first (house)
abbrev pub profit_of : (multiplier : ℕ) (cash : Fen) (held opening paired : Sides) → Prices → Fen
profit_of multiplier cash held opening paired prices =
    fen
    (pos multiplier *ℤ (cash.0 +ℤ net_of held *ℤ pos prices.tonight.0 -ℤ net_of opening *ℤ pos prices.last.0
    +ℤ net_of paired *ℤ (pos prices.delivery.0 -ℤ pos prices.tonight.0)))
