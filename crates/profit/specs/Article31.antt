-- 000, article 31, in its own form: closing, holding and delivery, each over the bought and the sold lots.
use Rattle.std.specs.Prelude.{List, [], ◌∷◌, ℕ, ◌-◌, ℤ, pos, ◌+ℤ◌, ◌-ℤ◌, ◌*ℤ◌, length}
use Rattle.rules.specs.declared.units.Fen.{Fen}
use Rattle.rules.specs.declared.units.Price.{Price}
use Rattle.rules.specs.declared.units.Prices.{Prices}
use Rattle.rules.specs.Units.{fen}
use Rattle.profit.specs.Day.{SideDay, Day, sum_over, worth}

-- ---- which lot opened today a closing closes: the article does not say, so any may be picked

-- `price` is one of the first list's lots, and the second list is what is left without it
pub data Pick (price : Price) : List Price → List Price → Type 0 where
  here : {rest : List Price} → Pick price (price ∷ rest) rest
  there : {other : Price} {opened rest : List Price} → Pick price opened rest → Pick price (other ∷ opened) (other ∷ rest)

-- each closing takes one of the lots still open
pub data Pairing : (opened closed : List Price) → Type 0 where
  held : {opened : List Price} → Pairing opened []
  closing : {from to : Price} {opened rest closed : List Price} → Pick from opened rest → Pairing rest closed → Pairing opened (to ∷ closed)

pub record Pairings (day : Day) : Type 0 where
  pub long : Pairing day.long.opened day.long.closed_today
  pub short : Pairing day.short.opened day.short.closed_today

-- ---- the article's sums, in fen per unit of goods

pub data Side : Type 0 where
  of_longs of_shorts : Side

-- buys gain on a rise, sells on a fall
abbrev pub gain : Side → (from to : Price) → ℤ
gain of_longs from to = worth to -ℤ worth from
gain of_shorts from to = worth from -ℤ worth to

-- (1) old lots closed: close price against the last settlement price
abbrev pub closed_old : Side → Prices → SideDay → ℤ
closed_old side prices day = sum_over (gain side prices.last) day.closed_old

-- (1) lots opened and closed today: close against open
unfoldable pub closed_today : {opened closed : List Price} → Side → Pairing opened closed → ℤ
closed_today side held = pos 0
closed_today side (closing {from} {to} pick pairing) = gain side from to +ℤ closed_today side pairing

-- (2) old lots held: last settlement price up to tonight's
abbrev pub held_old : Side → Prices → SideDay → ℤ
held_old side prices day = pos (day.opening.0 - length day.closed_old) *ℤ gain side prices.last prices.tonight

-- what no closing took
unfoldable pub left_open : {opened closed : List Price} → Pairing opened closed → List Price
left_open (held {opened}) = opened
left_open (closing pick pairing) = left_open pairing

-- (2) lots opened today and held: opening price up to tonight's
abbrev pub held_today : {opened closed : List Price} → Side → Prices → Pairing opened closed → ℤ
held_today side prices pairing = sum_over (λ price. gain side price prices.tonight) (left_open pairing)

-- (3) paired lots: tonight's price to the delivery price
abbrev pub delivered : Side → Prices → SideDay → ℤ
delivered side prices day = pos day.paired.0 *ℤ gain side prices.tonight prices.delivery

-- ---- the article's three parts and the day's profit or loss, in fen

module _ (multiplier : ℕ) (prices : Prices) (day : Day) where
  -- (1) closing = old lots closed + lots of today closed
  abbrev pub closing_profit : Pairings day → Fen
  closing_profit pairings =
      fen
      (pos multiplier *ℤ ((closed_old of_longs prices day.long +ℤ closed_old of_shorts prices day.short)
      +ℤ (closed_today of_longs pairings.long +ℤ closed_today of_shorts pairings.short)))

  -- (2) holding = old lots held + lots of today held
  abbrev pub holding_profit : Pairings day → Fen
  holding_profit pairings =
      fen
      (pos multiplier *ℤ ((held_old of_longs prices day.long +ℤ held_old of_shorts prices day.short)
      +ℤ (held_today of_longs prices pairings.long +ℤ held_today of_shorts prices pairings.short)))

  -- (3) delivery difference
  abbrev pub delivery_difference : Fen
  delivery_difference = fen (pos multiplier *ℤ (delivered of_longs prices day.long +ℤ delivered of_shorts prices day.short))

  -- the day's profit or loss = closing + holding + delivery difference
  abbrev pub day_profit : Pairings day → Fen
  day_profit pairings = fen ((closing_profit pairings).0 +ℤ (holding_profit pairings).0 +ℤ delivery_difference.0)
