-- 01, Examples on both sides: every case marked *, the delivery of two paired lots, and case E.
use Rattle.std.specs.Prelude.{List, [], ◌∷◌, ◌++◌, replicate, pos}
use Rattle.rules.specs.declared.units.Figures.{Figures}
use Rattle.rules.specs.declared.units.Price.{Price}
use Rattle.rules.specs.declared.units.Prices.{Prices}
use Rattle.rules.specs.declared.members.MemberKind.TheVariants.{Other}
use Rattle.rules.specs.Units.{fen, lots, price}
use Rattle.rules.specs.Members.{standing_of, call_of}
use Rattle.rules.specs.Money.{quarter_of, room_of, room_left_of, withdrawable_of}
use Rattle.rules.specs.Securities.{discounted_of, usable_of}
use Rattle.rules.specs.Margin.{larger_side_of, margin_of}
use Rattle.rules.specs.Profit.{profit_of}
use Rattle.rules.specs.Night.{figures_by}
use Rattle.profit.specs.Day.{Day, SideDay, held_of, opening_of, paired_of, cash_of}
use Rattle.profit.specs.Article31.{Pairings, held, closing, here, there, closing_profit, holding_profit, delivery_difference, day_profit}
use Rattle.cases.specs.Rows.{Case, ◌is◌, ◌counts◌, ◌stands_at◌, ◌granted_from◌, ◌refused_from◌, minus, amount, sides, prices}
use Rattle.cases.specs.CaseE.{case_e}

-- ---- opens 3 at 500,000 and 2 at 520,000, closes 4 today's at 530,000
abbrev opened : List Price
opened = replicate 3 (price 500_000) ++ replicate 2 (price 520_000)

abbrev closed : List Price
closed = replicate 4 (price 530_000)

abbrev none : SideDay
none = record { opening = lots 0; closed_old = []; opened = []; closed_today = []; paired = lots 0 }

abbrev pub three_and_two : Day
three_and_two = record { long = record { opening = lots 0; closed_old = []; opened = opened; closed_today = closed; paired = lots 0 }; short = none }

-- the last price counts for nothing, since no lot is old
abbrev settled : Prices
settled = prices 400_000 525_000 0

-- closing those opened first, or those opened last
abbrev pub first_opened : Pairings three_and_two
first_opened = record { long = closing here (closing here (closing here (closing here held))); short = held }

abbrev pub last_opened : Pairings three_and_two
last_opened = record { long = closing (there (there (there here))) (closing (there (there (there here))) (closing here (closing here held))); short = held }

-- ---- two lots paired, of the buyer and of the seller
abbrev two : SideDay
two = record { opening = lots 2; closed_old = []; opened = []; closed_today = []; paired = lots 2 }

abbrev buyer : Day
buyer = record { long = two; short = none }

abbrev seller : Day
seller = record { long = none; short = two }

abbrev delivered : Prices
delivered = prices 505_000 505_000 504_000

-- ---- figures
-- money 100,000,000, securities of market value 600,000,001 at 8,000, margin 420,000,000
abbrev secured : Figures
secured = figures_by (amount 100_000_000) (discounted_of (amount 600_000_001) 8_000) (amount 420_000_000)

-- room 10,000,000
abbrev roomy : Figures
roomy = record { reserve = amount 60_000_000; margin = amount 0; usable = amount 0 }

unfoldable pub table : List Case
table =
    -- * settled 525,000, multiplier 10: 1,050,000 by either pairing (1,000,000 + 50,000 or 800,000 + 250,000)
    (closing_profit 10 settled three_and_two first_opened is pos 1_000_000) ∷
    (holding_profit 10 settled three_and_two first_opened is pos 50_000) ∷
    (day_profit 10 settled three_and_two first_opened is pos 1_050_000) ∷
    (closing_profit 10 settled three_and_two last_opened is pos 800_000) ∷
    (holding_profit 10 settled three_and_two last_opened is pos 250_000) ∷
    (day_profit 10 settled three_and_two last_opened is pos 1_050_000) ∷
    (profit_of 10 (cash_of three_and_two) (held_of three_and_two) (opening_of three_and_two) (paired_of three_and_two) settled is pos 1_050_000) ∷
    -- * market value 600,000,001 at 8,000, money 100,000,000: usable 400,000,000
    (discounted_of (amount 600_000_001) 8_000 is pos 480_000_000) ∷
    (usable_of (discounted_of (amount 600_000_001) 8_000) (amount 100_000_000) is pos 400_000_000) ∷
    -- * with margin 420,000,000, kind 2: reserve 80,000,000, standing 0, withdrawable 0
    (secured.reserve is pos 80_000_000) ∷
    (standing_of Other secured.reserve stands_at 0) ∷
    (withdrawable_of Other secured is pos 0) ∷
    -- * money −1: usable 0
    (usable_of (discounted_of (amount 600_000_001) 8_000) (fen (minus 1)) is pos 0) ∷
    -- * kind 2, reserve 50,000,000: standing 0, call 0
    (standing_of Other (amount 50_000_000) stands_at 0) ∷
    (call_of Other (amount 50_000_000) is pos 0) ∷
    -- * 49,999,999: 1, call 1
    (standing_of Other (amount 49_999_999) stands_at 1) ∷
    (call_of Other (amount 49_999_999) is pos 1) ∷
    -- * 0: standing 1
    (standing_of Other (amount 0) stands_at 1) ∷
    -- * −1: 2, call 50,000,001
    (standing_of Other (fen (minus 1)) stands_at 2) ∷
    (call_of Other (fen (minus 1)) is pos 50_000_001) ∷
    -- * one lot at 333,333, multiplier 1, rate 500: margin 16,667
    (margin_of (lots 1) (price 333_333) 1 500 is pos 16_667) ∷
    -- * long 7, short 5: margin on 7
    (larger_side_of (sides 7 5) counts 7) ∷
    -- * usable 401: quarter 101
    (quarter_of (amount 401) is pos 101) ∷
    -- * room 10,000,000: withdrawal 6,000,000 granted, a second of the same refused 6; after a deposit of 2,000,000 a third of the same is granted
    (room_of Other roomy is pos 10_000_000) ∷
    (amount 6_000_000 granted_from room_left_of Other roomy (amount 0) (amount 0)) ∷
    (amount 6_000_000 refused_from room_left_of Other roomy (amount 0) (amount 6_000_000)) ∷
    (amount 6_000_000 granted_from room_left_of Other roomy (amount 2_000_000) (amount 6_000_000)) ∷
    -- 2 lots paired, 505,000 to 504,000, multiplier 10: buyer −20,000, seller +20,000
    (delivery_difference 10 delivered buyer is minus 20_000) ∷
    (delivery_difference 10 delivered seller is pos 20_000) ∷
    (profit_of 10 (cash_of buyer) (held_of buyer) (opening_of buyer) (paired_of buyer) delivered is minus 20_000) ∷
    (profit_of 10 (cash_of seller) (held_of seller) (opening_of seller) (paired_of seller) delivered is pos 20_000) ∷
    case_e
