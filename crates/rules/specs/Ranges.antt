-- 01, The book: within what ranges the rules are computed: those of a valid book, and for tonight's money and reserve what they can come to before refusal 9 is tried.
use Rattle.std.specs.Prelude.{ℕ, ◌*◌, ◌^◌, ◌≤◌, pos, ◌≤ℤ◌}
use Rattle.numbers.specs.Range.{In}
use Rattle.rules.specs.Units.{Fen, Lots, Price, Sides, Prices, Figures, Movements}

-- 0..most
pub record Amount (most : ℕ) (amount : Fen) : Type 0 where
  pub within : In most amount.0
  pub low : pos 0 ≤ℤ amount.0

-- tonight's money at most: 32 contracts' profits, each at most 2.008 · 10^17, and some 5 · 10^16 besides
abbrev pub money_most : ℕ
money_most = 7 * 10 ^ 18

-- a reserve at most, by day and by night
abbrev pub reserve_most : ℕ
reserve_most = 71 * 10 ^ 17

pub record FiguresIn (figures : Figures) : Type 0 where
  pub reserve_in : In reserve_most figures.reserve.0
  pub margin_in : In (10 ^ 16) figures.margin.0
  pub usable_in : In (10 ^ 15) figures.usable.0

pub record RoomLeftIn (figures : Figures) (deposits withdrawals : Fen) : Type 0 where
  pub figures_in : FiguresIn figures
  pub deposits_in : In (2 * 10 ^ 16) deposits.0
  pub withdrawals_in : In (2 * 10 ^ 16) withdrawals.0

pub record SecuritiesIn (market : Fen) (discount : ℕ) : Type 0 where
  pub market_in : In (10 ^ 15) market.0
  pub discount_in : discount ≤ 8_000

-- on each side
pub record AtMost (few many : Sides) : Type 0 where
  pub long : few.long.0 ≤ many.long.0
  pub short : few.short.0 ≤ many.short.0

pub record SidesIn (sides : Sides) : Type 0 where
  pub long_in : sides.long.0 ≤ 100_000
  pub short_in : sides.short.0 ≤ 100_000

pub record PricesIn (prices : Prices) : Type 0 where
  pub last_in : prices.last.0 ≤ 10_000_000
  pub tonight_in : prices.tonight.0 ≤ 10_000_000
  pub delivery_in : prices.delivery.0 ≤ 10_000_000

-- as many lots may be charged as both sides hold together
pub record MarginIn (charged : Lots) (price : Price) (multiplier rate : ℕ) : Type 0 where
  pub charged_in : charged.0 ≤ 200_000
  pub price_in : price.0 ≤ 10_000_000
  pub multiplier_in : multiplier ≤ 100
  pub rate_in : rate ≤ 10_000

pub record ProfitIn (multiplier : ℕ) (cash : Fen) (held opening paired : Sides) (prices : Prices) : Type 0 where
  pub multiplier_in : multiplier ≤ 100
  pub cash_in : In (2 * 10 ^ 15) cash.0
  pub held_in : SidesIn held
  pub opening_in : SidesIn opening
  pub paired_in : SidesIn paired
  pub prices_in : PricesIn prices

pub record FeeIn (traded : Lots) (paired : Sides) (trade_fee delivery_fee : ℕ) : Type 0 where
  pub traded_in : traded.0 ≤ 200_000_000
  pub paired_in : SidesIn paired
  pub trade_fee_in : trade_fee ≤ 100_000
  pub delivery_fee_in : delivery_fee ≤ 100_000

pub record MoneyTonightIn (money profit deposits withdrawals fee : Fen) : Type 0 where
  pub money_in : In (12 * 10 ^ 15) money.0
  pub profit_in : In (65 * 10 ^ 17) profit.0
  pub deposits_in : In (2 * 10 ^ 16) deposits.0
  pub withdrawals_in : In (2 * 10 ^ 16) withdrawals.0
  pub fee_in : In (10 ^ 15) fee.0

pub record ReserveTonightIn (money usable margin : Fen) : Type 0 where
  pub money_in : In money_most money.0
  pub usable_in : In (10 ^ 15) usable.0
  pub margin_in : In (10 ^ 16) margin.0

-- the morning's figures as in a valid book
pub record FiguresTonightIn (morning : Figures) (moved : Movements) (discounted margin : Fen) : Type 0 where
  pub reserve_in : In (10 ^ 15) morning.reserve.0
  pub morning_margin_in : In (10 ^ 16) morning.margin.0
  pub usable_in : In (10 ^ 15) morning.usable.0
  pub profit_in : In (65 * 10 ^ 17) moved.profit.0
  pub deposits_in : In (2 * 10 ^ 16) moved.deposits.0
  pub withdrawals_in : In (2 * 10 ^ 16) moved.withdrawals.0
  pub fee_in : In (10 ^ 15) moved.fee.0
  pub discounted_in : Amount (10 ^ 15) discounted
  pub margin_in : In (10 ^ 16) margin.0
