-- The range of what each rule gives, from the ranges of what it is given: for those who call.
use mathlib.Core.Path.{◌≡◌, ap}
use Prim.Native.Nat.{ℕ, ◌+◌, ◌*◌, ◌^◌, ◌≤◌, zero-le}
use native.Mathlib.Nat.{mul-le-mul}
use native.Mathlib.Omega.{arith}
use borrow.Author.Differences.{ints}
use lib.Dec.{lit≤}
use lib.IntN.{ℤ, pos, negsuc, ◌+ℤ◌}
use lib.Signed.{◌≤ℤ◌}
use Rattle.numbers.specs.Range.{In}
use Rattle.numbers.specs.Choice.{larger_of}
use Rattle.numbers.proofs.Ranges.{in_add, in_sub, in_mul, in_quot, in_pos, in_lit, in_weaken}
use Rattle.numbers.proofs.Choices.{in_larger}
use Rattle.rules.specs.Units.{Fen, fen, Lots, Price, Sides, Prices, Figures, Movements}
use Rattle.rules.specs.Ranges.{Amount, money_most, reserve_most, FiguresIn, RoomLeftIn, SidesIn, MarginIn, ProfitIn, FeeIn, MoneyTonightIn, ReserveTonightIn, FiguresTonightIn}
use Rattle.rules.specs.Members.{MemberKind, Broker, Other, minimum_of, call_of}
use Rattle.rules.specs.Money.{money_of, quarter_of, room_of, room_left_of, withdrawable_of}
use Rattle.rules.specs.Securities.{discounted_of, usable_of}
use Rattle.rules.specs.Margin.{margin_of}
use Rattle.rules.specs.Profit.{net_of, profit_of}
use Rattle.rules.specs.Fee.{fee_of}
use Rattle.rules.specs.Night.{money_tonight_of, reserve_tonight_of, figures_tonight_of}

-- what equal fen come to
pub fen_is : {x y : Fen} → x ≡ y → x.0 ≡ y.0
fen_is e = ap (λ (amount : Fen). amount.0) e

-- a natural number of fen
pub amount : {most n : ℕ} → n ≤ most → Amount most (fen (pos n))
amount {n = n} h = record { within = in_pos h; low = omega (arith, ints) }

pub amount_add : {A B : ℕ} (x y : Fen) → Amount A x → Amount B y → Amount (A + B) (fen (x.0 +ℤ y.0))
amount_add x y a b = record { within = in_add a.within b.within; low = omega (arith, ints) }

pub amount_more : {A B : ℕ} (x : Fen) → A ≤ B → Amount A x → Amount B x
amount_more x l a = record { within = in_weaken l a.within; low = a.low }

at_least_zero : {most : ℕ} {z : ℤ} → In most z → Amount most (fen (larger_of (pos 0) z))
at_least_zero h = record { within = in_larger (in_pos zero-le) h; low = grind (arith, ints) }

pub minimum_in : (kind : MemberKind) → In 200_000_000 (minimum_of kind).0
minimum_in Broker = in_lit tt
minimum_in Other = in_lit tt

pub call_in : (kind : MemberKind) (reserve : Fen) → In reserve_most reserve.0 → Amount (72 * 10 ^ 17) (call_of kind reserve)
call_in kind reserve h = at_least_zero (in_weaken (lit≤ tt) (in_sub (minimum_in kind) h))

-- with the ranges of a valid book, 12 · 10^15
pub money_in : {A B C : ℕ} (figures : Figures) → In A figures.reserve.0 → In B figures.margin.0 → In C figures.usable.0 → In (A + B + C) (money_of figures).0
money_in figures r m u = in_sub (in_add r m) u

module _ (kind : MemberKind) (figures : Figures) (h : FiguresIn figures) where
  pub room_in : In (72 * 10 ^ 17) (room_of kind figures).0
  room_in =
      let quarter : In (10 ^ 16 + 10 ^ 15) (quarter_of figures.usable).0
      = in_weaken (lit≤ tt) (in_quot 4 (in_add h.usable_in (in_pos {B = 3} {n = 3} (lit≤ tt)))) in
      in_weaken (lit≤ tt)
      (in_sub (in_sub (money_in figures h.reserve_in h.margin_in h.usable_in) (in_larger (in_sub h.margin_in h.usable_in) quarter)) (minimum_in kind))

  pub withdrawable_in : Amount (72 * 10 ^ 17) (withdrawable_of kind figures)
  withdrawable_in = at_least_zero room_in

pub room_left_in : (kind : MemberKind) (figures : Figures) (deposits withdrawals : Fen) → RoomLeftIn figures deposits withdrawals → In (73 * 10 ^ 17) (room_left_of kind figures deposits withdrawals).0
room_left_in kind figures deposits withdrawals h = in_weaken (lit≤ tt) (in_sub (in_add (room_in kind figures h.figures_in) h.deposits_in) h.withdrawals_in)

pub discounted_in : (market : Fen) (discount : ℕ) → Amount (10 ^ 15) market → discount ≤ 8_000 → Amount (8 * 10 ^ 14) (discounted_of market discount)
discounted_in market discount h d = of market.0 h.within h.low
  where
    of : (z : ℤ) → In (10 ^ 15) z → pos 0 ≤ℤ z → Amount (8 * 10 ^ 14) (discounted_of (fen z) discount)
    of (pos n) h l = amount (omega (arith, mul-le-mul h.within d))
    of (negsuc n) h l = absurd l.le

pub usable_in : {most : ℕ} (discounted money : Fen) → Amount most discounted → Amount most (usable_of discounted money)
usable_in discounted money h = record { within = record { within = grind (arith, ints) }; low = grind (arith, ints) }

pub margin_in : (charged : Lots) (price : Price) (multiplier rate : ℕ) → MarginIn charged price multiplier rate → Amount (2 * 10 ^ 14) (margin_of charged price multiplier rate)
margin_in charged price multiplier rate h = amount (omega (arith, mul-le-mul (mul-le-mul (mul-le-mul h.charged_in h.price_in) h.multiplier_in) h.rate_in))

pub net_in : (sides : Sides) → SidesIn sides → In 200_000 (net_of sides)
net_in sides h = in_sub (in_pos h.long_in) (in_pos h.short_in)

pub profit_in : (multiplier : ℕ) (cash : Fen) (held opening paired : Sides) (prices : Prices) → ProfitIn multiplier cash held opening paired prices →
    In (2_008 * 10 ^ 14) (profit_of multiplier cash held opening paired prices).0
profit_in multiplier cash held opening paired prices h =
    let p = h.prices_in in
    in_weaken (lit≤ tt) (in_mul (in_pos h.multiplier_in)
    (in_add (in_sub (in_add h.cash_in (in_mul (net_in held h.held_in) (in_pos p.tonight_in))) (in_mul (net_in opening h.opening_in) (in_pos p.last_in)))
    (in_mul (net_in paired h.paired_in) (in_sub (in_pos p.delivery_in) (in_pos p.tonight_in)))))

pub fee_in : (traded : Lots) (paired : Sides) (trade_fee delivery_fee : ℕ) → FeeIn traded paired trade_fee delivery_fee → Amount (2_002 * 10 ^ 10) (fee_of traded paired trade_fee delivery_fee)
fee_in traded paired trade_fee delivery_fee h =
    let both : paired.long.0 + paired.short.0 ≤ 200_000 = omega (arith, h.paired_in.long_in, h.paired_in.short_in) in
    amount (omega (arith, mul-le-mul h.traded_in h.trade_fee_in, mul-le-mul both h.delivery_fee_in))

pub money_tonight_in : (money profit deposits withdrawals fee : Fen) → MoneyTonightIn money profit deposits withdrawals fee → In money_most (money_tonight_of money profit deposits withdrawals fee).0
money_tonight_in money profit deposits withdrawals fee h = in_weaken (lit≤ tt) (in_sub (in_sub (in_add (in_add h.money_in h.profit_in) h.deposits_in) h.withdrawals_in) h.fee_in)

pub reserve_tonight_in : (money usable margin : Fen) → ReserveTonightIn money usable margin → In reserve_most (reserve_tonight_of money usable margin).0
reserve_tonight_in money usable margin h = in_weaken (lit≤ tt) (in_sub (in_add h.money_in h.usable_in) h.margin_in)

module _ (morning : Figures) (moved : Movements) (discounted margin : Fen) (h : FiguresTonightIn morning moved discounted margin) where
  pub money_moved_in : MoneyTonightIn (money_of morning) moved.profit moved.deposits moved.withdrawals moved.fee
  money_moved_in = record {
    money_in = money_in morning h.reserve_in h.morning_margin_in h.usable_in;
    profit_in = h.profit_in;
    deposits_in = h.deposits_in;
    withdrawals_in = h.withdrawals_in;
    fee_in = h.fee_in;
  }

  pub money_after_in : In money_most (money_tonight_of (money_of morning) moved.profit moved.deposits moved.withdrawals moved.fee).0
  money_after_in = money_tonight_in (money_of morning) moved.profit moved.deposits moved.withdrawals moved.fee money_moved_in

  -- so that room, call and the rest may be asked of them
  pub figures_tonight_in : FiguresIn (figures_tonight_of morning moved discounted margin)
  figures_tonight_in =
      let money = money_tonight_of (money_of morning) moved.profit moved.deposits moved.withdrawals moved.fee in
      let usable = usable_in discounted money h.discounted_in in
      record {
        reserve_in = reserve_tonight_in money (usable_of discounted money) margin (record { money_in = money_after_in; usable_in = usable.within; margin_in = h.margin_in });
        margin_in = h.margin_in;
        usable_in = usable.within;
      }
