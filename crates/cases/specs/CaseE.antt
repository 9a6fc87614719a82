-- 01, The evening program, Case E, whole: contract 500,000, multiplier 10, rate 500, fee 300, delivery fee 100; margins 2,500,000, no securities; prices 505,000 and 0.
-- Member 1 buys 4 from member 0 at 510,000, both closing old lots.
use Rattle.std.specs.Prelude.{List, [], ◌∷◌, ◌++◌, ℕ, ℤ, pos}
use Rattle.rules.specs.declared.units.Fen.{Fen}
use Rattle.rules.specs.declared.units.Figures.{Figures}
use Rattle.rules.specs.declared.units.Sides.{Sides}
use Rattle.rules.specs.declared.members.MemberKind.{MemberKind}
use Rattle.rules.specs.declared.members.MemberKind.TheVariants.{Broker, Other}
use Rattle.rules.specs.Units.{fen, lots, price}
use Rattle.rules.specs.Members.{standing_of, call_of}
use Rattle.rules.specs.Money.{withdrawable_of}
use Rattle.rules.specs.Securities.{discounted_of}
use Rattle.rules.specs.Margin.{remaining_of, larger_side_of, margin_of}
use Rattle.rules.specs.Profit.{profit_of}
use Rattle.rules.specs.Fee.{fee_of}
use Rattle.rules.specs.Night.{figures_tonight_of}
use Rattle.cases.specs.Rows.{Case, ◌is◌, ◌stands_at◌, minus, amount, sides, prices}

-- a member by what is its own: kind, reserve, cash sum, lots at the opening and held
module _ (kind : MemberKind) (reserve : ℕ) (cash : ℤ) (opening held : Sides) where
  abbrev profit : Fen
  profit = profit_of 10 (fen cash) held opening (sides 0 0) (prices 500_000 505_000 0)

  abbrev fee : Fen
  fee = fee_of (lots 4) (sides 0 0) 300 100

  abbrev margin : Fen
  margin = margin_of (larger_side_of (remaining_of held (sides 0 0))) (price 505_000) 10 500

  abbrev tonight : Figures
  tonight =
      figures_tonight_of (record { reserve = amount reserve; margin = amount 2_500_000; usable = amount 0 })
      (record { profit = profit; deposits = amount 0; withdrawals = amount 0; fee = fee }) (discounted_of (amount 0) 0) margin

  -- the sheet's fields after the member's number
  abbrev sheet_is : (pnl fee margin usable reserve withdrawable call : ℤ) (standing : ℕ) → List Case
  sheet_is p f m u r w c s =
      (profit is p) ∷
      (fee is f) ∷
      (tonight.margin is m) ∷
      (tonight.usable is u) ∷
      (tonight.reserve is r) ∷
      (withdrawable_of kind tonight is w) ∷
      (call_of kind tonight.reserve is c) ∷
      (standing_of kind tonight.reserve stands_at s) ∷
      []

-- broker 0 long 10, reserve 300,000,000; member 1 (other) short 10, reserve 80,000,000
unfoldable pub case_e : List Case
case_e =
    sheet_is Broker 300_000_000 (pos 2_040_000) (sides 10 0) (sides 6 0) (pos 700_000) (pos 1_200) (pos 1_515_000) (pos 0) (pos 301_683_800) (pos 101_683_800) (pos 0) 0
    ++ sheet_is Other 80_000_000 (minus 2_040_000) (sides 0 10) (sides 0 6) (minus 700_000) (pos 1_200) (pos 1_515_000) (pos 0) (pos 80_283_800) (pos 30_283_800) (pos 0) 0
