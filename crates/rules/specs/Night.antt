-- 000, article 33: tonight's figures, the article's sum in steps, since usable goes by tonight's money.
use Rattle.std.specs.Prelude.{◌+ℤ◌, ◌-ℤ◌}
use Rattle.rules.specs.Units.{Fen, fen, Figures, Movements}
use Rattle.rules.specs.Money.{money_of}
use Rattle.rules.specs.Securities.{usable_of}

-- money + profit or loss + deposits − withdrawals − fee: 000, articles 32 and 33
abbrev pub money_tonight_of : (money profit deposits withdrawals fee : Fen) → Fen
money_tonight_of money profit deposits withdrawals fee = fen (money.0 +ℤ profit.0 +ℤ deposits.0 -ℤ withdrawals.0 -ℤ fee.0)

-- money + usable − margin: 000, article 33
abbrev pub reserve_tonight_of : (money usable margin : Fen) → Fen
reserve_tonight_of money usable margin = fen (money.0 +ℤ usable.0 -ℤ margin.0)

-- the three by tonight's money, usable too: 000, articles 33 and 57
abbrev pub figures_by : (money discounted margin : Fen) → Figures
figures_by money discounted margin =
    record { reserve = reserve_tonight_of money (usable_of discounted money) margin; margin = margin; usable = usable_of discounted money }

-- from this morning's figures and what moved in the day: 000, article 33
abbrev pub figures_tonight_of : (morning : Figures) → Movements → (discounted margin : Fen) → Figures
figures_tonight_of morning moved discounted margin =
    figures_by (money_tonight_of (money_of morning) moved.profit moved.deposits moved.withdrawals moved.fee) discounted margin
