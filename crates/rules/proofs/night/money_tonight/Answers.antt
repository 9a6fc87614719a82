-- The machine's sum is exact, since it fits.
use mathlib.Core.Path.{ap}
use Rattle.numbers.specs.Computation.{Exp, int, ◌⊞◌, ◌⊟◌}
use Rattle.numbers.proofs.Computations.{fits, reads}
use Rattle.rules.specs.Units.{Fen, fen}
use Rattle.rules.specs.Ranges.{MoneyTonightIn}
use Rattle.rules.proofs.night.money_tonight.Goals as goal

abbrev whole : {money profit deposits withdrawals fee : Fen} → MoneyTonightIn money profit deposits withdrawals fee → Exp
whole h = int h.money_in ⊞ int h.profit_in ⊞ int h.deposits_in ⊟ int h.withdrawals_in ⊟ int h.fee_in

pub overflow_sub-result-2 : goal.overflow_sub-result-2
overflow_sub-result-2 c = fits (whole c.requires) tt

pub returns : goal.returns
returns c = ap fen (reads (whole c.requires) tt)
