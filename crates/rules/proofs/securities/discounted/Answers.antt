-- The product fits, so the machine's amount is exact.
use mathlib.Core.Path.{◌∙◌, ap}
use Rattle.numbers.specs.Computation.{int, ◌⊠◌, ◌⊘◌}
use Rattle.numbers.proofs.Computations.{reads, widened}
use Rattle.rules.specs.Units.{fen}
use Rattle.rules.proofs.securities.discounted.Goals as goal

pub returns : goal.returns
returns c = ap fen (reads (int c.requires.market_in ⊠ widened c.requires.discount_in c.from.ensures ⊘ 10_000) tt ∙ cc)
