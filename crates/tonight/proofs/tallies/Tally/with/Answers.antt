-- Sums of at most 33 contracts fit.
use Rattle.numbers.specs.Computation.{Exp, int, ◌⊞◌}
use Rattle.numbers.proofs.Computations.{reads}
use Rattle.tonight.specs.Night.{Tally}
use Rattle.tonight.specs.Evening.{TallyFew}
use Rattle.tonight.proofs.tallies.Tally.with.Goals as goal

module _ {t u : Tally} (p : TallyFew 32 t × TallyFew 1 u) where
  abbrev profit : Exp
  profit = int p.0.profit ⊞ int p.1.profit

  abbrev fee : Exp
  fee = int p.0.fee.within ⊞ int p.1.fee.within

  abbrev margin : Exp
  margin = int p.0.margin.within ⊞ int p.1.margin.within

pub returns : goal.returns
returns c = cc (reads (profit c.requires) tt, reads (fee c.requires) tt, reads (margin c.requires) tt)
