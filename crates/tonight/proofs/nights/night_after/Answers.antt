-- Tonight's figures are in range, so room and call may be asked of them.
use Rattle.std.proofs.Common.{ap}
use Rattle.numbers.proofs.Ranges.{in_eq}
use Rattle.rules.specs.declared.units.Figures.{Figures}
use Rattle.tonight.proofs.Facts.{figures_in}
use Rattle.tonight.proofs.nights.night_after.Goals as goal

pub withdrawable-requires : goal.withdrawable-requires
withdrawable-requires c = rw c.figures_after-figures.ensures (figures_in c.args.r c.args.t c.requires.0 c.requires.1)

pub call-requires : goal.call-requires
call-requires c =
    in_eq (ap (λ (f : Figures). f.reserve.0) c.figures_after-figures.ensures)
    (figures_in c.args.r c.args.t c.requires.0 c.requires.1).reserve_in
