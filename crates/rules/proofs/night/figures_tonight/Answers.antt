-- What the reserve is computed of lies in range by the promises of the steps before it.
use Rattle.numbers.proofs.Ranges.{in_eq}
use Rattle.rules.proofs.Bounds.{fen_is, usable_in, money_after_in}
use Rattle.rules.proofs.night.figures_tonight.Goals as goal

pub reserve_tonight-reserve-requires : goal.reserve_tonight-reserve-requires
reserve_tonight-reserve-requires c =
    let a = c.args in
    record {
      money_in = in_eq (fen_is cc) (money_after_in a.morning a.movements a.discounted a.margin c.requires);
      usable_in = in_eq (fen_is c.usable-usable.ensures) (usable_in a.discounted c.money_tonight-have.result c.requires.discounted_in).within;
      margin_in = c.requires.margin_in;
    }
