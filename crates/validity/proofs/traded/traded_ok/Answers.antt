use Rattle.std.proofs.Common.{rules, tests}
use Rattle.folds.proofs.Ranges.{all_in_range}
use Rattle.validity.specs.Valid.{traded_ok}
use Rattle.validity.proofs.traded.traded_ok.Goals as goal

pub returns : goal.returns
unfolding traded_ok
returns c = all_in_range _ _ _ _ _ c.all.ensures.ran (λ x t q k. search (rules, tests))
