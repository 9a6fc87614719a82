use Rattle.std.proofs.Common.{rules, tests}
use Rattle.folds.proofs.Ranges.{all_in_range}
use Rattle.validity.specs.Valid.{position_row}
use Rattle.validity.proofs.rows.position_row.Goals as goal

pub returns : goal.returns
unfolding position_row
returns c = all_in_range _ _ _ _ _ c.all.ensures.ran (λ x t q k. search (rules, tests))
