use Rattle.std.proofs.Common.{rules, tests}
use Rattle.folds.proofs.Ranges.{all_in_range}
use Rattle.validity.specs.Valid.{member_rows}
use Rattle.validity.proofs.rows.member_rows.Goals as goal

pub returns : goal.returns
unfolding member_rows
returns c = all_in_range _ _ _ _ _ c.all.ensures.ran (λ x t q k. search (rules, tests))
