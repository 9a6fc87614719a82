-- Every figure of the table, by computation.
use mathlib.Core.Path.{◌≡◌, refl}
use mathlib.Core.Bool.{true}
use Rattle.numbers.specs.Sum.{sum_of}
use Rattle.profit.specs.Article31.{closed_today, left_open}
use Rattle.cases.specs.Rows.{right, all_right}
use Rattle.cases.specs.CaseE.{case_e}
use Rattle.cases.specs.Cases.{table}

pub the_cases_hold : all_right table ≡ true
unfolding all_right right table case_e sum_of closed_today left_open
the_cases_hold = refl
