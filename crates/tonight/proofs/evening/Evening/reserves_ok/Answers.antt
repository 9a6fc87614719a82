use Rattle.std.proofs.Common.{◌^◌, rules, tests}
use Rattle.folds.proofs.Ranges.{all_in_range}
use Rattle.book.specs.Rows.{book_of}
use Rattle.validity.specs.Valid.{about_zero}
use Rattle.tonight.specs.GivenOf.{given_of}
use Rattle.tonight.specs.Night.{night_of, reserves_ok}
use Rattle.tonight.proofs.evening.Evening.reserves_ok.Goals as goal

pub returns : goal.returns
unfolding reserves_ok
returns c =
    let e = c.args.self.now in
    let b = book_of e.rows in
    all_in_range (λ m. about_zero (10 ^ 15) (night_of b (given_of e) m).figures.reserve) b.head.members _ _ c.all.result c.all.ensures.ran (λ x t q k. search (rules, tests))
