use Rattle.std.proofs.Common.{rules, tests}
use Rattle.folds.proofs.Ranges.{all_in_range}
use Rattle.book.specs.Rows.{book_of}
use Rattle.tonight.specs.Prices.{unpaired, none_paired}
use Rattle.tonight.proofs.prices.none_paired.Goals as goal

pub returns : goal.returns
unfolding none_paired
returns c =
    let b = book_of c.args.rows.now in
    all_in_range (λ m. unpaired (b.position m c.args.j)) b.head.members _ _ c.all.result c.all.ensures.ran (λ x t q k. search (rules, tests))
