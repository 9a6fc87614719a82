-- Another length refuses the prices; else contract by contract.
use Rattle.std.proofs.Common.{◌*◌, length, rules, tests, eq-eqb}
use borrow.Author.Tests.{ne_eqb}
use Rattle.folds.proofs.Ranges.{all_in_range}
use Rattle.book.specs.Rows.{book_of}
use Rattle.tonight.specs.Prices.{pair_size, pair_ok, prices_ok}
use Rattle.tonight.proofs.prices.prices_ok.Goals as goal

pub returns-then-prices-k : goal.returns-then-prices-k
unfolding prices_ok
returns-then-prices-k c =
    let b = book_of c.args.rows.now in
    let ps = c.args.prices.now in
    let pairs = all_in_range (pair_ok b ps) b.head.contracts _ _ c.all.result c.all.ensures.ran (λ x t q k. search (rules, tests)) in
    rw (eq-eqb (length ps) (b.head.contracts * pair_size) c.if-prices-k.true) pairs

pub returns-else-prices-k : goal.returns-else-prices-k
unfolding prices_ok
returns-else-prices-k c = rw (ne_eqb (length c.args.prices.now) (c.args.rows.now.head.contracts * pair_size) c.if-prices-k.false)
