use Rattle.std.proofs.Common.{sym, ◌∙◌}
use Rattle.book.specs.Rows.{book_of}
use Rattle.tonight.proofs.Facts.{priced}
use Rattle.tonight.proofs.evening.Evening.priced.Goals as goal

pub invariant_of-result : goal.invariant_of-result
invariant_of-result c =
    record { ranged = c.args.book.ranged; priced = priced (book_of c.args.book.rows) c.args.prices.now (sym c.prices_ok.ensures ∙ c.if-prices_ok.true) }
