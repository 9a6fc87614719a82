use Rattle.std.proofs.Common.{ℕ, ◌+◌, sym, ◌∙◌, arith}
use mathlib.Core.Path.{ap₂}
use Rattle.numbers.proofs.Sums.{sum_none, sum_next}
use Rattle.book.specs.Rows.{book_of}
use Rattle.validity.proofs.traded.traded_lots.Goals as goal

pub loop-j-init : goal.loop-j-init
loop-j-init c = (sym (sum_none _), omega arith)

pub loop-j-preserved : goal.loop-j-preserved
loop-j-preserved c = (
  ap₂ (λ (x y : ℕ). x + y) c.loop-j.invariant.0 (c.from-sum.ensures ∙ (λ i. (c.position.ensures i).traded.0)) ∙ sym (sum_next (λ (j : ℕ). ((book_of c.args.rows.now).position c.args.m j).traded.0) c.loop-j.j),
  omega arith,
)
