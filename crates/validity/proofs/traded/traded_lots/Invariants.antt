use Rattle.std.proofs.Common.{◌*◌, ◌≡◌, ℕ, ◌≤◌}
use Rattle.numbers.specs.Sum.{sum_to}
use Rattle.book.specs.Rows.{book_of}
use Rattle.validity.proofs.traded.traded_lots.Given as goal

-- each count is one of 32 bits
abbrev pub invariant-loop-j : goal.invariant-loop-j
invariant-loop-j l = (l.sum ≡ sum_to (λ (j : ℕ). ((book_of l.rows).position l.m j).traded.0) l.j) × (l.sum ≤ 4_294_967_295 * l.j)
