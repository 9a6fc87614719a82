use Rattle.std.proofs.Common.{◌≡◌}
use Rattle.book.specs.Rows.{book_of}
use Rattle.validity.specs.Totals.{totals_to}
use Rattle.validity.proofs.balances.contract_totals.Given as goal

abbrev pub invariant-loop-m : goal.invariant-loop-m
invariant-loop-m l = l.t ≡ totals_to (book_of l.book.rows) l.j l.m
