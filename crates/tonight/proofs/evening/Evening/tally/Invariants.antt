use Rattle.std.proofs.Common.{◌≡◌}
use Rattle.book.specs.Rows.{book_of}
use Rattle.tonight.specs.GivenOf.{given_of}
use Rattle.tonight.specs.Night.{tally_to}
use Rattle.tonight.proofs.evening.Evening.tally.Given as goal

abbrev pub invariant-loop-j : goal.invariant-loop-j
invariant-loop-j l = l.t ≡ tally_to (book_of l.self.rows) (given_of l.self) l.m l.j
