use Rattle.std.proofs.Common.{◌≡◌}
use Rattle.std.proofs.lemmas.List.Edits.{sets}
use Rattle.folds.specs.Laid.{bytes_to}
use Rattle.book.specs.Rows.{book_of}
use Rattle.tonight.specs.GivenOf.{given_of}
use Rattle.settlement.specs.Next.{result_row}
use Rattle.settlement.proofs.results.put_results.Given as goal

abbrev pub invariant-loop-m : goal.invariant-loop-m
invariant-loop-m l = l.results ≡ sets l.initial.results 0 (bytes_to (result_row (book_of l.evening.rows) (given_of l.evening)) l.m)
