use Rattle.std.proofs.Common.{arith}
use Rattle.std.proofs.lemmas.Bool.Decides.{nat_tests}
use Rattle.intake.specs.Intake.{book_total}
use Rattle.intake.proofs.parts.book_total.Goals as goal

pub returns-then-bytes-lt-HEAD-clause-value : goal.returns-then-bytes-lt-HEAD-clause-value
unfolding book_total
returns-then-bytes-lt-HEAD-clause-value c = grind (arith, nat_tests)

pub returns-then-total-lt-HEAD-clause-value : goal.returns-then-total-lt-HEAD-clause-value
unfolding book_total
returns-then-total-lt-HEAD-clause-value c = grind (arith, nat_tests)

pub returns-then-total-gt-LONGEST_BOOK-clause-value : goal.returns-then-total-gt-LONGEST_BOOK-clause-value
unfolding book_total
returns-then-total-gt-LONGEST_BOOK-clause-value c = grind (arith, nat_tests)

pub returns-clause-value : goal.returns-clause-value
unfolding book_total
returns-clause-value c = grind (arith, nat_tests)
