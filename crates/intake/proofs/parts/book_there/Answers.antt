use Rattle.std.proofs.Common.{arith}
use Rattle.std.proofs.lemmas.Bool.Decides.{nat_tests}
use Rattle.intake.specs.Intake.{book_there}
use Rattle.intake.proofs.parts.book_there.Goals as goal

pub returns-then-bytes-total-clause-value : goal.returns-then-bytes-total-clause-value
unfolding book_there
returns-then-bytes-total-clause-value c = grind (arith, nat_tests)

pub returns-clause-value : goal.returns-clause-value
unfolding book_there
returns-clause-value c = grind (arith, nat_tests)
