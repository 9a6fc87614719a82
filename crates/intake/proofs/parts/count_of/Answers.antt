use Rattle.std.proofs.Common.{arith}
use Rattle.std.proofs.lemmas.Bool.Decides.{nat_tests}
use Rattle.intake.specs.Intake.{count_of}
use Rattle.intake.proofs.parts.count_of.Goals as goal

pub returns-then-bytes-lt-COUNT : goal.returns-then-bytes-lt-COUNT
unfolding count_of
returns-then-bytes-lt-COUNT c = grind (arith, nat_tests)

pub returns : goal.returns
unfolding count_of
returns c = grind (arith, nat_tests)
