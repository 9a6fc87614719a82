-- The money of an opening is exact by its range, and the minimum by its own.
use Rattle.numbers.specs.Computation.{int, ◌⊞◌, ◌⊟◌}
use Rattle.numbers.proofs.Ranges.{in_eq}
use Rattle.numbers.proofs.Computations.{reads}
use Rattle.rules.proofs.Bounds.{fen_is, minimum_in}
use Rattle.posting.proofs.postings.ValidAccount.barred.Goals as goal

pub returns-in-Opens : goal.returns-in-Opens
returns-in-Opens c =
    let money = reads (int c.args.self.range.figures.reserve_in ⊞ int c.args.self.range.deposits ⊟ int c.args.self.range.withdrawals) tt in
    let asked = fen_is c.minimum-minimum.ensures in
    let minimum = reads (int (in_eq asked (minimum_in c.args.self.account.member.kind))) tt in
    rw c.in-Opens.is cc
