use Rattle.std.proofs.Common.{arith}
use Rattle.book.specs.Accounts.{account_at}
use Rattle.book.proofs.Places.{member_within, position_within}
use Rattle.book.proofs.accounts.account_at.Goals as goal

pub member_at-member-requires : goal.member_at-member-requires
member_at-member-requires c =
    omega (arith, member_within c.args.h c.args.p.member c.requires.1.member, c.requires.0.enough)

pub position_at-position-requires : goal.position_at-position-requires
position_at-position-requires c =
    omega (arith, position_within c.args.h c.args.p.member c.args.p.contract c.requires.1.member c.requires.1.contract, c.requires.0.enough)

pub returns : goal.returns
unfolding account_at
returns c = cc
