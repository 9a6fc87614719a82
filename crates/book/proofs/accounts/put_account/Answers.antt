use Rattle.std.proofs.Common.{arith, length, ap, ◌∙◌}
use Rattle.book.specs.Accounts.{put_account}
use Rattle.book.proofs.Places.{member_within, position_within}
use Rattle.book.proofs.Rows.{length_member}
use Rattle.book.proofs.accounts.put_account.Goals as goal

pub put_member-requires : goal.put_member-requires
put_member-requires c =
    omega (arith, member_within c.args.h c.args.p.member c.requires.1.member, c.requires.0.enough)

pub put_position-requires : goal.put_position-requires
put_position-requires c =
    let l = ap length c.put_member.ensures ∙ length_member c.args.s.now c.member_off.result c.args.a.member in
    omega (arith, l, position_within c.args.h c.args.p.member c.args.p.contract c.requires.1.member c.requires.1.contract, c.requires.0.enough)

pub returns : goal.returns
unfolding put_account
returns c = cc
