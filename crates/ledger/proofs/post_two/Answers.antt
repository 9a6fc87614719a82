-- The accounts are two of a valid book; what their postings made of them is put back.
use Rattle.std.proofs.Common.{length, ap, ◌∙◌}
use Rattle.book.proofs.LensLaws.{length_account}
use Rattle.ledger.proofs.InRange.{shaped_by, account_by}
use Rattle.ledger.proofs.post_two.Goals as goal

pub account_at-a-requires : goal.account_at-a-requires
account_at-a-requires c = (shaped_by c.requires.0, c.requires.1)

pub account_at-b-requires : goal.account_at-b-requires
account_at-b-requires c = (shaped_by c.requires.0, c.requires.2)

pub lent-one-requires : goal.lent-one-requires
lent-one-requires c = record { account = rw c.account_at-a.ensures (account_by c.requires.0 c.requires.1); entry = c.args.first.entry_in }

pub lent-other-requires : goal.lent-other-requires
lent-other-requires c = record { account = search (c.account_at-a.ensures, c.account_at-b.ensures, account_by); entry = c.args.second.entry_in }

pub put_account-requires : goal.put_account-requires
put_account-requires c = (shaped_by c.requires.0, c.requires.1)

pub put_account-requires-2 : goal.put_account-requires-2
put_account-requires-2 c =
    let shaped = shaped_by c.requires.0 in
    (record { members = shaped.members; contracts = shaped.contracts; enough = rw (ap length c.put_account.ensures ∙ length_account c.args.h c.args.s.now c.args.first.place _) shaped.enough }, c.requires.2)
