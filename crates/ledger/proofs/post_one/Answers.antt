-- The account is one of a valid book; what its posting made of it is put back.
use Rattle.ledger.proofs.InRange.{shaped_by, account_by}
use Rattle.ledger.proofs.post_one.Goals as goal

pub account_at-a-requires : goal.account_at-a-requires
account_at-a-requires c = (shaped_by c.requires.0, c.requires.1)

pub lent-after-requires : goal.lent-after-requires
lent-after-requires c = record { account = rw c.account_at-a.ensures (account_by c.requires.0 c.requires.1); entry = c.args.n.entry_in }

pub put_account-requires : goal.put_account-requires
put_account-requires c = (shaped_by c.requires.0, c.requires.1)
