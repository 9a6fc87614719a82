-- 01, Day records: the account that is lent, after the posting that altered it.
use Rattle.folds.specs.First.{on_zero}
use Rattle.book.specs.declared.accounts.Account.{Account}
use Rattle.posting.specs.declared.accounts.Entry.{Entry}
use Rattle.posting.specs.Entries.{entry_answer, entered}
pub use Rattle.lending.specs.declared.Posted.{Posted}

-- the account after the entry; as it stood, where a rule refuses
abbrev pub account_after : Entry → Account → Account
account_after e a = on_zero (entry_answer e a) (entered e a) a

-- 01's number, and the account as it stands then
abbrev pub posted_of : Account → Entry → Posted
posted_of a e = record { answer = entry_answer e a; account = account_after e a }
