-- 01, Day records: what a posting sees of a place, and what it counts.
use Rattle.std.specs.Prelude.{ℕ, ℤ, List}
use Rattle.order.specs.Lens.{Lens}
use Rattle.book.specs.declared.heads.Head.{Head}
use Rattle.book.specs.declared.accounts.Place.{Place}
use Rattle.book.specs.declared.accounts.Account.{Account}
use Rattle.book.specs.Heads.{head_at}
use Rattle.book.specs.Accounts.{account_at, put_account}

-- The account that stands there, which is put back. A number worked out from the member's other rows, or from the contract's terms, would stand beside it: seen, and never put back.
pub record View : Type 0 where
  pub account : Account

abbrev pub view_at : Head → List ℕ → Place → View
view_at h xs p = record { account = account_at h xs p }

-- lots that a contract's count moves by
pub record Count : Type 0 where
  pub contract : ℕ
  pub lots : ℤ

-- the book as a posting meets it; it keeps no counts yet
abbrev pub sights : Lens Head (List ℕ) Place View Account Count
sights = record { head = head_at; see = view_at; put = put_account; add = λ h xs c. xs }
