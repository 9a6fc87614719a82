-- 01, Day records: an account, what one member is to one record: its row and its row in the record's contract.
use Rattle.std.specs.Prelude.{ℕ, ◌≤◌, ◌<◌, List, ◌≢◌, length}
use Rattle.book.specs.Layout.{most_members, most_contracts, member_off, position_off, book_length}
use Rattle.book.specs.Heads.{Head}
use Rattle.book.specs.Members.{member_at, put_member}
use Rattle.book.specs.Positions.{position_at, put_position}
pub use Rattle.book.specs.declared.accounts.Place.{Place}
pub use Rattle.book.specs.declared.accounts.Account.{Account}

abbrev pub place : ℕ → ℕ → Place
place m j = record { member = m; contract = j }

unfoldable pub account_at : Head → List ℕ → Place → Account
account_at h xs p = record { member = member_at xs (member_off h p.member); position = position_at xs (position_off h p.member p.contract) }

-- xs with the account a back at its place
unfoldable pub put_account : Head → List ℕ → Place → Account → List ℕ
put_account h xs p a = put_position (put_member xs (member_off h p.member) a.member) (position_off h p.member p.contract) a.position

-- a book of the head h has room in xs
pub record Shaped (xs : List ℕ) (h : Head) : Type 0 where
  pub members : h.members ≤ most_members
  pub contracts : h.contracts ≤ most_contracts
  pub enough : book_length h ≤ length xs

-- the place lies in a book of the head h
pub record Within (h : Head) (p : Place) : Type 0 where
  pub member : p.member < h.members
  pub contract : p.contract < h.contracts

-- two places of different members
pub record Far (h : Head) (p q : Place) : Type 0 where
  pub one : Within h p
  pub other : Within h q
  pub differ : p.member ≢ q.member
