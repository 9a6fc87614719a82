-- 01, The book: what the bytes say, its rows as functions of the place. What stands beyond the head's counts is never asked for.
use Rattle.std.specs.Prelude.{ℕ, List}
use Rattle.book.specs.Layout.{contract_off, member_off, position_off}
use Rattle.book.specs.Heads.{Head, head_at}
use Rattle.book.specs.ContractRows.{Contract, contract_at}
use Rattle.book.specs.Members.{Member, member_at, kind_number_at}
use Rattle.book.specs.Positions.{Position, position_at}

pub record Book : Type 0 where
  pub head : Head
  pub contract : ℕ → Contract
  pub kind_number : ℕ → ℕ
  pub member : ℕ → Member
  pub position : ℕ → ℕ → Position

-- by the head h
abbrev pub book_by : Head → List ℕ → Book
book_by h xs = record {
  head = h;
  contract = λ j. contract_at xs (contract_off j);
  kind_number = λ m. kind_number_at xs (member_off h m);
  member = λ m. member_at xs (member_off h m);
  position = λ m j. position_at xs (position_off h m j);
}

abbrev pub book_at : List ℕ → Book
book_at xs = book_by (head_at xs) xs
