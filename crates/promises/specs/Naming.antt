-- 01, Day records: whom a record names in a book, and in which contract; and when two records name a common member.
use Rattle.std.specs.Prelude.{ℕ}
use mathlib.Core.List.{List, Memᴰ}
use Rattle.book.specs.Heads.{head_at}
use Rattle.requests.specs.Records.{request_of, names_of, contract_of}

-- nobody, where it is refused 1
abbrev pub named : (book r : List ℕ) → List ℕ
named book r = names_of (request_of (head_at book) r)

abbrev pub contract_named : (book r : List ℕ) → ℕ
contract_named book r = contract_of (request_of (head_at book) r)

-- some member is named by both
abbrev pub Common : (book r r' : List ℕ) → Type 0
Common book r r' = (m : ℕ) × Memᴰ m (named book r) × Memᴰ m (named book r')
