-- The head's and the next book's parts, laid down one after the other, are the whole; and how long each is.
use mathlib.Core.Path.{◌≡◌, ap, ◌∙◌}
use mathlib.Core.List.{List}
use Prim.Native.Nat.{ℕ, ◌+◌, ◌*◌}
use native.Mathlib.Omega.{arith}
use lib.ListN.{length}
use lib.Seq.{sets}
use Rattle.folds.specs.Rows.{row_bytes}
use Rattle.folds.specs.Laid.{bytes_to}
use Rattle.folds.proofs.Rows.{length_row}
use Rattle.folds.proofs.Laid.{length_to, four, length_four}
use Rattle.book.specs.declared.heads.Head.{Head}
use Rattle.book.specs.Layout.{head_size, contract_size, member_size, position_size, contracts_start, members_start, positions_start, book_length}
use Rattle.book.specs.Heads.{entry_off, head_fields, entry_fields, contracts_entry, members_entry, positions_entry}
use Rattle.book.specs.Books.{Book}
use Rattle.tonight.specs.Given.{Given}
use Rattle.book.specs.Whole.{head_bytes}
use Rattle.settlement.specs.Next.{contract_bytes, member_bytes, positions_bytes, next_bytes, result_size, result_row, result_bytes}
use Rattle.settlement.proofs.Sizes.{contract_size_lem, member_size_lem, positions_size, result_size_lem}

-- ---- the head

module _ (h : Head) where
  abbrev counts : List ℕ
  counts = row_bytes (head_fields h)

  abbrev first : List ℕ
  first = row_bytes (entry_fields contracts_entry)

  abbrev second : List ℕ
  second = row_bytes (entry_fields (members_entry h))

  abbrev third : List ℕ
  third = row_bytes (entry_fields (positions_entry h))

  pub head_parts : (l : List ℕ) → sets (sets (sets (sets l 0 counts) (entry_off 0) first) (entry_off 1) second) (entry_off 2) third ≡ sets l 0 (head_bytes h)
  unfolding head_bytes
  head_parts l =
      four l counts first second third (entry_off 0) (entry_off 1) (entry_off 2) (length_row (head_fields h))
      (omega (arith, length_row (entry_fields contracts_entry))) (omega (arith, length_row (entry_fields (members_entry h))))

  pub head_size_lem : length (head_bytes h) ≡ head_size
  unfolding head_bytes
  head_size_lem =
      length_four counts first second third
      ∙ omega (arith, length_row (head_fields h), length_row (entry_fields contracts_entry), length_row (entry_fields (members_entry h)), length_row (entry_fields (positions_entry h)))

-- ---- the next book and the results

module _ (b : Book) (given : Given) where
  abbrev contracts : List ℕ
  contracts = bytes_to (contract_bytes b given) b.head.contracts

  abbrev members : List ℕ
  members = bytes_to (member_bytes b given) b.head.members

  abbrev positions : List ℕ
  positions = bytes_to (positions_bytes b) b.head.members

  contracts_length : length contracts ≡ b.head.contracts * contract_size
  contracts_length = length_to contract_size (contract_bytes b given) (contract_size_lem b given) b.head.contracts

  members_length : length members ≡ b.head.members * member_size
  members_length = length_to member_size (member_bytes b given) (member_size_lem b given) b.head.members

  positions_length : length positions ≡ b.head.members * (b.head.contracts * position_size)
  positions_length = length_to (b.head.contracts * position_size) (positions_bytes b) (positions_size b) b.head.members

  pub next_parts : (l : List ℕ)
      → sets (sets (sets (sets l 0 (head_bytes b.head)) contracts_start contracts) (members_start b.head) members) (positions_start b.head) positions
      ≡ sets l 0 (next_bytes b given)
  unfolding next_bytes
  next_parts l =
      four l (head_bytes b.head) contracts members positions contracts_start (members_start b.head) (positions_start b.head) (head_size_lem b.head)
      (ap (λ (x : ℕ). contracts_start + x) contracts_length) (ap (λ (x : ℕ). members_start b.head + x) members_length)

  pub next_length : length (next_bytes b given) ≡ book_length b.head
  unfolding next_bytes book_length
  next_length =
      omega (arith, length_four (head_bytes b.head) contracts members positions, head_size_lem b.head, contracts_length, members_length, positions_length)

  pub results_length : length (result_bytes b given) ≡ b.head.members * result_size
  unfolding result_bytes
  results_length = length_to result_size (result_row b given) (result_size_lem b given) b.head.members
