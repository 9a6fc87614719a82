-- 01, The book: when bytes are a valid book, in named parts, in the document's order.
use Rattle.std.specs.Prelude.{ℕ, ◌*◌, ◌^◌, Bool, not, ◌&&◌, List, [], ◌∷◌, leb, eqb, ℤ, pos, nat_abs, length}
use Rattle.std.specs.Int.Signed.{le_z}
use Rattle.numbers.specs.Sum.{sum_to, total_to}
use Rattle.folds.specs.First.{◌gives◌, first_of}
use Rattle.folds.specs.Tests.{all_to, all_of, between}
use Rattle.rules.specs.declared.units.Fen.{Fen}
use Rattle.rules.specs.declared.units.Sides.{Sides}
use Rattle.book.specs.declared.heads.Head.{Head}
use Rattle.book.specs.declared.heads.Entry.{Entry}
use Rattle.book.specs.declared.contracts.Contract.{Contract}
use Rattle.book.specs.declared.members.Member.{Member}
use Rattle.book.specs.declared.positions.Side.{Side}
use Rattle.book.specs.declared.positions.Position.{Position}
use Rattle.book.specs.Layout.{head_size, most_members, most_contracts, book_length, longest_book}
use Rattle.book.specs.Heads.{head_at, total_of, entry_at, entry_off, contracts_entry, members_entry, positions_entry}
use Rattle.book.specs.Positions.{held_of, opening_of, held_sides, paired_of}
use Rattle.book.specs.Books.{Book, book_at}

-- ---- the head, the table of contents and the lengths

abbrev pub counts_ok : Head → Bool
counts_ok h = between 1 most_members h.members && between 1 most_contracts h.contracts

abbrev pub same_entry : Entry → Entry → Bool
same_entry e f = all_of (eqb e.section f.section ∷ eqb e.size f.size ∷ eqb e.start f.start ∷ [])

unfoldable pub contents_ok : Head → List ℕ → Bool
contents_ok h xs = all_of (
    same_entry (entry_at xs (entry_off 0)) contracts_entry
    ∷ same_entry (entry_at xs (entry_off 1)) (members_entry h)
    ∷ same_entry (entry_at xs (entry_off 2)) (positions_entry h)
    ∷ [])

-- in a buffer of exactly its total length
abbrev pub head_tests : List ℕ → List Bool
head_tests xs =
    leb head_size (length xs)
    ∷ counts_ok (head_at xs)
    ∷ eqb (total_of xs) (book_length (head_at xs))
    ∷ leb (total_of xs) longest_book
    ∷ eqb (length xs) (total_of xs)
    ∷ contents_ok (head_at xs) xs
    ∷ []

unfoldable pub head_ok : List ℕ → Bool
head_ok xs = all_of (head_tests xs)

-- ---- the ranges of a row's fields

-- 0..most fen
abbrev pub up_to : ℕ → Fen → Bool
up_to most amount = le_z (pos 0) amount.0 && le_z amount.0 (pos most)

-- −most..most fen
abbrev pub about_zero : ℕ → Fen → Bool
about_zero most amount = leb (nat_abs amount.0) most

-- section 1
abbrev pub contract_tests : Contract → List Bool
contract_tests c =
    between 1 10_000_000 c.terms.last.0
    ∷ between 1 100 c.terms.multiplier
    ∷ between 1 10_000 c.terms.rate
    ∷ leb c.terms.fee 100_000
    ∷ leb c.terms.delivery 100_000
    ∷ eqb c.zero 0
    ∷ []

-- section 2, but for the kind's number
abbrev pub member_tests : Member → List Bool
member_tests r =
    leb r.accepted 20_000
    ∷ about_zero (10 ^ 15) r.figures.reserve
    ∷ up_to (10 ^ 16) r.figures.margin
    ∷ up_to (10 ^ 15) r.figures.usable
    ∷ up_to (10 ^ 15) r.securities.market
    ∷ leb r.securities.discount 8_000
    ∷ up_to (10 ^ 12 * r.accepted) r.day.deposits
    ∷ up_to (10 ^ 12 * r.accepted) r.day.withdrawals
    ∷ []

-- section 3: closed old at most opening, held 0..100,000, paired at most held, opening at most 100,000
abbrev pub side_tests : Side → List Bool
side_tests s =
    leb s.closed.0 s.opening.0
    ∷ leb s.opening.0 100_000
    ∷ leb (held_of s) 100_000
    ∷ leb s.paired.0 (held_of s)
    ∷ []

abbrev pub position_tests : Position → List Bool
position_tests p =
    all_of (side_tests p.long)
    ∷ all_of (side_tests p.short)
    ∷ about_zero (10_000_000 * p.traded.0) p.cash
    ∷ eqb p.zero 0
    ∷ []

-- ---- every row of the book

unfoldable pub contract_rows : Book → Bool
contract_rows b = all_to (λ (j : ℕ). all_of (contract_tests (b.contract j))) b.head.contracts

abbrev pub member_row : Book → ℕ → Bool
member_row b m = between 1 2 (b.kind_number m) && all_of (member_tests (b.member m))

unfoldable pub member_rows : Book → Bool
member_rows b = all_to (member_row b) b.head.members

unfoldable pub position_row : Book → ℕ → Bool
position_row b m = all_to (λ (j : ℕ). all_of (position_tests (b.position m j))) b.head.contracts

unfoldable pub position_rows : Book → Bool
position_rows b = all_to (position_row b) b.head.members

abbrev pub rows_ok : Book → Bool
rows_ok b = all_of (contract_rows b ∷ member_rows b ∷ position_rows b ∷ [])

-- ---- a member's traded lots, over all contracts, against its accepted records

abbrev pub traded_of : Book → ℕ → ℕ
traded_of b m = sum_to (λ (j : ℕ). (b.position m j).traded.0) b.head.contracts

unfoldable pub traded_ok : Book → Bool
traded_ok b = all_to (λ (m : ℕ). leb (traded_of b m) (10_000 * (b.member m).accepted)) b.head.members

-- ---- each contract, over all members

-- of the first n members
abbrev pub longs_to : (Position → Sides) → Book → ℕ → ℕ → ℕ
longs_to count b j n = sum_to (λ (m : ℕ). (count (b.position m j)).long.0) n

abbrev pub shorts_to : (Position → Sides) → Book → ℕ → ℕ → ℕ
shorts_to count b j n = sum_to (λ (m : ℕ). (count (b.position m j)).short.0) n

abbrev pub cash_to : Book → ℕ → ℕ → ℤ
cash_to b j n = total_to (λ (m : ℕ). (b.position m j).cash.0) n

-- as many long as short
abbrev pub evenly : (Position → Sides) → Book → ℕ → Bool
evenly count b j = eqb (longs_to count b j b.head.members) (shorts_to count b j b.head.members)

-- opening, held and paired longs equal shorts, and cash sums total zero
abbrev pub balance_tests : Book → ℕ → List Bool
balance_tests b j =
    evenly opening_of b j
    ∷ evenly held_sides b j
    ∷ evenly paired_of b j
    ∷ eqb (nat_abs (cash_to b j b.head.members)) 0
    ∷ []

unfoldable pub balanced : Book → Bool
balanced b = all_to (λ (j : ℕ). all_of (balance_tests b j)) b.head.contracts

-- ---- a valid book

unfoldable pub valid_rows : Book → Bool
valid_rows b = all_of (rows_ok b ∷ traded_ok b ∷ balanced b ∷ [])

unfoldable pub valid_book : List ℕ → Bool
valid_book xs = head_ok xs && valid_rows (book_at xs)

-- Refusal numbers: 10, book not valid
abbrev pub check_answer : List ℕ → ℕ
check_answer book = first_of ((not (valid_book book) gives 10) ∷ [])
