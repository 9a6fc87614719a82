-- 01, Evening settlement: the next book and the results, whole, as lists of bytes.
use Rattle.std.specs.Prelude.{ℕ, List, [], ◌∷◌, ◌++◌, pos}
use Rattle.folds.specs.Rows.{Field, field, row_bytes}
use Rattle.folds.specs.Laid.{bytes_to}
use Rattle.rules.specs.declared.units.Lots.{Lots}
use Rattle.rules.specs.declared.units.Sides.{Sides}
use Rattle.rules.specs.declared.units.Figures.{Figures}
use Rattle.rules.specs.Units.{fen, lots}
use Rattle.rules.specs.Members.{number_of}
use Rattle.rules.specs.Margin.{remaining_of}
use Rattle.book.specs.declared.contracts.Contract.{Contract}
use Rattle.book.specs.declared.members.Member.{Member}
use Rattle.book.specs.declared.positions.Side.{Side}
use Rattle.book.specs.declared.positions.Position.{Position}
use Rattle.book.specs.ContractRows.{contract_fields}
use Rattle.book.specs.Members.{money_field, member_fields}
use Rattle.book.specs.Positions.{held_sides, paired_of, position_fields}
use Rattle.book.specs.Books.{Book}
use Rattle.tonight.specs.Given.{Given}
use Rattle.book.specs.Whole.{head_bytes}
use Rattle.tonight.specs.Prices.{tonight_at}
use Rattle.tonight.specs.declared.nights.Night.{Night}
use Rattle.tonight.specs.Night.{night_of}

-- ---- the rows of the next book

-- tonight's price as last price, the rest carried
abbrev pub next_contract : Book → Given → ℕ → Contract
next_contract b given j = let c = b.contract j in record c { terms = record c.terms { last = tonight_at given.prices j } }

-- tonight's reserve, margin and usable; day fields zero; kind and securities carried
abbrev pub member_after : Member → Figures → Member
member_after r figures = record r { accepted = 0; figures = figures; day = record { deposits = fen (pos 0); withdrawals = fen (pos 0) } }

abbrev pub next_member : Book → Given → ℕ → Member
next_member b given m = member_after (b.member m) (night_of b given m).figures

-- remaining lots as opening; all else zero
abbrev pub opened : Lots → Side
opened n = record { opening = n; closed = lots 0; new = lots 0; paired = lots 0 }

abbrev pub position_of : Sides → Position
position_of sides = record { long = opened sides.long; short = opened sides.short; cash = fen (pos 0); traded = lots 0; zero = 0 }

abbrev pub position_after : Position → Position
position_after p = position_of (remaining_of (held_sides p) (paired_of p))

abbrev pub next_position : Book → ℕ → ℕ → Position
next_position b m j = position_after (b.position m j)

-- ---- the next book's bytes: head, table of contents, and the three sections

abbrev pub contract_bytes : Book → Given → ℕ → List ℕ
contract_bytes b given j = row_bytes (contract_fields (next_contract b given j))

abbrev pub member_bytes : Book → Given → ℕ → List ℕ
member_bytes b given m = row_bytes (member_fields (next_member b given m))

abbrev pub position_bytes : Book → ℕ → ℕ → List ℕ
position_bytes b m j = row_bytes (position_fields (next_position b m j))

-- a member's rows, contract by contract
abbrev pub positions_bytes : Book → ℕ → List ℕ
positions_bytes b m = bytes_to (position_bytes b m) b.head.contracts

unfoldable pub next_bytes : Book → Given → List ℕ
next_bytes b given =
    head_bytes b.head
    ++ (bytes_to (contract_bytes b given) b.head.contracts
    ++ (bytes_to (member_bytes b given) b.head.members ++ bytes_to (positions_bytes b) b.head.members))

-- ---- the results: the nine sheet fields in order, eight bytes each

abbrev pub result_size : ℕ
result_size = 72

-- the number and the standing are never negative, so that signed they are the same
abbrev pub result_sums : Night → List Field
result_sums t = field 0 8 t.member ∷ money_field 8 t.profit ∷ money_field 16 t.fee ∷ []

abbrev pub result_figures : Figures → List Field
result_figures f = money_field 24 f.margin ∷ money_field 32 f.usable ∷ money_field 40 f.reserve ∷ []

abbrev pub result_standing : Night → List Field
result_standing t = money_field 48 t.withdrawable ∷ money_field 56 t.call ∷ field 64 8 (number_of t.standing) ∷ []

abbrev pub result_fields : Night → List Field
result_fields t = result_sums t ++ (result_figures t.figures ++ result_standing t)

abbrev pub result_row : Book → Given → ℕ → List ℕ
result_row b given m = row_bytes (result_fields (night_of b given m))

unfoldable pub result_bytes : Book → Given → List ℕ
result_bytes b given = bytes_to (result_row b given) b.head.members
