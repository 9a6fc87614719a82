-- 01, The book: section 2, a row for each member.
use Rattle.std.specs.Prelude.{ℕ, ◌+◌, cond, List, [], ◌∷◌, ◌++◌, eqb}
use Rattle.std.proofs.lemmas.List.Edits.{sets}
use Rattle.std.specs.Int.{w64}
use Rattle.std.proofs.Common.{of_z}
use Rattle.wire.specs.LittleEndian.{number_at, signed_at}
use Rattle.folds.specs.Rows.{Field, field, row_bytes}
use Rattle.rules.specs.declared.units.Fen.{Fen}
use Rattle.rules.specs.declared.units.Figures.{Figures}
use Rattle.rules.specs.Units.{fen}
use Rattle.rules.specs.declared.members.MemberKind.{MemberKind}
use Rattle.rules.specs.declared.members.MemberKind.TheVariants.{Broker, Other}
pub use Rattle.rules.specs.Members.{kind_number}
use Rattle.book.specs.Layout.{kind_at, accepted_at, reserve_at, margin_at, usable_at, market_at, discount_at, deposits_at, withdrawals_at}
pub use Rattle.book.specs.declared.members.Securities.{Securities}
pub use Rattle.book.specs.declared.members.Day.{Day}
pub use Rattle.book.specs.declared.members.Member.{Member}

-- 1 broker, 2 other
abbrev pub kind_of : ℕ → MemberKind
kind_of n = cond (eqb n 1) Broker Other

abbrev pub kind_number_at : List ℕ → ℕ → ℕ
kind_number_at xs off = number_at xs (off + kind_at) 4

-- the parts of the row at off, and the row
unfoldable pub figures_at : List ℕ → ℕ → Figures
figures_at xs off = record { reserve = fen (signed_at xs (off + reserve_at)); margin = fen (signed_at xs (off + margin_at)); usable = fen (signed_at xs (off + usable_at)) }

unfoldable pub securities_at : List ℕ → ℕ → Securities
securities_at xs off = record { market = fen (signed_at xs (off + market_at)); discount = number_at xs (off + discount_at) 8 }

unfoldable pub day_at : List ℕ → ℕ → Day
day_at xs off = record { deposits = fen (signed_at xs (off + deposits_at)); withdrawals = fen (signed_at xs (off + withdrawals_at)) }

unfoldable pub member_at : List ℕ → ℕ → Member
member_at xs off = record {
  kind = kind_of (kind_number_at xs off);
  accepted = number_at xs (off + accepted_at) 4;
  figures = figures_at xs off;
  securities = securities_at xs off;
  day = day_at xs off;
}

-- eight bytes, signed
abbrev pub money_field : ℕ → Fen → Field
money_field at amount = field at 8 (of_z w64 amount.0)

abbrev pub figures_fields : Figures → List Field
figures_fields f = money_field reserve_at f.reserve ∷ money_field margin_at f.margin ∷ money_field usable_at f.usable ∷ []

abbrev pub securities_fields : Securities → List Field
securities_fields s = money_field market_at s.market ∷ field discount_at 8 s.discount ∷ []

abbrev pub day_fields : Day → List Field
day_fields d = money_field deposits_at d.deposits ∷ money_field withdrawals_at d.withdrawals ∷ []

abbrev pub member_fields : Member → List Field
member_fields r =
    field kind_at 4 (kind_number r.kind)
    ∷ field accepted_at 4 r.accepted
    ∷ (figures_fields r.figures ++ (securities_fields r.securities ++ day_fields r.day))

-- xs with the row r at off
unfoldable pub put_member : List ℕ → ℕ → Member → List ℕ
put_member xs off r = sets xs off (row_bytes (member_fields r))
