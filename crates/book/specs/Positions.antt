-- 01, The book: section 3, a row for each member and contract.
use Rattle.std.specs.Prelude.{ℕ, ◌+◌, ◌-◌, List, [], ◌∷◌, ◌++◌}
use Rattle.std.proofs.lemmas.List.Edits.{sets}
use Rattle.std.specs.Int.{w64}
use Rattle.std.proofs.Common.{of_z}
use Rattle.wire.specs.LittleEndian.{number_at, signed_at}
use Rattle.folds.specs.Rows.{Field, field, row_bytes}
use Rattle.rules.specs.declared.units.Lots.{Lots}
use Rattle.rules.specs.declared.units.Fen.{Fen}
use Rattle.rules.specs.declared.units.Sides.{Sides}
use Rattle.rules.specs.Units.{lots, fen}
use Rattle.book.specs.Layout.{long_at, short_at, opening_at, closed_at, new_at, paired_at, cash_at, traded_at, position_zero_at}
pub use Rattle.book.specs.declared.positions.Side.{Side}
pub use Rattle.book.specs.declared.positions.Position.{Position}

-- the counts of one side, the first of them at off
unfoldable pub side_at : List ℕ → ℕ → Side
side_at xs off = record {
  opening = lots (number_at xs (off + opening_at) 4);
  closed = lots (number_at xs (off + closed_at) 4);
  new = lots (number_at xs (off + new_at) 4);
  paired = lots (number_at xs (off + paired_at) 4);
}

-- the row at off
unfoldable pub position_at : List ℕ → ℕ → Position
position_at xs off = record {
  long = side_at xs (off + long_at);
  short = side_at xs (off + short_at);
  cash = fen (signed_at xs (off + cash_at));
  traded = lots (number_at xs (off + traded_at) 4);
  zero = number_at xs (off + position_zero_at) 4;
}

-- held = opening − closed old + new
abbrev pub held_of : Side → ℕ
held_of s = s.opening.0 - s.closed.0 + s.new.0

-- long and short of one count
abbrev pub opening_of : Position → Sides
opening_of p = record { long = p.long.opening; short = p.short.opening }

abbrev pub held_sides : Position → Sides
held_sides p = record { long = lots (held_of p.long); short = lots (held_of p.short) }

abbrev pub paired_of : Position → Sides
paired_of p = record { long = p.long.paired; short = p.short.paired }

abbrev pub lots_fields : (long short : Side) → List Field
lots_fields long short =
    field (opening_at + long_at) 4 long.opening.0
    ∷ field (opening_at + short_at) 4 short.opening.0
    ∷ field (closed_at + long_at) 4 long.closed.0
    ∷ field (closed_at + short_at) 4 short.closed.0
    ∷ field (new_at + long_at) 4 long.new.0
    ∷ field (new_at + short_at) 4 short.new.0
    ∷ field (paired_at + long_at) 4 long.paired.0
    ∷ field (paired_at + short_at) 4 short.paired.0
    ∷ []

abbrev pub dealt_fields : (cash : Fen) (traded : Lots) (blank : ℕ) → List Field
dealt_fields cash traded blank = field cash_at 8 (of_z w64 cash.0) ∷ field traded_at 4 traded.0 ∷ field position_zero_at 4 blank ∷ []

abbrev pub position_fields : Position → List Field
position_fields p = lots_fields p.long p.short ++ dealt_fields p.cash p.traded p.zero

-- xs with the row p at off
unfoldable pub put_position : List ℕ → ℕ → Position → List ℕ
put_position xs off p = sets xs off (row_bytes (position_fields p))
