-- 000, articles 22, 35 to 37 and 57: a member's money, and what of it may go out.
use Rattle.std.specs.Prelude.{pos, ◌+ℤ◌, ◌-ℤ◌}
use Rattle.std.specs.Int.Signed.{quot_z}
use Rattle.numbers.specs.Choice.{larger_of}
use Rattle.rules.specs.Units.{Fen, fen, Figures}
use Rattle.rules.specs.Members.{MemberKind, minimum_of}

-- reserve + margin − usable: 000, articles 22 and 57
abbrev pub money_of : Figures → Fen
money_of figures = fen (figures.reserve.0 +ℤ figures.margin.0 -ℤ figures.usable.0)

-- a quarter of usable: 000, article 37; rounded up (house)
abbrev pub quarter_of : Fen → Fen
quarter_of usable = fen (quot_z (usable.0 +ℤ pos 3) (pos 4))

-- money − the larger of (margin − usable) and a quarter of usable − minimum: 000, article 37, with securities covering margin first (house)
abbrev pub room_of : MemberKind → Figures → Fen
room_of kind figures =
    fen ((money_of figures).0 -ℤ larger_of (figures.margin.0 -ℤ figures.usable.0) (quarter_of figures.usable).0 -ℤ (minimum_of kind).0)

-- room left in the day, room + deposits − withdrawals: 000, articles 35 to 37; usable changes only at settlement (house)
abbrev pub room_left_of : MemberKind → Figures → (deposits withdrawals : Fen) → Fen
room_left_of kind figures deposits withdrawals = fen ((room_of kind figures).0 +ℤ deposits.0 -ℤ withdrawals.0)

-- room by tonight's figures, at least 0: 000, article 37
abbrev pub withdrawable_of : MemberKind → Figures → Fen
withdrawable_of kind figures = fen (larger_of (pos 0) (room_of kind figures).0)
