-- 01, Examples on both sides: a row of the table, what the rules give and the figure that the document gives.
use Rattle.std.specs.Prelude.{Bool, true, false, not, ◌&&◌, List, [], ◌∷◌, ℕ, eqb, ℤ, pos, negsuc, neg_ℤ}
use Rattle.std.specs.Int.Signed.{le_z}
use Rattle.rules.specs.declared.units.Fen.{Fen}
use Rattle.rules.specs.declared.units.Lots.{Lots}
use Rattle.rules.specs.declared.units.Prices.{Prices}
use Rattle.rules.specs.declared.units.Sides.{Sides}
use Rattle.rules.specs.declared.members.Standing.{Standing}
use Rattle.rules.specs.Units.{fen, lots, price}
use Rattle.rules.specs.Members.{number_of}

infix 3 ◌is◌ ◌counts◌ ◌stands_at◌ ◌granted_from◌ ◌refused_from◌
pub data Case : Type 0 where
  ◌is◌ : Fen → ℤ → Case
  ◌counts◌ : Lots → ℕ → Case
  ◌stands_at◌ : Standing → ℕ → Case
  ◌granted_from◌ ◌refused_from◌ : (withdrawal room_left : Fen) → Case

unfoldable same : ℤ → ℤ → Bool
same (pos a) (pos b) = eqb a b
same (pos a) (negsuc b) = false
same (negsuc a) (pos b) = false
same (negsuc a) (negsuc b) = eqb a b

-- a withdrawal is refused above the room left
unfoldable pub right : Case → Bool
unfolding same
right (amount is figure) = same amount.0 figure
right (count counts figure) = eqb count.0 figure
right (standing stands_at figure) = eqb (number_of standing) figure
right (withdrawal granted_from room) = le_z withdrawal.0 room.0
right (withdrawal refused_from room) = not (le_z withdrawal.0 room.0)

unfoldable pub all_right : List Case → Bool
all_right [] = true
all_right (row ∷ rows) = right row && all_right rows

-- ---- how a row writes its numbers
abbrev pub minus : ℕ → ℤ
minus n = neg_ℤ (pos n)

abbrev pub amount : ℕ → Fen
amount n = fen (pos n)

abbrev pub sides : (long short : ℕ) → Sides
sides long short = record { long = lots long; short = lots short }

abbrev pub prices : (last tonight delivery : ℕ) → Prices
prices last tonight delivery = record { last = price last; tonight = price tonight; delivery = price delivery }
