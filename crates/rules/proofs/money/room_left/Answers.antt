-- The machine's sum is exact, since it fits.
use mathlib.Core.Path.{◌≡◌, ◌∙◌, ap}
use Rattle.numbers.specs.Computation.{Exp, int, ◌⊞◌, ◌⊟◌}
use Rattle.numbers.proofs.Ranges.{in_eq}
use Rattle.numbers.proofs.Computations.{fits, reads}
use Rattle.rules.specs.Units.{Fen, fen, Figures}
use Rattle.rules.specs.Members.{MemberKind}
use Rattle.rules.specs.Money.{room_of}
use Rattle.rules.specs.Ranges.{RoomLeftIn}
use Rattle.rules.proofs.Bounds.{fen_is, room_in}
use Rattle.rules.proofs.money.room_left.Goals as goal

module _ (kind : MemberKind) {figures : Figures} {deposits withdrawals room : Fen} (h : RoomLeftIn figures deposits withdrawals) (e : room ≡ room_of kind figures) where
  abbrev more : Exp
  more = int (in_eq (fen_is e) (room_in kind figures h.figures_in)) ⊞ int h.deposits_in

  abbrev left : Exp
  left = more ⊟ int h.withdrawals_in

pub overflow_add-result : goal.overflow_add-result
overflow_add-result c = fits (more c.args.kind c.requires c.room.ensures) tt

pub overflow_sub-result : goal.overflow_sub-result
overflow_sub-result c = fits (left c.args.kind c.requires c.room.ensures) tt

pub returns : goal.returns
returns c = ap fen (reads (left c.args.kind c.requires c.room.ensures) tt ∙ cc)
