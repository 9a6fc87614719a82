-- Each part is exact: money and minimum by their promises, what is kept by the two amounts that it is the larger of.
use mathlib.Core.Path.{◌≡◌, ◌∙◌, ap, ap₂}
use lib.Dec.{lit≤}
use lib.IntN.{ℤ}
use Rattle.std.specs.Int.{w64, int_max}
use Rattle.std.proofs.Common.{to_z}
use Rattle.numbers.specs.Choice.{larger_of}
use Rattle.numbers.specs.Computation.{Exp, int, lit, ◌⊞◌, ◌⊟◌, ◌⊘◌, num, bits}
use Rattle.numbers.proofs.Ranges.{in_eq, in_weaken}
use Rattle.numbers.proofs.Choices.{in_larger, max_is_larger}
use Rattle.numbers.proofs.Computations.{fits, reads, sized}
use Rattle.rules.specs.Units.{Fen, fen, Figures}
use Rattle.rules.specs.Members.{MemberKind, minimum_of}
use Rattle.rules.specs.Money.{money_of}
use Rattle.rules.specs.Ranges.{FiguresIn}
use Rattle.rules.proofs.Bounds.{fen_is, minimum_in, money_in}
use Rattle.rules.proofs.money.room.Goals as goal

module _ {figures : Figures} (h : FiguresIn figures) where
  abbrev bare : Exp
  bare = int h.margin_in ⊟ int h.usable_in

  abbrev quarter : Exp
  quarter = (int h.usable_in ⊞ lit 3) ⊘ 4

  module _ {have : Fen} {kept : ℤ} (m : have ≡ money_of figures) (l : kept ≡ int_max (to_z w64 (bits bare)) (to_z w64 (bits quarter))) where
    kept_is : kept ≡ larger_of (num bare) (num quarter)
    kept_is = l ∙ max_is_larger (to_z w64 (bits bare)) (to_z w64 (bits quarter)) ∙ ap₂ larger_of (reads bare tt) (reads quarter tt)

    abbrev unkept : Exp
    unkept =
        int (in_eq (fen_is m) (money_in figures h.reserve_in h.margin_in h.usable_in))
        ⊟ int (in_eq kept_is (in_larger (sized bare) (in_weaken (lit≤ tt) (sized quarter))))

    abbrev left : (kind : MemberKind) {minimum : Fen} → minimum ≡ minimum_of kind → Exp
    left kind e = unkept ⊟ int (in_eq (fen_is e) (minimum_in kind))

pub overflow_sub-result : goal.overflow_sub-result
overflow_sub-result c = fits (unkept c.requires c.money.ensures c.max-kept.ensures.value) tt

pub overflow_sub-result-2 : goal.overflow_sub-result-2
overflow_sub-result-2 c = fits (left c.requires c.money.ensures c.max-kept.ensures.value c.args.kind c.minimum.ensures) tt

pub returns : goal.returns
returns c =
    let kept = kept_is c.requires c.money.ensures c.max-kept.ensures.value in
    ap fen (reads (left c.requires c.money.ensures c.max-kept.ensures.value c.args.kind c.minimum.ensures) tt ∙ cc)
