-- Every product fits, so the machine's margin is exact.
use mathlib.Core.Path.{◌≡◌, ◌∙◌, ap}
use Prim.Native.Nat.{ℕ}
use lib.IntN.{ℤ, pos}
use Rattle.numbers.specs.Computation.{Exp, lit, ◌⊞◌, ◌⊠◌, ◌⊘◌}
use Rattle.numbers.proofs.Computations.{fits, reads, widened}
use Rattle.rules.specs.Units.{fen, Lots, Price}
use Rattle.rules.specs.Ranges.{MarginIn}
use Rattle.rules.proofs.margin.contract_margin.Goals as goal

module _ {charged : Lots} {price : Price} {multiplier rate : ℕ} (h : MarginIn charged price multiplier rate) {x y z : ℤ} (a : x ≡ pos charged.0) (b : y ≡ pos price.0) (d : z ≡ pos multiplier) where
  abbrev value : Exp
  value = widened h.charged_in a ⊠ widened h.price_in b ⊠ widened h.multiplier_in d

  module _ {w : ℤ} (e : w ≡ pos rate) where
    abbrev product : Exp
    product = value ⊠ widened h.rate_in e

    abbrev raised : Exp
    raised = product ⊞ lit 9_999

pub overflow_mul-result : goal.overflow_mul-result
overflow_mul-result c = fits (product c.requires c.from.ensures c.from-2.ensures c.from-3.ensures c.from-4.ensures) tt

pub overflow_add-result : goal.overflow_add-result
overflow_add-result c = fits (raised c.requires c.from.ensures c.from-2.ensures c.from-3.ensures c.from-4.ensures) tt

pub returns : goal.returns
returns c =
    ap fen (reads (raised c.requires c.from.ensures c.from-2.ensures c.from-3.ensures c.from-4.ensures ⊘ 10_000) tt
    ∙ rw (c.from.ensures, c.from-2.ensures, c.from-3.ensures, c.from-4.ensures))
