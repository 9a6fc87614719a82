-- Each product and sum fits, and the three net counts of lots are exact by their promises.
use mathlib.Core.Path.{◌≡◌, ◌∙◌, ap}
use Prim.Native.Nat.{ℕ}
use lib.IntN.{ℤ, pos}
use Rattle.numbers.specs.Computation.{Exp, int, ◌⊞◌, ◌⊟◌, ◌⊠◌}
use Rattle.numbers.proofs.Ranges.{in_eq}
use Rattle.numbers.proofs.Computations.{fits, reads, widened}
use Rattle.rules.specs.Units.{Fen, fen, Sides, Prices}
use Rattle.rules.specs.Profit.{net_of}
use Rattle.rules.specs.Ranges.{ProfitIn, SidesIn}
use Rattle.rules.proofs.Bounds.{net_in}
use Rattle.rules.proofs.profit.contract_profit.Goals as goal

abbrev netted : {sides : Sides} {n : ℤ} → SidesIn sides → n ≡ net_of sides → Exp
netted {sides} h e = int (in_eq e (net_in sides h))

module _ {multiplier : ℕ} {cash : Fen} {held opening paired : Sides} {prices : Prices} (h : ProfitIn multiplier cash held opening paired prices)
    {last tonight delivery : ℤ} (l : last ≡ pos prices.last.0) (t : tonight ≡ pos prices.tonight.0) (d : delivery ≡ pos prices.delivery.0) where
  abbrev opened : {y : ℤ} → y ≡ net_of opening → Exp
  opened e = netted h.opening_in e ⊠ widened h.prices_in.last_in l

  abbrev delivered : {z : ℤ} → z ≡ net_of paired → Exp
  delivered e = netted h.paired_in e ⊠ (widened h.prices_in.delivery_in d ⊟ widened h.prices_in.tonight_in t)

  module _ {x : ℤ} (a : x ≡ net_of held) where
    abbrev valued : Exp
    valued = netted h.held_in a ⊠ widened h.prices_in.tonight_in t

    abbrev kept : Exp
    kept = int h.cash_in ⊞ valued

    module _ {y : ℤ} (b : y ≡ net_of opening) where
      abbrev marked : Exp
      marked = kept ⊟ opened b

      abbrev per_unit : {z : ℤ} → z ≡ net_of paired → Exp
      per_unit e = marked ⊞ delivered e

      abbrev whole : {z m : ℤ} → z ≡ net_of paired → m ≡ pos multiplier → Exp
      whole e f = widened h.multiplier_in f ⊠ per_unit e

pub overflow_mul-marked : goal.overflow_mul-marked
overflow_mul-marked c = fits (valued c.requires c.from-last.ensures c.from-tonight.ensures c.from-delivery.ensures c.net.ensures) tt

pub overflow_add-marked : goal.overflow_add-marked
overflow_add-marked c = fits (kept c.requires c.from-last.ensures c.from-tonight.ensures c.from-delivery.ensures c.net.ensures) tt

pub overflow_mul-marked-2 : goal.overflow_mul-marked-2
overflow_mul-marked-2 c = fits (opened c.requires c.from-last.ensures c.from-tonight.ensures c.from-delivery.ensures c.net-2.ensures) tt

pub overflow_sub-marked : goal.overflow_sub-marked
overflow_sub-marked c = fits (marked c.requires c.from-last.ensures c.from-tonight.ensures c.from-delivery.ensures c.net.ensures c.net-2.ensures) tt

pub overflow_mul-result : goal.overflow_mul-result
overflow_mul-result c = fits (delivered c.requires c.from-last.ensures c.from-tonight.ensures c.from-delivery.ensures c.net-3.ensures) tt

pub overflow_add-result : goal.overflow_add-result
overflow_add-result c = fits (per_unit c.requires c.from-last.ensures c.from-tonight.ensures c.from-delivery.ensures c.net.ensures c.net-2.ensures c.net-3.ensures) tt

pub overflow_mul-result-2 : goal.overflow_mul-result-2
overflow_mul-result-2 c = fits (whole c.requires c.from-last.ensures c.from-tonight.ensures c.from-delivery.ensures c.net.ensures c.net-2.ensures c.net-3.ensures c.from.ensures) tt

pub returns : goal.returns
returns c =
    ap fen (reads (whole c.requires c.from-last.ensures c.from-tonight.ensures c.from-delivery.ensures c.net.ensures c.net-2.ensures c.net-3.ensures c.from.ensures) tt
    ∙ rw (c.from.ensures, c.from-last.ensures, c.from-tonight.ensures, c.from-delivery.ensures, c.net.ensures, c.net-2.ensures, c.net-3.ensures))
