-- Every product and sum fits, so the machine's fee is exact.
use mathlib.Core.Path.{◌≡◌, ◌∙◌, ap}
use Prim.Native.Nat.{ℕ}
use lib.IntN.{ℤ, pos}
use Rattle.numbers.specs.Computation.{Exp, ◌⊞◌, ◌⊠◌}
use Rattle.numbers.proofs.Computations.{fits, reads, widened}
use Rattle.rules.specs.Units.{fen, Lots, Sides}
use Rattle.rules.specs.Ranges.{FeeIn}
use Rattle.rules.proofs.fee.contract_fee.Goals as goal

module _ {traded : Lots} {paired : Sides} {trade_fee delivery_fee : ℕ} (h : FeeIn traded paired trade_fee delivery_fee) where
  abbrev trading : {x y : ℤ} → x ≡ pos traded.0 → y ≡ pos trade_fee → Exp
  trading lots rate = widened h.traded_in lots ⊠ widened h.trade_fee_in rate

  abbrev delivering : {x y z : ℤ} → x ≡ pos paired.long.0 → y ≡ pos paired.short.0 → z ≡ pos delivery_fee → Exp
  delivering long short rate = (widened h.paired_in.long_in long ⊞ widened h.paired_in.short_in short) ⊠ widened h.delivery_fee_in rate

pub overflow_add-result : goal.overflow_add-result
overflow_add-result c = fits (trading c.requires c.from-3.ensures c.from-4.ensures ⊞ delivering c.requires c.from.ensures c.from-2.ensures c.from-5.ensures) tt

pub returns : goal.returns
returns c =
    ap fen (reads (trading c.requires c.from-3.ensures c.from-4.ensures ⊞ delivering c.requires c.from.ensures c.from-2.ensures c.from-5.ensures) tt
    ∙ rw (c.from.ensures, c.from-2.ensures, c.from-3.ensures, c.from-4.ensures, c.from-5.ensures))
