-- 000, articles 27 and 47: the fee of one contract.
use Rattle.std.specs.Prelude.{ℕ, ◌+◌, ◌*◌, pos}
use Rattle.rules.specs.Units.{Fen, fen, Lots, Sides}

-- traded lots and paired lots, of both sides, at their rates: 000, articles 27 and 47
abbrev pub fee_of : (traded : Lots) (paired : Sides) (trade_fee delivery_fee : ℕ) → Fen
fee_of traded paired trade_fee delivery_fee = fen (pos (traded.0 * trade_fee + (paired.long.0 + paired.short.0) * delivery_fee))
