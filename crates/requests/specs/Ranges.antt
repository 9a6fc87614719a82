-- 01, Day records: within what ranges a record lies that is not refused 1.
use Rattle.std.specs.Prelude.{◌^◌, ◌≤◌, ◌<◌, ◌≢◌}
use Rattle.numbers.specs.Range.{In}
use Rattle.book.specs.declared.heads.Head.{Head}
use Rattle.requests.specs.Records.{Trade, Pairing, Payment, Pledge}

pub record TradeIn (h : Head) (t : Trade) : Type 0 where
  pub contract : t.contract < h.contracts
  pub buyer : t.buyer < h.members
  pub seller : t.seller < h.members
  pub differ : t.buyer ≢ t.seller
  pub price : t.price.0 ≤ 10_000_000
  pub lots : t.lots.0 ≤ 10_000

pub record PairingIn (h : Head) (p : Pairing) : Type 0 where
  pub contract : p.contract < h.contracts
  pub buyer : p.buyer < h.members
  pub seller : p.seller < h.members
  pub differ : p.buyer ≢ p.seller
  pub lots : p.lots.0 ≤ 10_000

pub record PaymentIn (h : Head) (p : Payment) : Type 0 where
  pub member : p.member < h.members
  pub amount : In (10 ^ 12) p.amount.0

pub record PledgeIn (h : Head) (p : Pledge) : Type 0 where
  pub member : p.member < h.members
  pub market : In (10 ^ 15) p.market.0
  pub discount : p.discount ≤ 8_000
