-- 000, articles 33 and 37, as they stand there, to be set beside the rules, and what rounding up and down mean. proofs/Articles.antt has that they agree.
use Rattle.std.specs.Prelude.{cond, ℕ, ◌+◌, ◌*◌, ◌≤◌, ◌<◌, pos, ◌+ℤ◌, ◌-ℤ◌}
use Rattle.std.specs.Int.Signed.{le_z}
use Rattle.numbers.specs.Choice.{larger_of}
use Rattle.rules.specs.Units.{Fen, fen, Figures, Movements}
use Rattle.rules.specs.Members.{MemberKind, minimum_of}
use Rattle.rules.specs.Money.{money_of, quarter_of}

-- tonight's reserve = last reserve + last margin − tonight's margin + tonight's usable − last usable + profit + deposits − withdrawals − fee: 000, article 33
abbrev pub article33 : (morning tonight : Figures) → Movements → Fen
article33 morning tonight moved =
    fen
    (morning.reserve.0 +ℤ morning.margin.0 -ℤ tonight.margin.0 +ℤ tonight.usable.0 -ℤ morning.usable.0
    +ℤ moved.profit.0 +ℤ moved.deposits.0 -ℤ moved.withdrawals.0 -ℤ moved.fee.0)

-- the part of margin that is money, securities covering margin first (house)
abbrev pub money_in_margin : Figures → Fen
money_in_margin figures = fen (larger_of (pos 0) (figures.margin.0 -ℤ figures.usable.0))

-- the part of reserve that is money
abbrev pub money_in_reserve : Figures → Fen
money_in_reserve figures = fen ((money_of figures).0 -ℤ (money_in_margin figures).0)

-- (1) where the money in margin is at least 25% of the securities, reserve − minimum; (2) else money in reserve − (25% − money in margin) − minimum: 000, article 37
abbrev pub article37 : MemberKind → Figures → Fen
article37 kind figures =
    fen
    (cond (le_z (quarter_of figures.usable).0 (money_in_margin figures).0)
    (figures.reserve.0 -ℤ (minimum_of kind).0)
    ((money_in_reserve figures).0 -ℤ ((quarter_of figures.usable).0 -ℤ (money_in_margin figures).0) -ℤ (minimum_of kind).0))

-- q is n / d, rounded up
pub record Up (n d q : ℕ) : Type 0 where
  pub enough : n ≤ d * q
  pub least : d * q < n + d

-- q is n / d, rounded down
pub record Down (n d q : ℕ) : Type 0 where
  pub within : d * q ≤ n
  pub most : n < d * q + d
