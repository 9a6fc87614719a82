-- Article 31 by any pairing is the book's formula: each lot's prices between its first and its last cancel.
use mathlib.Core.Path.{◌≡◌, sym, ◌∙◌, ap}
use Prim.Native.Nat.{ℕ, ◌+◌, ◌-◌, ◌≤◌}
use native.Mathlib.Omega.{arith}
use lib.ListN.{length}
use borrow.Author.Differences.{ints}
use lib.IntN.{ℤ, pos, neg_ℤ, ◌+ℤ◌, ◌-ℤ◌, ◌*ℤ◌}
use Rattle.numbers.proofs.Ring.{*ℤ-distr-l, *ℤ-distr-r, *ℤ-sub-l, *ℤ-sub-r, *ℤ-negℤ}
use Rattle.rules.specs.declared.units.Prices.{Prices}
use Rattle.rules.specs.Units.{fen}
use Rattle.rules.specs.Profit.{net_of, profit_of}
use Rattle.profit.specs.Day.{SideDay, Day, Covered, worth, held_on, held_of, opening_of, paired_of, closed_less_opened, cash_of}
use Rattle.profit.specs.Article31.{Pairing, Pairings, Side, of_longs, of_shorts, gain, closed_old, closed_today, held_old, left_open, held_today, delivered, day_profit}
use Rattle.profit.proofs.Sums.{turned, gain_turned, from_one}
use Rattle.profit.proofs.Pairings.{some_pairing, any_pairing, closed_turned}

-- ---- one side, in fen per unit of goods

abbrev side_profit : (side : Side) (prices : Prices) (day : SideDay) → Pairing day.opened day.closed_today → ℤ
side_profit side prices day pairing = (closed_old side prices day +ℤ closed_today side pairing) +ℤ (held_old side prices day +ℤ held_today side prices pairing)

module _ (prices : Prices) (day : SideDay) (pairing : Pairing day.opened day.closed_today) where
  longs : length day.closed_old ≤ day.opening.0 →
      side_profit of_longs prices day pairing ≡ closed_less_opened day +ℤ pos (held_on day).0 *ℤ worth prices.tonight -ℤ pos day.opening.0 *ℤ worth prices.last
  longs h =
      let last = worth prices.last in
      let t = worth prices.tonight in
      let n = length day.closed_old in
      let left = day.opening.0 - n in
      let new = length day.opened - length day.closed_today in
      let e : day.opening.0 ≡ n + left = omega arith in
      omega (
        arith,
        ints,
        from_one prices.last day.closed_old,
        any_pairing prices pairing,
        *ℤ-sub-l (pos left) t last,
        *ℤ-distr-r (pos left) (pos new) t,
        ap (λ (m : ℕ). pos m *ℤ last) e ∙ *ℤ-distr-r (pos n) (pos left) last,
      )

  shorts : side_profit of_shorts prices day pairing ≡ neg_ℤ (side_profit of_longs prices day pairing)
  shorts =
      let left = pos (day.opening.0 - length day.closed_old) in
      omega (
        arith,
        ints,
        turned (gain of_shorts prices.last) (gain of_longs prices.last) (gain_turned prices.last) day.closed_old,
        closed_turned pairing,
        ap (λ (g : ℤ). left *ℤ g) (gain_turned prices.last prices.tonight) ∙ *ℤ-negℤ left (gain of_longs prices.last prices.tonight),
        turned (λ price. gain of_shorts price prices.tonight) (λ price. gain of_longs price prices.tonight) (λ price. gain_turned price prices.tonight) (left_open pairing),
      )

-- ---- the day

module _ (prices : Prices) (day : Day) (covered : Covered day) (pairings : Pairings day) where
  abbrev closing_unit : ℤ
  closing_unit = (closed_old of_longs prices day.long +ℤ closed_old of_shorts prices day.short) +ℤ (closed_today of_longs pairings.long +ℤ closed_today of_shorts pairings.short)

  abbrev holding_unit : ℤ
  holding_unit = (held_old of_longs prices day.long +ℤ held_old of_shorts prices day.short) +ℤ (held_today of_longs prices pairings.long +ℤ held_today of_shorts prices pairings.short)

  abbrev delivery_unit : ℤ
  delivery_unit = delivered of_longs prices day.long +ℤ delivered of_shorts prices day.short

  abbrev book_unit : ℤ
  book_unit =
      (cash_of day).0 +ℤ net_of (held_of day) *ℤ worth prices.tonight -ℤ net_of (opening_of day) *ℤ worth prices.last +ℤ net_of (paired_of day) *ℤ gain of_longs prices.tonight prices.delivery

  unit_is : closing_unit +ℤ holding_unit +ℤ delivery_unit ≡ book_unit
  unit_is =
      let last = worth prices.last in
      let t = worth prices.tonight in
      let rise = gain of_longs prices.tonight prices.delivery in
      let hl = pos (held_on day.long).0 in
      let hs = pos (held_on day.short).0 in
      let ol = pos day.long.opening.0 in
      let os = pos day.short.opening.0 in
      let pl = pos day.long.paired.0 in
      let ps = pos day.short.paired.0 in
      omega (
        arith,
        ints,
        longs prices day.long pairings.long covered.long,
        shorts prices day.short pairings.short,
        longs prices day.short pairings.short covered.short,
        ap (λ (g : ℤ). ps *ℤ g) (gain_turned prices.tonight prices.delivery) ∙ *ℤ-negℤ ps rise,
        *ℤ-sub-r hl hs t,
        *ℤ-sub-r ol os last,
        *ℤ-sub-r pl ps rise,
      )

module _ (multiplier : ℕ) (prices : Prices) (day : Day) (covered : Covered day) where
  -- whichever lots the closings are paired with
  pub profit_is : (pairings : Pairings day) → day_profit multiplier prices day pairings ≡ profit_of multiplier (cash_of day) (held_of day) (opening_of day) (paired_of day) prices
  profit_is pairings =
      let m = pos multiplier in
      let a = closing_unit prices day covered pairings in
      let b = holding_unit prices day covered pairings in
      let c = delivery_unit prices day covered pairings in
      ap fen (sym (*ℤ-distr-l m (a +ℤ b) c ∙ ap (λ (z : ℤ). z +ℤ m *ℤ c) (*ℤ-distr-l m a b)) ∙ ap (λ (z : ℤ). m *ℤ z) (unit_is prices day covered pairings))

  pub any_two_agree : (one other : Pairings day) → day_profit multiplier prices day one ≡ day_profit multiplier prices day other
  any_two_agree one other = profit_is one ∙ sym (profit_is other)

-- and there is a pairing wherever no more is closed than was opened
pub there_is_one : (day : Day) → length day.long.closed_today ≤ length day.long.opened → length day.short.closed_today ≤ length day.short.opened → Pairings day
there_is_one day h g = record { long = some_pairing day.long.opened day.long.closed_today h; short = some_pairing day.short.opened day.short.closed_today g }
