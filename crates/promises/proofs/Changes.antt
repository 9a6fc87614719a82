-- What each kind of record makes of a sound account is fine, and what it makes of two accounts cancels.
use mathlib.Core.Path.{◌≡◌, refl, ap}
use mathlib.Core.Bool.{true, ◌&&◌}
use Prim.Native.Nat.{ℕ, ◌+◌, ◌-◌, ◌*◌, ◌^◌, ◌≤◌, ◌<◌}
use native.Mathlib.Nat.{mul-le-mul_left}
use native.Mathlib.Omega.{arith}
use borrow.Author.Tests.{leb-true, leb-false, not-false}
use lib.Dec.{leb}
use borrow.Author.Differences.{ints}
use lib.IntN.{ℤ, pos, ◌+ℤ◌}
use Rattle.std.proofs.lemmas.Bool.{and_parts}
use Rattle.numbers.specs.Range.{In}
use Rattle.numbers.proofs.Ranges.{in_add, in_sub, in_pos, in_weaken}
use Rattle.folds.proofs.First.{none_holds}
use Rattle.rules.specs.declared.units.Lots.{Lots}
use Rattle.rules.specs.declared.units.Price.{Price}
use Rattle.rules.specs.declared.units.Fen.{Fen}
use Rattle.rules.specs.declared.units.Sides.{Sides}
use Rattle.rules.specs.Ranges.{Amount}
use Rattle.rules.proofs.Bounds.{amount_add, amount_more}
use Rattle.book.specs.declared.members.Securities.{Securities}
use Rattle.book.specs.declared.members.Day.{Day}
use Rattle.book.specs.declared.members.Member.{Member}
use Rattle.book.specs.declared.positions.Side.{Side}
use Rattle.book.specs.declared.positions.Position.{Position}
use Rattle.book.specs.declared.accounts.Account.{Account}
use Rattle.book.specs.Positions.{held_of, opening_of, held_sides, paired_of}
use Rattle.validity.specs.Totals.{SideIn}
use Rattle.validity.specs.InRange.{PositionIs}
use Rattle.requests.specs.declared.records.Mark.{Mark}
use Rattle.requests.specs.declared.records.Mark.TheVariants.{Opens, ClosesOld, ClosesNew}
use Rattle.requests.specs.declared.records.Trade.{Trade}
use Rattle.requests.specs.declared.records.Pairing.{Pairing}
use Rattle.requests.specs.declared.records.Payment.{Payment}
use Rattle.requests.specs.declared.records.Pledge.{Pledge}
use Rattle.posting.specs.declared.fills.Way.{Way}
use Rattle.posting.specs.declared.fills.Way.TheVariants.{Long, Short}
use Rattle.posting.specs.declared.fills.Party.{Party}
use Rattle.posting.specs.declared.fills.Party.TheVariants.{Buyer, Seller}
use Rattle.posting.specs.Fills.{way_of, side_on, with_side, marked, paired_up, paid, dealt, enough, roomy, free}
use Rattle.posting.specs.Postings.{counted, moved, traded, paired_on, deposited, withdrawn, pledged, trade_rules, pairing_rules, deposit_rules, withdrawal_rules, pledge_rules, trade_answer, pairing_answer, deposit_answer, withdrawal_answer, pledge_answer}
use Rattle.posting.proofs.Sides.{side_in}
use Rattle.promises.proofs.Sound.{Sound, Fine}

-- ---- one side of a position

-- what an accepted trade says of one party: refusals 2, 4 and 5 were not given
pub record Passes (party : Party) (mark : Mark) (t : Trade) (a : Account) : Type 0 where
  pub count : a.member.accepted < 20_000
  pub enough : enough mark t.lots.0 (side_on (way_of party mark) a.position) ≡ true
  pub roomy : roomy mark t.lots.0 (side_on (way_of party mark) a.position) ≡ true

-- what an accepted pairing says of one side: refusals 2 and 7 were not given
pub record Spares (way : Way) (p : Pairing) (a : Account) : Type 0 where
  pub count : a.member.accepted < 20_000
  pub free : free p.lots.0 (side_on way a.position) ≡ true

-- so many lots under the mark
pub record Closes (n most : ℕ) (s : Side) : Type 0 where
  pub under : n ≤ most
  pub left : s.paired.0 + n ≤ held_of s

pub closes : (n most : ℕ) (s : Side) → leb n most && leb (s.paired.0 + n) (held_of s) ≡ true → Closes n most s
closes n most s e = record {
  under = leb-true n most (and_parts (leb n most) (leb (s.paired.0 + n) (held_of s)) e).0;
  left = leb-true (s.paired.0 + n) (held_of s) (and_parts (leb n most) (leb (s.paired.0 + n) (held_of s)) e).1;
}

marked_in : (mark : Mark) (n : ℕ) (s : Side) → SideIn s → enough mark n s ≡ true → roomy mark n s ≡ true → SideIn (marked mark n s)
marked_in Opens n s i e f = let l = leb-true (held_of s + n) 100_000 f in record { closed = i.closed; opening = i.opening; held = omega arith; paired = omega (arith, i.paired) }
marked_in ClosesOld n s i e f =
    let c = closes n (s.opening.0 - s.closed.0) s e in
    record { closed = omega (arith, i.closed, c.under); opening = i.opening; held = omega (arith, i.held); paired = omega (arith, c.left, c.under) }
marked_in ClosesNew n s i e f =
    let c = closes n s.new.0 s e in
    record { closed = i.closed; opening = i.opening; held = omega (arith, i.held); paired = omega (arith, c.left, c.under) }

paired_in : (n : ℕ) (s : Side) → SideIn s → free n s ≡ true → SideIn (paired_up n s)
paired_in n s i e = record { closed = i.closed; opening = i.opening; held = i.held; paired = leb-true (s.paired.0 + n) (held_of s) e }

with_side_lem : (way : Way) (s : Side) (p : Position) → PositionIs p → SideIn s → PositionIs (with_side way s p)
with_side_lem Long s p i j = record { long = j; short = i.short; cash = i.cash; zero = i.zero }
with_side_lem Short s p i j = record { long = i.long; short = j; cash = i.cash; zero = i.zero }

paid_in : (party : Party) (price : Price) (n : Lots) (cash : Fen) (t : ℕ) → price.0 ≤ 10_000_000 → In (10_000_000 * t) cash.0 → In (10_000_000 * (t + n.0)) (paid party price n cash).0
paid_in Buyer price n cash t l i = let w = mul-le-mul_left n.0 l in in_weaken (omega arith) (in_sub i (in_pos w))
paid_in Seller price n cash t l i = let w = mul-le-mul_left n.0 l in in_weaken (omega arith) (in_add i (in_pos w))

-- ---- what one account becomes is fine

counted_fine : (s : Securities) (d : Day) (p : Position) (a : Account) → Sound a → a.member.accepted < 20_000
    → Amount (10 ^ 15) s.market → s.discount ≤ 8_000 → Amount (10 ^ 12 * (a.member.accepted + 1)) d.deposits → Amount (10 ^ 12 * (a.member.accepted + 1)) d.withdrawals
    → PositionIs p → p.traded.0 ≤ a.position.traded.0 + 10_000 → Fine a (record { member = counted (record a.member { securities = s; day = d }); position = p })
counted_fine s d p a sound l market discount deposits withdrawals position few =
    let m = sound.member in
    record {
      kind = refl;
      member = record { accepted = omega arith; reserve = m.reserve; margin = m.margin; usable = m.usable; market = market; discount = discount; deposits = deposits; withdrawals = withdrawals };
      position = position;
      traded = omega arith;
    }

-- the day's sums may be larger by one more record
later : (r : Member) (x : Fen) → Amount (10 ^ 12 * r.accepted) x → Amount (10 ^ 12 * (r.accepted + 1)) x
later r x a = amount_more x (omega arith) a

added : (r : Member) (x y : Fen) → Amount (10 ^ 12 * r.accepted) x → Amount (10 ^ 12) y → Amount (10 ^ 12 * (r.accepted + 1)) (record { 0 = x.0 +ℤ y.0 })
added r x y a b = amount_more (record { 0 = x.0 +ℤ y.0 }) (omega arith) (amount_add x y a b)

moved_fine : (p : Position) (a : Account) → Sound a → a.member.accepted < 20_000 → PositionIs p → p.traded.0 ≤ a.position.traded.0 + 10_000 → Fine a (moved p a)
moved_fine p a s l i few =
    let m = s.member in
    counted_fine a.member.securities a.member.day p a s l m.market m.discount (later a.member a.member.day.deposits m.deposits) (later a.member a.member.day.withdrawals m.withdrawals) i few

pub traded_fine : (party : Party) (mark : Mark) (t : Trade) (a : Account) → Sound a → t.price.0 ≤ 10_000_000 → t.lots.0 ≤ 10_000 → Passes party mark t a → Fine a (traded party mark t a)
traded_fine party mark t a s price few ok =
    let p : Position = a.position in
    let way : Way = way_of party mark in
    let q = with_side_lem way (marked mark t.lots.0 (side_on way p)) p s.position (marked_in mark t.lots.0 (side_on way p) (side_in way p s.position.long s.position.short) ok.enough ok.roomy) in
    moved_fine (dealt party mark t.price t.lots p) a s ok.count
    (record { long = q.long; short = q.short; cash = paid_in party t.price t.lots p.cash p.traded.0 price s.position.cash; zero = s.position.zero })
    (omega arith)

pub paired_fine : (way : Way) (p : Pairing) (a : Account) → Sound a → Spares way p a → Fine a (paired_on way p a)
paired_fine way p a s ok =
    moved_fine (with_side way (paired_up p.lots.0 (side_on way a.position)) a.position) a s ok.count
    (with_side_lem way (paired_up p.lots.0 (side_on way a.position)) a.position s.position (paired_in p.lots.0 (side_on way a.position) (side_in way a.position s.position.long s.position.short) ok.free))
    (same_traded way (paired_up p.lots.0 (side_on way a.position)) a.position)
  where
    same_traded : (w : Way) (x : Side) (y : Position) → (with_side w x y).traded.0 ≤ y.traded.0 + 10_000
    same_traded Long x y = omega arith
    same_traded Short x y = omega arith

pub deposited_fine : (p : Payment) (a : Account) → Sound a → Amount (10 ^ 12) p.amount → a.member.accepted < 20_000 → Fine a (deposited p a)
deposited_fine p a s sum l =
    let m = s.member in
    let r : Member = a.member in
    counted_fine _ _ _ a s l m.market m.discount (added r r.day.deposits p.amount m.deposits sum) (later r r.day.withdrawals m.withdrawals) s.position (omega arith)

pub withdrawn_fine : (p : Payment) (a : Account) → Sound a → Amount (10 ^ 12) p.amount → a.member.accepted < 20_000 → Fine a (withdrawn p a)
withdrawn_fine p a s sum l =
    let m = s.member in
    let r : Member = a.member in
    counted_fine _ _ _ a s l m.market m.discount (later r r.day.deposits m.deposits) (added r r.day.withdrawals p.amount m.withdrawals sum) s.position (omega arith)

pub pledged_fine : (p : Pledge) (a : Account) → Sound a → Amount (10 ^ 15) p.market → p.discount ≤ 8_000 → a.member.accepted < 20_000 → Fine a (pledged p a)
pledged_fine p a s market discount l =
    let r : Member = a.member in
    counted_fine _ _ _ a s l market discount (later r r.day.deposits s.member.deposits) (later r r.day.withdrawals s.member.withdrawals) s.position (omega arith)

-- ---- what two accounts of one contract become cancels

-- of one count: the longs of both have changed by as much as the shorts of both
abbrev pub Even : (Position → Sides) → (a a' c c' : Position) → Type 0
Even count a a' c c' =
    (count a').long.0 + (count c').long.0 + ((count a).short.0 + (count c).short.0) ≡ (count a').short.0 + (count c').short.0 + ((count a).long.0 + (count c).long.0)

pub record Cancels (a a' c c' : Position) : Type 0 where
  pub opening : Even opening_of a a' c c'
  pub held : Even held_sides a a' c c'
  pub paired : Even paired_of a a' c c'
  pub cash : a'.cash.0 +ℤ c'.cash.0 ≡ a.cash.0 +ℤ c.cash.0

-- no mark touches the opening or the paired lots
lots_stay : (party : Party) (mark : Mark) (price : Price) (n : Lots) (p : Position) → let q = dealt party mark price n p in (opening_of q ≡ opening_of p) × (paired_of q ≡ paired_of p)
lots_stay Buyer Opens price n p = (refl, refl)
lots_stay Buyer ClosesOld price n p = (refl, refl)
lots_stay Buyer ClosesNew price n p = (refl, refl)
lots_stay Seller Opens price n p = (refl, refl)
lots_stay Seller ClosesOld price n p = (refl, refl)
lots_stay Seller ClosesNew price n p = (refl, refl)

-- n lots closed are n lots fewer held
held_less : (n : ℕ) (s : Side) → SideIn s → Closes n (s.opening.0 - s.closed.0) s → held_of (marked ClosesOld n s) + n ≡ held_of s
held_less n s i c = omega (arith, i.closed, c.under)

held_fewer : (n : ℕ) (s : Side) → Closes n s.new.0 s → held_of (marked ClosesNew n s) + n ≡ held_of s
held_fewer n s c = omega (arith, c.under)

-- under any mark a buyer's longs less shorts grow by the lots traded, and a seller's fall by them
bought_held : (mark : Mark) (price : Price) (n : Lots) (p : Position) → PositionIs p → enough mark n.0 (side_on (way_of Buyer mark) p) ≡ true
    → let q = dealt Buyer mark price n p in held_of q.long + held_of p.short ≡ held_of p.long + held_of q.short + n.0
bought_held Opens price n p i e = omega arith
bought_held ClosesOld price n p i e = omega (arith, held_less n.0 p.short i.short (closes n.0 (p.short.opening.0 - p.short.closed.0) p.short e))
bought_held ClosesNew price n p i e = omega (arith, held_fewer n.0 p.short (closes n.0 p.short.new.0 p.short e))

sold_held : (mark : Mark) (price : Price) (n : Lots) (p : Position) → PositionIs p → enough mark n.0 (side_on (way_of Seller mark) p) ≡ true
    → let q = dealt Seller mark price n p in held_of q.long + held_of p.short + n.0 ≡ held_of p.long + held_of q.short
sold_held Opens price n p i e = omega arith
sold_held ClosesOld price n p i e = omega (arith, held_less n.0 p.long i.long (closes n.0 (p.long.opening.0 - p.long.closed.0) p.long e))
sold_held ClosesNew price n p i e = omega (arith, held_fewer n.0 p.long (closes n.0 p.long.new.0 p.long e))

pub trade_cancels : (t : Trade) (a c : Account) → Sound a → Sound c → Passes Buyer t.buying t a → Passes Seller t.selling t c
    → Cancels a.position (traded Buyer t.buying t a).position c.position (traded Seller t.selling t c).position
trade_cancels t a c s s' ok ok' =
    let p : Position = a.position in
    let q : Position = c.position in
    let z : ℤ = pos (t.lots.0 * t.price.0) in
    let bought = lots_stay Buyer t.buying t.price t.lots p in
    let sold = lots_stay Seller t.selling t.price t.lots q in
    record {
      opening = omega (arith, longs bought.0, shorts bought.0, longs sold.0, shorts sold.0);
      held = omega (arith, bought_held t.buying t.price t.lots p s.position ok.enough, sold_held t.selling t.price t.lots q s'.position ok'.enough);
      paired = omega (arith, longs bought.1, shorts bought.1, longs sold.1, shorts sold.1);
      cash = omega (arith, ints);
    }
  where
    longs : {x y : Sides} → x ≡ y → x.long.0 ≡ y.long.0
    longs e = ap (λ (z : Sides). z.long.0) e

    shorts : {x y : Sides} → x ≡ y → x.short.0 ≡ y.short.0
    shorts e = ap (λ (z : Sides). z.short.0) e

pub pairing_cancels : (p : Pairing) (a c : Account) → Cancels a.position (paired_on Long p a).position c.position (paired_on Short p c).position
pairing_cancels p a c = record { opening = omega arith; held = omega arith; paired = omega arith; cash = refl }

-- ---- what the answer 0 says

pub record TradeDone (t : Trade) (a c : Account) : Type 0 where
  pub buyer : Passes Buyer t.buying t a
  pub seller : Passes Seller t.selling t c

pub trade_done : (t : Trade) (a c : Account) → trade_answer t a c ≡ 0 → TradeDone t a c
unfolding trade_answer
trade_done t a c e =
    let no-rule = none_holds (trade_rules t a c) refl e in
    record {
      buyer = record {
        count = leb-false 20_000 a.member.accepted (no-rule 0);
        enough = not-false (enough t.buying t.lots.0 (side_on (way_of Buyer t.buying) a.position)) (no-rule 4);
        roomy = not-false (roomy t.buying t.lots.0 (side_on (way_of Buyer t.buying) a.position)) (no-rule 6);
      };
      seller = record {
        count = leb-false 20_000 c.member.accepted (no-rule 1);
        enough = not-false (enough t.selling t.lots.0 (side_on (way_of Seller t.selling) c.position)) (no-rule 5);
        roomy = not-false (roomy t.selling t.lots.0 (side_on (way_of Seller t.selling) c.position)) (no-rule 7);
      };
    }

pub record PairingDone (p : Pairing) (a c : Account) : Type 0 where
  pub buyer : Spares Long p a
  pub seller : Spares Short p c

pub pairing_done : (p : Pairing) (a c : Account) → pairing_answer p a c ≡ 0 → PairingDone p a c
unfolding pairing_answer
pairing_done p a c e =
    let no-rule = none_holds (pairing_rules p a c) refl e in
    record {
      buyer = record { count = leb-false 20_000 a.member.accepted (no-rule 0); free = not-false (free p.lots.0 a.position.long) (no-rule 2) };
      seller = record { count = leb-false 20_000 c.member.accepted (no-rule 1); free = not-false (free p.lots.0 c.position.short) (no-rule 3) };
    }

pub deposit_done : (p : Payment) (a : Account) → deposit_answer p a ≡ 0 → a.member.accepted < 20_000
unfolding deposit_answer
deposit_done p a e = leb-false 20_000 a.member.accepted (none_holds (deposit_rules p a) refl e 0)

pub withdrawal_done : (p : Payment) (a : Account) → withdrawal_answer p a ≡ 0 → a.member.accepted < 20_000
unfolding withdrawal_answer
withdrawal_done p a e = leb-false 20_000 a.member.accepted (none_holds (withdrawal_rules p a) refl e 0)

pub pledge_done : (p : Pledge) (a : Account) → pledge_answer p a ≡ 0 → a.member.accepted < 20_000
unfolding pledge_answer
pledge_done p a e = leb-false 20_000 a.member.accepted (none_holds (pledge_rules p a) refl e 0)
