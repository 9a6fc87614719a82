-- 01, Day records and Refusal numbers: what each request makes of the accounts that it names, and by which number it is refused.
use Rattle.std.specs.Prelude.{ℕ, ◌+◌, Bool, false, not, List, [], ◌∷◌, leb, ◌+ℤ◌, ◌-ℤ◌, Option, Some, None}
use Rattle.std.specs.Int.Signed.{lt_z}
use Rattle.folds.specs.First.{Rule, ◌gives◌, first_of, on_zero}
use Rattle.order.specs.Lens.{Posting}
use Rattle.rules.specs.declared.units.Fen.{Fen}
use Rattle.rules.specs.Units.{fen}
use Rattle.rules.specs.Members.{minimum_of}
use Rattle.rules.specs.Money.{room_left_of}
use Rattle.book.specs.declared.members.Member.{Member}
use Rattle.book.specs.declared.positions.Position.{Position}
use Rattle.book.specs.declared.accounts.Account.{Account}
use Rattle.book.specs.Views.{View, Count}
use Rattle.requests.specs.declared.records.Mark.{Mark}
use Rattle.requests.specs.declared.records.Trade.{Trade}
use Rattle.requests.specs.declared.records.Pairing.{Pairing}
use Rattle.requests.specs.declared.records.Payment.{Payment}
use Rattle.requests.specs.declared.records.Pledge.{Pledge}
use Rattle.requests.specs.declared.records.Request.{Request}
use Rattle.requests.specs.declared.records.Mark.TheVariants.{Opens, ClosesOld, ClosesNew}
use Rattle.requests.specs.declared.records.Request.TheVariants.{Trading, PairingUp, Depositing, Withdrawing, Pledging}
use Rattle.posting.specs.Fills.{Party, Buyer, Seller, Way, Long, Short, way_of, side_on, with_side, paired_up, dealt, enough, roomy, free}

-- ---- the accounts after an accepted record

-- a member's row after one more accepted record
abbrev pub counted : Member → Member
counted r = record r { accepted = r.accepted + 1 }

abbrev pub moved : Position → Account → Account
moved p a = record { member = counted a.member; position = p }

abbrev pub traded : Party → Mark → Trade → Account → Account
traded party mark t a = moved (dealt party mark t.price t.lots a.position) a

-- the buyer's longs and the seller's shorts
abbrev pub paired_on : Way → Pairing → Account → Account
paired_on way p a = moved (with_side way (paired_up p.lots.0 (side_on way a.position)) a.position) a

abbrev pub deposited : Payment → Account → Account
deposited p a =
    let r = a.member in
    record a { member = counted (record r { day = record r.day { deposits = fen (r.day.deposits.0 +ℤ p.amount.0) } }) }

abbrev pub withdrawn : Payment → Account → Account
withdrawn p a =
    let r = a.member in
    record a { member = counted (record r { day = record r.day { withdrawals = fen (r.day.withdrawals.0 +ℤ p.amount.0) } }) }

-- replaces both
abbrev pub pledged : Pledge → Account → Account
pledged p a = record a { member = counted (record a.member { securities = record { market = p.market; discount = p.discount } }) }

-- ---- refusals

-- 2: 20,000 accepted records
abbrev pub full : Account → Bool
full a = leb 20_000 a.member.accepted

-- reserve + deposits − withdrawals
abbrev pub standing_money : Member → Fen
standing_money r = fen (r.figures.reserve.0 +ℤ r.day.deposits.0 -ℤ r.day.withdrawals.0)

-- 3: a side with mark 0 below its minimum
abbrev pub barred : Mark → Account → Bool
barred Opens a = lt_z (standing_money a.member).0 (minimum_of a.member.kind).0
barred ClosesOld a = false
barred ClosesNew a = false

-- 6: above the room left
abbrev pub above : Payment → Account → Bool
above p a = lt_z (room_left_of a.member.kind a.member.figures a.member.day.deposits a.member.day.withdrawals).0 p.amount.0

abbrev pub fewer : Party → Mark → Trade → Account → Bool
fewer party mark t a = not (enough mark t.lots.0 (side_on (way_of party mark) a.position))

abbrev pub beyond : Party → Mark → Trade → Account → Bool
beyond party mark t a = not (roomy mark t.lots.0 (side_on (way_of party mark) a.position))

abbrev pub scarce : Way → Pairing → Account → Bool
scarce way p a = not (free p.lots.0 (side_on way a.position))

abbrev pub trade_rules : Trade → Account → Account → List Rule
trade_rules t a b =
    (full a gives 2)
    ∷ (full b gives 2)
    ∷ (barred t.buying a gives 3)
    ∷ (barred t.selling b gives 3)
    ∷ (fewer Buyer t.buying t a gives 4)
    ∷ (fewer Seller t.selling t b gives 4)
    ∷ (beyond Buyer t.buying t a gives 5)
    ∷ (beyond Seller t.selling t b gives 5)
    ∷ []

abbrev pub pairing_rules : Pairing → Account → Account → List Rule
pairing_rules p a b = (full a gives 2) ∷ (full b gives 2) ∷ (scarce Long p a gives 7) ∷ (scarce Short p b gives 7) ∷ []

abbrev pub deposit_rules : Payment → Account → List Rule
deposit_rules p a = (full a gives 2) ∷ []

abbrev pub withdrawal_rules : Payment → Account → List Rule
withdrawal_rules p a = (full a gives 2) ∷ (above p a gives 6) ∷ []

abbrev pub pledge_rules : Pledge → Account → List Rule
pledge_rules p a = (full a gives 2) ∷ []

unfoldable pub trade_answer : Trade → Account → Account → ℕ
trade_answer t a b = first_of (trade_rules t a b)

unfoldable pub pairing_answer : Pairing → Account → Account → ℕ
pairing_answer p a b = first_of (pairing_rules p a b)

unfoldable pub deposit_answer : Payment → Account → ℕ
deposit_answer p a = first_of (deposit_rules p a)

unfoldable pub withdrawal_answer : Payment → Account → ℕ
withdrawal_answer p a = first_of (withdrawal_rules p a)

unfoldable pub pledge_answer : Pledge → Account → ℕ
pledge_answer p a = first_of (pledge_rules p a)

-- ---- the outcome: 01's number, and the accounts where it is 0

-- a refusal makes nothing of the accounts
abbrev pub outcome : ℕ → List Account → Posting Account ℕ Count
outcome n become = record { says = n; become = on_zero n become []; adds = [] }

-- what a request asks, from the views of the places named, in the order of the names
abbrev pub posting_of : Option Request → List View → Posting Account ℕ Count
posting_of (Some (Trading t)) [] = outcome 1 []
posting_of (Some (Trading t)) (v ∷ []) = outcome 1 []
posting_of (Some (Trading t)) (v ∷ w ∷ l) = outcome (trade_answer t v.account w.account) (traded Buyer t.buying t v.account ∷ traded Seller t.selling t w.account ∷ [])
posting_of (Some (PairingUp p)) [] = outcome 1 []
posting_of (Some (PairingUp p)) (v ∷ []) = outcome 1 []
posting_of (Some (PairingUp p)) (v ∷ w ∷ l) = outcome (pairing_answer p v.account w.account) (paired_on Long p v.account ∷ paired_on Short p w.account ∷ [])
posting_of (Some (Depositing p)) [] = outcome 1 []
posting_of (Some (Depositing p)) (v ∷ l) = outcome (deposit_answer p v.account) (deposited p v.account ∷ [])
posting_of (Some (Withdrawing p)) [] = outcome 1 []
posting_of (Some (Withdrawing p)) (v ∷ l) = outcome (withdrawal_answer p v.account) (withdrawn p v.account ∷ [])
posting_of (Some (Pledging p)) [] = outcome 1 []
posting_of (Some (Pledging p)) (v ∷ l) = outcome (pledge_answer p v.account) (pledged p v.account ∷ [])
posting_of None l = outcome 1 []
