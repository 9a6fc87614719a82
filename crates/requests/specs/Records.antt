-- 01, Day records: the 24 bytes, the table of kinds, and whom a record names.
use Rattle.std.specs.Prelude.{ℕ, ◌^◌, ◌≡◌, Bool, cond, not, ◌&&◌, List, [], ◌∷◌, leb, ltb, eqb, pos, length, get_or, Option, Some, None, Result, MatchResult}
use Rattle.wire.specs.LittleEndian.{number_at}
use Rattle.folds.specs.Tests.{all_of, between}
use Rattle.folds.specs.Rows.{Field, field}
use Rattle.rules.specs.Units.{fen, lots, price}
use Rattle.book.specs.declared.heads.Head.{Head}
use Rattle.book.specs.declared.accounts.Place.{Place}
use Rattle.book.specs.Accounts.{place}
pub use Rattle.requests.specs.declared.records.Marks.{Marks}
pub use Rattle.requests.specs.declared.records.Record.{Record}
pub use Rattle.requests.specs.declared.records.Mark.{Mark}
pub use Rattle.requests.specs.declared.records.Mark.TheVariants.{Opens, ClosesOld, ClosesNew}
pub use Rattle.requests.specs.declared.records.UnknownMark.{UnknownMark}
pub use Rattle.requests.specs.declared.records.Trade.{Trade}
pub use Rattle.requests.specs.declared.records.Pairing.{Pairing}
pub use Rattle.requests.specs.declared.records.Payment.{Payment}
pub use Rattle.requests.specs.declared.records.Pledge.{Pledge}
pub use Rattle.requests.specs.declared.records.Request.{Request}
pub use Rattle.requests.specs.declared.records.Request.TheVariants.{Trading, PairingUp, Depositing, Withdrawing, Pledging}

abbrev pub record_size : ℕ
record_size = 24

-- kind, contract, first member, second member, first mark, second mark, two zero bytes, number A, number B
unfoldable pub record_at : List ℕ → Record
record_at r = record {
  kind = get_or r 0 0;
  contract = get_or r 1 0;
  first = get_or r 2 0;
  second = get_or r 3 0;
  marks = record { first = get_or r 4 0; second = get_or r 5 0 };
  blank = number_at r 6 2;
  a = number_at r 8 8;
  b = number_at r 16 8;
}

-- the same as a table, to write a record by
abbrev pub record_fields : Record → List Field
record_fields q =
    field 0 1 q.kind
    ∷ field 1 1 q.contract
    ∷ field 2 1 q.first
    ∷ field 3 1 q.second
    ∷ field 4 1 q.marks.first
    ∷ field 5 1 q.marks.second
    ∷ field 6 2 q.blank
    ∷ field 8 8 q.a
    ∷ field 16 8 q.b
    ∷ []

-- 0 opens, 1 closes old lots, 2 closes lots opened today
abbrev pub read_mark : ℕ → Option Mark
read_mark n = cond (eqb n 0) (Some Opens) (cond (eqb n 1) (Some ClosesOld) (cond (eqb n 2) (Some ClosesNew) None))

-- the mark of that number, or that there is none
abbrev pub MarkOf : ℕ → Result Mark UnknownMark → Type 0
MarkOf n r = MatchResult r (λ mark. read_mark n ≡ Some mark) (λ e. (e.0 ≡ n) × (read_mark n ≡ None))

abbrev pub unmarked : Record → Bool
unmarked q = eqb q.marks.first 0 && eqb q.marks.second 0

-- ---- the table of kinds: what each uses, with its range; what it does not use is zero

-- 1 trade: contract, buyer, seller, both marks, A price, B lots
abbrev pub trade_tests : Head → Record → List Bool
trade_tests h q =
    ltb q.contract h.contracts
    ∷ ltb q.first h.members
    ∷ ltb q.second h.members
    ∷ not (eqb q.first q.second)
    ∷ between 1 10_000_000 q.a
    ∷ between 1 10_000 q.b
    ∷ eqb q.blank 0
    ∷ []

-- 2 delivery pairing: contract, buyer, seller, B lots
abbrev pub pairing_tests : Head → Record → List Bool
pairing_tests h q =
    ltb q.contract h.contracts
    ∷ ltb q.first h.members
    ∷ ltb q.second h.members
    ∷ not (eqb q.first q.second)
    ∷ unmarked q
    ∷ eqb q.a 0
    ∷ between 1 10_000 q.b
    ∷ eqb q.blank 0
    ∷ []

-- 3 deposit and 4 withdrawal: first member, A amount
abbrev pub payment_tests : Head → Record → List Bool
payment_tests h q =
    eqb q.contract 0
    ∷ ltb q.first h.members
    ∷ eqb q.second 0
    ∷ unmarked q
    ∷ between 1 (10 ^ 12) q.a
    ∷ eqb q.b 0
    ∷ eqb q.blank 0
    ∷ []

-- 5 securities now: first member, A market value, B discount
abbrev pub pledge_tests : Head → Record → List Bool
pledge_tests h q =
    eqb q.contract 0
    ∷ ltb q.first h.members
    ∷ eqb q.second 0
    ∷ unmarked q
    ∷ leb q.a (10 ^ 15)
    ∷ leb q.b 8_000
    ∷ eqb q.blank 0
    ∷ []

-- ---- what a record asks for; nothing, where it is refused 1

abbrev pub trade_by : Option Mark → Option Mark → Record → Option Request
trade_by (Some buying) (Some selling) q =
    Some (Trading (record { contract = q.contract; buyer = q.first; seller = q.second; buying = buying; selling = selling; price = price q.a; lots = lots q.b }))
trade_by (Some buying) None q = None
trade_by None selling q = None

unfoldable pub read_trade : Head → Record → Option Request
read_trade h q = cond (all_of (trade_tests h q)) (trade_by (read_mark q.marks.first) (read_mark q.marks.second) q) None

unfoldable pub read_pairing : Head → Record → Option Request
read_pairing h q = cond (all_of (pairing_tests h q)) (Some (PairingUp (record { contract = q.contract; buyer = q.first; seller = q.second; lots = lots q.b }))) None

abbrev pub payment : Record → Payment
payment q = record { member = q.first; amount = fen (pos q.a) }

unfoldable pub read_deposit : Head → Record → Option Request
read_deposit h q = cond (all_of (payment_tests h q)) (Some (Depositing (payment q))) None

unfoldable pub read_withdrawal : Head → Record → Option Request
read_withdrawal h q = cond (all_of (payment_tests h q)) (Some (Withdrawing (payment q))) None

unfoldable pub read_pledge : Head → Record → Option Request
read_pledge h q = cond (all_of (pledge_tests h q)) (Some (Pledging (record { member = q.first; market = fen (pos q.a); discount = q.b }))) None

-- by the kind's number
unfoldable pub read_kind : Head → Record → Option Request
read_kind h q =
    cond (eqb q.kind 1) (read_trade h q)
    (cond (eqb q.kind 2) (read_pairing h q)
    (cond (eqb q.kind 3) (read_deposit h q)
    (cond (eqb q.kind 4) (read_withdrawal h q)
    (cond (eqb q.kind 5) (read_pledge h q)
    None))))

unfoldable pub request_of : Head → List ℕ → Option Request
request_of h r = cond (eqb (length r) record_size) (read_kind h (record_at r)) None

-- ---- whom it names, and where their accounts stand

abbrev pub names_of : Option Request → List ℕ
names_of (Some (Trading t)) = t.buyer ∷ t.seller ∷ []
names_of (Some (PairingUp p)) = p.buyer ∷ p.seller ∷ []
names_of (Some (Depositing p)) = p.member ∷ []
names_of (Some (Withdrawing p)) = p.member ∷ []
names_of (Some (Pledging p)) = p.member ∷ []
names_of None = []

-- the record's contract; 0 where it has none
abbrev pub contract_of : Option Request → ℕ
contract_of (Some (Trading t)) = t.contract
contract_of (Some (PairingUp p)) = p.contract
contract_of (Some (Depositing p)) = 0
contract_of (Some (Withdrawing p)) = 0
contract_of (Some (Pledging p)) = 0
contract_of None = 0

abbrev pub places_in : ℕ → List ℕ → List Place
places_in j [] = []
places_in j (m ∷ ms) = place m j ∷ places_in j ms

abbrev pub places_for : Option Request → List Place
places_for q = places_in (contract_of q) (names_of q)
