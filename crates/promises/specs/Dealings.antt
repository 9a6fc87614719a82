-- 01, Day records, and 000, article 31: what the accepted records of a day ask of one member in one contract, read off the records and their answers alone, and that member's day in the article's terms.
use Rattle.std.specs.Prelude.{ℕ, ◌+◌, ◌≤◌, ◌≡◌, Bool, true, false, cond, ◌&&◌, List, [], ◌∷◌, ◌++◌, eqb, length, replicate}
use Rattle.folds.specs.First.{on_zero}
use Rattle.rules.specs.declared.units.Lots.{Lots}
use Rattle.rules.specs.declared.units.Price.{Price}
use Rattle.rules.specs.Units.{lots}
use Rattle.profit.specs.Day.{Day}
use Rattle.profit.specs.Day as days
use Rattle.book.specs.declared.heads.Head.{Head}
use Rattle.book.specs.declared.positions.Position.{Position}
use Rattle.book.specs.Layout.{position_off}
use Rattle.book.specs.Heads.{head_at}
use Rattle.book.specs.Positions.{position_at, opening_of, held_sides, paired_of}
use Rattle.requests.specs.declared.records.Mark.{Mark}
use Rattle.requests.specs.declared.records.Mark.TheVariants.{Opens, ClosesOld, ClosesNew}
use Rattle.std.specs.Prelude.{Option, Some, None}
use Rattle.requests.specs.declared.records.Request.{Request}
use Rattle.requests.specs.declared.records.Request.TheVariants.{Trading, PairingUp, Depositing, Withdrawing, Pledging}
use Rattle.posting.specs.declared.fills.Way.{Way}
use Rattle.posting.specs.declared.fills.Way.TheVariants.{Long, Short}
use Rattle.posting.specs.declared.fills.Party.{Party}
use Rattle.posting.specs.declared.fills.Party.TheVariants.{Buyer, Seller}
use Rattle.requests.specs.Records.{request_of}
use Rattle.promises.specs.Runs.{answers_to}

-- ---- read off the records

-- one party's side of a trade, or one side of a delivery pairing
pub data Fill : Type 0 where
  dealing : Party → Mark → Price → Lots → Fill
  delivering : Way → Lots → Fill

-- of a record's two sides, the one that is member m's in contract j
abbrev pub share : (contract buyer seller : ℕ) (of_buyer of_seller : Fill) (m j : ℕ) → List Fill
share contract buyer seller of_buyer of_seller m j = cond (eqb contract j) (cond (eqb buyer m) (of_buyer ∷ []) (cond (eqb seller m) (of_seller ∷ []) [])) []

abbrev pub fills_of : Option Request → (m j : ℕ) → List Fill
fills_of (Some (Trading t)) m j = share t.contract t.buyer t.seller (dealing Buyer t.buying t.price t.lots) (dealing Seller t.selling t.price t.lots) m j
fills_of (Some (PairingUp p)) m j = share p.contract p.buyer p.seller (delivering Long p.lots) (delivering Short p.lots) m j
fills_of (Some (Depositing p)) m j = []
fills_of (Some (Withdrawing p)) m j = []
fills_of (Some (Pledging p)) m j = []
fills_of None m j = []

-- the records whose answer is 0
abbrev pub accepted_of : List ℕ → List (List ℕ) → List (List ℕ)
accepted_of [] rs = []
accepted_of (n ∷ ns) [] = []
accepted_of (n ∷ ns) (r ∷ rs) = on_zero n (r ∷ accepted_of ns rs) (accepted_of ns rs)

abbrev pub fills_in : Head → List (List ℕ) → (m j : ℕ) → List Fill
fills_in h [] m j = []
fills_in h (r ∷ rs) m j = fills_of (request_of h r) m j ++ fills_in h rs m j

-- in their order
abbrev pub dealings : (book : List ℕ) (rs : List (List ℕ)) (m j : ℕ) → List Fill
dealings book rs m j = fills_in (head_at book) (accepted_of (answers_to book rs) rs) m j

-- ---- as a day of article 31

abbrev pub same_party : Party → Party → Bool
same_party Buyer Buyer = true
same_party Buyer Seller = false
same_party Seller Buyer = false
same_party Seller Seller = true

abbrev pub same_mark : Mark → Mark → Bool
same_mark Opens Opens = true
same_mark Opens ClosesOld = false
same_mark Opens ClosesNew = false
same_mark ClosesOld Opens = false
same_mark ClosesOld ClosesOld = true
same_mark ClosesOld ClosesNew = false
same_mark ClosesNew Opens = false
same_mark ClosesNew ClosesOld = false
same_mark ClosesNew ClosesNew = true

abbrev pub same_way : Way → Way → Bool
same_way Long Long = true
same_way Long Short = false
same_way Short Long = false
same_way Short Short = true

-- a price for each lot that was dealt in as this party under this mark
abbrev pub prices_in : Party → Mark → Fill → List Price
prices_in party mark (dealing p m price n) = cond (same_party party p && same_mark mark m) (replicate n.0 price) []
prices_in party mark (delivering way n) = []

abbrev pub prices_of : Party → Mark → List Fill → List Price
prices_of party mark [] = []
prices_of party mark (f ∷ fs) = prices_in party mark f ++ prices_of party mark fs

-- the lots paired on this side
abbrev pub delivered_in : Way → Fill → ℕ
delivered_in way (dealing p m price n) = 0
delivered_in way (delivering w n) = cond (same_way way w) n.0 0

abbrev pub delivered_of : Way → List Fill → ℕ
delivered_of way [] = 0
delivered_of way (f ∷ fs) = delivered_in way f + delivered_of way fs

-- all lots dealt in, for the fee
abbrev pub traded_in : Fill → ℕ
traded_in (dealing p m price n) = n.0
traded_in (delivering w n) = 0

abbrev pub traded_of : List Fill → ℕ
traded_of [] = 0
traded_of (f ∷ fs) = traded_in f + traded_of fs

-- from a row of the morning: longs are opened by buying and closed by selling, shorts the other way
abbrev pub day_from : Position → List Fill → Day
day_from morning fs = record {
  long = record {
    opening = morning.long.opening;
    closed_old = prices_of Seller ClosesOld fs;
    opened = prices_of Buyer Opens fs;
    closed_today = prices_of Seller ClosesNew fs;
    paired = lots (delivered_of Long fs);
  };
  short = record {
    opening = morning.short.opening;
    closed_old = prices_of Buyer ClosesOld fs;
    opened = prices_of Seller Opens fs;
    closed_today = prices_of Buyer ClosesNew fs;
    paired = lots (delivered_of Short fs);
  };
}

-- member m's row in contract j
abbrev pub row_at : Head → List ℕ → (m j : ℕ) → Position
row_at h book m j = position_at book (position_off h m j)

-- member m's day in contract j
abbrev pub day_of : (book : List ℕ) (rs : List (List ℕ)) (m j : ℕ) → Day
day_of book rs m j = day_from (row_at (head_at book) book m j) (dealings book rs m j)

-- the row p keeps the sums of the day's lots, and no more lots are closed than there are
pub record Stored (d : Day) (fs : List Fill) (p : Position) : Type 0 where
  pub held : held_sides p ≡ days.held_of d
  pub opening : opening_of p ≡ days.opening_of d
  pub paired : paired_of p ≡ days.paired_of d
  pub cash : p.cash ≡ days.cash_of d
  pub traded : p.traded.0 ≡ traded_of fs
  pub covered : days.Covered d
  pub longs : length d.long.closed_today ≤ length d.long.opened
  pub shorts : length d.short.closed_today ≤ length d.short.opened
