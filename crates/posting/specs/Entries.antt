-- 01, Day records: what a record asks of one account that it names. That account alone is lent to the posting and altered there.
use Rattle.std.specs.Prelude.{ℕ, cond, List, [], ◌∷◌, leb}
use Rattle.folds.specs.First.{Rule, ◌gives◌, first_of, on_zero}
use Rattle.book.specs.declared.accounts.Account.{Account}
use Rattle.requests.specs.declared.records.Mark.{Mark}
use Rattle.requests.specs.declared.records.Trade.{Trade}
use Rattle.requests.specs.declared.records.Pairing.{Pairing}
use Rattle.posting.specs.Fills.{Party, Buyer, Seller, Way, Long, Short}
use Rattle.posting.specs.Postings.{traded, paired_on, deposited, withdrawn, pledged, full, barred, fewer, beyond, scarce, deposit_answer, withdrawal_answer, pledge_answer}
pub use Rattle.posting.specs.declared.accounts.Entry.{Entry}
pub use Rattle.posting.specs.declared.accounts.Entry.TheVariants.{Buys, Sells, Receives, Delivers, PaysIn, TakesOut, Pledges}

-- 2 to 5 for one side of a trade
abbrev pub side_rules : Party → Mark → Trade → Account → List Rule
side_rules party mark t a = (full a gives 2) ∷ (barred mark a gives 3) ∷ (fewer party mark t a gives 4) ∷ (beyond party mark t a gives 5) ∷ []

unfoldable pub side_answer : Party → Mark → Trade → Account → ℕ
side_answer party mark t a = first_of (side_rules party mark t a)

-- 2 and 7 for one side of a pairing
abbrev pub paired_rules : Way → Pairing → Account → List Rule
paired_rules way p a = (full a gives 2) ∷ (scarce way p a gives 7) ∷ []

unfoldable pub paired_answer : Way → Pairing → Account → ℕ
paired_answer way p a = first_of (paired_rules way p a)

abbrev pub entry_answer : Entry → Account → ℕ
entry_answer (Buys t) a = side_answer Buyer t.buying t a
entry_answer (Sells t) a = side_answer Seller t.selling t a
entry_answer (Receives p) a = paired_answer Long p a
entry_answer (Delivers p) a = paired_answer Short p a
entry_answer (PaysIn p) a = deposit_answer p a
entry_answer (TakesOut p) a = withdrawal_answer p a
entry_answer (Pledges p) a = pledge_answer p a

abbrev pub entered : Entry → Account → Account
entered (Buys t) a = traded Buyer t.buying t a
entered (Sells t) a = traded Seller t.selling t a
entered (Receives p) a = paired_on Long p a
entered (Delivers p) a = paired_on Short p a
entered (PaysIn p) a = deposited p a
entered (TakesOut p) a = withdrawn p a
entered (Pledges p) a = pledged p a

-- the first refusal of two accounts, by rising number
abbrev pub lower : ℕ → ℕ → ℕ
lower m n = on_zero m n (on_zero n m (cond (leb m n) m n))
