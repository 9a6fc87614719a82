-- A refusal leaves the account as it stood, an accepted entry makes the account stated, and two accounts refuse by the lower number.
use mathlib.Core.Path.{◌≡◌, refl}
use mathlib.Core.Bool.{true}
use borrow.Author.Tests.{not-false}
use mathlib.Core.List.{[], ◌∷◌}
use Rattle.folds.proofs.First.{none_holds}
use Rattle.book.specs.declared.accounts.Account.{Account}
use Rattle.requests.specs.declared.records.Mark.{Mark}
use Rattle.requests.specs.declared.records.Trade.{Trade}
use Rattle.requests.specs.declared.records.Pairing.{Pairing}
use Rattle.posting.specs.Fills.{Party, Buyer, Seller, Long, Short, way_of, side_on, enough}
use Rattle.posting.specs.Postings.{full, barred, fewer, beyond, scarce, trade_answer, pairing_answer}
use Rattle.posting.proofs.Rising.{first_in_turn}
use Rattle.posting.specs.Entries.{Buys, Sells, Receives, Delivers, side_rules, side_answer, paired_answer, entry_answer, lower}

-- an accepted side of a trade finds enough lots under its mark
pub has_enough : (party : Party) (mark : Mark) (t : Trade) (a : Account) → side_answer party mark t a ≡ 0 → enough mark t.lots.0 (side_on (way_of party mark) a.position) ≡ true
unfolding side_answer
has_enough party mark t a e = not-false (enough mark t.lots.0 (side_on (way_of party mark) a.position)) (none_holds (side_rules party mark t a) refl e 2)

-- the first rule of two accounts is the lower of the accounts' own first rules
pub trade_lower : (t : Trade) (a b : Account) → trade_answer t a b ≡ lower (entry_answer (Buys t) a) (entry_answer (Sells t) b)
unfolding trade_answer side_answer
trade_lower t a b =
    first_in_turn 0
    (record { one = full a; other = full b; number = 2 }
    ∷ record { one = barred t.buying a; other = barred t.selling b; number = 3 }
    ∷ record { one = fewer Buyer t.buying t a; other = fewer Seller t.selling t b; number = 4 }
    ∷ record { one = beyond Buyer t.buying t a; other = beyond Seller t.selling t b; number = 5 }
    ∷ []) refl

pub pairing_lower : (p : Pairing) (a b : Account) → pairing_answer p a b ≡ lower (entry_answer (Receives p) a) (entry_answer (Delivers p) b)
unfolding pairing_answer paired_answer
pairing_lower p a b = first_in_turn 0 (record { one = full a; other = full b; number = 2 } ∷ record { one = scarce Long p a; other = scarce Short p b; number = 7 } ∷ []) refl
