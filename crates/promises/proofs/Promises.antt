-- Each promise, by the theorem that proves it.
use mathlib.Core.Path.{sym, ◌∙◌}
use Rattle.morning.proofs.Morning as morning
use Rattle.promises.specs.Promises.{Kept, OnlyTheNamed, RefusedChangesNothing, AcceptedMakes, Counted, TradedCounted, Order, EveningAfterOrder, Profit, SomePairing, ProfitOnTheSheet, NextMorning, EveryMorning, DayAfterDay, OneCheck, OnePosting, OneSettlement}
use Rattle.promises.proofs.Kept as kept
use Rattle.promises.proofs.OnlyNamed.{untouched, refused_stays, accepted_makes}
use Rattle.promises.proofs.Counted.{accepted_counts, traded_counts}
use Rattle.promises.proofs.OrderOfRecords.{order_of_records}
use Rattle.promises.proofs.EveningOfRecords.{evening_of_records}
use Rattle.promises.proofs.ProfitOfRecords.{the_profit, a_profit}
use Rattle.promises.proofs.ProfitOnTheSheet.{profit_on_the_sheet}
use Rattle.promises.proofs.NextDay.{every_morning, every_evening}

pub always_kept : Kept
always_kept = kept.kept

pub only_the_named : OnlyTheNamed
only_the_named = untouched

pub refused_changes_nothing : RefusedChangesNothing
refused_changes_nothing = refused_stays

pub accepted : AcceptedMakes
accepted = accepted_makes

pub counted : Counted
counted = accepted_counts

pub traded_counted : TradedCounted
traded_counted = traded_counts

pub order : Order
order = order_of_records

pub evening_after_order : EveningAfterOrder
evening_after_order = evening_of_records

pub profit : Profit
profit book records tonight delivery m opening l sum by = the_profit book records opening tonight delivery m l by

pub some_pairing : SomePairing
some_pairing book records tonight delivery m opening l = a_profit book records opening tonight delivery m l

pub sheet : ProfitOnTheSheet
sheet = profit_on_the_sheet

pub next_morning : NextMorning
next_morning = morning.next_morning

pub each_morning : EveryMorning
each_morning = every_morning

pub day_after_day : DayAfterDay
day_after_day = every_evening

pub one_check : OneCheck
one_check book number other a b = a ∙ sym b

pub one_posting : OnePosting
one_posting book r number other left left' a b = (a.answered ∙ sym b.answered, a.bytes ∙ sym b.bytes)

pub one_settlement : OneSettlement
one_settlement book given next results number other left left' written written' a b = (a.answered ∙ sym b.answered, a.book_bytes ∙ sym b.book_bytes, a.sheet_bytes ∙ sym b.sheet_bytes)
