-- 01, Refusal numbers: the number of each refusal, and 0 where there is none.
use Rattle.std.specs.Prelude.{ℕ, Result, Ok, Err}
pub use Rattle.rules.specs.declared.refusals.Refusal.{Refusal}
pub use Rattle.rules.specs.declared.refusals.Refusal.TheVariants.{BadRecord, ManyRecords, BelowMinimum, FewLots, ManyLots, AboveRoom, FewUnpaired, BadPrices, ReserveBeyond, BadBook, ShortRoom}

abbrev pub refusal_number : Refusal → ℕ
refusal_number BadRecord = 1
refusal_number ManyRecords = 2
refusal_number BelowMinimum = 3
refusal_number FewLots = 4
refusal_number ManyLots = 5
refusal_number AboveRoom = 6
refusal_number FewUnpaired = 7
refusal_number BadPrices = 8
refusal_number ReserveBeyond = 9
refusal_number BadBook = 10
refusal_number ShortRoom = 11

-- 0 is accepted
abbrev pub answered : {A : Type 0} → Result A Refusal → ℕ
answered (Ok a) = 0
answered (Err refusal) = refusal_number refusal
