-- The order of records that name no common member does not matter to the evening either: the books that it starts from are equal.
use Prim.Native.Nat.{ℕ}
use mathlib.Core.Path.{ap}
use mathlib.Core.List.{List, []}
use lib.ListN.{length}
use Rattle.order.specs.Order.{Arranged}
use Rattle.tonight.specs.Given.{Given}
use Rattle.settlement.specs.Settle.{settle_answer, next_after, results_after}
use Rattle.promises.specs.Naming.{Common}
use Rattle.promises.specs.SameDay.{SameEvening}
use Rattle.promises.proofs.OrderOfRecords.{order_of_records}

pub evening_of_records : (book : List ℕ) (records other : List (List ℕ)) (to : ℕ → ℕ) → Arranged (Common book) [] records other to
    → (given : Given) (next results : List ℕ) → SameEvening book records other given next results
evening_of_records book records other to arranged given next results =
    let end = (order_of_records book records other to arranged).end in
    record {
      answer = ap (λ (xs : List ℕ). settle_answer xs given (length next) (length results)) end;
      next_book = ap (λ (xs : List ℕ). next_after xs given next results) end;
      sheet = ap (λ (xs : List ℕ). results_after xs given next results) end;
    }
