-- Two lists of records, one record standing twice, to which the order theorem applies, and their outcome.
use mathlib.Core.Path.{◌≡◌, refl, subst}
use mathlib.Core.List.Memᴰ
use mathlib.Core.List.{List, [], ◌∷◌, Memᴰ}
use Prim.Native.Nat.{ℕ}
use native.Mathlib.Omega.{arith}
use Rattle.wire.specs.LittleEndian.{number_at, bytes_of}
use Rattle.order.specs.Order.{Arranged}
use Rattle.order.proofs.Swapped.{swap, first_two}
use Rattle.book.specs.Layout.{book_length}
use Rattle.book.specs.Heads.{head_at}
use Rattle.book.specs.Whole.{head_bytes}
use Rattle.requests.specs.Records.{record_at, read_deposit, read_withdrawal, read_kind, request_of}
use Rattle.promises.specs.Naming.{named, Common}
use Rattle.promises.specs.SameDay.{SameRun}
use Rattle.promises.specs.SmallBook.{morning, trade, deposit, withdrawal}
use Rattle.promises.proofs.OrderOfRecords.{order_of_records}

-- member 1 deposits, member 0 withdraws, the two trade, and member 1 deposits again
abbrev pub one_way : List (List ℕ)
one_way = deposit ∷ withdrawal ∷ trade ∷ deposit ∷ []

abbrev pub other_way : List (List ℕ)
other_way = withdrawal ∷ deposit ∷ trade ∷ deposit ∷ []

deposit_names : named morning deposit ≡ 1 ∷ []
unfolding head_at number_at bytes_of head_bytes book_length request_of read_kind read_deposit record_at
deposit_names = refl

withdrawal_names : named morning withdrawal ≡ 0 ∷ []
unfolding head_at number_at bytes_of head_bytes book_length request_of read_kind read_withdrawal record_at
withdrawal_names = refl

nobody_both : ¬ Common morning deposit withdrawal
nobody_both c =
    let e = Memᴰ.eq_of_singleton (subst (Memᴰ c.0) deposit_names c.1) in
    let f = Memᴰ.eq_of_singleton (subst (Memᴰ c.0) withdrawal_names c.2) in
    omega arith

pub arranged_example : Arranged (Common morning) [] one_way other_way swap
arranged_example = first_two (Common morning) [] deposit withdrawal (trade ∷ deposit ∷ []) nobody_both

pub same_example : SameRun morning one_way other_way swap
same_example = order_of_records morning one_way other_way swap arranged_example
