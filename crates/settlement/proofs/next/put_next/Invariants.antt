-- Each section is laid on what stood when its loop began.
use Rattle.std.proofs.Common.{◌≡◌}
use Rattle.std.proofs.lemmas.List.Edits.{sets}
use Rattle.folds.specs.Laid.{bytes_to}
use Rattle.book.specs.Layout.{contracts_start, members_start, positions_start}
use Rattle.book.specs.Rows.{book_of}
use Rattle.tonight.specs.GivenOf.{given_of}
use Rattle.settlement.specs.Next.{contract_bytes, member_bytes, positions_bytes}
use Rattle.settlement.proofs.next.put_next.Given as goal

abbrev pub invariant-loop-j : goal.invariant-loop-j
invariant-loop-j l = l.next ≡ sets l.initial.next contracts_start (bytes_to (contract_bytes (book_of l.evening.rows) (given_of l.evening)) l.j)

abbrev pub invariant-loop-m : goal.invariant-loop-m
invariant-loop-m l = l.next ≡ sets l.initial.next (members_start l.h) (bytes_to (member_bytes (book_of l.evening.rows) (given_of l.evening)) l.m)

abbrev pub invariant-loop-m-2 : goal.invariant-loop-m-2
invariant-loop-m-2 l = l.next ≡ sets l.initial.next (positions_start l.evening.rows.head) (bytes_to (positions_bytes (book_of l.evening.rows)) l.m)
