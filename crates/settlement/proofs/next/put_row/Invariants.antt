use Rattle.std.proofs.Common.{◌≡◌, ◌+◌, ◌*◌}
use Rattle.std.proofs.lemmas.List.Edits.{sets}
use Rattle.folds.specs.Laid.{bytes_to}
use Rattle.book.specs.Layout.{positions_start, position_size}
use Rattle.book.specs.Rows.{book_of}
use Rattle.settlement.specs.Next.{position_bytes}
use Rattle.settlement.proofs.next.put_row.Given as goal

abbrev pub invariant-loop-j : goal.invariant-loop-j
invariant-loop-j l = l.next ≡ sets l.initial.next (positions_start l.h + l.m * (l.h.contracts * position_size)) (bytes_to (position_bytes (book_of l.evening.rows) l.m) l.j)
