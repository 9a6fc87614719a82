use Rattle.std.proofs.Common.{◌≡◌, ◌*◌, ◌≤◌}
use Rattle.folds.specs.Put.{Put}
use Rattle.sheet.specs.Sheet.{longest_refused}
use Rattle.intake.specs.Posted.{book_after, lines_to}
use Rattle.intake.proofs.records.post_records.Given as goal

-- after i turns the book is the one after the first i records, and their lines stand in the buffer
abbrev pub invariant-loop-i : goal.invariant-loop-i
invariant-loop-i l =
    (l.at ≤ l.i * longest_refused)
    × (l.book ≡ book_after l.initial.book l.records l.i)
    × Put l.initial.lines l.lines 0 (lines_to l.initial.book l.records l.place l.i) l.at
