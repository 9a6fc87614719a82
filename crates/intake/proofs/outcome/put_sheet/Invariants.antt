use Rattle.std.proofs.Common.{◌+◌, ◌*◌, ◌≤◌}
use Rattle.folds.specs.Laid.{bytes_to}
use Rattle.folds.specs.Put.{Put}
use Rattle.sheet.specs.Sheet.{line_of, longest_line}
use Rattle.intake.proofs.outcome.put_sheet.Given as goal

-- after m turns the header and the lines of the first m members stand in the buffer
abbrev pub invariant-loop-m : goal.invariant-loop-m
invariant-loop-m l =
    (l.at ≤ l.initial.at + l.m * longest_line)
    × Put l.initial.lines l.lines l.initial.at (bytes_to (line_of l.results) l.m) l.at
