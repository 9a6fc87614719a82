use Rattle.folds.specs.Laid.{bytes_to}
use Rattle.folds.specs.Put.{Put}
use Rattle.sheet.specs.Ascii.{space}
use Rattle.sheet.proofs.Sizes.{ended}
use Rattle.sheet.proofs.lines.put_line.Given as goal

abbrev pub invariant-loop-field : goal.invariant-loop-field
invariant-loop-field l = Put l.initial.buffer l.buffer l.at (bytes_to (ended space l.results l.m) l.field) l.next
