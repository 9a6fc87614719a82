-- A record's fields stand one after the other, with no gap, in its 24 bytes.
use mathlib.Core.Path.{◌≡◌, refl}
use mathlib.Core.Bool.{true}
use Rattle.folds.specs.Rows.{widths, dense}
use Rattle.requests.specs.declared.records.Record.{Record}
use Rattle.requests.specs.Records.{record_size, record_fields}

pub record_dense : (q : Record) → dense 0 (record_fields q) ≡ true
record_dense q = refl

pub record_widths : (q : Record) → widths (record_fields q) ≡ record_size
record_widths q = refl
