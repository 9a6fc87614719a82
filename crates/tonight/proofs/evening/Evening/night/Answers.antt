use native.Mathlib.Nat.{le_refl}
use Rattle.book.specs.Rows.{book_of}
use Rattle.validity.proofs.RowTests.{member_in}
use Rattle.tonight.specs.GivenOf.{given_of}
use Rattle.tonight.specs.Night.{night_of}
use Rattle.tonight.proofs.Sums.{tally_few}
use Rattle.tonight.proofs.Known.{known}
use Rattle.tonight.proofs.evening.Evening.night.Goals as goal

pub night_after-requires : goal.night_after-requires
night_after-requires c =
    let e = c.args.self.now in
    let rows = e.rows in (
      rw c.member.ensures (member_in (book_of rows) e.ranged c.args.m c.requires),
      rw c.tally.ensures (tally_few rows.bytes.now (given_of e) rows.head (known e) c.args.m c.requires rows.head.contracts (le_refl rows.head.contracts)),
    )

pub returns : goal.returns
unfolding night_of
returns c = cc
