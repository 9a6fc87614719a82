-- Contract by contract; the totals so far are those of at most 32 contracts.
use Rattle.std.proofs.Common.{sym, ◌∙◌, arith}
use Rattle.book.specs.Rows.{book_of}
use Rattle.tonight.specs.GivenOf.{given_of}
use Rattle.tonight.proofs.Sums.{tally_none, tally_next, tally_at, tally_few}
use Rattle.tonight.proofs.Known.{known}
use Rattle.tonight.proofs.evening.Evening.tally.Goals as goal

pub loop-j-init : goal.loop-j-init
loop-j-init c =
    let z = c.default-t.ensures in
    (λ i. record { profit = record { 0 = z.0 i }; fee = record { 0 = z.1.0 i }; margin = record { 0 = z.1.1 i } }) ∙ sym (tally_none (book_of c.args.self.now.rows) (given_of c.args.self.now) c.args.m)

pub with-t-requires : goal.with-t-requires
with-t-requires c =
    let e = c.args.self.now in
    let rows = e.rows in (
      rw c.loop-j.invariant (tally_few rows.bytes.now (given_of e) rows.head (known e) c.args.m c.requires c.loop-j.j (omega arith)),
      rw c.tally_in.ensures (tally_at rows.bytes.now (given_of e) rows.head (known e) c.args.m c.requires c.loop-j.j c.loop-j-test.true),
    )

pub loop-j-preserved : goal.loop-j-preserved
loop-j-preserved c = cc (tally_next (book_of c.args.self.now.rows) (given_of c.args.self.now) c.args.m c.loop-j.j)
