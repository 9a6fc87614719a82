-- Member by member; the sums so far are those of at most 32 members.
use Rattle.std.proofs.Common.{sym, ◌∙◌, arith}
use Rattle.book.specs.Rows.{book_of}
use Rattle.validity.specs.Totals.{add_row}
use Rattle.validity.proofs.Sums.{totals_none, totals_next, totals_few}
use Rattle.validity.proofs.Facts.{position_in}
use Rattle.validity.proofs.balances.contract_totals.Goals as goal

pub loop-m-init : goal.loop-m-init
loop-m-init c =
    let z = c.default-t.ensures in
    (λ i. record {
      long = record { opening = z.0.0 i; held = z.0.1.0 i; paired = z.0.1.1 i };
      short = record { opening = z.1.0.0 i; held = z.1.0.1.0 i; paired = z.1.0.1.1 i };
      cash = z.1.1 i;
    }) ∙ sym (totals_none (book_of c.args.book.now.rows) c.args.j)

pub with-t-requires : goal.with-t-requires
with-t-requires c =
    let book = c.args.book.now in
    let b = book_of book.rows in (
      rw c.loop-m.invariant (totals_few b c.args.j book.ranged book.rows.shaped.members c.requires c.loop-m.m (omega arith)),
      rw c.position.ensures (position_in b book.ranged c.loop-m.m c.args.j c.loop-m-test.true c.requires),
    )

pub loop-m-preserved : goal.loop-m-preserved
loop-m-preserved c =
    c.with-t.ensures ∙ (λ i. add_row (c.loop-m.invariant i) (c.position.ensures i)) ∙ sym (totals_next (book_of c.args.book.now.rows) c.args.j c.loop-m.m)
