use Rattle.book.specs.Rows.{book_of}
use Rattle.validity.proofs.Facts.{position_in}
use Rattle.tonight.proofs.Facts.{paired_held}
use Rattle.settlement.proofs.next.next_position.Goals as goal

pub held_sides-requires : goal.held_sides-requires
held_sides-requires c =
    let e = c.args.evening.now in
    rw c.position-p.ensures (position_in (book_of e.rows) e.ranged c.args.m c.args.j c.requires.0 c.requires.1)

pub remaining-requires : goal.remaining-requires
remaining-requires c =
    let e = c.args.evening.now in
    rw (c.held_sides.ensures, c.paired_sides.ensures, c.position-p.ensures) (paired_held _ (position_in (book_of e.rows) e.ranged c.args.m c.args.j c.requires.0 c.requires.1))
