-- Either side of a position is in range where both are.
use Rattle.book.specs.declared.positions.Position.{Position}
use Rattle.validity.specs.Totals.{SideIn}
use Rattle.posting.specs.Fills.{Way, Long, Short, side_on}

pub side_in : (way : Way) (p : Position) → SideIn p.long → SideIn p.short → SideIn (side_on way p)
side_in Long p l s = l
side_in Short p l s = s
