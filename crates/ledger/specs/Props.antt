-- What is known of an entry is a plain fact, so that a struct may hold it.
use Rattle.std.proofs.Props.{props}
use Rattle.posting.specs.declared.accounts.Entry.{Entry}
use Rattle.posting.specs.declared.accounts.Entry.TheVariants.{Buys, Sells, Receives, Delivers, PaysIn, TakesOut, Pledges}
use Rattle.posting.specs.Ranges.{EntryIn}

pub entry_is_fact : (e : Entry) → IsProp (EntryIn e)
entry_is_fact (Buys t) = hlevel props
entry_is_fact (Sells t) = hlevel props
entry_is_fact (Receives p) = hlevel props
entry_is_fact (Delivers p) = hlevel props
entry_is_fact (PaysIn p) = hlevel props
entry_is_fact (TakesOut p) = hlevel props
entry_is_fact (Pledges p) = hlevel props
