-- What the ghost fields of an evening say, as one record.
use Rattle.tonight.specs.Evening.{Evening}
use Rattle.tonight.specs.GivenOf.{given_of}

pub known : (e : Rattle.tonight.specs.declared.evening.Evening.Evening) → Evening e.rows.bytes.now (given_of e) e.rows.head
known e = record { shaped = e.rows.shaped; ranged = e.ranged; priced = e.priced }
