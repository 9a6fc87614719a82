use Rattle.tonight.specs.GivenOf.{given_of}
use Rattle.tonight.specs.Night.{tally_in}
use Rattle.tonight.proofs.Facts.{rows_in}
use Rattle.tonight.proofs.Known.{known}
use Rattle.tonight.proofs.evening.Evening.tally_in.Goals as goal

pub contract_tally-requires : goal.contract_tally-requires
contract_tally-requires c =
    let e = c.args.self.now in
    rw (c.prices_at.ensures, c.contract.ensures, c.position-p.ensures) (rows_in e.rows.bytes.now (given_of e) e.rows.head (known e) c.args.m c.args.j c.requires.0 c.requires.1)

pub returns : goal.returns
unfolding tally_in
returns c = cc
