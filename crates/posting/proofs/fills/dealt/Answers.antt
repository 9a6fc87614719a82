use Rattle.posting.specs.Fills.{way_of}
use Rattle.posting.proofs.Sides.{side_in}
use Rattle.posting.proofs.fills.dealt.Goals as goal

pub invariant_of-fill : goal.invariant_of-fill
invariant_of-fill c = record {
  few = c.requires.2;
  side_in = rw (c.side.ensures, c.way-way.ensures) (side_in (way_of c.args.party c.args.mark) c.args.p c.requires.0.long c.requires.0.short);
}
