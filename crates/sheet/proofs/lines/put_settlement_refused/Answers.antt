use Rattle.std.proofs.Common.{arith}
use Rattle.std.proofs.lemmas.Fmt.{length-decimal-le}
use Rattle.folds.proofs.Puts.{put_then}
use Rattle.sheet.specs.Sheet.{settlement_refused}
use Rattle.sheet.proofs.Decimals.{put_printed}
use Rattle.sheet.proofs.Sizes.{settlement_refused_most}
use Rattle.sheet.proofs.lines.put_settlement_refused.Goals as goal

pub put_ended-requires : goal.put_ended-requires
put_ended-requires c = omega (arith, length-decimal-le 3)

pub returns-clause-put : goal.returns-clause-put
unfolding settlement_refused
returns-clause-put c = put_then c.put_text-words.ensures (put_printed c.args.number _ (omega arith) c.put_ended.ensures)

pub returns-clause-upper_bound : goal.returns-clause-upper_bound
returns-clause-upper_bound c = omega (arith, (returns-clause-put c).place, settlement_refused_most c.args.number c.ranges.number.fits)
