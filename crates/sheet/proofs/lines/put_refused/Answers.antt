use Rattle.std.proofs.Common.{arith, sym}
use Rattle.std.proofs.lemmas.Fmt.{length-decimal-le}
use Rattle.folds.proofs.Puts.{put_same, put_then, put_after}
use Rattle.sheet.proofs.Decimals.{put_printed}
use Rattle.sheet.proofs.Sizes.{refused_is, refused_most}
use Rattle.sheet.proofs.lines.put_refused.Goals as goal

pub put_ended-both-requires : goal.put_ended-both-requires
put_ended-both-requires c = omega (arith, length-decimal-le 20)

pub put_ended-requires : goal.put_ended-requires
put_ended-requires c =
    omega (arith, put_after _ _ c.put_ended-both.ensures, length-decimal-le 20 c.args.place, length-decimal-le 3 c.args.number)

pub returns-clause-put : goal.returns-clause-put
returns-clause-put c =
    put_same (sym (refused_is c.args.place c.args.number))
    (put_then c.put_text-word.ensures
    (put_then (put_printed c.args.place _ c.ranges.place.fits c.put_ended-both.ensures) (put_printed c.args.number _ (omega arith) c.put_ended.ensures)))

pub returns-clause-upper_bound : goal.returns-clause-upper_bound
returns-clause-upper_bound c = omega (arith, (returns-clause-put c).place, refused_most c.args.place c.args.number c.ranges.place.fits c.ranges.number.fits)
