use Rattle.std.proofs.Common.{refl}
use Rattle.folds.proofs.Rows.{row_placed}
use Rattle.book.specs.Layout.{member_size}
use Rattle.book.specs.Members.{member_fields, put_member}
use Rattle.book.proofs.members.put_member.Goals as goal

pub returns : goal.returns
unfolding put_member
returns c =
    let row = rw c.unwrap-row.ensures at c.first_chunk_mut.ensures.cases in
    cc (row.same, row_placed (member_fields c.args.r) c.args.s.now c.args.off member_size refl refl c.requires)
