-- The head, and the three sections row by row.
use Rattle.std.proofs.Common.{◌≡◌, ◌*◌, refl, arith}
use Rattle.numbers.specs.Fold.{fold_to}
use Rattle.folds.proofs.Laid.{sets_step}
use Rattle.book.specs.Layout.{contracts_start, members_start, positions_start, contract_size, member_size, position_size, contract_off, member_off}
use Rattle.book.specs.ContractRows.{put_contract}
use Rattle.book.specs.Members.{put_member}
use Rattle.book.specs.Rows.{book_of}
use Rattle.book.proofs.Places.{head_within, contract_within, member_within}
use Rattle.tonight.specs.GivenOf.{given_of}
use Rattle.settlement.specs.Next.{contract_bytes, member_bytes, positions_bytes}
use Rattle.settlement.proofs.Parts.{next_parts}
use Rattle.settlement.proofs.Sizes.{contract_size_lem, member_size_lem, positions_size}
use Rattle.settlement.proofs.next.put_next.Goals as goal

pub put_head-requires : goal.put_head-requires
put_head-requires c = omega (arith, head_within c.args.evening.now.rows.head)

-- ---- contracts

pub loop-j-init : goal.loop-j-init
unfolding fold_to
loop-j-init c = refl

pub put_contract-requires : goal.put_contract-requires
put_contract-requires c = omega (arith, contract_within c.args.evening.now.rows.head c.loop-j.j (omega arith))

pub loop-j-preserved : goal.loop-j-preserved
unfolding contract_off put_contract
loop-j-preserved c =
    let e = c.args.evening.now in
    let b = book_of e.rows in
    rw (c.put_contract.ensures, c.loop-j.invariant, c.contract_off.ensures, c.next_contract.ensures)
    (sets_step c.put_head.new.next contracts_start contract_size (contract_bytes b (given_of e)) (contract_size_lem b (given_of e)) c.loop-j.j)

-- ---- members

pub loop-m-init : goal.loop-m-init
unfolding fold_to
loop-m-init c = refl

pub put_member-requires : goal.put_member-requires
put_member-requires c = omega (arith, member_within c.args.evening.now.rows.head c.loop-m.m (omega arith))

pub loop-m-preserved : goal.loop-m-preserved
unfolding member_off put_member
loop-m-preserved c =
    let e = c.args.evening.now in
    let b = book_of e.rows in
    rw (c.put_member.ensures, c.loop-m.invariant, c.member_off.ensures, c.next_member.ensures)
    (sets_step c.loop-j.next (members_start b.head) member_size (member_bytes b (given_of e)) (member_size_lem b (given_of e)) c.loop-m.m)

-- ---- positions, as many rows to a member as there are contracts

pub loop-m-2-init : goal.loop-m-2-init
unfolding fold_to
loop-m-2-init c = refl

pub loop-m-2-preserved : goal.loop-m-2-preserved
loop-m-2-preserved c =
    let b = book_of c.args.evening.now.rows in
    cc (sets_step c.loop-m.next (positions_start b.head) (b.head.contracts * position_size) (positions_bytes b) (positions_size b) c.loop-m-2.m)

pub returns : goal.returns
returns c =
    let e = c.args.evening.now in
    let b = book_of e.rows in
    let given = given_of e in
    let contracts : c.loop-j.j ≡ b.head.contracts = omega arith in
    let members : c.loop-m.m ≡ b.head.members = omega arith in
    let positions : c.loop-m-2.m ≡ b.head.members = omega arith in
    cc (next_parts b given c.args.next.now)
