-- The next book's head, table of contents and rows read back as they were laid down.
use mathlib.Core.Path.{◌≡◌, refl, sym, ap, ◌∙◌}
use mathlib.Core.List.{List, ◌++◌, append-nil}
use Prim.{tt}
use Prim.Native.Nat.{ℕ, ◌+◌, ◌*◌, ◌%◌, ◌^◌, ◌≤◌, ◌<◌}
use native.Mathlib.Nat.{le_refl, add_assoc, mod-eq_of_lt}
use native.Mathlib.Omega.{arith}
use lib.Dec.{lit<}
use lib.ListN.{length, get_or}
use lib.Seq.{sets, length-sets, drop-length}
use Rattle.wire.specs.LittleEndian.{number_at, before}
use Rattle.folds.specs.Rows.{field, row_bytes}
use Rattle.folds.specs.Laid.{bytes_to}
use Rattle.folds.proofs.Rows.{row_back}
use Rattle.folds.proofs.Laid.{sets_over, number_stays, rows_back}
use Rattle.book.specs.declared.heads.Head.{Head}
use Rattle.book.specs.Layout.{head_size, contract_size, member_size, position_size, contracts_start, members_start, positions_start, contract_off, member_off, position_off, book_length}
use Rattle.book.specs.Heads.{head_at, total_of, entry_at, entry_off, head_fields, entry_fields, contracts_entry, members_entry, positions_entry}
use Rattle.book.specs.ContractRows.{contract_at, put_contract}
use Rattle.book.specs.Members.{member_at, put_member, kind_number_at, kind_number}
use Rattle.book.specs.Positions.{position_at, put_position}
use Rattle.book.specs.Books.{Book}
use Rattle.book.proofs.Places.{head_within, contract_within, member_within, position_within, book_most}
use Rattle.book.proofs.Rows.{Same, same_contract, same_member, same_position, ContractFits, MemberFits, PositionFits, contract_back, member_back, kind_number_back, position_back}
use Rattle.book.proofs.Contents.{same_entry_lem, entry_back}
use Rattle.tonight.specs.Given.{Given}
use Rattle.book.specs.Whole.{head_bytes}
use Rattle.settlement.specs.Next.{next_contract, next_member, next_position, contract_bytes, member_bytes, position_bytes, positions_bytes, next_bytes}
use Rattle.settlement.proofs.Sizes.{contract_size_lem, member_size_lem, position_size_lem, positions_size}
use Rattle.settlement.proofs.Parts.{head_parts, next_parts, next_length}

module _ (b : Book) (given : Given) where
  abbrev h : Head
  h = b.head

  abbrev whole : List ℕ
  whole = next_bytes b given

  -- the whole, part after part
  abbrev headed : List ℕ
  headed = sets whole 0 (head_bytes h)

  abbrev listed : List ℕ
  listed = sets headed contracts_start (bytes_to (contract_bytes b given) h.contracts)

  abbrev owned : List ℕ
  owned = sets listed (members_start h) (bytes_to (member_bytes b given) h.members)

  laid : sets owned (positions_start h) (bytes_to (positions_bytes b) h.members) ≡ whole
  laid =
      next_parts b given whole ∙ sets_over whole whole (le_refl (length whole))
      ∙ ap (λ (l : List ℕ). whole ++ l) (drop-length whole) ∙ append-nil whole

  -- what stands before the positions, the members and the contracts
  before_positions : (off w : ℕ) → off + w ≤ positions_start h → number_at whole off w ≡ number_at owned off w
  before_positions off w l =
      ap (λ (xs : List ℕ). number_at xs off w) (sym laid) ∙ number_stays owned (positions_start h) (bytes_to (positions_bytes b) h.members) off w (before l)

  before_members : (off w : ℕ) → off + w ≤ members_start h → number_at whole off w ≡ number_at listed off w
  before_members off w l =
      before_positions off w (omega arith) ∙ number_stays listed (members_start h) (bytes_to (member_bytes b given) h.members) off w (before l)

  before_contracts : (off w : ℕ) → off + w ≤ contracts_start → number_at whole off w ≡ number_at headed off w
  before_contracts off w l =
      before_members off w (omega arith) ∙ number_stays headed contracts_start (bytes_to (contract_bytes b given) h.contracts) off w (before l)

  -- ---- rows

  pub next_contract_lem : (j : ℕ) → j < h.contracts → ContractFits (next_contract b given j) → contract_at whole (contract_off j) ≡ next_contract b given j
  unfolding contract_off put_contract
  next_contract_lem j l f =
      let f' = contract_bytes b given in
      let before_row = sets headed contracts_start (bytes_to f' j) in
      same_contract whole (put_contract before_row (contract_off j) (next_contract b given j)) (contract_off j)
      (λ at w q. before_members (contract_off j + at) w (omega arith) ∙ rows_back headed contracts_start contract_size f' (contract_size_lem b given) h.contracts j l at w q)
      ∙ contract_back before_row (contract_off j) (next_contract b given j) (simp length-sets (omega (arith, next_length b given, contract_within h j l))) f

  module _ (m : ℕ) (l : m < h.members) where
    abbrev before_row : List ℕ
    before_row = sets listed (members_start h) (bytes_to (member_bytes b given) m)

    room : member_off h m + member_size ≤ length before_row
    room = simp length-sets (omega (arith, next_length b given, member_within h m l))

    member_same : Same whole (put_member before_row (member_off h m) (next_member b given m)) (member_off h m) member_size
    unfolding member_off put_member
    member_same at w q =
        before_positions (member_off h m + at) w (omega arith) ∙ rows_back listed (members_start h) member_size (member_bytes b given) (member_size_lem b given) h.members m l at w q

    pub next_member_lem : MemberFits (next_member b given m) → member_at whole (member_off h m) ≡ next_member b given m
    next_member_lem f =
        same_member whole (put_member before_row (member_off h m) (next_member b given m)) (member_off h m) member_same
        ∙ member_back before_row (member_off h m) (next_member b given m) room f

    pub next_kind : kind_number_at whole (member_off h m) ≡ kind_number (b.member m).kind
    next_kind = member_same 0 4 (omega arith) ∙ kind_number_back before_row (member_off h m) (next_member b given m) room

    -- a member's rows begin here
    abbrev start : ℕ
    start = positions_start h + m * (h.contracts * position_size)

    abbrev before_rows : List ℕ
    before_rows = sets owned (positions_start h) (bytes_to (positions_bytes b) m)

    pub next_position_lem : (j : ℕ) → j < h.contracts → PositionFits (next_position b m j) → position_at whole (position_off h m j) ≡ next_position b m j
    unfolding position_off put_position
    next_position_lem j q f =
        same_position whole (put_position kept (position_off h m j) (next_position b m j)) (position_off h m j) same
        ∙ position_back kept (position_off h m j) (next_position b m j) (simp length-sets (omega (arith, next_length b given, position_within h m j l q))) f
      where
        kept : List ℕ
        kept = sets before_rows start (bytes_to (position_bytes b m) j)

        size : ℕ
        size = h.contracts * position_size

        same : Same whole (put_position kept (position_off h m j) (next_position b m j)) (position_off h m j) position_size
        same at w p =
            let e : start + j * position_size + at ≡ start + (j * position_size + at) = add_assoc start (j * position_size) at in
            ap (λ (xs : List ℕ). number_at xs (start + j * position_size + at) w) (sym laid)
            ∙ ap (λ (o : ℕ). number_at (sets owned (positions_start h) (bytes_to (positions_bytes b) h.members)) o w) e
            ∙ rows_back owned (positions_start h) size (positions_bytes b) (positions_size b) h.members m l (j * position_size + at) w (omega arith)
            ∙ ap (λ (o : ℕ). number_at (sets before_rows start (positions_bytes b m)) o w) (sym e)
            ∙ rows_back before_rows start position_size (position_bytes b m) (position_size_lem b m) h.contracts j q at w p

  -- ---- the head and the table of contents

  abbrev counted : List ℕ
  counted = sets whole 0 (row_bytes (head_fields h))

  abbrev first : List ℕ
  first = sets counted (entry_off 0) (row_bytes (entry_fields contracts_entry))

  abbrev second : List ℕ
  second = sets first (entry_off 1) (row_bytes (entry_fields (members_entry h)))

  abbrev third : List ℕ
  third = sets second (entry_off 2) (row_bytes (entry_fields (positions_entry h)))

  in_head : (off w : ℕ) → off + w ≤ head_size → number_at whole off w ≡ number_at third off w
  in_head off w l = before_contracts off w l ∙ ap (λ (xs : List ℕ). number_at xs off w) (sym (head_parts h whole))

  in_second : (off w : ℕ) → off + w ≤ entry_off 2 → number_at whole off w ≡ number_at second off w
  in_second off w l = in_head off w (omega arith) ∙ number_stays second (entry_off 2) (row_bytes (entry_fields (positions_entry h))) off w (before l)

  in_first : (off w : ℕ) → off + w ≤ entry_off 1 → number_at whole off w ≡ number_at first off w
  in_first off w l = in_second off w (omega arith) ∙ number_stays first (entry_off 1) (row_bytes (entry_fields (members_entry h))) off w (before l)

  in_counts : (off w : ℕ) → off + w ≤ entry_off 0 → number_at whole off w ≡ number_at counted off w
  in_counts off w l = in_first off w (omega arith) ∙ number_stays counted (entry_off 0) (row_bytes (entry_fields contracts_entry)) off w (before l)

  module _ (few : h.members ≤ 32) (some : h.contracts ≤ 32) where
    count_back : (i : ℕ) → i < length (head_fields h) → let f = get_or (head_fields h) i (field 0 0 0) in number_at counted (0 + f.at) f.width ≡ f.value % 256 ^ f.width
    count_back = row_back (head_fields h) whole 0 refl (omega (arith, next_length b given, head_within h))

    pub next_head : head_at whole ≡ h
    unfolding head_at
    next_head i = record {
      members = (in_counts 0 2 (omega arith) ∙ count_back 0 (lit< tt) ∙ mod-eq_of_lt (omega arith)) i;
      contracts = (in_counts 2 2 (omega arith) ∙ count_back 1 (lit< tt) ∙ mod-eq_of_lt (omega arith)) i;
    }

    pub next_total : total_of whole ≡ book_length h
    next_total = in_counts 4 4 (omega arith) ∙ count_back 2 (lit< tt) ∙ mod-eq_of_lt (omega (arith, book_most h few some))

    pub next_contracts_entry : entry_at whole (entry_off 0) ≡ contracts_entry
    next_contracts_entry =
        same_entry_lem whole first (entry_off 0) (λ at w l. in_first (entry_off 0 + at) w (omega arith))
        ∙ entry_back counted (entry_off 0) contracts_entry (simp length-sets (omega (arith, next_length b given, head_within h))) (record { section = lit< tt; size = lit< tt; start = lit< tt })

    pub next_members_entry : entry_at whole (entry_off 1) ≡ members_entry h
    next_members_entry =
        same_entry_lem whole second (entry_off 1) (λ at w l. in_second (entry_off 1 + at) w (omega arith))
        ∙ entry_back first (entry_off 1) (members_entry h) (simp length-sets (omega (arith, next_length b given, head_within h))) (record { section = lit< tt; size = lit< tt; start = omega arith })

    pub next_positions_entry : entry_at whole (entry_off 2) ≡ positions_entry h
    next_positions_entry =
        same_entry_lem whole third (entry_off 2) (λ at w l. in_head (entry_off 2 + at) w (omega arith))
        ∙ entry_back second (entry_off 2) (positions_entry h) (simp length-sets (omega (arith, next_length b given, head_within h))) (record { section = lit< tt; size = lit< tt; start = omega arith })
