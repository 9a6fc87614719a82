-- The head and the table of contents: the same bytes are read as the same, and an entry that was laid down reads back.
use mathlib.Core.Path.{◌≡◌, refl, ◌∙◌}
use mathlib.Core.List.{List}
use Prim.{tt}
use Prim.Native.Nat.{ℕ, ◌+◌, ◌^◌, ◌≤◌, ◌<◌}
use native.Mathlib.Nat.{zero-add, mod-eq_of_lt}
use native.Mathlib.Omega.{arith}
use lib.Dec.{lit<}
use lib.ListN.{length}
use lib.Seq.{sets}
use Rattle.folds.specs.Rows.{row_bytes}
use Rattle.folds.proofs.Rows.{row_back}
use Rattle.book.specs.Layout.{head_size, entry_size, section_at, row_size_at, offset_at, members_at, contracts_at}
use Rattle.book.specs.Heads.{Entry, head_at, entry_at, entry_fields}
use Rattle.book.proofs.Rows.{Same}

pub same_head : (ys xs : List ℕ) → Same ys xs 0 head_size → head_at ys ≡ head_at xs
unfolding head_at
same_head ys xs s = rw (s members_at 2 (omega arith), s contracts_at 2 (omega arith))

pub same_entry_lem : (ys xs : List ℕ) (o : ℕ) → Same ys xs o entry_size → entry_at ys o ≡ entry_at xs o
unfolding entry_at
same_entry_lem ys xs o s = rw (s section_at 2 (omega arith), s row_size_at 2 (omega arith), s offset_at 4 (omega arith))

-- an entry of the table of contents within the head
pub same_within : (ys xs : List ℕ) → Same ys xs 0 head_size → (o : ℕ) → o + entry_size ≤ head_size → entry_at ys o ≡ entry_at xs o
same_within ys xs s o l = same_entry_lem ys xs o (λ at w q. rw zero-add at (s (o + at) w (omega arith)))

pub record EntryFits (e : Entry) : Type 0 where
  pub section : e.section < 2 ^ 16
  pub size : e.size < 2 ^ 16
  pub start : e.start < 2 ^ 32

pub entry_back : (xs : List ℕ) (o : ℕ) (e : Entry) → o + entry_size ≤ length xs → EntryFits e → entry_at (sets xs o (row_bytes (entry_fields e))) o ≡ e
unfolding entry_at
entry_back xs o e h f =
    let g = row_back (entry_fields e) xs o refl h in
    λ i. record {
      section = (g 0 (lit< tt) ∙ mod-eq_of_lt f.section) i;
      size = (g 1 (lit< tt) ∙ mod-eq_of_lt f.size) i;
      start = (g 2 (lit< tt) ∙ mod-eq_of_lt f.start) i;
    }
