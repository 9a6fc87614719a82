-- 01, The evening program: the lines that follow those of the refused records.
use Rattle.std.specs.Prelude.{ℕ, ◌*◌, List, replicate}
use Rattle.book.specs.Layout.{most_members, longest_book}
use Rattle.tonight.specs.Given.{Given}
use Rattle.settlement.specs.Next.{result_size}
use Rattle.settlement.specs.Settle.{settle_answer, results_after}
use Rattle.intake.specs.Posted.{outcome, members_on}

-- the program's room for the next book, and for the results of as many members as a book may have
abbrev pub next_room : List ℕ
next_room = replicate longest_book 0

abbrev pub results_room : List ℕ
results_room = replicate (most_members * result_size) 0

-- the sheet of the book settled at the prices, or the line of its refusal
abbrev pub settled_text : List ℕ → List ℕ → List ℕ
settled_text book prices =
    let given : Given = record { prices = prices } in
    outcome (settle_answer book given longest_book (most_members * result_size)) (results_after book given next_room results_room) (members_on book)
