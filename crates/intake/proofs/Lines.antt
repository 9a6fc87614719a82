-- A record's bytes, and the book after it.
use mathlib.Core.Path.{◌≡◌}
use mathlib.Core.List.{List}
use Prim.Native.Nat.{ℕ, ◌+◌, ◌-◌, ◌*◌, ◌≤◌, min}
use native.Mathlib.Numerals.{add-one}
use native.Mathlib.Omega.{arith}
use lib.ListN.{length, take, drop, length-drop}
use Rattle.std.proofs.lemmas.List.{take_min}
use Rattle.posting.specs.Answers.{after}
use Rattle.intake.specs.Intake.{record_size, record_bytes}
use Rattle.intake.specs.Posted.{book_after}

-- from the record's start to its end, or to the end of the bytes
pub record_part : (xs : List ℕ) (i end : ℕ) → end ≡ min (i * record_size + record_size) (length xs) → i * record_size ≤ length xs → take (end - i * record_size) (drop (i * record_size) xs) ≡ record_bytes xs i
unfolding record_bytes
record_part xs i end e h =
    let d = drop (i * record_size) xs in
    let k : end - i * record_size ≡ min record_size (length d) = omega (arith, length-drop (i * record_size) xs) in
    rw k (take_min record_size d)

pub book_next : (book records : List ℕ) (i : ℕ) → book_after book records (i + 1) ≡ after (book_after book records i) (record_bytes records i)
unfolding book_after
book_next book records i = rw add-one
