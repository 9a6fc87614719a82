-- Records that are posted piece by piece are posted as if they were one piece: the same lines, and the same book. The program may part its input between any two records.
use mathlib.Core.Path.{◌≡◌, refl, ap, ap₂, ◌∙◌}
use mathlib.Core.List.{List, ◌++◌, append_assoc, append-nil}
use Prim.Native.Nat.{ℕ, zero, suc, ◌+◌, ◌*◌, ◌≤◌, ◌<◌}
use native.Mathlib.Nat.{add-zero, add-suc}
use native.Mathlib.Omega.{arith}
use lib.ListN.{length, take, drop, length-append, length-drop}
use lib.Seq.{take-append-le, drop-append-le, drop-append-add}
use Rattle.numbers.specs.Fold.{fold_to}
use Rattle.folds.specs.Laid.{bytes_to}
use Rattle.folds.proofs.Laid.{bytes_ext}
use Rattle.posting.specs.Answers.{answer, after}
use Rattle.intake.specs.Intake.{record_size, records_in, record_bytes}
use Rattle.intake.specs.Posted.{book_after, answer_to, answer_line, lines_to, refused_lines, book_posted}

bytes_split : (f : ℕ → List ℕ) (m n : ℕ) → bytes_to f (m + n) ≡ bytes_to f m ++ bytes_to (λ (i : ℕ). f (m + i)) n
unfolding fold_to
bytes_split f m zero = rw (add-zero m, append-nil (bytes_to f m))
bytes_split f m (suc n) = rw (add-suc m n, bytes_split f m n, append_assoc)

-- m whole records, and what follows them
module _ (book first rest : List ℕ) (m : ℕ) (whole : length first ≡ m * record_size) where
  record_first : (i : ℕ) → i < m → record_bytes (first ++ rest) i ≡ record_bytes first i
  unfolding record_bytes
  record_first i h =
      ap (take record_size) (drop-append-le (i * record_size) first rest (omega arith))
      ∙ take-append-le record_size (drop (i * record_size) first) rest (omega (arith, length-drop (i * record_size) first))

  record_rest : (i : ℕ) → record_bytes (first ++ rest) (m + i) ≡ record_bytes rest i
  unfolding record_bytes
  record_rest i =
      let e : (m + i) * record_size ≡ length first + i * record_size = omega arith in
      rw (e, drop-append-add first rest (i * record_size))

  book_first : (n : ℕ) → n ≤ m → book_after book (first ++ rest) n ≡ book_after book first n
  unfolding book_after
  book_first zero h = refl
  book_first (suc n) h = ap₂ after (book_first n (omega arith)) (record_first n (omega arith))

  book_rest : (n : ℕ) → book_after book (first ++ rest) (m + n) ≡ book_after (book_after book first m) rest n
  unfolding book_after
  book_rest zero = ap (book_after book (first ++ rest)) (add-zero m) ∙ book_first m (omega arith)
  book_rest (suc n) = rw (add-suc m n) (ap₂ after (book_rest n) (record_rest n))

  answer_first : (i : ℕ) → i < m → answer_to book (first ++ rest) i ≡ answer_to book first i
  unfolding answer_to
  answer_first i h = ap₂ answer (book_first i (omega arith)) (record_first i h)

  answer_rest : (i : ℕ) → answer_to book (first ++ rest) (m + i) ≡ answer_to (book_after book first m) rest i
  unfolding answer_to
  answer_rest i = ap₂ answer (book_rest i) (record_rest i)

  lines_both : (place n : ℕ) → lines_to book (first ++ rest) place (m + n) ≡ lines_to book first place m ++ lines_to (book_after book first m) rest (place + m) n
  lines_both place n =
      bytes_split (λ (i : ℕ). answer_line (place + i) (answer_to book (first ++ rest) i)) m n
      ∙ ap₂ ◌++◌
      (bytes_ext _ _ m (λ i h. ap (answer_line (place + i)) (answer_first i h)))
      (bytes_ext _ _ n (λ i h. let e : place + (m + i) ≡ place + m + i = omega arith in ap₂ answer_line e (answer_rest i)))

  in_first : records_in (length first) ≡ m
  in_first = omega arith

  in_both : records_in (length (first ++ rest)) ≡ m + records_in (length rest)
  in_both = omega (arith, length-append first rest)

  pub pieces_book : book_posted book (first ++ rest) ≡ book_posted (book_posted book first) rest
  pieces_book = rw (in_both, in_first) (book_rest (records_in (length rest)))

  pub pieces_lines : (place : ℕ) → refused_lines book (first ++ rest) place ≡ refused_lines book first place ++ refused_lines (book_posted book first) rest (place + m)
  pieces_lines place = rw (in_both, in_first) (lines_both place (records_in (length rest)))
