-- The head's test sees the length and the first 32 bytes alone, and an account put back changes neither.
use mathlib.Core.Path.{◌≡◌}
use mathlib.Core.List.{List}
use Prim.Native.Nat.{ℕ}
use native.Mathlib.Omega.{arith}
use lib.ListN.{length}
use Rattle.book.specs.declared.heads.Head.{Head}
use Rattle.book.specs.declared.accounts.Place.{Place}
use Rattle.book.specs.declared.accounts.Account.{Account}
use Rattle.book.specs.Layout.{head_size, total_at}
use Rattle.book.specs.Heads.{head_at, entry_off}
use Rattle.book.specs.Accounts.{put_account}
use Rattle.book.proofs.Rows.{Same}
use Rattle.book.proofs.Contents.{same_head, same_within}
use Rattle.book.proofs.LensLaws.{length_account, head_stays}
use Rattle.validity.specs.Valid.{head_ok, contents_ok}

module _ (ys xs : List ℕ) (s : Same ys xs 0 head_size) where
  same_contents : (h : Head) → contents_ok h ys ≡ contents_ok h xs
  unfolding contents_ok
  same_contents h = rw (same_within ys xs s (entry_off 0) (omega arith), same_within ys xs s (entry_off 1) (omega arith), same_within ys xs s (entry_off 2) (omega arith))

  pub head_same : length ys ≡ length xs → head_ok ys ≡ head_ok xs
  unfolding head_ok
  head_same e = rw (e, same_head ys xs s, s total_at 4 (omega arith), same_contents (head_at xs))

pub head_kept : (h : Head) (xs : List ℕ) (p : Place) (a : Account) → head_ok (put_account h xs p a) ≡ head_ok xs
head_kept h xs p a = head_same (put_account h xs p a) xs (head_stays h xs p a) (length_account h xs p a)
