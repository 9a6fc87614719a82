-- THEOREM: an accepted record adds 1 to the accepted count of each member that it names, and a trade its lots to both traded counts.
use mathlib.Core.Path.{◌≡◌, refl, sym, ap, subst}
use mathlib.Core.List.Memᴰ
use mathlib.Core.List.{List, [], ◌∷◌, Memᴰ}
use Prim.Native.Nat.{ℕ, ◌+◌, ◌<◌}
use Rattle.book.specs.declared.accounts.Account.{Account}
use Rattle.book.specs.Layout.{member_off}
use Rattle.book.specs.Heads.{head_at}
use Rattle.book.specs.Members.{member_at}
use Rattle.book.specs.Accounts.{account_at}
use Rattle.std.specs.Prelude.{Option}
use Rattle.requests.specs.declared.records.Request.{Request}
use Rattle.requests.specs.Records.{request_of, names_of}
use Rattle.posting.specs.Answers.{answer, after}
use Rattle.promises.specs.Naming.{named}
use Rattle.promises.specs.Dealings.{fills_of, traded_of, row_at}
use Rattle.requests.proofs.Requests.{Formed, trading, pairing, depositing, withdrawing, pledging, nothing, formed}
use Rattle.promises.proofs.AcceptedMakes.{sole, both, makes, accepted}
use Rattle.promises.proofs.Grown.{grown}
use Rattle.promises.proofs.DayOfRun.{record_moves}

module _ (book r : List ℕ) (a : answer book r ≡ 0) where
  abbrev Counts : ℕ → Type 0
  Counts m = (member_at (after book r) (member_off (head_at book) m)).accepted ≡ (member_at book (member_off (head_at book) m)).accepted + 1

  first_or_second : (x y m : ℕ) → Counts x → Counts y → Memᴰ m (x ∷ y ∷ []) → Counts m
  first_or_second x y m first second (Memᴰ.head e) = subst Counts (sym e) first
  first_or_second x y m first second (Memᴰ.tail i) = subst Counts (sym (Memᴰ.eq_of_singleton i)) second

  by_request : {q : Option Request} → Formed (head_at book) q → request_of (head_at book) r ≡ q → (m : ℕ) → Memᴰ m (names_of q) → Counts m
  unfolding account_at
  by_request (trading {t} s price) e m i =
      let made = both (accepted book r a e) (makes book r a e) in
      first_or_second t.buyer t.seller m (ap (λ (z : Account). z.member.accepted) made.0) (ap (λ (z : Account). z.member.accepted) made.1) i
  by_request (pairing {p} s) e m i =
      let made = both (accepted book r a e) (makes book r a e) in
      first_or_second p.buyer p.seller m (ap (λ (z : Account). z.member.accepted) made.0) (ap (λ (z : Account). z.member.accepted) made.1) i
  by_request (depositing {p} l sum) e m i =
      subst Counts (sym (Memᴰ.eq_of_singleton i)) (ap (λ (z : Account). z.member.accepted) (sole (accepted book r a e) (makes book r a e)))
  by_request (withdrawing {p} l sum) e m i =
      subst Counts (sym (Memᴰ.eq_of_singleton i)) (ap (λ (z : Account). z.member.accepted) (sole (accepted book r a e) (makes book r a e)))
  by_request (pledging {p} l market discount) e m i =
      subst Counts (sym (Memᴰ.eq_of_singleton i)) (ap (λ (z : Account). z.member.accepted) (sole (accepted book r a e) (makes book r a e)))
  by_request nothing e m i = absurd (Memᴰ.not-nil i)

  pub accepted_counts : (m : ℕ) → Memᴰ m (named book r) → (member_at (after book r) (member_off (head_at book) m)).accepted ≡ (member_at book (member_off (head_at book) m)).accepted + 1
  accepted_counts m i = by_request (formed (head_at book) r) refl m i

  pub traded_counts : (m j : ℕ) → j < (head_at book).contracts
      → (row_at (head_at book) (after book r) m j).traded.0 ≡ (row_at (head_at book) book m j).traded.0 + traded_of (fills_of (request_of (head_at book) r) m j)
  traded_counts m j l = (grown (record_moves book r a m j l)).traded
