-- 01, Day records: the kinds by their numbers.
use Rattle.std.specs.Prelude.{ℕ, ◌≡◌, ◌<◌, ◌⊎◌, Result, MatchResult}
pub use Rattle.requests.specs.declared.records.Kind.{Kind}
use Rattle.requests.specs.declared.records.Kind.TheVariants.{Trade, Pairing, Deposit, Withdrawal, Pledge}
pub use Rattle.requests.specs.declared.records.UnknownKind.{UnknownKind}

abbrev pub kind_number : Kind → ℕ
kind_number Trade = 1
kind_number Pairing = 2
kind_number Deposit = 3
kind_number Withdrawal = 4
kind_number Pledge = 5

-- the kind of that number, or that there is none
abbrev pub KindOf : ℕ → Result Kind UnknownKind → Type 0
KindOf n r = MatchResult r (λ kind. kind_number kind ≡ n) (λ e. (e.0 ≡ n) × ((n < 1) ⊎ (5 < n)))
