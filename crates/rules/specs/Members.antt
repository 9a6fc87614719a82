-- 000, articles 23 and 34: what a member's kind asks of its reserve.
use Rattle.std.specs.Prelude.{cond, ℕ, pos, ◌-ℤ◌, ◌≡◌, ◌≢◌, Result, MatchResult}
use Rattle.std.specs.Int.Signed.{le_z}
use Rattle.numbers.specs.Choice.{larger_of}
use Rattle.rules.specs.Units.{Fen, fen}
pub use Rattle.rules.specs.declared.members.MemberKind.{MemberKind}
pub use Rattle.rules.specs.declared.members.MemberKind.TheVariants.{Broker, Other}
pub use Rattle.rules.specs.declared.members.UnknownKind.{UnknownKind}
pub use Rattle.rules.specs.declared.members.Standing.{Standing}
pub use Rattle.rules.specs.declared.members.Standing.TheVariants.{MayOpen, NoOpening, Liquidation}

-- 2,000,000 yuan for a broker, 500,000 for another: 000, article 23
abbrev pub minimum_of : MemberKind → Fen
minimum_of Broker = fen (pos 200_000_000)
minimum_of Other = fen (pos 50_000_000)

-- no opening from 0 up to the minimum, liquidation below 0: 000, article 34; at exactly 0 no opening (house)
abbrev pub standing_of : MemberKind → Fen → Standing
standing_of kind reserve = cond (le_z (minimum_of kind).0 reserve.0) MayOpen (cond (le_z (pos 0) reserve.0) NoOpening Liquidation)

-- the number that the sheet gives a standing: 01, evening settlement
abbrev pub number_of : Standing → ℕ
number_of MayOpen = 0
number_of NoOpening = 1
number_of Liquidation = 2

-- minimum − reserve, at least 0: 000, article 34
abbrev pub call_of : MemberKind → Fen → Fen
call_of kind reserve = fen (larger_of (pos 0) ((minimum_of kind).0 -ℤ reserve.0))

-- 1 broker, 2 other: 01, The book, section 2
abbrev pub kind_number : MemberKind → ℕ
kind_number Broker = 1
kind_number Other = 2

-- the kind of that number, or that there is none
abbrev pub KindOf : ℕ → Result MemberKind UnknownKind → Type 0
KindOf n r = MatchResult r (λ kind. kind_number kind ≡ n) (λ e. (e.0 ≡ n) × (n ≢ 1) × (n ≢ 2))
