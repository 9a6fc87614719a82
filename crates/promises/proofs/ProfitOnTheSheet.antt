-- The profit that settlement writes is article 31's over the day's accepted records, by every pairing.
use Prim.Native.Nat.{ℕ, ◌<◌}
use mathlib.Core.Path.{◌≡◌, sym, ap, ◌∙◌, subst}
use mathlib.Core.Bool.{true}
use mathlib.Core.List.{List}
use lib.ListN.{length}
use Rattle.rules.specs.declared.units.Fen.{Fen}
use Rattle.book.specs.declared.heads.Head.{Head}
use Rattle.book.specs.Heads.{head_at}
use Rattle.validity.specs.Opening.{opening_book}
use Rattle.tonight.specs.Given.{Given}
use Rattle.tonight.specs.Prices.{tonight_at, delivery_at}
use Rattle.settlement.specs.Settle.{settle_answer}
use Rattle.morning.proofs.Settled.{profit_back}
use Rattle.promises.specs.Runs.{end_of}
use Rattle.promises.specs.ByArticle.{ByArticle, written_profit}
use Rattle.promises.proofs.Runs.{run_counts}
use Rattle.promises.proofs.SheetProfit.{sheet_profit}
use Rattle.promises.proofs.ProfitOfRecords.{the_profit}

pub profit_on_the_sheet : (book : List ℕ) (records : List (List ℕ)) (given : Given) (next results : List ℕ) (m : ℕ) → opening_book book ≡ true → m < (head_at book).members
    → settle_answer (end_of book records) given (length next) (length results) ≡ 0
    → (profit : Fen) → ByArticle book records (tonight_at given.prices) (delivery_at given.prices) m profit → written_profit (end_of book records) given next results m ≡ profit.0
profit_on_the_sheet book records given next results m opening l settled profit by =
    profit_back (end_of book records) given next results settled m (subst (λ (h : Head). m < h.members) (sym (run_counts book records)) l)
    ∙ ap (λ (x : Fen). x.0) (sheet_profit (end_of book records) given m ∙ sym (the_profit book records opening (tonight_at given.prices) (delivery_at given.prices) m l by))
