-- 01, The book: section 1, a row for each contract.
use Rattle.std.specs.Prelude.{ℕ, ◌+◌, List, [], ◌∷◌, ◌++◌}
use Rattle.std.proofs.lemmas.List.Edits.{sets}
use Rattle.wire.specs.LittleEndian.{number_at}
use Rattle.folds.specs.Rows.{Field, field, row_bytes}
use Rattle.rules.specs.Units.{price}
use Rattle.book.specs.Layout.{last_at, multiplier_at, rate_at, fee_at, delivery_at, contract_zero_at}
pub use Rattle.book.specs.declared.contracts.Terms.{Terms}
pub use Rattle.book.specs.declared.contracts.Contract.{Contract}

-- what a posting may see of the row at off; no record changes it
abbrev pub terms_at : List ℕ → ℕ → Terms
terms_at xs off = record {
  last = price (number_at xs (off + last_at) 4);
  multiplier = number_at xs (off + multiplier_at) 4;
  rate = number_at xs (off + rate_at) 4;
  fee = number_at xs (off + fee_at) 4;
  delivery = number_at xs (off + delivery_at) 4;
}

-- the whole row
unfoldable pub contract_at : List ℕ → ℕ → Contract
contract_at xs off = record { terms = terms_at xs off; zero = number_at xs (off + contract_zero_at) 4 }

abbrev pub terms_fields : Terms → List Field
terms_fields t =
    field last_at 4 t.last.0
    ∷ field multiplier_at 4 t.multiplier
    ∷ field rate_at 4 t.rate
    ∷ field fee_at 4 t.fee
    ∷ field delivery_at 4 t.delivery
    ∷ []

abbrev pub contract_fields : Contract → List Field
contract_fields c = terms_fields c.terms ++ (field contract_zero_at 4 c.zero ∷ [])

-- xs with the row c at off
unfoldable pub put_contract : List ℕ → ℕ → Contract → List ℕ
put_contract xs off c = sets xs off (row_bytes (contract_fields c))
