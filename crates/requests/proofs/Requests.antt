-- What the fields of a record that is not refused 1 have passed, by its request.
use mathlib.Core.Path.{◌≡◌, ap}
use mathlib.Core.Logic.{◌≢◌}
use mathlib.Core.Bool.{true}
use mathlib.Core.List.Memᴰ
use mathlib.Core.List.{List, [], ◌∷◌, Memᴰ}
use Prim.Native.Nat.{ℕ, ◌^◌, ◌≤◌, ◌<◌}
use native.Mathlib.Omega.{arith}
use borrow.Author.Tests.{ltb-true, leb-true, eqb-false, not-true}
use lib.Dec.{eqb}
use lib.ListN.{length}
use Rattle.folds.specs.Tests.{all_of}
use Rattle.folds.proofs.Tests.{each, between_low, between_high}
use Rattle.rules.specs.Ranges.{Amount}
use Rattle.rules.proofs.Bounds.{amount}
use Rattle.book.specs.declared.heads.Head.{Head}
use Rattle.book.specs.declared.accounts.Place.{Place}
use Rattle.book.specs.Accounts.{Within}
use Rattle.requests.specs.declared.records.Record.{Record}
use Rattle.std.specs.Prelude.{Option, Some, None}
use Rattle.std.proofs.lemmas.Bool.{cond_both}
use Rattle.requests.specs.declared.records.Mark.{Mark}
use Rattle.requests.specs.declared.records.Trade.{Trade}
use Rattle.requests.specs.declared.records.Pairing.{Pairing}
use Rattle.requests.specs.declared.records.Payment.{Payment}
use Rattle.requests.specs.declared.records.Pledge.{Pledge}
use Rattle.requests.specs.declared.records.Request.{Request}
use Rattle.requests.specs.declared.records.Request.TheVariants.{Trading, PairingUp, Depositing, Withdrawing, Pledging}
use Rattle.requests.specs.Records.{record_size, record_at, read_mark, trade_tests, pairing_tests, payment_tests, pledge_tests, trade_by, payment, read_trade, read_pairing, read_deposit, read_withdrawal, read_pledge, read_kind, request_of, names_of, contract_of, places_in, places_for}

-- n lots of contract j, the buyer m and the seller m'
pub record Parties (h : Head) (j m m' n : ℕ) : Type 0 where
  pub contract : j < h.contracts
  pub buyer : m < h.members
  pub seller : m' < h.members
  pub differ : m ≢ m'
  pub some : 1 ≤ n
  pub few : n ≤ 10_000

pub data Formed (h : Head) : Option Request → Type 0 where
  trading : {t : Trade} → Parties h t.contract t.buyer t.seller t.lots.0 → t.price.0 ≤ 10_000_000 → Formed h (Some (Trading t))
  pairing : {p : Pairing} → Parties h p.contract p.buyer p.seller p.lots.0 → Formed h (Some (PairingUp p))
  depositing : {p : Payment} → p.member < h.members → Amount (10 ^ 12) p.amount → Formed h (Some (Depositing p))
  withdrawing : {p : Payment} → p.member < h.members → Amount (10 ^ 12) p.amount → Formed h (Some (Withdrawing p))
  pledging : {p : Pledge} → p.member < h.members → Amount (10 ^ 15) p.market → p.discount ≤ 8_000 → Formed h (Some (Pledging p))
  nothing : Formed h None

-- ---- by the tests of each kind

module _ (h : Head) (q : Record) where
  trade_formed : Formed h (read_trade h q)
  unfolding read_trade
  trade_formed = cond_both (all_of (trade_tests h q)) (trade_by (read_mark q.marks.first) (read_mark q.marks.second) q) None (Formed h)
      (λ e. marked e (read_mark q.marks.first) (read_mark q.marks.second)) (λ e. nothing)
    where
      marked : all_of (trade_tests h q) ≡ true → (m m' : Option Mark) → Formed h (trade_by m m' q)
      marked e (Some buying) (Some selling) =
          let t = each (trade_tests h q) e in
          trading
          (record {
            contract = ltb-true q.contract h.contracts (t 0);
            buyer = ltb-true q.first h.members (t 1);
            seller = ltb-true q.second h.members (t 2);
            differ = eqb-false q.first q.second (not-true (eqb q.first q.second) (t 3));
            some = between_low 1 10_000 q.b (t 5);
            few = between_high 1 10_000 q.b (t 5);
          })
          (between_high 1 10_000_000 q.a (t 4))
      marked e (Some buying) None = nothing
      marked e None m' = nothing

  pairing_formed : Formed h (read_pairing h q)
  unfolding read_pairing
  pairing_formed = cond_both (all_of (pairing_tests h q)) _ None (Formed h)
      (λ e. let t = each (pairing_tests h q) e in
      pairing (record {
        contract = ltb-true q.contract h.contracts (t 0);
        buyer = ltb-true q.first h.members (t 1);
        seller = ltb-true q.second h.members (t 2);
        differ = eqb-false q.first q.second (not-true (eqb q.first q.second) (t 3));
        some = between_low 1 10_000 q.b (t 6);
        few = between_high 1 10_000 q.b (t 6);
      })) (λ e. nothing)

  payer : all_of (payment_tests h q) ≡ true → q.first < h.members
  payer e = ltb-true q.first h.members (each (payment_tests h q) e 1)

  sum_paid : all_of (payment_tests h q) ≡ true → Amount (10 ^ 12) (payment q).amount
  sum_paid e = amount (between_high 1 (10 ^ 12) q.a (each (payment_tests h q) e 4))

  deposit_formed : Formed h (read_deposit h q)
  unfolding read_deposit
  deposit_formed = cond_both (all_of (payment_tests h q)) (Some (Depositing (payment q))) None (Formed h) (λ e. depositing (payer e) (sum_paid e)) (λ e. nothing)

  withdrawal_formed : Formed h (read_withdrawal h q)
  unfolding read_withdrawal
  withdrawal_formed = cond_both (all_of (payment_tests h q)) (Some (Withdrawing (payment q))) None (Formed h) (λ e. withdrawing (payer e) (sum_paid e)) (λ e. nothing)

  pledge_formed : Formed h (read_pledge h q)
  unfolding read_pledge
  pledge_formed = cond_both (all_of (pledge_tests h q)) _ None (Formed h)
      (λ e. let t = each (pledge_tests h q) e in pledging (ltb-true q.first h.members (t 1)) (amount (leb-true q.a (10 ^ 15) (t 4))) (leb-true q.b 8_000 (t 5))) (λ e. nothing)

  kind_formed : Formed h (read_kind h q)
  unfolding read_kind
  kind_formed =
      cond_both (eqb q.kind 1) _ _ (Formed h) (λ e. trade_formed)
      (λ e. cond_both (eqb q.kind 2) _ _ (Formed h) (λ e. pairing_formed)
      (λ e. cond_both (eqb q.kind 3) _ _ (Formed h) (λ e. deposit_formed)
      (λ e. cond_both (eqb q.kind 4) _ _ (Formed h) (λ e. withdrawal_formed)
      (λ e. cond_both (eqb q.kind 5) _ _ (Formed h) (λ e. pledge_formed) (λ e. nothing)))))

pub formed : (h : Head) (r : List ℕ) → Formed h (request_of h r)
unfolding request_of
formed h r = cond_both (eqb (length r) record_size) (read_kind h (record_at r)) None (Formed h) (λ e. kind_formed h (record_at r)) (λ e. nothing)

-- ---- where its places lie

-- a place of the record is one of its members in its contract
pub record Standing (q : Option Request) (p : Place) : Type 0 where
  pub contract : p.contract ≡ contract_of q
  pub member : Memᴰ p.member (names_of q)

pub standing : (q : Option Request) (p : Place) → Memᴰ p (places_for q) → Standing q p
standing q p i = let z = at (names_of q) i in record { contract = z.0; member = z.1 }
  where
    at : (ms : List ℕ) → Memᴰ p (places_in (contract_of q) ms) → (p.contract ≡ contract_of q) × Memᴰ p.member ms
    at [] k = absurd (Memᴰ.not-nil k)
    at (m ∷ ms) (Memᴰ.head e) = (ap (λ (z : Place). z.contract) e, Memᴰ.head (ap (λ (z : Place). z.member) e))
    at (m ∷ ms) (Memᴰ.tail k) = let z = at ms k in (z.0, Memᴰ.tail z.1)

contract_in_lem : {h : Head} {q : Option Request} → 0 < h.contracts → Formed h q → contract_of q < h.contracts
contract_in_lem k (trading s f) = s.contract
contract_in_lem k (pairing s) = s.contract
contract_in_lem k (depositing m f) = k
contract_in_lem k (withdrawing m f) = k
contract_in_lem k (pledging m f d) = k
contract_in_lem k nothing = k

name_in : {h : Head} {q : Option Request} (m : ℕ) → Formed h q → Memᴰ m (names_of q) → m < h.members
name_in m (trading s f) (Memᴰ.head e) = omega (arith, s.buyer)
name_in m (trading s f) (Memᴰ.tail i) = let e = Memᴰ.eq_of_singleton i in omega (arith, s.seller)
name_in m (pairing s) (Memᴰ.head e) = omega (arith, s.buyer)
name_in m (pairing s) (Memᴰ.tail i) = let e = Memᴰ.eq_of_singleton i in omega (arith, s.seller)
name_in m (depositing l f) i = let e = Memᴰ.eq_of_singleton i in omega arith
name_in m (withdrawing l f) i = let e = Memᴰ.eq_of_singleton i in omega arith
name_in m (pledging l f d) i = let e = Memᴰ.eq_of_singleton i in omega arith
name_in m nothing i = absurd (Memᴰ.not-nil i)

pub places_within : {h : Head} {q : Option Request} → 0 < h.contracts → Formed h q → (p : Place) → Memᴰ p (places_for q) → Within h p
places_within {h} {q} k f p i = let s = standing q p i in record { member = name_in p.member f s.member; contract = omega (arith, s.contract, contract_in_lem k f) }
