-- A row that was laid down reads back, what lies apart from it stays, and rows apart may be laid down in either order.
use mathlib.Core.Path.{◌≡◌, refl, ap, ◌∙◌}
use mathlib.Core.Bool.{true}
use mathlib.Core.List.{List}
use Prim.{tt}
use Prim.Native.Nat.{ℕ, ◌+◌, ◌^◌, ◌%◌, ◌≤◌, ◌<◌}
use native.Mathlib.Nat.{zero-add, add_assoc, mod-eq_of_lt}
use native.Mathlib.Omega.{arith}
use lib.Dec.{lit<}
use lib.ListN.{length, take, drop}
use lib.Seq.{sets, length-sets}
use mir.Syntax.{w64}
use mir.Val.{SFits, to_z, of_z}
use mir.ValLaws.{to_z-of_z, of_z_fits}
use lib.IntN.{ℤ}
use Rattle.rules.specs.declared.units.Fen.{Fen}
use Rattle.rules.specs.declared.units.Figures.{Figures}
use Rattle.rules.specs.declared.members.MemberKind.{MemberKind}
use Rattle.std.proofs.lemmas.Bool.Decides.{nat_tests}
use Rattle.wire.specs.LittleEndian.{number_at, Apart}
use Rattle.wire.proofs.Places.{apart_sym, apart_part}
use Rattle.wire.proofs.Numbers.{number_part}
use Rattle.folds.specs.Tests.{between}
use Rattle.folds.specs.Rows.{Field, row_bytes, widths}
use Rattle.folds.proofs.Rows.{length_row, row_back}
use Rattle.folds.proofs.Laid.{number_stays, sets_sets}
use Rattle.book.specs.Layout.{contract_size, member_size, position_size, last_at, multiplier_at, rate_at, fee_at, delivery_at, contract_zero_at, kind_at, accepted_at, reserve_at, margin_at, usable_at, market_at, discount_at, deposits_at, withdrawals_at, long_at, short_at, opening_at, closed_at, new_at, paired_at, cash_at, traded_at, position_zero_at}
use Rattle.book.specs.ContractRows.{Terms, Contract, contract_at, contract_fields, put_contract}
use Rattle.book.specs.Members.{Member, kind_of, kind_number, kind_number_at, figures_at, securities_at, day_at, member_at, member_fields, put_member}
use Rattle.book.specs.Positions.{Side, Position, side_at, position_at, position_fields, put_position}

-- the numbers in the size bytes from a on in ys are those from b on in xs
abbrev pub Alike : List ℕ → ℕ → List ℕ → ℕ → ℕ → Type 0
Alike ys a xs b size = (at w : ℕ) → at + w ≤ size → number_at ys (a + at) w ≡ number_at xs (b + at) w

-- the numbers in the size bytes from o on are the same in both
abbrev pub Same : List ℕ → List ℕ → ℕ → ℕ → Type 0
Same ys xs o size = Alike ys o xs o size

-- a row read apart from the bytes before and behind it
row_alike : (xs : List ℕ) (off size : ℕ) → Alike (take size (drop off xs)) 0 xs off size
row_alike xs off size at w l = rw (zero-add at) (number_part xs off size at w l)

-- ---- rows whose bytes are the same

alike_contract : (ys xs : List ℕ) (a b : ℕ) → Alike ys a xs b contract_size → contract_at ys a ≡ contract_at xs b
unfolding contract_at
alike_contract ys xs a b s =
    rw (s last_at 4 (omega arith), s multiplier_at 4 (omega arith), s rate_at 4 (omega arith), s fee_at 4 (omega arith), s delivery_at 4 (omega arith), s contract_zero_at 4 (omega arith))

alike_figures : (ys xs : List ℕ) (a b : ℕ) → Alike ys a xs b member_size → figures_at ys a ≡ figures_at xs b
unfolding figures_at
alike_figures ys xs a b s = rw (s reserve_at 8 (omega arith), s margin_at 8 (omega arith), s usable_at 8 (omega arith))

alike_securities : (ys xs : List ℕ) (a b : ℕ) → Alike ys a xs b member_size → securities_at ys a ≡ securities_at xs b
unfolding securities_at
alike_securities ys xs a b s = rw (s market_at 8 (omega arith), s discount_at 8 (omega arith))

alike_day : (ys xs : List ℕ) (a b : ℕ) → Alike ys a xs b member_size → day_at ys a ≡ day_at xs b
unfolding day_at
alike_day ys xs a b s = rw (s deposits_at 8 (omega arith), s withdrawals_at 8 (omega arith))

alike_member : (ys xs : List ℕ) (a b : ℕ) → Alike ys a xs b member_size → member_at ys a ≡ member_at xs b
unfolding member_at
alike_member ys xs a b s =
    rw (s kind_at 4 (omega arith), s accepted_at 4 (omega arith), alike_figures ys xs a b s, alike_securities ys xs a b s, alike_day ys xs a b s)

alike_side : (ys xs : List ℕ) (a b side : ℕ) → side ≤ short_at → Alike ys a xs b position_size → side_at ys (a + side) ≡ side_at xs (b + side)
unfolding side_at
alike_side ys xs a b side l s = λ i. record {
  opening = record { 0 = at opening_at (omega arith) i };
  closed = record { 0 = at closed_at (omega arith) i };
  new = record { 0 = at new_at (omega arith) i };
  paired = record { 0 = at paired_at (omega arith) i };
}
  where
    at : (n : ℕ) → side + n + 4 ≤ position_size → number_at ys (a + side + n) 4 ≡ number_at xs (b + side + n) 4
    at n h = rw (add_assoc a side n, add_assoc b side n) (s (side + n) 4 h)

alike_position : (ys xs : List ℕ) (a b : ℕ) → Alike ys a xs b position_size → position_at ys a ≡ position_at xs b
unfolding position_at
alike_position ys xs a b s =
    rw (alike_side ys xs a b long_at (omega arith) s, alike_side ys xs a b short_at (omega arith) s, s cash_at 8 (omega arith), s traded_at 4 (omega arith), s position_zero_at 4 (omega arith))

pub same_contract : (ys xs : List ℕ) (o : ℕ) → Same ys xs o contract_size → contract_at ys o ≡ contract_at xs o
same_contract ys xs o = alike_contract ys xs o o

pub same_member : (ys xs : List ℕ) (o : ℕ) → Same ys xs o member_size → member_at ys o ≡ member_at xs o
same_member ys xs o = alike_member ys xs o o

pub same_position : (ys xs : List ℕ) (o : ℕ) → Same ys xs o position_size → position_at ys o ≡ position_at xs o
same_position ys xs o = alike_position ys xs o o

-- ---- a row by itself

pub contract_alone : (xs : List ℕ) (off : ℕ) → contract_at (take contract_size (drop off xs)) 0 ≡ contract_at xs off
contract_alone xs off = alike_contract (take contract_size (drop off xs)) xs 0 off (row_alike xs off contract_size)

pub member_alone : (xs : List ℕ) (off : ℕ) → member_at (take member_size (drop off xs)) 0 ≡ member_at xs off
member_alone xs off = alike_member (take member_size (drop off xs)) xs 0 off (row_alike xs off member_size)

pub position_alone : (xs : List ℕ) (off : ℕ) → position_at (take position_size (drop off xs)) 0 ≡ position_at xs off
position_alone xs off = alike_position (take position_size (drop off xs)) xs 0 off (row_alike xs off position_size)

-- ---- what lies apart from a row that is laid down

laid_stays : (xs : List ℕ) (o : ℕ) (fs : List Field) (size o' size' : ℕ) → widths fs ≡ size → Apart o' size' o size → Same (sets xs o (row_bytes fs)) xs o' size'
laid_stays xs o fs size o' size' e p at w l =
    number_stays xs o (row_bytes fs) (o' + at) w
    (rw (length_row fs, e) (apart_sym (apart_part (o' + at) w (apart_sym p) (omega arith) (omega arith))))

pub put_member_stays : (xs : List ℕ) (o : ℕ) (r : Member) (o' size : ℕ) → Apart o' size o member_size → Same (put_member xs o r) xs o' size
unfolding put_member
put_member_stays xs o r o' size p = laid_stays xs o (member_fields r) member_size o' size refl p

pub put_position_stays : (xs : List ℕ) (o : ℕ) (r : Position) (o' size : ℕ) → Apart o' size o position_size → Same (put_position xs o r) xs o' size
unfolding put_position
put_position_stays xs o r o' size p = laid_stays xs o (position_fields r) position_size o' size refl p

pub length_member : (xs : List ℕ) (o : ℕ) (r : Member) → length (put_member xs o r) ≡ length xs
unfolding put_member
length_member xs o r = length-sets xs o (row_bytes (member_fields r))

pub length_position : (xs : List ℕ) (o : ℕ) (r : Position) → length (put_position xs o r) ≡ length xs
unfolding put_position
length_position xs o r = length-sets xs o (row_bytes (position_fields r))

-- ---- two rows apart, in either order

laid_laid : (xs : List ℕ) (o o' : ℕ) (fs gs : List Field) (size size' : ℕ) → widths fs ≡ size → widths gs ≡ size' → Apart o size o' size'
    → sets (sets xs o (row_bytes fs)) o' (row_bytes gs) ≡ sets (sets xs o' (row_bytes gs)) o (row_bytes fs)
laid_laid xs o o' fs gs size size' e e' p = sets_sets xs o (row_bytes fs) o' (row_bytes gs) (rw (length_row fs, length_row gs, e, e') p)

pub member_member : (xs : List ℕ) (o o' : ℕ) (r r' : Member) → Apart o member_size o' member_size → put_member (put_member xs o r) o' r' ≡ put_member (put_member xs o' r') o r
unfolding put_member
member_member xs o o' r r' p = laid_laid xs o o' (member_fields r) (member_fields r') member_size member_size refl refl p

pub position_position : (xs : List ℕ) (o o' : ℕ) (r r' : Position) → Apart o position_size o' position_size → put_position (put_position xs o r) o' r' ≡ put_position (put_position xs o' r') o r
unfolding put_position
position_position xs o o' r r' p = laid_laid xs o o' (position_fields r) (position_fields r') position_size position_size refl refl p

pub position_member : (xs : List ℕ) (o o' : ℕ) (r : Position) (r' : Member) → Apart o position_size o' member_size → put_member (put_position xs o r) o' r' ≡ put_position (put_member xs o' r') o r
unfolding put_position put_member
position_member xs o o' r r' p = laid_laid xs o o' (position_fields r) (member_fields r') position_size member_size refl refl p

-- ---- a row reads back

pub record TermsFit (t : Terms) : Type 0 where
  pub last : t.last.0 < 2 ^ 32
  pub multiplier : t.multiplier < 2 ^ 32
  pub rate : t.rate < 2 ^ 32
  pub fee : t.fee < 2 ^ 32
  pub delivery : t.delivery < 2 ^ 32

pub record ContractFits (c : Contract) : Type 0 where
  pub terms : TermsFit c.terms
  pub zero : c.zero < 2 ^ 32

pub record FiguresFit (f : Figures) : Type 0 where
  pub reserve : SFits w64 f.reserve.0
  pub margin : SFits w64 f.margin.0
  pub usable : SFits w64 f.usable.0

pub record MemberFits (r : Member) : Type 0 where
  pub accepted : r.accepted < 2 ^ 32
  pub figures : FiguresFit r.figures
  pub market : SFits w64 r.securities.market.0
  pub discount : r.securities.discount < 2 ^ 64
  pub deposits : SFits w64 r.day.deposits.0
  pub withdrawals : SFits w64 r.day.withdrawals.0

pub record SideFits (s : Side) : Type 0 where
  pub opening : s.opening.0 < 2 ^ 32
  pub closed : s.closed.0 < 2 ^ 32
  pub new : s.new.0 < 2 ^ 32
  pub paired : s.paired.0 < 2 ^ 32

pub record PositionFits (p : Position) : Type 0 where
  pub long : SideFits p.long
  pub short : SideFits p.short
  pub cash : SFits w64 p.cash.0
  pub traded : p.traded.0 < 2 ^ 32
  pub zero : p.zero < 2 ^ 32

-- what was written as eight signed bytes
signed_back : (n : ℕ) (z : ℤ) → SFits w64 z → n ≡ of_z w64 z → to_z w64 n ≡ z
signed_back n z f e = ap (to_z w64) e ∙ to_z-of_z w64 z f

kind_small : (k : MemberKind) → kind_number k < 256 ^ 4
kind_small k = grind arith

pub kind_back : (k : MemberKind) → kind_of (kind_number k) ≡ k
kind_back k = grind arith

-- the number of a kind is one of the two, and each of the two is a kind's
pub kind_known : (k : MemberKind) → between 1 2 (kind_number k) ≡ true
kind_known k = grind (arith, nat_tests)

pub kind_is : (n : ℕ) → between 1 2 n ≡ true → kind_number (kind_of n) ≡ n
kind_is n e = grind (arith, nat_tests)

pub money_back : (n : ℕ) (amount : Fen) → SFits w64 amount.0 → n ≡ of_z w64 amount.0 % 256 ^ 8 → to_z w64 n ≡ amount.0
money_back n amount f e = signed_back n amount.0 f (e ∙ mod-eq_of_lt (of_z_fits w64 amount.0 f).fits)

pub contract_back : (xs : List ℕ) (o : ℕ) (c : Contract) → o + contract_size ≤ length xs → ContractFits c → contract_at (put_contract xs o c) o ≡ c
unfolding contract_at put_contract
contract_back xs o c h f =
    let g = row_back (contract_fields c) xs o refl h in
    λ i. record {
      terms = record {
        last = record { 0 = (g 0 (lit< tt) ∙ mod-eq_of_lt f.terms.last) i };
        multiplier = (g 1 (lit< tt) ∙ mod-eq_of_lt f.terms.multiplier) i;
        rate = (g 2 (lit< tt) ∙ mod-eq_of_lt f.terms.rate) i;
        fee = (g 3 (lit< tt) ∙ mod-eq_of_lt f.terms.fee) i;
        delivery = (g 4 (lit< tt) ∙ mod-eq_of_lt f.terms.delivery) i;
      };
      zero = (g 5 (lit< tt) ∙ mod-eq_of_lt f.zero) i;
    }

pub member_back : (xs : List ℕ) (o : ℕ) (r : Member) → o + member_size ≤ length xs → MemberFits r → member_at (put_member xs o r) o ≡ r
unfolding member_at put_member figures_at securities_at day_at
member_back xs o r h f =
    let g = row_back (member_fields r) xs o refl h in
    λ i. record {
      kind = (ap kind_of (g 0 (lit< tt) ∙ mod-eq_of_lt (kind_small r.kind)) ∙ kind_back r.kind) i;
      accepted = (g 1 (lit< tt) ∙ mod-eq_of_lt f.accepted) i;
      figures = record {
        reserve = record { 0 = money_back _ r.figures.reserve f.figures.reserve (g 2 (lit< tt)) i };
        margin = record { 0 = money_back _ r.figures.margin f.figures.margin (g 3 (lit< tt)) i };
        usable = record { 0 = money_back _ r.figures.usable f.figures.usable (g 4 (lit< tt)) i };
      };
      securities = record {
        market = record { 0 = money_back _ r.securities.market f.market (g 5 (lit< tt)) i };
        discount = (g 6 (lit< tt) ∙ mod-eq_of_lt f.discount) i;
      };
      day = record {
        deposits = record { 0 = money_back _ r.day.deposits f.deposits (g 7 (lit< tt)) i };
        withdrawals = record { 0 = money_back _ r.day.withdrawals f.withdrawals (g 8 (lit< tt)) i };
      };
    }

pub kind_number_back : (xs : List ℕ) (o : ℕ) (r : Member) → o + member_size ≤ length xs → kind_number_at (put_member xs o r) o ≡ kind_number r.kind
unfolding put_member
kind_number_back xs o r h = row_back (member_fields r) xs o refl h 0 (lit< tt) ∙ mod-eq_of_lt (kind_small r.kind)

pub position_back : (xs : List ℕ) (o : ℕ) (p : Position) → o + position_size ≤ length xs → PositionFits p → position_at (put_position xs o p) o ≡ p
unfolding position_at put_position side_at
position_back xs o p h f =
    let g = row_back (position_fields p) xs o refl h in
    λ i. record {
      long = record {
        opening = record { 0 = side_back long_at opening_at (g 0 (lit< tt)) f.long.opening i };
        closed = record { 0 = side_back long_at closed_at (g 2 (lit< tt)) f.long.closed i };
        new = record { 0 = side_back long_at new_at (g 4 (lit< tt)) f.long.new i };
        paired = record { 0 = side_back long_at paired_at (g 6 (lit< tt)) f.long.paired i };
      };
      short = record {
        opening = record { 0 = side_back short_at opening_at (g 1 (lit< tt)) f.short.opening i };
        closed = record { 0 = side_back short_at closed_at (g 3 (lit< tt)) f.short.closed i };
        new = record { 0 = side_back short_at new_at (g 5 (lit< tt)) f.short.new i };
        paired = record { 0 = side_back short_at paired_at (g 7 (lit< tt)) f.short.paired i };
      };
      cash = record { 0 = money_back _ p.cash f.cash (g 8 (lit< tt)) i };
      traded = record { 0 = lots_back (g 9 (lit< tt)) f.traded i };
      zero = lots_back (g 10 (lit< tt)) f.zero i;
    }
  where
    lots_back : {n v : ℕ} → n ≡ v % 256 ^ 4 → v < 256 ^ 4 → n ≡ v
    lots_back e l = e ∙ mod-eq_of_lt l

    side_back : (side n : ℕ) {v : ℕ} → number_at (put_position xs o p) (o + (side + n)) 4 ≡ v % 256 ^ 4 → v < 256 ^ 4 → number_at (put_position xs o p) (o + side + n) 4 ≡ v
    side_back side n e l = ap (λ (k : ℕ). number_at (put_position xs o p) k 4) (add_assoc o side n) ∙ lots_back e l
