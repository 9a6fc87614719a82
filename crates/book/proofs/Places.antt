-- Where rows lie: each within the book, and any two apart.
use mathlib.Core.Path.{◌≡◌}
use mathlib.Core.Logic.{◌≢◌, ◌⊎◌, ⊎_elim}
use Prim.Native.Nat.{ℕ, ◌+◌, ◌*◌, ◌≤◌, ◌<◌}
use native.Mathlib.Decide.{dec_le, ℕ_discrete}
use native.Mathlib.Nat.{mul-le-mul, mul-le-mul_right, suc-mul, le_refl}
use native.Mathlib.Omega.{arith}
use Rattle.wire.specs.LittleEndian.{Apart, before, behind}
use Rattle.book.specs.Layout.{Head, head_size, most_members, most_contracts, contract_size, member_size, position_size, contract_off, member_off, position_off, book_length, longest_book}

-- ---- within the book

pub head_within : (h : Head) → head_size ≤ book_length h
unfolding book_length
head_within h = omega arith

pub contract_within : (h : Head) (j : ℕ) → j < h.contracts → contract_off j + contract_size ≤ book_length h
unfolding contract_off book_length
contract_within h j l = omega arith

pub member_within : (h : Head) (m : ℕ) → m < h.members → member_off h m + member_size ≤ book_length h
unfolding member_off book_length
member_within h m l = omega arith

pub position_within : (h : Head) (m j : ℕ) → m < h.members → j < h.contracts → position_off h m j + position_size ≤ book_length h
unfolding position_off book_length
position_within h m j p q =
    omega (arith, suc-mul m (h.contracts * position_size), mul-le-mul_right (h.contracts * position_size) p)

-- a member's rows are at most so long, and a book too
pub rows_most : (h : Head) (m : ℕ) → m ≤ most_members → h.contracts ≤ most_contracts → m * (h.contracts * position_size) ≤ most_members * (most_contracts * position_size)
rows_most h m p q = mul-le-mul p (mul-le-mul q (le_refl position_size))

pub book_most : (h : Head) → h.members ≤ most_members → h.contracts ≤ most_contracts → book_length h ≤ longest_book
unfolding book_length
book_most h p q = omega (arith, rows_most h h.members p q)

-- ---- apart

pub contract_member : (h : Head) (j m : ℕ) → j < h.contracts → Apart (contract_off j) contract_size (member_off h m) member_size
unfolding contract_off member_off
contract_member h j m l = before (omega arith)

pub contract_position : (h : Head) (j m j' : ℕ) → j < h.contracts → Apart (contract_off j) contract_size (position_off h m j') position_size
unfolding contract_off position_off
contract_position h j m j' l = before (omega arith)

pub head_member : (h : Head) (m : ℕ) → Apart 0 head_size (member_off h m) member_size
unfolding member_off
head_member h m = before (omega arith)

pub head_position : (h : Head) (m j : ℕ) → Apart 0 head_size (position_off h m j) position_size
unfolding position_off
head_position h m j = before (omega arith)

pub member_position : (h : Head) (m m' j' : ℕ) → m < h.members → Apart (member_off h m) member_size (position_off h m' j') position_size
unfolding member_off position_off
member_position h m m' j' l = before (omega arith)

pub members_apart : (h : Head) (m m' : ℕ) → m ≢ m' → Apart (member_off h m) member_size (member_off h m') member_size
unfolding member_off
members_apart h m m' ne = elim (dec_le m m') [ yes p ↦ before (omega arith) | no p ↦ behind (omega arith) ]

-- rows of different members
later_rows : (h : Head) (m j m' j' : ℕ) → j < h.contracts → m < m' → position_off h m j + position_size ≤ position_off h m' j'
unfolding position_off
later_rows h m j m' j' q l =
    omega (arith, suc-mul m (h.contracts * position_size), mul-le-mul_right (h.contracts * position_size) l)

pub rows_apart : (h : Head) (m j m' j' : ℕ) → j < h.contracts → j' < h.contracts → m ≢ m' → Apart (position_off h m j) position_size (position_off h m' j') position_size
rows_apart h m j m' j' q q' ne =
    elim (dec_le m m') [ yes p ↦ before (later_rows h m j m' j' q (omega arith)) | no p ↦ behind (later_rows h m' j' m j q' (omega arith)) ]

-- rows of one member in different contracts
row_apart : (h : Head) (m j j' : ℕ) → j ≢ j' → Apart (position_off h m j) position_size (position_off h m j') position_size
unfolding position_off
row_apart h m j j' ne = elim (dec_le j j') [ yes p ↦ before (omega arith) | no p ↦ behind (omega arith) ]

pub positions_apart : (h : Head) (m j m' j' : ℕ) → j < h.contracts → j' < h.contracts → (m ≢ m') ⊎ (j ≢ j') → Apart (position_off h m j) position_size (position_off h m' j') position_size
positions_apart h m j m' j' q q' ne =
    elim (ℕ_discrete m m') [ yes e ↦ same e | no d ↦ rows_apart h m j m' j' q q' d ]
  where
    same : m ≡ m' → Apart (position_off h m j) position_size (position_off h m' j') position_size
    same e = rw (← e) (row_apart h m j j' (⊎_elim (λ d. absurd (d e)) (λ d. d) ne))
