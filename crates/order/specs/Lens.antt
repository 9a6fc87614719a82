-- 01, Day records and demand 3: a posting over any state. It sees a view of each place that its record names, puts back the account that stands there, and adds to counters that no posting sees.
-- A view may hold more than the account: numbers worked out from other rows of the same member, or read from rows that no posting puts back.
use mathlib.Core.List.{Memᴰ}
use Rattle.std.specs.Prelude.{◌≡◌, List, [], ◌∷◌}

-- what a record asks for, from the views of the named places as they stand: the answer, what the accounts there become and what the counters get (nothing where it is refused)
pub record Posting (X A C : Type 0) : Type 0 where
  pub says : A
  pub become : List X
  pub adds : List C

-- The state as the postings meet it. The head h says where things stand and no posting changes it; W is seen at a place, X is put back there.
pub record Lens (H S P W X C : Type 0) : Type 0 where
  pub head : S → H
  pub see : H → S → P → W
  pub put : H → S → P → X → S
  pub add : H → S → C → S

-- what is read at the places ps by any reading: the views by `see`, the accounts that stand there by the state's own
abbrev pub reads : {H S P Y : Type 0} → (H → S → P → Y) → H → S → List P → List Y
reads get h s [] = []
reads get h s (p ∷ ps) = get h s p ∷ reads get h s ps

module _ {H S P W X C : Type 0} (lens : Lens H S P W X C) where
  -- accounts put back to the places ps, in their order
  abbrev pub puts : H → S → List P → List X → S
  puts h s [] xs = s
  puts h s (p ∷ ps) [] = s
  puts h s (p ∷ ps) (x ∷ xs) = puts h (lens.put h s p x) ps xs

  -- counters added to
  abbrev pub add_all : H → S → List C → S
  add_all h s [] = s
  add_all h s (c ∷ cs) = add_all h (lens.add h s c) cs

  module _ {R A : Type 0} (places : H → R → List P) (posting : H → R → List W → Posting X A C) where
    abbrev pub posting_by : H → S → R → Posting X A C
    posting_by h s r = posting h r (reads lens.see h s (places h r))

    abbrev pub after_by : H → S → R → Posting X A C → S
    after_by h s r p = add_all h (puts h s (places h r) p.become) p.adds

    -- the answer to a record, and the state after it
    abbrev pub answer : S → R → A
    answer s r = (posting_by (lens.head s) s r).says

    abbrev pub after : S → R → S
    after s r = after_by (lens.head s) s r (posting_by (lens.head s) s r)

-- What places and counters have to satisfy. Far places do not meet; a place lies Within the state of its head; Sound states have room for their counters.
-- Nothing is said of what is seen at a place after that place was put back: a view may change by its own posting.
pub record Laws {H S P W X C : Type 0} (lens : Lens H S P W X C)
    (Sound : H → S → Type 0) (Within : H → P → Type 0) (Far : H → P → P → Type 0) : Type 0 where
  pub head_put : (h : H) (s : S) (p : P) (x : X) → lens.head (lens.put h s p x) ≡ lens.head s
  pub head_add : (h : H) (s : S) (c : C) → lens.head (lens.add h s c) ≡ lens.head s
  pub sound_put : (h : H) (s : S) (p : P) (x : X) → Sound h s → Sound h (lens.put h s p x)
  pub sound_add : (h : H) (s : S) (c : C) → Sound h s → Sound h (lens.add h s c)
  pub see_put : (h : H) (s : S) (p p' : P) (x : X) → Far h p p' → lens.see h (lens.put h s p x) p' ≡ lens.see h s p'
  pub put_put : (h : H) (s : S) (p p' : P) (x x' : X) → Far h p p' → lens.put h (lens.put h s p x) p' x' ≡ lens.put h (lens.put h s p' x') p x
  pub see_add : (h : H) (s : S) (c : C) (p : P) → Within h p → lens.see h (lens.add h s c) p ≡ lens.see h s p
  pub put_add : (h : H) (s : S) (c : C) (p : P) (x : X) → Within h p → lens.put h (lens.add h s c) p x ≡ lens.add h (lens.put h s p x) c
  pub add_add : (h : H) (s : S) (c c' : C) → Sound h s → lens.add h (lens.add h s c) c' ≡ lens.add h (lens.add h s c') c

-- What is put back reads back, by the accounts' own reading `get`, for what Fits in a row. The order of records does not need it, and it is asked of accounts alone, never of a view.
pub record Stores {H S P W X C : Type 0} (lens : Lens H S P W X C) (get : H → S → P → X)
    (Sound : H → S → Type 0) (Within : H → P → Type 0) (Far : H → P → P → Type 0) (Fits : X → Type 0) : Type 0 where
  pub get_back : (h : H) (s : S) (p : P) (x : X) → Sound h s → Within h p → Fits x → get h (lens.put h s p x) p ≡ x
  pub get_put : (h : H) (s : S) (p p' : P) (x : X) → Far h p p' → get h (lens.put h s p x) p' ≡ get h s p'
  pub get_add : (h : H) (s : S) (c : C) (p : P) → Within h p → get h (lens.add h s c) p ≡ get h s p

-- Accounts for the places ps that can be put back and found again: as many, each within and fitting, and each place far from those after it.
pub data Placed {H P X : Type 0} (h : H) (Within : H → P → Type 0) (Far : H → P → P → Type 0) (Fits : X → Type 0) : List P → List X → Type 0 where
  none : Placed h Within Far Fits [] []
  also : {p : P} {ps : List P} {x : X} {xs : List X} → Within h p → Fits x → ((q : P) → Memᴰ q ps → Far h q p) → Placed h Within Far Fits ps xs
      → Placed h Within Far Fits (p ∷ ps) (x ∷ xs)
