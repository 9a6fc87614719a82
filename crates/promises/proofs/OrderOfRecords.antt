-- THEOREM: the order of records that name no common member does not matter, byte for byte.
use mathlib.Core.Path.{◌≡◌, refl, sym, ap, ◌∙◌, subst}
use mathlib.Core.Bool.{Bool, true, false}
use mathlib.Core.List.Memᴰ
use mathlib.Core.List.{List, [], Memᴰ}
use Prim.Native.Nat.{ℕ, ◌<◌}
use Rattle.order.specs.Order.{Arranged, Commutes, SameOutcome}
use Rattle.order.proofs.Locality.{commute}
use Rattle.order.proofs.Theorem.{order}
use Rattle.book.specs.declared.heads.Head.{Head}
use Rattle.book.specs.declared.accounts.Place.{Place}
use Rattle.book.specs.Heads.{head_at}
use Rattle.book.specs.Accounts.{Within, Far}
use Rattle.book.specs.Views.{sights}
use Rattle.book.proofs.Seeing.{Room, laws}
use Rattle.validity.specs.Valid.{valid_book}
use Rattle.requests.specs.Records.{request_of, names_of}
use Rattle.posting.specs.Answers.{places_of, posting, says, step, answer, after}
use Rattle.promises.specs.Naming.{Common}
use Rattle.promises.specs.SameDay.{SameRun}
use Rattle.requests.proofs.Requests.{formed, standing, places_within}
use Rattle.promises.proofs.Whole.{whole_of, room, some_contract}
use Rattle.promises.proofs.Kept.{kept, kept_step}
use Rattle.promises.proofs.Answering.{valid_answer, valid_after, invalid_after}
use Rattle.promises.proofs.OnlyNamed.{counts_stay}

-- in books of the head h
abbrev CommonBy : Head → List ℕ → List ℕ → Type 0
CommonBy h r r' = (m : ℕ) × Memᴰ m (names_of (request_of h r)) × Memᴰ m (names_of (request_of h r'))

module _ (h : Head) (k : 0 < h.contracts) where
  far : (r r' : List ℕ) → ¬ CommonBy h r r' → (p q : Place) → Memᴰ p (places_of h r) → Memᴰ q (places_of h r') → Far h p q
  far r r' none p q i i' = record {
    one = places_within k (formed h r) p i;
    other = places_within k (formed h r') q i';
    differ = λ e. none (p.member, (standing (request_of h r) p i).member, Memᴰ.cast e (standing (request_of h r') q i').member);
  }

  abbrev Good : List ℕ → Type 0
  Good s = (head_at s ≡ h) × (valid_book s ≡ true)

  -- on valid books of this head, the answer 10 is never given
  commutes : (r r' : List ℕ) → ¬ CommonBy h r r' → Commutes Good after answer r r'
  commutes r r' none = record {
    answer_after = λ s g. there r r' s g (c.answer_after s (g.0, roomy s g));
    answer_before = λ s g. there r' r s g (c.answer_before s (g.0, roomy s g));
    both = λ s g. twice r r' s g ∙ c.both s (g.0, roomy s g) ∙ sym (twice r' r s g);
  }
    where
      roomy : (s : List ℕ) → Good s → Room h s
      roomy s g = subst (λ (x : Head). Room x s) g.0 (room (whole_of s g.1))

      c : Commutes (λ (s : List ℕ). (head_at s ≡ h) × Room h s) step says r r'
      c = commute sights places_of posting Room Within Far laws h (λ a p i. places_within k (formed h a) p i) r r' (far r r' none) (far r' r (λ z. none (z.0, z.2, z.1)))

      there : (a b s : List ℕ) → Good s → says (step s a) b ≡ says s b → answer (after s a) b ≡ answer s b
      there a b s g e = ap (λ (t : List ℕ). answer t b) (valid_after s a g.1) ∙ valid_answer (step s a) b (kept_step s a g.1) ∙ e ∙ sym (valid_answer s b g.1)

      twice : (a b s : List ℕ) → Good s → after (after s a) b ≡ step (step s a) b
      twice a b s g = ap (λ (t : List ℕ). after t b) (valid_after s a g.1) ∙ valid_after (step s a) b (kept_step s a g.1)

-- on a book that is not valid nothing moves
idle : (r r' : List ℕ) → Commutes (λ (s : List ℕ). valid_book s ≡ false) after answer r r'
idle r r' = record {
  answer_after = λ s e. ap (λ (t : List ℕ). answer t r') (invalid_after s r e);
  answer_before = λ s e. ap (λ (t : List ℕ). answer t r) (invalid_after s r' e);
  both = λ s e. ap (λ (t : List ℕ). after t r') (invalid_after s r e) ∙ invalid_after s r' e ∙ sym (ap (λ (t : List ℕ). after t r) (invalid_after s r' e) ∙ invalid_after s r e);
}

-- Two lists of the same records, those that name a common member in the same order: each record gets the same answer, and the books at the end are equal. For any bytes
pub order_of_records : (book : List ℕ) (records other : List (List ℕ)) (to : ℕ → ℕ) → Arranged (Common book) [] records other to → SameRun book records other to
order_of_records book records other to arranged = let s = go (valid_book book) refl in record { each = s.each; end = s.end }
  where
    go : (t : Bool) → valid_book book ≡ t → SameOutcome after answer 0 book records other to
    go true e =
        let k = some_contract (whole_of book e) in
        order (Good (head_at book) k) (Common book) after answer (λ s r g. (counts_stay s r ∙ g.0, kept s r ∙ g.1)) (commutes (head_at book) k) [] 0 book records other to (refl, e) arranged
    go false e = order (λ (s : List ℕ). valid_book s ≡ false) (Common book) after answer (λ s r g. kept s r ∙ g) (λ r r' n. idle r r') [] 0 book records other to e arranged

-- two records alone
pub swapped : (book r r' : List ℕ) → ¬ Common book r r' → after (after book r) r' ≡ after (after book r') r
swapped book r r' none = elim (valid_book book) as (λ (t : Bool). valid_book book ≡ t → after (after book r) r' ≡ after (after book r') r) [
  | true ↦ λ e. (commutes (head_at book) (some_contract (whole_of book e)) r r' none).both book (refl, e)
  | false ↦ λ e. (idle r r').both book e
] refl
