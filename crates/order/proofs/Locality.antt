-- A posting that sees views of the places its record names, and puts back those places alone, commutes with every posting whose places are far from those. For any lens and any rules.
use mathlib.Core.Path.{◌≡◌, refl, sym, ap, ap₂, ◌∙◌}
use mathlib.Core.List.{List, [], ◌∷◌, Memᴰ}
use Rattle.order.specs.Order.{Commutes}
use Rattle.order.specs.Lens.{Posting, Lens, Laws, reads, puts, add_all, posting_by, after_by, answer, after}

module _ {H S P W X C : Type 0} (lens : Lens H S P W X C)
    (Sound : H → S → Type 0) (Within : H → P → Type 0) (Far : H → P → P → Type 0) (l : Laws lens Sound Within Far) where
  head_puts : (h : H) (s : S) (ps : List P) (xs : List X) → lens.head (puts lens h s ps xs) ≡ lens.head s
  head_puts h s [] xs = refl
  head_puts h s (p ∷ ps) [] = refl
  head_puts h s (p ∷ ps) (x ∷ xs) = head_puts h (lens.put h s p x) ps xs ∙ l.head_put h s p x

  head_adds : (h : H) (s : S) (cs : List C) → lens.head (add_all lens h s cs) ≡ lens.head s
  head_adds h s [] = refl
  head_adds h s (c ∷ cs) = head_adds h (lens.add h s c) cs ∙ l.head_add h s c

  sound_puts : (h : H) (s : S) (ps : List P) (xs : List X) → Sound h s → Sound h (puts lens h s ps xs)
  sound_puts h s [] xs v = v
  sound_puts h s (p ∷ ps) [] v = v
  sound_puts h s (p ∷ ps) (x ∷ xs) v = sound_puts h (lens.put h s p x) ps xs (l.sound_put h s p x v)

  see_puts : (h : H) (s : S) (ps : List P) (xs : List X) (q : P) → ((p : P) → Memᴰ p ps → Far h p q) → lens.see h (puts lens h s ps xs) q ≡ lens.see h s q
  see_puts h s [] xs q f = refl
  see_puts h s (p ∷ ps) [] q f = refl
  see_puts h s (p ∷ ps) (x ∷ xs) q f = see_puts h (lens.put h s p x) ps xs q (λ p' k. f p' (Memᴰ.tail k)) ∙ l.see_put h s p q x (f p (Memᴰ.head refl))

  see_adds : (h : H) (s : S) (cs : List C) (q : P) → Within h q → lens.see h (add_all lens h s cs) q ≡ lens.see h s q
  see_adds h s [] q w = refl
  see_adds h s (c ∷ cs) q w = see_adds h (lens.add h s c) cs q w ∙ l.see_add h s c q w

  put_puts : (h : H) (s : S) (ps : List P) (xs : List X) (q : P) (y : X) → ((p : P) → Memᴰ p ps → Far h p q) → lens.put h (puts lens h s ps xs) q y ≡ puts lens h (lens.put h s q y) ps xs
  put_puts h s [] xs q y f = refl
  put_puts h s (p ∷ ps) [] q y f = refl
  put_puts h s (p ∷ ps) (x ∷ xs) q y f =
      put_puts h (lens.put h s p x) ps xs q y (λ p' k. f p' (Memᴰ.tail k)) ∙ ap (λ (t : S). puts lens h t ps xs) (l.put_put h s p q x y (f p (Memᴰ.head refl)))

  puts_puts : (h : H) (s : S) (ps qs : List P) (xs ys : List X) → ((p q : P) → Memᴰ p ps → Memᴰ q qs → Far h p q)
      → puts lens h (puts lens h s ps xs) qs ys ≡ puts lens h (puts lens h s qs ys) ps xs
  puts_puts h s ps [] xs ys f = refl
  puts_puts h s ps (q ∷ qs) xs [] f = refl
  puts_puts h s ps (q ∷ qs) xs (y ∷ ys) f =
      ap (λ (t : S). puts lens h t qs ys) (put_puts h s ps xs q y (λ p k. f p q k (Memᴰ.head refl)))
      ∙ puts_puts h (lens.put h s q y) ps qs xs ys (λ p q' k k'. f p q' k (Memᴰ.tail k'))

  put_adds : (h : H) (s : S) (cs : List C) (q : P) (y : X) → Within h q → lens.put h (add_all lens h s cs) q y ≡ add_all lens h (lens.put h s q y) cs
  put_adds h s [] q y w = refl
  put_adds h s (c ∷ cs) q y w = put_adds h (lens.add h s c) cs q y w ∙ ap (λ (t : S). add_all lens h t cs) (l.put_add h s c q y w)

  puts_adds : (h : H) (s : S) (cs : List C) (qs : List P) (ys : List X) → ((q : P) → Memᴰ q qs → Within h q)
      → puts lens h (add_all lens h s cs) qs ys ≡ add_all lens h (puts lens h s qs ys) cs
  puts_adds h s cs [] ys w = refl
  puts_adds h s cs (q ∷ qs) [] w = refl
  puts_adds h s cs (q ∷ qs) (y ∷ ys) w =
      ap (λ (t : S). puts lens h t qs ys) (put_adds h s cs q y (w q (Memᴰ.head refl))) ∙ puts_adds h (lens.put h s q y) cs qs ys (λ q' k. w q' (Memᴰ.tail k))

  add_adds : (h : H) (s : S) (cs : List C) (d : C) → Sound h s → lens.add h (add_all lens h s cs) d ≡ add_all lens h (lens.add h s d) cs
  add_adds h s [] d v = refl
  add_adds h s (c ∷ cs) d v = add_adds h (lens.add h s c) cs d (l.sound_add h s c v) ∙ ap (λ (t : S). add_all lens h t cs) (l.add_add h s c d v)

  adds_adds : (h : H) (s : S) (cs ds : List C) → Sound h s → add_all lens h (add_all lens h s cs) ds ≡ add_all lens h (add_all lens h s ds) cs
  adds_adds h s cs [] v = refl
  adds_adds h s cs (d ∷ ds) v = ap (λ (t : S). add_all lens h t ds) (add_adds h s cs d v) ∙ adds_adds h (lens.add h s d) cs ds (l.sound_add h s d v)

  reads_same : (h : H) (s t : S) (qs : List P) → ((q : P) → Memᴰ q qs → lens.see h t q ≡ lens.see h s q) → reads lens.see h t qs ≡ reads lens.see h s qs
  reads_same h s t [] f = refl
  reads_same h s t (q ∷ qs) f = ap₂ {C = List W} (λ a l. a ∷ l) (f q (Memᴰ.head refl)) (reads_same h s t qs (λ q' k. f q' (Memᴰ.tail k)))

module _ {H S P W X C R A : Type 0} (lens : Lens H S P W X C) (places : H → R → List P) (posting : H → R → List W → Posting X A C) where
  module _ (Sound : H → S → Type 0) (Within : H → P → Type 0) (Far : H → P → P → Type 0) (l : Laws lens Sound Within Far) where
    pub head_after : (s : S) (r : R) → lens.head (after lens places posting s r) ≡ lens.head s
    head_after s r =
        head_adds lens Sound Within Far l (lens.head s) (puts lens (lens.head s) s (places (lens.head s) r) (posting_by lens places posting (lens.head s) s r).become) (posting_by lens places posting (lens.head s) s r).adds
        ∙ head_puts lens Sound Within Far l (lens.head s) s (places (lens.head s) r) (posting_by lens places posting (lens.head s) s r).become

    -- a place far from those named, and from which the counters are apart, is as it was
    pub see_after : (h : H) (s : S) (r : R) (p : Posting X A C) (q : P) → Within h q → ((p : P) → Memᴰ p (places h r) → Far h p q) → lens.see h (after_by lens places posting h s r p) q ≡ lens.see h s q
    see_after h s r p q w f =
        see_adds lens Sound Within Far l h (puts lens h s (places h r) p.become) p.adds q w
        ∙ see_puts lens Sound Within Far l h s (places h r) p.become q f

    module _ (h : H) (within : (r : R) (p : P) → Memᴰ p (places h r) → Within h p)
        (r r' : R) (far : (p q : P) → Memᴰ p (places h r) → Memᴰ q (places h r') → Far h p q) where
      same_post : (s : S) (p : Posting X A C) → posting_by lens places posting h (after_by lens places posting h s r p) r' ≡ posting_by lens places posting h s r'
      same_post s p = ap (posting h r') (reads_same lens Sound Within Far l h s (after_by lens places posting h s r p) (places h r')
          (λ q k. see_after h s r p q (within r' q k) (λ p' k'. far p' q k' k)))

      put_both : (s : S) (p p' : Posting X A C) → Sound h s → after_by lens places posting h (after_by lens places posting h s r p) r' p' ≡ after_by lens places posting h (after_by lens places posting h s r' p') r p
      put_both s p p' v =
          ap (λ (t : S). add_all lens h t p'.adds) (puts_adds lens Sound Within Far l h (puts lens h s ps p.become) p.adds qs p'.become (within r'))
          ∙ ap (λ (t : S). add_all lens h (add_all lens h t p.adds) p'.adds) (puts_puts lens Sound Within Far l h s ps qs p.become p'.become far)
          ∙ adds_adds lens Sound Within Far l h (puts lens h (puts lens h s qs p'.become) ps p.become) p.adds p'.adds
          (sound_puts lens Sound Within Far l h (puts lens h s qs p'.become) ps p.become (sound_puts lens Sound Within Far l h s qs p'.become v))
          ∙ ap (λ (t : S). add_all lens h t p.adds) (sym (puts_adds lens Sound Within Far l h (puts lens h s qs p'.become) p'.adds ps p.become (within r)))
        where
          ps : List P
          ps = places h r

          qs : List P
          qs = places h r'

    -- two records whose places are far from each other commute, on every sound state with the head h
    pub commute : (h : H) → ((r : R) (p : P) → Memᴰ p (places h r) → Within h p) → (r r' : R)
        → ((p q : P) → Memᴰ p (places h r) → Memᴰ q (places h r') → Far h p q) → ((q p : P) → Memᴰ q (places h r') → Memᴰ p (places h r) → Far h q p)
        → Commutes (λ (s : S). (lens.head s ≡ h) × Sound h s) (after lens places posting) (answer lens places posting) r r'
    commute h within r r' far far' = record {
      answer_after = λ s v. ap (λ (p : Posting X A C). p.says) (there r r' far s v.0);
      answer_before = λ s v. ap (λ (p : Posting X A C). p.says) (there r' r far' s v.0);
      both = λ s v.
          whole r r' far s v.0
          ∙ put_both h within r r' far s (posting_by lens places posting h s r) (posting_by lens places posting h s r') v.1
          ∙ sym (whole r' r far' s v.0);
    }
      where
        own : (s : S) (a : R) → lens.head s ≡ h → after lens places posting s a ≡ after_by lens places posting h s a (posting_by lens places posting h s a)
        own s a e = ap (λ (g : H). after_by lens places posting g s a (posting_by lens places posting g s a)) e

        there : (a b : R) → ((p q : P) → Memᴰ p (places h a) → Memᴰ q (places h b) → Far h p q) → (s : S) → lens.head s ≡ h → posting_by lens places posting (lens.head (after lens places posting s a)) (after lens places posting s a) b ≡ posting_by lens places posting (lens.head s) s b
        there a b f s e =
            ap (λ (g : H). posting_by lens places posting g (after lens places posting s a) b) (head_after s a ∙ e)
            ∙ ap (λ (t : S). posting_by lens places posting h t b) (own s a e)
            ∙ same_post h within a b f s (posting_by lens places posting h s a)
            ∙ ap (λ (g : H). posting_by lens places posting g s b) (sym e)

        whole : (a b : R) → ((p q : P) → Memᴰ p (places h a) → Memᴰ q (places h b) → Far h p q) → (s : S) → lens.head s ≡ h
            → after lens places posting (after lens places posting s a) b ≡ after_by lens places posting h (after_by lens places posting h s a (posting_by lens places posting h s a)) b (posting_by lens places posting h s b)
        whole a b f s e =
            ap (λ (g : H). after_by lens places posting g (after lens places posting s a) b (posting_by lens places posting g (after lens places posting s a) b)) (head_after s a ∙ e)
            ∙ ap (λ (t : S). after_by lens places posting h t b (posting_by lens places posting h t b)) (own s a e)
            ∙ ap (λ (p : Posting X A C). after_by lens places posting h (after_by lens places posting h s a (posting_by lens places posting h s a)) b p) (same_post h within a b f s (posting_by lens places posting h s a))
