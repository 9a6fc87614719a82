-- What an accepted record makes: the accounts that stand at its places are those that its posting made. Of the views there nothing is said.
use mathlib.Core.Path.{◌≡◌, refl, ap₂, ◌∙◌}
use mathlib.Core.List.{List, [], ◌∷◌, Memᴰ}
use Rattle.order.specs.Lens.{Lens, Laws, Stores, Placed, none, also, reads, puts, add_all}

module _ {H S P W X C : Type 0} (lens : Lens H S P W X C) (get : H → S → P → X)
    (Sound : H → S → Type 0) (Within : H → P → Type 0) (Far : H → P → P → Type 0) (Fits : X → Type 0)
    (l : Laws lens Sound Within Far) (t : Stores lens get Sound Within Far Fits) where
  get_puts : (h : H) (s : S) (ps : List P) (xs : List X) (q : P) → ((p : P) → Memᴰ p ps → Far h p q) → get h (puts lens h s ps xs) q ≡ get h s q
  get_puts h s [] xs q f = refl
  get_puts h s (p ∷ ps) [] q f = refl
  get_puts h s (p ∷ ps) (x ∷ xs) q f = get_puts h (lens.put h s p x) ps xs q (λ p' k. f p' (Memᴰ.tail k)) ∙ t.get_put h s p q x (f p (Memᴰ.head refl))

  get_adds : (h : H) (s : S) (cs : List C) (q : P) → Within h q → get h (add_all lens h s cs) q ≡ get h s q
  get_adds h s [] q w = refl
  get_adds h s (c ∷ cs) q w = get_adds h (lens.add h s c) cs q w ∙ t.get_add h s c q w

  puts_back : (h : H) (s : S) {ps : List P} {xs : List X} → Sound h s → Placed h Within Far Fits ps xs → reads get h (puts lens h s ps xs) ps ≡ xs
  puts_back h s v none = refl
  puts_back h s v (also {p} {ps} {x} {xs} w f far rest) =
      ap₂ {C = List X} (λ a l. a ∷ l)
      (get_puts h (lens.put h s p x) ps xs p far ∙ t.get_back h s p x v w f)
      (puts_back h (lens.put h s p x) (l.sound_put h s p x v) rest)

  adds_leave : (h : H) (s : S) (cs : List C) {ps : List P} {xs : List X} → Placed h Within Far Fits ps xs → reads get h (add_all lens h s cs) ps ≡ reads get h s ps
  adds_leave h s cs none = refl
  adds_leave h s cs (also {p} w f far rest) = ap₂ {C = List X} (λ a l. a ∷ l) (get_adds h s cs p w) (adds_leave h s cs rest)

  pub makes : (h : H) (s : S) (cs : List C) {ps : List P} {xs : List X} → Sound h s → Placed h Within Far Fits ps xs
      → reads get h (add_all lens h (puts lens h s ps xs) cs) ps ≡ xs
  makes h s cs {ps} {xs} v k = adds_leave h (puts lens h s ps xs) cs k ∙ puts_back h s v k
