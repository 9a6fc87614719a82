-- A local that holds an account is what a borrow of one lends, and back.
-- Assumes nothing.
use Prim.Native.Nat.{ℕ}
use mathlib.Core.List.{[], ◌∷◌, List}
use seplogic.Ra.Ura.{Ura}
use base.Fraction.{full_share}
use mir.Val.{Val}
use base.Logic.{ent, sep}
use base.Fml.{fsep, fat}
use types.Logic.{Logic, sem}
use types.Kit.{‵, ◌$◌, ◌∵◌, !, qed, use1, fsplit, fpick, fpack, fjoin, done}
use denote.Laws.{Is, shows}
use denote.Memory.{mem, cell_at, part_of}
use denote.Struct.Steps.{spelt}
use denote.Struct.Laws as LL
use Rattle.book.specs.declared.accounts.Account.{Account}
use Rattle.book.specs.contracts.accounts.Account as T
use Rattle.book.proofs.accounts.Account.TheLaws as T'
use Rattle.lending.proofs.Thin.{account_val}

module _ {M : Type 1} {𝓤 : Ura M} (𝓛 : Logic 𝓤) where
  open 𝓛 use {H}

  pub lies_in : (h : Account) (l : ℕ) → ent 𝓤 (sep 𝓤 (H.at full_share T'.mir l 0 (account_val h)) (sem 𝓛 ((T.the_row).own_val h (account_val h ∷ [])))) (sem 𝓛 ((mem T.the_row).own_at h l 0))
  unfolding part_of
  lies_in h l =
      qed 𝓛 (‵ (fat full_share T'.mir l 0 (account_val h)) ∷ ‵ ((T.the_row).own_val h (account_val h ∷ [])) ∷ []) ∵ use1 𝓛 (‵ (cell_at full_share (T.the_row).mir (account_val h ∷ []) l 0)) (𝓛.laws.at_raw full_share T'.mir l 0 (account_val h)) $
      fjoin ! $ fpack ! (List Val) (λ vs. fsep (cell_at full_share (T.the_row).mir vs l 0) ((T.the_row).own_val h vs)) (account_val h ∷ []) $ done !

  pub lies_out : (h : Account) (l : ℕ) → ent 𝓤 (sem 𝓛 ((mem T.the_row).own_at h l 0)) (sep 𝓤 (H.at full_share T'.mir l 0 (account_val h)) (sem 𝓛 ((T.the_row).own_val h (account_val h ∷ []))))
  unfolding part_of
  lies_out h l =
      qed 𝓛 (‵ ((mem T.the_row).own_at h l 0) ∷ []) ∵ fpick ! (λ vs. fsplit ! $ spelt ! T.the_row (Is T.the_row) (shows 𝓛 T.the_row) (LL.vals T.the_type T'.the_laws) (LL.tells T.the_type T'.the_laws) full_share h vs l 0 $
      use1 𝓛 (‵ (fat full_share T'.mir l 0 (account_val h))) (𝓛.laws.raw_at full_share T'.mir l 0 (account_val h)) $ done !)
