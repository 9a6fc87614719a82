-- One law for every function that lends an account of its own to a thin posting g that does f.
-- Assumes nothing.
use mathlib.Core.Path.{◌≡◌, refl, ap}
use Prim.Native.Nat.{ℕ, ◌<◌, ◌^◌}
use mathlib.Core.List.{[], ◌∷◌, List}
use seplogic.Ra.Ura.{Ura}
use base.Fraction.{full_share}
use mir.Syntax.{Callee, Fn, named, erased, mut, w8, ty_int, ty_ref, local, value_local, memory_slot, place, copy, rv_opd, addr_of, aggregate, assign, call, seq, return}
use mir.Val.{Val, vptr}
use base.Logic.{SProp, ent, sep, emp, id⊢}
use base.Fml.{GName, ftrue, fat, flft, flent}
use prog.Wp.{Calls, Loops, WpFn, Tables}
use types.Logic.{Logic, sem}
use contract.Monad.{fact}
use types.Kit.{‵, raw, ◌⊛◌, some, later, ◌$◌, ◌∵◌, !, qed, by, move, keep, drop, use1, use2, use3, split, join, pick, rewrite, fsplit, fjoin, suffices, frame, await, done}
use types.Run.{look, init, forget, stop, from, load, addr, of_opd, and_then, no_more, assigns, land, returns, enter, alloc1, alloc0, params1, pass1, pass0, free1, free0}
use types.Part.{agg}
use types.Tokens.{lft_new, lft_end}
use types.SemTy.{Body}
use sound.WpLaws.{FmC, fm_of, WpFn-mono}
use denote.RattleType.{owns}
use denote.Laws.{Is, shows}
use denote.Memory.{mem, pointee}
use denote.Lend.{lends_ref, ref_back}
use denote.Plain.{uint_Lawful}
use denote.Builtin.{u8}
use denote.Ref.{MutBor, MutRef}
use denote.Steps.{only, owned, peeks, heard, nothing}
use denote.Struct.Laws as LL
use denote.Enum.Laws as EL
use denote.Triple.Statement.{Contract, Triple}
use denote.Triple.Call.{calls_at}
use denote.Triple.Clauses.{ensured, lasts, closing}
use denote.Triple.Entry.{on_entry}
use denote.Triple.Spec.{Meets, triple_of}
use denote.Triple.Walked.{says, needs, Stays, stay_none, walk_of, Goes-none, Walks, ends_at, walked, walk_Meets}
use denote.Exit.{yes}
use Rattle.book.specs.declared.accounts.Account.{Account}
use Rattle.posting.specs.declared.accounts.Entry.{Entry}
use Rattle.lending.specs.declared.Posted.{Posted}
use Rattle.posting.specs.Ranges.{PostedIn}
use Rattle.posting.specs.contracts.accounts.Entry as Q
use Rattle.posting.proofs.accounts.Entry.TheLaws as Q'
use Rattle.book.specs.contracts.accounts.Account as T
use Rattle.book.proofs.accounts.Account.TheLaws as T'
use Rattle.lending.specs.contracts.Posted as S
use Rattle.lending.proofs.Posted.TheLaws as S'
use Rattle.lending.proofs.Borrowed.{lies_in, lies_out}
use Rattle.lending.proofs.Thin.{account_val, entry_val, posted_val, sig, ended, clauses, sig₂, ended₂, clauses₂}

-- the MIR of a function that lends the account that it is passed to the thin posting g
abbrev pub function : Callee → Fn
function g = record {
  lifetimes = 0;
  outlives = [];
  ty_params = [];
  givens = 0;
  params = 2;
  locals = local S'.mir value_local ∷ local T'.mir value_local ∷ local Q'.mir value_local ∷ local T'.mir memory_slot ∷ local (ty_int w8) value_local ∷ local (ty_ref erased mut (pointee (T.the_row).written)) value_local ∷ local T'.mir value_local ∷ [];
  body = seq (assign (place 3 []) (rv_opd (copy (place 1 [])))) (seq (assign (place 5 []) (addr_of (place 3 []))) (seq (call g (copy (place 5 []) ∷ copy (place 2 []) ∷ []) (place 4 []))
      (seq (assign (place 6 []) (rv_opd (copy (place 3 [])))) (seq (assign (place 0 []) (aggregate (copy (place 4 []) ∷ copy (place 6 []) ∷ []))) return))));
}

abbrev stayed : Stays ended₂.signature.params ended₂.kept
stayed = (stay_none (λ _. T.the_row) yes, (stay_none (λ _. Q.the_row) yes, tt))

-- an answer and an account, as the parts of a Posted
abbrev both : ℕ → Account → Posted
both r a = record { answer = r; account = a }

both_is : (r : ℕ) (a : Account) → r < 2 ^ 8 → Is T.the_row a (account_val a ∷ []) → Is S.the_row (both r a) (posted_val (both r a) ∷ [])
both_is r a fits is = LL.owes S.the_type S'.the_laws (both r a) ((refl, fits), (is, tt))

module _ (f : Account → Entry → Posted) (g : Callee) {M : Type 1} {𝓤 : Ura M} (𝓛 : Logic 𝓤) (h : Account) (n : Entry) (is : Is T.the_row h (account_val h ∷ [])) (n-is : Is Q.the_row n (entry_val n ∷ [])) (fair : PostedIn h n) where
  -- the contract that the proof cites
  open 𝓛 use {H, A}

  abbrev Posts : Contract 𝓤
  Posts = triple_of 𝓛 sig (closing 𝓛 ended (clauses f 𝓤))

  abbrev vals : List Val × (List Val × Unit {0})
  vals = (account_val h ∷ [], (entry_val n ∷ [], tt))

  abbrev Post : Val → SProp 𝓤
  Post = (walk_of 𝓛 ended₂ stayed (clauses₂ f 𝓤)).post ((tt, tt, tt, (h, (n, tt)), vals), tt)

  exits : (r : Posted) → Is S.the_row r (posted_val r ∷ []) → r ≡ f h n → ent 𝓤 (emp 𝓤) (Post (posted_val r))
  exits r r-is e =
      qed 𝓛 [] ∵ suffices ! _ (ends_at 𝓛 ended₂ stayed (clauses₂ f 𝓤) ((tt, tt, tt, (h, (n, tt)), vals), tt) (posted_val r) r (tt, (tt, tt)) (tt, (tt, tt))) $ says ! e $
      owned ! S.the_row (Is S.the_row) (LL.makes S.the_type S'.the_plain 𝓛) r _ r-is $
      nothing ! $ owned ! Q.the_row (Is Q.the_row) (EL.makes Q.the_type Q'.the_plain 𝓛) n _ n-is $ fjoin ! $ owned ! T.the_row (Is T.the_row) (LL.makes T.the_type T'.the_plain 𝓛) h _ is $ fjoin ! $ nothing ! $ done !

  -- what `post`'s triple binds outside: the account at (l, 0), lent for the lifetime α under the name δ
  abbrev x : ℕ → GName → MutBor Account
  x l δ = record { ref_ptr = (l, 0); ghost_name = δ; now = h }

  abbrev to_post : ℕ → ℕ → GName → Posts.Ghost
  to_post α l δ = (((α ∷ [], tt), (full_share, tt), tt, (x l δ, (n, tt)), (vptr l 0 ∷ [], (entry_val n ∷ [], tt))), tt)

  goes_post : (α l : ℕ) (δ : GName) → ent 𝓤 (sep 𝓤 (A.lft (α ∷ []) full_share) (sem 𝓛 ((MutRef (named 0) (α ∷ []) T.the_row).own_val (x l δ) (vptr l 0 ∷ [])))) (Posts.pre (to_post α l δ))
  goes_post α l δ =
      qed 𝓛 (‵ (flft (α ∷ []) full_share) ∷ ‵ ((MutRef (named 0) (α ∷ []) T.the_row).own_val (x l δ) (vptr l 0 ∷ [])) ∷ []) ∵
      says ! fair $ nothing ! $ move ! (1 ∷ 0 ∷ []) $ join ! $ frame ! $ nothing ! $ owned ! Q.the_row (Is Q.the_row) (EL.makes Q.the_type Q'.the_plain 𝓛) n _ n-is $ fjoin ! $ move ! (1 ∷ 0 ∷ []) $ fjoin ! $ done !

  -- what `post` ensures of its answer r and of the last account a
  abbrev Said : ℕ → Account → Type 0
  Said r a = (r ≡ (f h n).answer) × (a ≡ (f h n).account)

  module _ (C : Calls 𝓤 H) (Λ : Loops 𝓤 H) (fm : FmC 𝓤 H 𝓛.laws C) (known : Triple 𝓤 (C g) Posts) where
    walk : ent 𝓤 (on_entry 𝓛 sig₂ tt tt (h, (n, tt)) vals) (WpFn 𝓤 H C Λ (function g) (account_val h ∷ entry_val n ∷ []) Post)
    walk =
        qed 𝓛 (‵ ftrue ∷ ‵ (owns (T.the_row ∷ Q.the_row ∷ []) (h, (n, tt)) vals) ∷ []) ∵ enter ! C Λ (function g) (account_val h ∷ entry_val n ∷ []) _ $
        alloc1 ! (λ l₀. alloc1 ! (λ l₁. alloc1 ! (λ l₂. alloc1 ! (λ l₃. alloc1 ! (λ l₄. alloc1 ! (λ l₅. alloc1 ! (λ l₆. alloc0 ! $ params1 ! $
        pass1 ! (init ! 10 refl ((LL.lawful T.the_type T'.the_laws 𝓛).typed h _ is).0) $ pass1 ! (init ! 8 refl ((EL.lawful Q.the_type Q'.the_laws 𝓛 tt).typed n _ n-is).0) $ pass0 ! $
        -- [_6; …; _5; …; _4; …; _3; …; _2; …; _1; …; room for _0; …]
        assigns ! (of_opd ! (load ! (from ! (stop !)) (look ! 10 refl))) (from ! (stop !)) (init ! 6 refl ((LL.lawful T.the_type T'.the_laws 𝓛).typed h _ is).0) $
        assigns ! (addr ! (from ! (stop !))) (from ! (stop !)) (init ! 2 refl (tt, tt)) $
        -- _3 is lent for a new lifetime
        owned ! T.the_row (Is T.the_row) (LL.makes T.the_type T'.the_plain 𝓛) h _ is $ move ! (7 ∷ 0 ∷ []) $ use2 𝓛 (‵ ((mem T.the_row).own_at h l₃ 0)) (lies_in 𝓛 h l₃) $
        lft_new ! tt (λ α. move ! (1 ∷ []) $
        use1 𝓛 (later (some (λ (δ : GName). ‵ ((MutRef (named 0) (α ∷ []) T.the_row).own_val (x l₃ δ) (vptr l₃ 0 ∷ [])) ⊛ ‵ (flent (α ∷ []) (Body (mem T.the_row) l₃ 0 δ))))) (lends_ref 𝓛 T.the_row (named 0) (α ∷ []) h l₃ 0) $ await ! tt $ pick ! (λ δ. split ! $
        move ! (2 ∷ 0 ∷ []) $ use2 𝓛 (raw (Posts.pre (to_post α l₃ δ))) (goes_post α l₃ δ) $
        -- [what `post` asks; the lender's part; _6; …; _5; …; _4; …; what frees _3; _2; …; _1; …; room for _0; …]
        calls_at ! fm Posts known (to_post α l₃ δ) (and_then ! (load ! (from ! (stop !)) (look ! 4 refl)) (and_then ! (load ! (from ! (stop !)) (look ! 9 refl)) (no_more !))) (λ v.
        use1 𝓛 (later (some (λ (r : ℕ). ((‵ (flft (α ∷ []) full_share) ⊛ ‵ ftrue) ⊛ ‵ (u8.own_val r (v ∷ []))) ⊛ raw (ensured 𝓛 ended (clauses f 𝓤) (α ∷ [], tt) (x l₃ δ, (n, tt)) tt r)))) (id⊢ 𝓤 _) $ await ! tt $ pick ! (λ r.
        split ! $ move ! (1 ∷ []) $ use1 𝓛 (some (λ (zs : Account × (Unit {0} × Unit {0})). ‵ (lasts ended (α ∷ [], tt) (x l₃ δ, (n, tt)) zs) ⊛ raw (fact 𝓤 (Said r zs.0)))) (id⊢ 𝓤 _) $ pick ! (λ zs.
        split ! $ move ! (1 ∷ []) $ heard ! (Said r zs.0) (λ e. fsplit ! $ move ! (1 ∷ []) $ drop ! $ fsplit ! $ move ! (1 ∷ []) $ drop ! $ move ! (1 ∷ []) $ split ! $ split ! $ move ! (2 ∷ []) $
        -- [what the answer owns; the token; true; the last account; the lender's part; _6; …; _5; …; _4; …; what frees _3; …]
        peeks ! u8 (Is u8) (shows 𝓛 u8) r (v ∷ []) (λ r-is.
        land ! (from ! (stop !)) (init ! 9 refl ((uint_Lawful 𝓛 w8).typed r _ r-is).0) $ rewrite ! 9 (λ (u : Val). ‵ (fat full_share (ty_int w8) l₄ 0 u)) (ap only r-is.0) refl $
        -- the lifetime is ended, and _3 comes back at the last account
        drop ! $ lft_end ! tt $ move ! (0 ∷ 3 ∷ 2 ∷ []) $ use3 𝓛 (later (‵ ((mem T.the_row).own_at zs.0 l₃ 0))) (ref_back 𝓛 T.the_row (α ∷ []) δ zs.0 l₃ 0) $ await ! tt $
        use1 𝓛 (‵ (fat full_share T'.mir l₃ 0 (account_val zs.0)) ⊛ ‵ ((T.the_row).own_val zs.0 (account_val zs.0 ∷ []))) (lies_out 𝓛 zs.0 l₃) $ split ! $
        move ! (1 ∷ []) $ peeks ! T.the_row (Is T.the_row) (shows 𝓛 T.the_row) zs.0 (account_val zs.0 ∷ []) (λ last-is. drop ! $
        -- [_3; true; _6; …; _5; …; _4; …; what frees _3; _2; …; _1; …; room for _0; …]
        assigns ! (of_opd ! (load ! (from ! (stop !)) (look ! 0 refl))) (from ! (stop !)) (init ! 2 refl ((LL.lawful T.the_type T'.the_laws 𝓛).typed zs.0 _ last-is).0) $
        assigns ! (agg ! (and_then ! (load ! (from ! (stop !)) (look ! 6 refl)) (and_then ! (load ! (from ! (stop !)) (look ! 2 refl)) (no_more !)))) (from ! (stop !)) (init ! 13 refl ((LL.lawful S.the_type S'.the_laws 𝓛).typed (both r zs.0) _ (both_is r zs.0 r-is.1 last-is)).0) $
        returns ! (look ! 13 refl) $ forget ! 0 refl $ forget ! 2 refl $ forget ! 4 refl $ forget ! 6 refl $ forget ! 9 refl $ forget ! 11 refl $ forget ! 13 refl $
        move ! (13 ∷ 14 ∷ []) $ free1 ! $ move ! (11 ∷ 12 ∷ []) $ free1 ! $ move ! (9 ∷ 10 ∷ []) $ free1 ! $ move ! (0 ∷ 8 ∷ []) $ free1 ! $ move ! (5 ∷ 6 ∷ []) $ free1 ! $ move ! (3 ∷ 4 ∷ []) $ free1 ! $ move ! (1 ∷ 2 ∷ []) $ free1 ! $ free0 ! $
        keep ! [] $ by ! (exits (both r zs.0) (both_is r zs.0 r-is.1 last-is) (λ i. both (e.0 i) (e.1 i))))))))))))))))))

module _ (f : Account → Entry → Posted) (g : Callee) {M : Type 1} {𝓤 : Ura M} (𝓛 : Logic 𝓤) where
  open 𝓛 use {H}

  abbrev Posts' : Contract 𝓤
  Posts' = triple_of 𝓛 sig (closing 𝓛 ended (clauses f 𝓤))

  lent_walks : (C : Calls 𝓤 H) (Λ : Loops 𝓤 H) → FmC 𝓤 H 𝓛.laws C → Triple 𝓤 (C g) Posts' → Walks 𝓛 ended₂ stayed (WpFn 𝓤 H C Λ (function g)) (clauses₂ f 𝓤)
  lent_walks C Λ fm known = walked 𝓛 ended₂ stayed (clauses₂ f 𝓤) (WpFn 𝓤 H C Λ (function g)) (λ κs. (LL.vals T.the_type T'.the_laws, (EL.vals Q.the_type Q'.the_laws, tt))) (λ κs. (LL.tells T.the_type T'.the_laws, (EL.tells Q.the_type Q'.the_laws, tt)))
      (λ κs qs bounds a _ are. needs 𝓤 (PostedIn a.0 a.1.0) _ (λ fair. walk f g 𝓛 a.0 a.1.0 are.0 are.1.0 fair C Λ fm known))

pub lent_meets : (f : Account → Entry → Posted) (g : Callee) {M : Type 1} {𝓤 : Ura M} (𝓛 : Logic 𝓤) (𝓣 : Tables 𝓤 𝓛.H)
    → Triple 𝓤 (𝓣.C g) (Posts' f g 𝓛) → Meets 𝓛 sig₂ (WpFn 𝓤 𝓛.H 𝓣.C 𝓣.Λ (function g)) (closing 𝓛 ended₂ (clauses₂ f 𝓤))
lent_meets f g {𝓤 = 𝓤} 𝓛 𝓣 known = walk_Meets 𝓛 ended₂ stayed (Goes-none 𝓛 0 (λ _. T.the_row) yes (λ κs x f. refl), (Goes-none 𝓛 0 (λ _. Q.the_row) yes (λ κs x f. refl), tt)) (clauses₂ f 𝓤)
    (WpFn 𝓤 𝓛.H 𝓣.C 𝓣.Λ (function g)) (WpFn-mono 𝓤 𝓛.H 𝓛.laws 𝓣 (function g)) (lent_walks f g 𝓛 𝓣.C 𝓣.Λ (fm_of 𝓤 𝓛.H 𝓛.laws 𝓣) known)
