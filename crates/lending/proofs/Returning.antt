-- One law for every function that lends an account of its own to a thin posting g, and hands back what g said and the account: the code
-- that the compiler makes of `lent`.
-- Assumes nothing.
use mathlib.Core.Path.{◌≡◌, refl, ap, subst}
use Prim.Native.Nat.{ℕ}
use mathlib.Core.List.{[], ◌∷◌, List}
use seplogic.Ra.Ura.{Ura}
use base.Fraction.{full_share}
use mir.Syntax.{Callee, Fn, named, erased, mut, ty_ref, local, value_local, memory_slot, place, copy, rv_opd, addr_of, aggregate, assign, call, seq, return}
use mir.Val.{Val, vptr}
use base.Logic.{SProp, ent, sep, emp, id⊢}
use base.Fml.{GName, ftrue, fat, flft, flent}
use prog.Wp.{Calls, Loops, WpFn, Tables}
use types.Logic.{Logic, sem}
use contract.Monad.{fact}
use types.Kit.{‵, raw, ◌⊛◌, some, later, ◌$◌, ◌∵◌, !, qed, by, move, keep, drop, use1, use2, use3, split, join, pick, rewrite, fsplit, fjoin, suffices, frame, await, done}
use types.Run.{look, init, forget, stop, from, load, addr, of_opd, and_then, no_more, assigns, land, returns, enter, alloc1, alloc0, params1, pass1, pass0, free1, free0}
use types.Part.{agg}
use types.Tokens.{lft_new, lft_end}
use types.SemTy.{Body}
use sound.WpLaws.{FmC, fm_of, WpFn-mono}
use denote.Laws.{Is, shows}
use denote.Memory.{mem, pointee}
use denote.Lend.{lends_ref, ref_back}
use denote.Builtin.{unit, RefMutOf}
use denote.RattleType.{RattleType, owns}
use denote.Signature.{Signature, plain}
use denote.Param.{layout}
use denote.Param.Laws.{of_field, field_told}
use denote.Param.Shared.{copy_shared}
use denote.Struct.Field.{unit-field}
use denote.Ref.{MutBor, MutRef}
use denote.Steps.{only, owned, peeks, heard, nothing}
use denote.Struct.Laws as LL
use denote.Enum.Declared.{Declared}
use denote.Enum.Laws as EL
use denote.Triple.Statement.{Contract, Triple}
use denote.Triple.Call.{calls_at}
use denote.Triple.Clauses.{Clauses, Ended, ensured, lasts, closing}
use denote.Triple.Entry.{on_entry}
use denote.Triple.Spec.{Meets, triple_of}
use denote.Triple.Walked.{says, needs, Stays, stay_none, walk_of, Goes-none, Walks, ends_at, walked, walk_Meets}
use denote.Exit.{yes}
use Rattle.book.specs.declared.accounts.Account.{Account}
use Rattle.posting.specs.declared.accounts.Entry.{Entry}
use Rattle.lending.specs.declared.Posted.{Posted}
use Rattle.lending.specs.declared.Returned.{Returned}
use Rattle.std.specs.Prelude.{Result}
use Rattle.rules.specs.declared.refusals.Refusal.{Refusal}
use Rattle.rules.specs.Refusals.{answered}
use Rattle.posting.specs.Ranges.{PostedIn}
use Rattle.posting.specs.contracts.accounts.Entry as Q
use Rattle.posting.proofs.accounts.Entry.TheLaws as Q'
use Rattle.book.specs.contracts.accounts.Account as T
use Rattle.book.proofs.accounts.Account.TheLaws as T'
use Rattle.std.specs.contracts.result.Result as R
use Rattle.std.proofs.result.Result.TheLaws as R'
use Rattle.rules.specs.contracts.refusals.Refusal as N
use Rattle.rules.proofs.refusals.Refusal.TheLaws as N'
use Rattle.lending.specs.contracts.Returned as S
use Rattle.lending.proofs.Returned.TheLaws as S'
use Rattle.lending.proofs.Borrowed.{lies_in, lies_out}
use Rattle.lending.proofs.Thin.{account_val, entry_val}

-- what a posting says: nothing, or the refusal
abbrev pub Outcome : Type 0
Outcome = Result (Unit {0}) Refusal

abbrev pub outcome_row : RattleType
outcome_row = R.the_row unit N.the_row

abbrev outcome_type : Declared
outcome_type = R.the_type unit N.the_row

abbrev outcome_laws : EL.Laws outcome_type
outcome_laws = R'.the_laws unit N.the_row (of_field unit-field LL.unit-laws refl (copy_shared unit-field LL.unit-copy)) N'.the_row_laws (field_told unit-field LL.unit-laws) N'.the_told

-- the machine values of what a posting says, and of that beside an account
abbrev pub outcome_val : Outcome → Val
outcome_val = EL.val outcome_type outcome_laws

abbrev pub returned_val : Returned → Val
returned_val = LL.val S.the_type S'.the_laws

-- the signature, the contract of the posting, and of the function that lends it an account
abbrev pub sig : Signature
sig = record { lifetimes = 1; outlives = []; params = RefMutOf (0 ∷ []) tt (plain (λ κs. T.the_row)) (λ κs. tt) ∷ plain (λ κs. Q.the_row) ∷ []; result = plain (λ κs. outcome_row) }

abbrev pub ended : Ended
ended = record { signature = sig; kept = (yes, (yes, tt)) }

abbrev pub clauses : (Account → Entry → Posted) → {M : Type 1} (𝓤 : Ura M) → Clauses 𝓤 ended
clauses f 𝓤 κs a = record {
  ghost = Unit {0};
  requires = λ _. fact 𝓤 (PostedIn a.0.now a.1.0);
  ensures = λ _ r end. fact 𝓤 ((answered r ≡ (f a.0.now a.1.0).answer) × (end.0.now ≡ (f a.0.now a.1.0).account));
}

abbrev pub sig₂ : Signature
sig₂ = record { lifetimes = 0; outlives = []; params = plain (λ κs. T.the_row) ∷ plain (λ κs. Q.the_row) ∷ []; result = plain (λ κs. S.the_row) }

abbrev pub ended₂ : Ended
ended₂ = record { signature = sig₂; kept = (yes, (yes, tt)) }

abbrev pub clauses₂ : (Account → Entry → Posted) → {M : Type 1} (𝓤 : Ura M) → Clauses 𝓤 ended₂
clauses₂ f 𝓤 κs a = record {
  ghost = Unit {0};
  requires = λ _. fact 𝓤 (PostedIn a.0 a.1.0);
  ensures = λ _ r end. fact 𝓤 ((answered r.outcome ≡ (f a.0 a.1.0).answer) × (r.account ≡ (f a.0 a.1.0).account));
}

-- the MIR of a function that lends the account that it is passed to the thin posting g
abbrev pub function : Callee → Fn
function g = record {
  lifetimes = 0;
  outlives = [];
  ty_params = [];
  givens = 0;
  params = 2;
  locals = local S'.mir value_local ∷ local T'.mir value_local ∷ local Q'.mir value_local ∷ local T'.mir memory_slot ∷ local (layout outcome_row) value_local ∷ local (ty_ref erased mut (pointee (T.the_row).written)) value_local ∷ local T'.mir value_local ∷ [];
  body = seq (assign (place 3 []) (rv_opd (copy (place 1 [])))) (seq (assign (place 5 []) (addr_of (place 3 []))) (seq (call g (copy (place 5 []) ∷ copy (place 2 []) ∷ []) (place 4 []))
      (seq (assign (place 6 []) (rv_opd (copy (place 3 [])))) (seq (assign (place 0 []) (aggregate (copy (place 4 []) ∷ copy (place 6 []) ∷ []))) return))));
}

abbrev stayed : Stays ended₂.signature.params ended₂.kept
stayed = (stay_none (λ _. T.the_row) yes, (stay_none (λ _. Q.the_row) yes, tt))

-- what a posting said and an account, as the parts of a Returned
abbrev both : Outcome → Account → Returned
both r a = record { outcome = r; account = a }

both_is : (r : Outcome) (a : Account) → Is outcome_row r (outcome_val r ∷ []) → Is T.the_row a (account_val a ∷ []) → Is S.the_row (both r a) (returned_val (both r a) ∷ [])
both_is r a r-is is = LL.owes S.the_type S'.the_laws (both r a) (r-is, (is, tt))

-- whoever holds what a posting said knows it of its machine value
outcome_is : (r : Outcome) (v : Val) → Is outcome_row r (v ∷ []) → Is outcome_row r (outcome_val r ∷ [])
outcome_is r v is = subst (λ vs. Is outcome_row r vs) (EL.tells outcome_type outcome_laws r (v ∷ []) is) is

module _ (f : Account → Entry → Posted) (g : Callee) {M : Type 1} {𝓤 : Ura M} (𝓛 : Logic 𝓤) (h : Account) (n : Entry) (is : Is T.the_row h (account_val h ∷ [])) (n-is : Is Q.the_row n (entry_val n ∷ [])) (fair : PostedIn h n) where
  -- the contract that the proof cites
  open 𝓛 use {H, A}

  abbrev Posts : Contract 𝓤
  Posts = triple_of 𝓛 sig (closing 𝓛 ended (clauses f 𝓤))

  abbrev vals : List Val × (List Val × Unit {0})
  vals = (account_val h ∷ [], (entry_val n ∷ [], tt))

  abbrev Post : Val → SProp 𝓤
  Post = (walk_of 𝓛 ended₂ stayed (clauses₂ f 𝓤)).post ((tt, tt, tt, (h, (n, tt)), vals), tt)

  exits : (r : Returned) → Is S.the_row r (returned_val r ∷ []) → (answered r.outcome ≡ (f h n).answer) × (r.account ≡ (f h n).account) → ent 𝓤 (emp 𝓤) (Post (returned_val r))
  exits r r-is e =
      qed 𝓛 [] ∵ suffices ! _ (ends_at 𝓛 ended₂ stayed (clauses₂ f 𝓤) ((tt, tt, tt, (h, (n, tt)), vals), tt) (returned_val r) r (tt, (tt, tt)) (tt, (tt, tt))) $ says ! e $
      owned ! S.the_row (Is S.the_row) (LL.makes S.the_type S'.the_plain 𝓛) r _ r-is $
      nothing ! $ owned ! Q.the_row (Is Q.the_row) (EL.makes Q.the_type Q'.the_plain 𝓛) n _ n-is $ fjoin ! $ owned ! T.the_row (Is T.the_row) (LL.makes T.the_type T'.the_plain 𝓛) h _ is $ fjoin ! $ nothing ! $ done !

  -- what `post`'s triple binds outside: the account at (l, 0), lent for the lifetime α under the name δ
  abbrev x : ℕ → GName → MutBor Account
  x l δ = record { ref_ptr = (l, 0); ghost_name = δ; now = h }

  abbrev to_post : ℕ → ℕ → GName → Posts.Ghost
  to_post α l δ = (((α ∷ [], tt), (full_share, tt), tt, (x l δ, (n, tt)), (vptr l 0 ∷ [], (entry_val n ∷ [], tt))), tt)

  goes_post : (α l : ℕ) (δ : GName) → ent 𝓤 (sep 𝓤 (A.lft (α ∷ []) full_share) (sem 𝓛 ((MutRef (named 0) (α ∷ []) T.the_row).own_val (x l δ) (vptr l 0 ∷ [])))) (Posts.pre (to_post α l δ))
  goes_post α l δ =
      qed 𝓛 (‵ (flft (α ∷ []) full_share) ∷ ‵ ((MutRef (named 0) (α ∷ []) T.the_row).own_val (x l δ) (vptr l 0 ∷ [])) ∷ []) ∵
      says ! fair $ nothing ! $ move ! (1 ∷ 0 ∷ []) $ join ! $ frame ! $ nothing ! $ owned ! Q.the_row (Is Q.the_row) (EL.makes Q.the_type Q'.the_plain 𝓛) n _ n-is $ fjoin ! $ move ! (1 ∷ 0 ∷ []) $ fjoin ! $ done !

  -- what `post` ensures of what it said, r, and of the last account a
  abbrev Said : Outcome → Account → Type 0
  Said r a = (answered r ≡ (f h n).answer) × (a ≡ (f h n).account)

  module _ (C : Calls 𝓤 H) (Λ : Loops 𝓤 H) (fm : FmC 𝓤 H 𝓛.laws C) (known : Triple 𝓤 (C g) Posts) where
    walk : ent 𝓤 (on_entry 𝓛 sig₂ tt tt (h, (n, tt)) vals) (WpFn 𝓤 H C Λ (function g) (account_val h ∷ entry_val n ∷ []) Post)
    walk =
        qed 𝓛 (‵ ftrue ∷ ‵ (owns (T.the_row ∷ Q.the_row ∷ []) (h, (n, tt)) vals) ∷ []) ∵ enter ! C Λ (function g) (account_val h ∷ entry_val n ∷ []) _ $
        alloc1 ! (λ l₀. alloc1 ! (λ l₁. alloc1 ! (λ l₂. alloc1 ! (λ l₃. alloc1 ! (λ l₄. alloc1 ! (λ l₅. alloc1 ! (λ l₆. alloc0 ! $ params1 ! $
        pass1 ! (init ! 10 refl ((LL.lawful T.the_type T'.the_laws 𝓛).typed h _ is).0) $ pass1 ! (init ! 8 refl ((EL.lawful Q.the_type Q'.the_laws 𝓛 tt).typed n _ n-is).0) $ pass0 ! $
        -- [_6; …; _5; …; _4; …; _3; …; _2; …; _1; …; room for _0; …]
        assigns ! (of_opd ! (load ! (from ! (stop !)) (look ! 10 refl))) (from ! (stop !)) (init ! 6 refl ((LL.lawful T.the_type T'.the_laws 𝓛).typed h _ is).0) $
        assigns ! (addr ! (from ! (stop !))) (from ! (stop !)) (init ! 2 refl (tt, tt)) $
        -- _3 is lent for a new lifetime
        owned ! T.the_row (Is T.the_row) (LL.makes T.the_type T'.the_plain 𝓛) h _ is $ move ! (7 ∷ 0 ∷ []) $ use2 𝓛 (‵ ((mem T.the_row).own_at h l₃ 0)) (lies_in 𝓛 h l₃) $
        lft_new ! tt (λ α. move ! (1 ∷ []) $
        use1 𝓛 (later (some (λ (δ : GName). ‵ ((MutRef (named 0) (α ∷ []) T.the_row).own_val (x l₃ δ) (vptr l₃ 0 ∷ [])) ⊛ ‵ (flent (α ∷ []) (Body (mem T.the_row) l₃ 0 δ))))) (lends_ref 𝓛 T.the_row (named 0) (α ∷ []) h l₃ 0) $ await ! tt $ pick ! (λ δ. split ! $
        move ! (2 ∷ 0 ∷ []) $ use2 𝓛 (raw (Posts.pre (to_post α l₃ δ))) (goes_post α l₃ δ) $
        -- [what `post` asks; the lender's part; _6; …; _5; …; _4; …; what frees _3; _2; …; _1; …; room for _0; …]
        calls_at ! fm Posts known (to_post α l₃ δ) (and_then ! (load ! (from ! (stop !)) (look ! 4 refl)) (and_then ! (load ! (from ! (stop !)) (look ! 9 refl)) (no_more !))) (λ v.
        use1 𝓛 (later (some (λ (r : Outcome). ((‵ (flft (α ∷ []) full_share) ⊛ ‵ ftrue) ⊛ ‵ (outcome_row.own_val r (v ∷ []))) ⊛ raw (ensured 𝓛 ended (clauses f 𝓤) (α ∷ [], tt) (x l₃ δ, (n, tt)) tt r)))) (id⊢ 𝓤 _) $ await ! tt $ pick ! (λ r.
        split ! $ move ! (1 ∷ []) $ use1 𝓛 (some (λ (zs : Account × (Unit {0} × Unit {0})). ‵ (lasts ended (α ∷ [], tt) (x l₃ δ, (n, tt)) zs) ⊛ raw (fact 𝓤 (Said r zs.0)))) (id⊢ 𝓤 _) $ pick ! (λ zs.
        split ! $ move ! (1 ∷ []) $ heard ! (Said r zs.0) (λ e. fsplit ! $ move ! (1 ∷ []) $ drop ! $ fsplit ! $ move ! (1 ∷ []) $ drop ! $ move ! (1 ∷ []) $ split ! $ split ! $ move ! (2 ∷ []) $
        -- [what the outcome owns; the token; true; the last account; the lender's part; _6; …; _5; …; _4; …; what frees _3; …]
        peeks ! outcome_row (Is outcome_row) (shows 𝓛 outcome_row) r (v ∷ []) (λ r-is.
        land ! (from ! (stop !)) (init ! 9 refl ((EL.lawful outcome_type outcome_laws 𝓛 tt).typed r _ r-is).0) $
        rewrite ! 9 (λ (u : Val). ‵ (fat full_share (layout outcome_row) l₄ 0 u)) (ap only (EL.tells outcome_type outcome_laws r (v ∷ []) r-is)) refl $
        -- the lifetime is ended, and _3 comes back at the last account
        drop ! $ lft_end ! tt $ move ! (0 ∷ 3 ∷ 2 ∷ []) $ use3 𝓛 (later (‵ ((mem T.the_row).own_at zs.0 l₃ 0))) (ref_back 𝓛 T.the_row (α ∷ []) δ zs.0 l₃ 0) $ await ! tt $
        use1 𝓛 (‵ (fat full_share T'.mir l₃ 0 (account_val zs.0)) ⊛ ‵ ((T.the_row).own_val zs.0 (account_val zs.0 ∷ []))) (lies_out 𝓛 zs.0 l₃) $ split ! $
        move ! (1 ∷ []) $ peeks ! T.the_row (Is T.the_row) (shows 𝓛 T.the_row) zs.0 (account_val zs.0 ∷ []) (λ last-is. drop ! $
        -- [_3; true; _6; …; _5; …; _4; …; what frees _3; _2; …; _1; …; room for _0; …]
        assigns ! (of_opd ! (load ! (from ! (stop !)) (look ! 0 refl))) (from ! (stop !)) (init ! 2 refl ((LL.lawful T.the_type T'.the_laws 𝓛).typed zs.0 _ last-is).0) $
        assigns ! (agg ! (and_then ! (load ! (from ! (stop !)) (look ! 6 refl)) (and_then ! (load ! (from ! (stop !)) (look ! 2 refl)) (no_more !)))) (from ! (stop !)) (init ! 13 refl ((LL.lawful S.the_type S'.the_laws 𝓛).typed (both r zs.0) _ (both_is r zs.0 (outcome_is r v r-is) last-is)).0) $
        returns ! (look ! 13 refl) $ forget ! 0 refl $ forget ! 2 refl $ forget ! 4 refl $ forget ! 6 refl $ forget ! 9 refl $ forget ! 11 refl $ forget ! 13 refl $
        move ! (13 ∷ 14 ∷ []) $ free1 ! $ move ! (11 ∷ 12 ∷ []) $ free1 ! $ move ! (9 ∷ 10 ∷ []) $ free1 ! $ move ! (0 ∷ 8 ∷ []) $ free1 ! $ move ! (5 ∷ 6 ∷ []) $ free1 ! $ move ! (3 ∷ 4 ∷ []) $ free1 ! $ move ! (1 ∷ 2 ∷ []) $ free1 ! $ free0 ! $
        keep ! [] $ by ! (exits (both r zs.0) (both_is r zs.0 (outcome_is r v r-is) last-is) e))))))))))))))))

module _ (f : Account → Entry → Posted) (g : Callee) {M : Type 1} {𝓤 : Ura M} (𝓛 : Logic 𝓤) where
  open 𝓛 use {H}

  abbrev Posts' : Contract 𝓤
  Posts' = triple_of 𝓛 sig (closing 𝓛 ended (clauses f 𝓤))

  returned_walks : (C : Calls 𝓤 H) (Λ : Loops 𝓤 H) → FmC 𝓤 H 𝓛.laws C → Triple 𝓤 (C g) Posts' → Walks 𝓛 ended₂ stayed (WpFn 𝓤 H C Λ (function g)) (clauses₂ f 𝓤)
  returned_walks C Λ fm known = walked 𝓛 ended₂ stayed (clauses₂ f 𝓤) (WpFn 𝓤 H C Λ (function g)) (λ κs. (LL.vals T.the_type T'.the_laws, (EL.vals Q.the_type Q'.the_laws, tt))) (λ κs. (LL.tells T.the_type T'.the_laws, (EL.tells Q.the_type Q'.the_laws, tt)))
      (λ κs qs bounds a _ are. needs 𝓤 (PostedIn a.0 a.1.0) _ (λ fair. walk f g 𝓛 a.0 a.1.0 are.0 are.1.0 fair C Λ fm known))

pub returned_meets : (f : Account → Entry → Posted) (g : Callee) {M : Type 1} {𝓤 : Ura M} (𝓛 : Logic 𝓤) (𝓣 : Tables 𝓤 𝓛.H)
    → Triple 𝓤 (𝓣.C g) (Posts' f g 𝓛) → Meets 𝓛 sig₂ (WpFn 𝓤 𝓛.H 𝓣.C 𝓣.Λ (function g)) (closing 𝓛 ended₂ (clauses₂ f 𝓤))
returned_meets f g {𝓤 = 𝓤} 𝓛 𝓣 known = walk_Meets 𝓛 ended₂ stayed (Goes-none 𝓛 0 (λ _. T.the_row) yes (λ κs x f. refl), (Goes-none 𝓛 0 (λ _. Q.the_row) yes (λ κs x f. refl), tt)) (clauses₂ f 𝓤)
    (WpFn 𝓤 𝓛.H 𝓣.C 𝓣.Λ (function g)) (WpFn-mono 𝓤 𝓛.H 𝓛.laws 𝓣 (function g)) (returned_walks f g 𝓛 𝓣.C 𝓣.Λ (fm_of 𝓤 𝓛.H 𝓛.laws 𝓣) known)
