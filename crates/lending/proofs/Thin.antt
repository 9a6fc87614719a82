-- One law for every thin posting: what a `&mut Account` posting with this MIR does, for any covered function g that computes f.
-- Today's compiler puts the account into a local of its own before it stores it, so `post` has one statement more than this MIR, and is
-- proved without this law.
-- Assumes nothing.
use mathlib.Core.Path.{◌≡◌, refl, ap}
use Prim.Native.Nat.{ℕ, ◌<◌, ◌^◌}
use mathlib.Core.List.{[], ◌∷◌, List}
use seplogic.Ra.Ura.{Ura}
use base.Fraction.{full_share}
use mir.Syntax.{Callee, Fn, named, mut, w8, ty_int, ty_ref, local, value_local, place, deref, field, copy, rv_opd, assign, call, seq, return}
use mir.Val.{Val, vint, vptr}
use base.Logic.{SProp, ent, snd∗, ex_e, id⊢}
use base.Fml.{GName, Lft, Share, ftrue, fat, flft, fobs, fbor}
use prog.Wp.{Calls, Loops, WpFn, Tables}
use types.Logic.{Logic, sem}
use contract.Monad.{fact}
use types.Kit.{‵, raw, ◌⊛◌, some, later, ⋆, ◌$◌, ◌∵◌, !, qed, by, move, keep, drop, use1, split, join, pick, rewrite, fsplit, fsplit3, fjoin, fjoin3, feq_i, suffices, frame, await, done}
use types.Run.{look, look_raw, init, store_raw, forget, stop, hop, fld, from, load, of_opd, and_then, no_more, assigns, land, returns, enter, alloc1, alloc0, params1, pass1, pass0, free1, free0}
use types.Part.{whole, sub, look_in}
use types.SemTy.{Body}
use sound.WpLaws.{FmC, fm_of, WpFn-mono}
use denote.RattleType.{owns}
use denote.Laws.{Is, shows}
use denote.Memory.{mem, pointee}
use denote.Plain.{uint_Makes}
use denote.Builtin.{u8, RefMutOf}
use denote.Ref.{MutBor, MutRef, mut_vals, mut_Tells}
use denote.Signature.{Signature, plain}
use denote.Steps.{only, opens, closes, owned, peeks, heard, nothing}
use denote.Struct.Steps.{spelt}
use denote.Struct.Laws as LL
use denote.Enum.Laws as EL
use denote.Triple.Statement.{Contract, Triple}
use denote.Triple.Call.{calls_at}
use denote.Triple.Clauses.{Clauses, Ended, ensured, lasts, closing}
use denote.Triple.Entry.{on_entry}
use denote.Triple.Spec.{Meets, triple_of}
use denote.Triple.Walked.{says, needs, Stays, stay_ref, stay_none, walk_of, AllGo, Goes-ref, Goes-none, Walks, ends_at, walked, walk_Meets}
use denote.Exit.{yes}
use Rattle.book.specs.declared.accounts.Account.{Account}
use Rattle.posting.specs.declared.accounts.Entry.{Entry}
use Rattle.lending.specs.declared.Posted.{Posted}
use Rattle.posting.specs.Ranges.{PostedIn}
use Rattle.posting.specs.contracts.accounts.Entry as Q
use Rattle.posting.proofs.accounts.Entry.TheLaws as Q'
use Rattle.book.specs.contracts.accounts.Account as T
use Rattle.book.proofs.accounts.Account.TheLaws as T'
use Rattle.lending.specs.contracts.Posted as S
use Rattle.lending.proofs.Posted.TheLaws as S'

-- the machine values of an account, an entry and what a posting makes of them
abbrev pub account_val : Account → Val
account_val = LL.val T.the_type T'.the_laws

abbrev pub entry_val : Entry → Val
entry_val = EL.val Q.the_type Q'.the_laws

abbrev pub posted_val : Posted → Val
posted_val = LL.val S.the_type S'.the_laws

-- the signature, the contract and the MIR of a thin posting whose covered function computes f, and of that function
abbrev pub sig : Signature
sig = record { lifetimes = 1; outlives = []; params = RefMutOf (0 ∷ []) tt (plain (λ κs. T.the_row)) (λ κs. tt) ∷ plain (λ κs. Q.the_row) ∷ []; result = plain (λ κs. u8) }

abbrev pub ended : Ended
ended = record { signature = sig; kept = (yes, (yes, tt)) }

abbrev pub clauses : (Account → Entry → Posted) → {M : Type 1} (𝓤 : Ura M) → Clauses 𝓤 ended
clauses f 𝓤 κs a = record {
  ghost = Unit {0};
  requires = λ _. fact 𝓤 (PostedIn a.0.now a.1.0);
  ensures = λ _ r end. fact 𝓤 ((r ≡ (f a.0.now a.1.0).answer) × (end.0.now ≡ (f a.0.now a.1.0).account));
}

abbrev pub sig₂ : Signature
sig₂ = record { lifetimes = 0; outlives = []; params = plain (λ κs. T.the_row) ∷ plain (λ κs. Q.the_row) ∷ []; result = plain (λ κs. S.the_row) }

abbrev pub ended₂ : Ended
ended₂ = record { signature = sig₂; kept = (yes, (yes, tt)) }

abbrev pub clauses₂ : (Account → Entry → Posted) → {M : Type 1} (𝓤 : Ura M) → Clauses 𝓤 ended₂
clauses₂ f 𝓤 κs a = record { ghost = Unit {0}; requires = λ _. fact 𝓤 (PostedIn a.0 a.1.0); ensures = λ _ r end. fact 𝓤 (r ≡ f a.0 a.1.0) }

abbrev pub function : Callee → Fn
function g = record {
  lifetimes = 1;
  outlives = [];
  ty_params = [];
  givens = 0;
  params = 2;
  locals = local (ty_int w8) value_local ∷ local (ty_ref (named 0) mut (pointee (T.the_row).written)) value_local ∷ local Q'.mir value_local ∷ local S'.mir value_local ∷ local T'.mir value_local ∷ [];
  body = seq (assign (place 4 []) (rv_opd (copy (place 1 (deref T'.mir ∷ []))))) (seq (call g (copy (place 4 []) ∷ copy (place 2 []) ∷ []) (place 3 []))
      (seq (assign (place 1 (deref T'.mir ∷ [])) (rv_opd (copy (place 3 (field 1 ∷ []))))) (seq (assign (place 0 []) (rv_opd (copy (place 3 (field 0 ∷ []))))) return)));
}

abbrev stayed : Stays ended.signature.params ended.kept
stayed = (stay_ref (0 ∷ []) tt (plain (λ _. T.the_row)), (stay_none (λ _. Q.the_row) yes, tt))

module _ (f : Account → Entry → Posted) (g : Callee) {M : Type 1} {𝓤 : Ura M} (𝓛 : Logic 𝓤) where
  -- the contract that the proof cites, and its clause alone
  abbrev Posting : Contract 𝓤
  Posting = triple_of 𝓛 sig₂ (closing 𝓛 ended₂ (clauses₂ f 𝓤))

  posting_says : (h : Account) (n : Entry) (r : Posted) → ent 𝓤 (ensured 𝓛 ended₂ (clauses₂ f 𝓤) tt (h, (n, tt)) tt r) (fact 𝓤 (r ≡ f h n))
  posting_says h n r = ex_e 𝓤 _ (λ ws. snd∗ 𝓤 (sem 𝓛 (lasts ended₂ tt (h, (n, tt)) ws)) (fact 𝓤 (r ≡ f h n)))

-- what whoever holds a Posted knows of its account and of its answer
account_is : (r : Posted) (v : Val) → Is S.the_row r (v ∷ []) → Is T.the_row r.account (account_val r.account ∷ [])
account_is r v is = (LL.owed S.the_type S'.the_laws r _ is).1.0

answer_fits : (r : Posted) (v : Val) → Is S.the_row r (v ∷ []) → r.answer < 2 ^ 8
answer_fits r v is = (LL.owed S.the_type S'.the_laws r _ is).0.1

module _ (f : Account → Entry → Posted) (g : Callee) {M : Type 1} {𝓤 : Ura M} (𝓛 : Logic 𝓤) (κ : Lft) (q : Share) (b o : ℕ) (γ : GName) (h : Account) (n : Entry) (n-is : Is Q.the_row n (entry_val n ∷ [])) (fair : PostedIn h n) where
  open 𝓛 use {H}

  abbrev x : MutBor Account × (Entry × Unit {0})
  x = (record { ref_ptr = (b, o); ghost_name = γ; now = h }, (n, tt))

  abbrev at : List Val × (List Val × Unit {0})
  at = (vptr b o ∷ [], (entry_val n ∷ [], tt))

  abbrev Post : Val → SProp 𝓤
  Post = (walk_of 𝓛 ended stayed (clauses f 𝓤)).post (((κ, tt), (q, tt), tt, x, at), tt)

  exits : (r : Posted) → r.answer < 2 ^ 8 → r ≡ f h n → ent 𝓤 (⋆ 𝓛 (‵ (fobs γ ((T.the_row).coded.code r.account)) ∷ ‵ (fbor κ (Body (mem T.the_row) b o γ)) ∷ ‵ (flft κ q) ∷ ‵ ftrue ∷ [])) (Post (vint w8 r.answer))
  exits r fits e =
      qed 𝓛 (‵ (fobs γ ((T.the_row).coded.code r.account)) ∷ ‵ (fbor κ (Body (mem T.the_row) b o γ)) ∷ ‵ (flft κ q) ∷ ‵ ftrue ∷ []) ∵
      suffices ! _ (ends_at 𝓛 ended stayed (clauses f 𝓤) (((κ, tt), (q, tt), tt, x, at), tt) (vint w8 r.answer) r.answer (r.account, (tt, tt)) (tt, (tt, tt))) $
      says ! (ap (λ (s : Posted). s.answer) e, ap (λ (s : Posted). s.account) e) $
      move ! (2 ∷ 3 ∷ []) $ join ! $ frame ! $ feq_i ! (List Val) (vptr b o ∷ []) (vptr b o ∷ []) refl $ fjoin3 ! $
      nothing ! $ owned ! Q.the_row (Is Q.the_row) (EL.makes Q.the_type Q'.the_plain 𝓛) n _ n-is $ fjoin ! $ move ! (1 ∷ 0 ∷ []) $ fjoin ! $
      owned ! u8 (Is u8) (uint_Makes 𝓛 w8) r.answer _ (refl, fits) $ move ! (1 ∷ 0 ∷ []) $ done !

  abbrev to_posting : (Posting f g 𝓛).Ghost
  to_posting = ((tt, tt, tt, (h, (n, tt)), (account_val h ∷ [], (entry_val n ∷ [], tt))), tt)

  goes_posting : ent 𝓤 (sem 𝓛 ((T.the_row).own_val h (account_val h ∷ []))) ((Posting f g 𝓛).pre to_posting)
  goes_posting = qed 𝓛 (‵ ((T.the_row).own_val h (account_val h ∷ [])) ∷ []) ∵ says ! fair $ nothing ! $ frame ! $ nothing ! $ owned ! Q.the_row (Is Q.the_row) (EL.makes Q.the_type Q'.the_plain 𝓛) n _ n-is $ fjoin ! $ move ! (1 ∷ 0 ∷ []) $ fjoin ! $ done !

  module _ (C : Calls 𝓤 H) (Λ : Loops 𝓤 H) (fm : FmC 𝓤 H 𝓛.laws C) (known : Triple 𝓤 (C g) (Posting f g 𝓛)) where
    walk : ent 𝓤 (on_entry 𝓛 sig (κ, tt) (q, tt) x at) (WpFn 𝓤 H C Λ (function g) (vptr b o ∷ entry_val n ∷ []) Post)
    walk =
        qed 𝓛 ((‵ (flft κ q) ⊛ ‵ ftrue) ∷ ‵ (owns (MutRef (named 0) κ T.the_row ∷ Q.the_row ∷ []) x at) ∷ []) ∵ enter ! C Λ (function g) (vptr b o ∷ entry_val n ∷ []) _ $
        alloc1 ! (λ l₀. alloc1 ! (λ l₁. alloc1 ! (λ l₂. alloc1 ! (λ l₃. alloc1 ! (λ l₄. alloc0 ! $ params1 ! $ pass1 ! (init ! 6 refl (tt, tt)) $ pass1 ! (init ! 4 refl ((EL.lawful Q.the_type Q'.the_laws 𝓛 tt).typed n _ n-is).0) $ pass0 ! $
        move ! (11 ∷ []) $ fsplit ! $ fsplit3 ! $ drop ! $ move ! (13 ∷ []) $ split ! $ move ! (2 ∷ 3 ∷ 0 ∷ []) $
        opens ! tt T.the_row {h = h} b o (λ vs. spelt ! T.the_row (Is T.the_row) (shows 𝓛 T.the_row) (LL.vals T.the_type T'.the_laws) (LL.tells T.the_type T'.the_laws) full_share h vs b o $
        move ! (1 ∷ []) $ peeks ! T.the_row (Is T.the_row) (shows 𝓛 T.the_row) h (account_val h ∷ []) (λ was. move ! (1 ∷ 0 ∷ []) $
        -- [the cell; what the account owns; the open borrow; obs; auth; true; n's; _4; …; _3; …; _2; …; _1; …; room for _0; …]
        assigns ! (of_opd ! (load ! (from ! (hop ! (look ! 13 refl) (stop !))) (look_raw ! 0 refl))) (from ! (stop !)) (init ! 7 refl ((LL.lawful T.the_type T'.the_laws 𝓛).typed h _ was).0) $
        move ! (1 ∷ []) $ use1 𝓛 (raw ((Posting f g 𝓛).pre to_posting)) goes_posting $
        calls_at ! fm (Posting f g 𝓛) known to_posting (and_then ! (load ! (from ! (stop !)) (look ! 7 refl)) (and_then ! (load ! (from ! (stop !)) (look ! 11 refl)) (no_more !))) (λ v.
        use1 𝓛 (later (some (λ (r : Posted). (‵ ftrue ⊛ ‵ ((S.the_row).own_val r (v ∷ []))) ⊛ raw (ensured 𝓛 ended₂ (clauses₂ f 𝓤) tt (h, (n, tt)) tt r)))) (id⊢ 𝓤 _) $ await ! tt $ pick ! (λ r.
        split ! $ move ! (1 ∷ []) $ use1 𝓛 (raw (fact 𝓤 (r ≡ f h n))) (posting_says f g 𝓛 h n r) $ heard ! (r ≡ f h n) (λ e. split ! $ drop ! $
        peeks ! S.the_row (Is S.the_row) (shows 𝓛 S.the_row) r (v ∷ []) (λ is.
        -- the result is stored, and spelled out
        land ! (from ! (stop !)) (init ! 9 refl ((LL.lawful S.the_type S'.the_laws 𝓛).typed r _ is).0) $
        rewrite ! 9 (λ (u : Val). ‵ (fat full_share S'.mir l₃ 0 u)) (ap only (LL.tells S.the_type S'.the_laws r (v ∷ []) is)) refl $
        -- [what the result owns; the cell; the open borrow; obs; auth; true; n's; _4; …; _3; …; _2; …; _1; …; room for _0; …]
        assigns ! (of_opd ! (load ! (from ! (fld ! refl (stop !))) (look_in ! 9 (sub ! 1 refl (whole !))))) (from ! (hop ! (look ! 13 refl) (stop !))) (store_raw ! 1 refl ((LL.lawful T.the_type T'.the_laws 𝓛).typed r.account _ (account_is r v is)).0) $
        assigns ! (of_opd ! (load ! (from ! (fld ! refl (stop !))) (look_in ! 9 (sub ! 0 refl (whole !))))) (from ! (stop !)) (init ! 15 refl (tt, record { fits = answer_fits r v is })) $
        drop ! $ owned ! T.the_row (Is T.the_row) (LL.makes T.the_type T'.the_plain 𝓛) r.account _ (account_is r v is) $ move ! (1 ∷ 0 ∷ []) $ closes ! tt T.the_row r.account (account_val r.account ∷ []) b o $
        -- [obs; the borrow; the token; true; n's; _4; …; _3; …; _2; …; _1; …; _0; …]
        returns ! (look ! 13 refl) $ forget ! 5 refl $ forget ! 7 refl $ forget ! 9 refl $ forget ! 11 refl $ forget ! 13 refl $
        move ! (13 ∷ 14 ∷ []) $ free1 ! $ move ! (11 ∷ 12 ∷ []) $ free1 ! $ move ! (9 ∷ 10 ∷ []) $ free1 ! $ move ! (7 ∷ 8 ∷ []) $ free1 ! $ move ! (5 ∷ 6 ∷ []) $ free1 ! $ free0 ! $
        keep ! (0 ∷ 1 ∷ 2 ∷ 3 ∷ []) $ by ! (exits r (answer_fits r v is) e))))))))))))

module _ (f : Account → Entry → Posted) (g : Callee) {M : Type 1} {𝓤 : Ura M} (𝓛 : Logic 𝓤) where
  open 𝓛 use {H}

  thin_walks : (C : Calls 𝓤 H) (Λ : Loops 𝓤 H) → FmC 𝓤 H 𝓛.laws C → Triple 𝓤 (C g) (Posting f g 𝓛) → Walks 𝓛 ended stayed (WpFn 𝓤 H C Λ (function g)) (clauses f 𝓤)
  thin_walks C Λ fm known = walked 𝓛 ended stayed (clauses f 𝓤) (WpFn 𝓤 H C Λ (function g)) (λ κs. (mut_vals, (EL.vals Q.the_type Q'.the_laws, tt))) (λ κs. (mut_Tells (named 0) κs.0 T.the_row, (EL.tells Q.the_type Q'.the_laws, tt)))
      (λ κs qs bounds a _ are. needs 𝓤 (PostedIn a.0.now a.1.0) _ (λ fair. walk f g 𝓛 κs.0 qs.0 a.0.ref_ptr.0 a.0.ref_ptr.1 a.0.ghost_name a.0.now a.1.0 are.1.0 fair C Λ fm known))

  goes : AllGo 𝓛 1 sig.params ended.kept stayed
  goes = (Goes-ref 𝓛 1 0 tt (plain (λ _. T.the_row)), (Goes-none 𝓛 1 (λ _. Q.the_row) yes (λ κs x f. refl), tt))

pub thin_meets : (f : Account → Entry → Posted) (g : Callee) {M : Type 1} {𝓤 : Ura M} (𝓛 : Logic 𝓤) (𝓣 : Tables 𝓤 𝓛.H)
    → Triple 𝓤 (𝓣.C g) (Posting f g 𝓛) → Meets 𝓛 sig (WpFn 𝓤 𝓛.H 𝓣.C 𝓣.Λ (function g)) (closing 𝓛 ended (clauses f 𝓤))
thin_meets f g {𝓤 = 𝓤} 𝓛 𝓣 known = walk_Meets 𝓛 ended stayed (goes f g 𝓛) (clauses f 𝓤) (WpFn 𝓤 𝓛.H 𝓣.C 𝓣.Λ (function g)) (WpFn-mono 𝓤 𝓛.H 𝓛.laws 𝓣 (function g)) (thin_walks f g 𝓛 𝓣.C 𝓣.Λ (fm_of 𝓤 𝓛.H 𝓛.laws 𝓣) known)
