-- `at` lends the value that lies at the pointer. Assumes `Logic`.
use mathlib.Core.Path.{◌≡◌, refl, sym, ap, subst, ◌∙◌}
use Prim.Native.Nat.{ℕ, ◌+◌, ◌*◌, ◌<◌}
use native.Mathlib.Omega.{arith}
use mathlib.Core.List.{List, [], ◌∷◌, ◌++◌}
use lib.ListN.{length, get_or}
use seplogic.Ra.Ura.{Ura}
use base.Fraction.{full_share}
use mir.Syntax.{Fn, named, ty_ptr}
use mir.MapTy.{inst_fn}
use mir.Val.{Val, vptr}
use base.Logic.{SProp, ent}
use base.Fml.{Lft, Share, ftrue, fat, flft}
use prog.Wp.{Env, Calls, Loops, WpFn, Tables}
use types.Logic.{Logic}
use contract.Monad.{fact}
use contract.Running.{tables, tables_of}
use sound.WpLaws.{WpFn-mono}
use types.Kit.{Item, ⋆, ‵, raw, ◌⊛◌, at_ret, ◌$◌, ◌∵◌, !, qed, by, move, keep, drop, use1, split, join, rewrite, fsplit, fjoin, feq_i, feq_l, flt_l, suffices, frame, done}
use types.Run.{stop, of_opd, addr, first, blocks, exec, returns, enter}
use types.ByLocal.{alloc_all, pass_all, free_all, look_at, get, through, sets, sets_last, take_at, give_at, env}
use denote.Exit.{yes}
use denote.RattleType.{owns}
use denote.Memory.{hidden_shr, shared_of}
use denote.Index.{place, place_is}
use denote.Opens.{hide, unhide}
use denote.RawPtr.{Ptr, RawPtr, InBlock, block_of, count_of, at_block, ptr_val}
use denote.Ref.{Bor, ShrRef}
use denote.Builtin.{RefOf}
use denote.Signature.{plain}
use denote.Steps.{heard, nothing}
use denote.Struct.Lending.{in_block_says}
use denote.Triple.Carry.{spared}
use denote.Triple.Clauses.{Clauses, Ended, closing}
use denote.Triple.Entry.{on_entry}
use denote.Triple.Spec.{Meets, triple_of}
use denote.Triple.Table.{entered, run_framed}
use denote.Triple.Walked.{says, needs, Stays, stay_dropped, walk_of, ends_at, Goes-dropped, walk_Meets}
use Rattle.std.specs.Ptr.{ptr_add}
use Rattle.std.proofs.RcSteps.{Ptr-Good}
use Rattle.std.proofs.SliceLists.{any-default}
use Rattle.std.proofs.VecSteps.El.{El, args, el_x, el_d, R, Vr, sz}
use Rattle.std.proofs.VecSteps.Shapes.{after}
use Rattle.std.proofs.ptr.Rows.{hd}
use Rattle.kr_contact.specs.Places.{index_at, IsPlace}
use Rattle.kr_contact.specs.contracts.places.at.Key.{name as #self}
use Rattle.kr_contact.proofs.Blocks.{seen}
use Rattle.kr_contact.proofs.places.at.Statement as stated
use Rattle.kr_contact.proofs.places.at.Code as code

module _ (E : El) where
  abbrev function : Fn
  function = inst_fn (args E) code.function

  abbrev ended : Ended
  ended = record { signature = record { lifetimes = 1; outlives = []; params = RefOf (0 ∷ []) tt (plain (λ _. Vr E)) (λ _. tt) ∷ plain (λ _. RawPtr) ∷ []; result = RefOf (0 ∷ []) tt (plain (λ _. R E)) (λ _. tt) }; kept = (yes, (yes, tt)) }

  abbrev stayed : Stays ended.signature.params ended.kept
  stayed = (stay_dropped (RefOf (0 ∷ []) tt (plain (λ _. Vr E)) (λ _. tt)) yes, (stay_dropped (plain (λ _. RawPtr)) yes, tt))

  abbrev Asks : el_d E → Ptr → Type 0
  Asks d p = IsPlace (R E) d.ptr d.len p

  abbrev Gives : el_d E → Ptr → Bor (el_x E) → Type 0
  Gives d p r = r.now ≡ get_or d.items (index_at (R E) d.ptr p) r.now

  abbrev spec : {M : Type 1} {𝓤 : Ura M} (𝓛 : Logic 𝓤) → Clauses 𝓤 ended
  spec {𝓤 = 𝓤} 𝓛 κs a = record { ghost = Unit {0}; requires = λ _. fact 𝓤 (Asks a.0.now a.1.0); ensures = λ _ r w. fact 𝓤 (Gives a.0.now a.1.0 r) }

module _ (E : El) {M : Type 1} {𝓤 : Ura M} (𝓛 : Logic 𝓤) (C : Calls 𝓤 𝓛.H) (Λ : Loops 𝓤 𝓛.H) (κ : Lft) (q : Share) (rb ro : ℕ) (d : el_d E) (p : Ptr) (us0 us1 : List Val) where
  open 𝓛 use {H, A}

  abbrev block : Bor (el_d E)
  block = record { ref_ptr = (rb, ro); now = d }

  abbrev bound : (walk_of 𝓛 (ended E) (stayed E) (spec E 𝓛)).Ghost
  bound = (((κ, tt), (q, tt), tt, (block, (p, tt)), (us0, (us1, tt))), tt)

  abbrev Post : Val → SProp 𝓤
  Post = (walk_of 𝓛 (ended E) (stayed E) (spec E 𝓛)).post bound

  exits : (r : Bor (el_x E)) (v : Val) → Gives E d p r → ent 𝓤 (⋆ 𝓛 (‵ (flft κ q) ∷ ‵ ((ShrRef (named 0) κ (R E)).own_val r (v ∷ [])) ∷ [])) (Post v)
  exits r v given =
      qed 𝓛 (‵ (flft κ q) ∷ ‵ ((ShrRef (named 0) κ (R E)).own_val r (v ∷ [])) ∷ []) ∵
      suffices ! _ (ends_at 𝓛 (ended E) (stayed E) (spec E 𝓛) bound v r (tt, (tt, tt)) (tt, (tt, tt))) $ says ! given $
      nothing ! $ move ! (1 ∷ 0 ∷ []) $ join ! $ frame ! $ nothing ! $ nothing ! $ fjoin ! $ nothing ! $ fjoin ! $ done !

  abbrev Had : List (Item 𝓤)
  Had = ‵ (hidden_shr (Vr E) κ d rb ro) ∷ ‵ (flft κ q) ∷ []

  walk : Asks E d p → ent 𝓤 (⋆ 𝓛 Had) (WpFn 𝓤 H C Λ (function E) (vptr rb ro ∷ ptr_val p ∷ []) Post)
  walk asked =
      let i : ℕ = index_at (R E) d.ptr p in
      let lens = d.ok.0 in
      let within : i < length d.items = subst (λ (k : ℕ). i < k) lens asked.1 in
      let z : el_x E = hd d.items (omega arith) in
      let x : el_x E = get_or d.items i z in
      let b = block_of d.ptr in
      let o = count_of d.ptr in
      let at : ℕ = i * sz E + o in
      qed 𝓛 Had ∵ enter ! C Λ (function E) (vptr rb ro ∷ ptr_val p ∷ []) _ $ alloc_all ! (λ l. pass_all ! refl ((tt, tt), (Ptr-Good p, tt)) $
      let En : Env 𝓤 H = env (function E).locals l in
      unhide ! $ fsplit ! $ drop ! $ fsplit ! $ flt_l ! (λ fit. fsplit ! $ use1 𝓛 (raw (fact 𝓤 (InBlock d.ptr))) (in_block_says 𝓛 d.ptr) $ heard ! (InBlock d.ptr) (λ inb. fsplit ! $ drop ! $
      use1 𝓛 (‵ (shared_of (R E) x b (place (sz E) o i) κ)) (seen (R E) 𝓛 κ b z d.items i o within) $
      rewrite ! 0 (λ (k : ℕ). ‵ (shared_of (R E) x b k κ)) (place_is (sz E) o i) refl $ hide ! $
      -- [the value; the token; the locals]
      take_at ! 2 $ rewrite ! 0 (λ (y : Ptr). ‵ (fat full_share ty_ptr (l 2) 0 (ptr_val y))) (asked.0 ∙ ap (ptr_add (R E) i) (at_block d.ptr inb)) refl $ give_at ! 2 $
      first ! $ blocks ! $ sets_last ! (addr ! (through ! refl (stop !))) refl (tt, tt) $
      exec ! C Λ En (after 1 (function E).body) (at_ret En Post) $ sets ! (of_opd ! (get ! refl)) refl (tt, tt) $
      feq_i ! (List Val) (vptr b at ∷ []) (vptr b at ∷ []) refl $ fjoin ! $
      returns ! (look_at ! 0 refl) $ free_all ! refl $ keep ! (1 ∷ 0 ∷ []) $
      by ! (exits (record { ref_ptr = (b, at); now = x }) (vptr b at) (any-default d.items i z x within)))))

  entry : Asks E d p → ent 𝓤 (on_entry 𝓛 (ended E).signature (κ, tt) (q, tt) (block, (p, tt)) (us0, (us1, tt))) (WpFn 𝓤 H C Λ (function E) (us0 ++ (us1 ++ [])) Post)
  entry asked =
      qed 𝓛 ((‵ (flft κ q) ⊛ ‵ ftrue) ∷ ‵ (owns (ShrRef (named 0) κ (Vr E) ∷ RawPtr ∷ []) (block, (p, tt)) (us0, (us1, tt))) ∷ []) ∵
      split ! $ move ! (2 ∷ []) $ fsplit ! $ fsplit ! $ feq_l ! (λ e0. move ! (1 ∷ []) $ fsplit ! $ feq_l ! (λ e1. keep ! (1 ∷ 2 ∷ []) $
      by ! (subst (λ (ws : List Val × List Val). ent 𝓤 (⋆ 𝓛 Had) (WpFn 𝓤 H C Λ (function E) (ws.0 ++ (ws.1 ++ [])) Post)) (λ j. (sym e0 j, sym e1 j)) (walk asked))))

meets : (E : El) {M : Type 1} {𝓤 : Ura M} (𝓛 : Logic 𝓤) (𝓣 : Tables 𝓤 𝓛.H)
    → Meets 𝓛 (ended E).signature (WpFn 𝓤 𝓛.H 𝓣.C 𝓣.Λ (function E)) (closing 𝓛 (ended E) (spec E 𝓛))
meets E {𝓤 = 𝓤} 𝓛 𝓣 =
    walk_Meets 𝓛 (ended E) (stayed E) (Goes-dropped 𝓛 1 (RefOf (0 ∷ []) tt (plain (λ _. Vr E)) (λ _. tt)) yes (λ κs x f. refl), (Goes-dropped 𝓛 1 (plain (λ _. RawPtr)) yes (λ κs x f. refl), tt))
    (spec E 𝓛) (WpFn 𝓤 𝓛.H 𝓣.C 𝓣.Λ (function E)) (WpFn-mono 𝓤 𝓛.H 𝓛.laws 𝓣 (function E))
    (λ z. needs 𝓤 (Asks E z.0.3.0.now z.0.3.1.0) _ (entry E 𝓛 𝓣.C 𝓣.Λ z.0.0.0 z.0.1.0 z.0.3.0.ref_ptr.0 z.0.3.0.ref_ptr.1 z.0.3.0.now z.0.3.1.0 z.0.4.0 z.0.4.1.0))

pub at_spec : {M : Type 1} → stated.statement M
unfolding tables_of
at_spec 𝓤 𝓛 𝓜 𝓡 wired T A LT LA g dict drops met dropped y =
    let E : El = record { row = T; laws = LT; al = record { row = A; laws = LA; g = g; d = dict; drops = drops } } in
    let 𝓣 : Tables 𝓤 𝓛.H = tables_of 𝓤 𝓛.H 𝓜 (tables 𝓤 𝓛.H 𝓜 𝓡 𝓡.env) in
    let k = #self (args E) in
    spared 𝓛 (ended E).signature (𝓡.run (𝓡.env k)) (run_framed 𝓤 𝓛.H 𝓜 𝓡 (𝓡.env k)) 2 (T.lives, (A.lives, tt)) (closing 𝓛 (ended E) (spec E 𝓛))
    (entered 𝓤 𝓛.H (triple_of 𝓛 (ended E).signature (closing 𝓛 (ended E) (spec E 𝓛))) 𝓣.C 𝓣.Λ k (function E) (code.unfolded 𝓤 𝓛.H 𝓜 𝓡 wired (T, (A, tt)) dict drops) (meets E 𝓛 𝓣))
    ((y.0.0, y.0.1, tt, y.0.3, y.0.4), y.1)
