-- `place` goes on from the first value. Assumes `Logic`.
use mathlib.Core.Path.{◌≡◌, refl, sym, subst, ◌∙◌}
use Prim.Native.Nat.{ℕ, ◌+◌, ◌*◌, ◌≤◌, ◌<◌, ◌^◌}
use native.Mathlib.Omega.{arith}
use mathlib.Core.List.{List, [], ◌∷◌, ◌++◌}
use seplogic.Ra.Ura.{Ura}
use base.Fraction.{full_share}
use mir.Syntax.{Fn, named, w64, ty_ptr}
use mir.MapTy.{inst_fn}
use mir.Val.{Val, vint, vptr}
use base.Logic.{SProp, ent}
use base.Fml.{Lft, Share, ftrue, fat, flft}
use prog.Wp.{Env, Calls, Loops, WpFn, Tables}
use types.Logic.{Logic}
use contract.Monad.{fact}
use contract.Running.{tables, tables_of}
use sound.WpLaws.{WpFn-mono}
use types.Kit.{Item, ⋆, ‵, raw, ◌⊛◌, at_ret, ◌$◌, ◌∵◌, !, qed, by, move, keep, drop, use1, split, join, rewrite, fsplit, fjoin, feq_i, feq_l, flt_l, suffices, frame, done}
use types.Run.{of_opd, bin, size_lit, first, blocks, exec, returns, enter}
use types.ByLocal.{alloc_all, pass_all, free_all, look_at, get, sets, sets_last, take_at, give_at, env}
use denote.Exit.{yes}
use denote.RattleType.{owns}
use denote.Memory.{hidden_shr}
use denote.Opens.{unhide}
use denote.RawPtr.{Ptr, RawPtr, block_ptr, InBlock, block_of, count_of, at_block, ptr_val}
use denote.Ref.{Bor, ShrRef}
use denote.Builtin.{RefOf, usize}
use denote.Signature.{plain}
use denote.Steps.{heard, nothing}
use denote.Struct.Lending.{in_block_says}
use denote.Triple.Carry.{spared}
use denote.Triple.Clauses.{Clauses, Ended, closing}
use denote.Triple.Entry.{on_entry}
use denote.Triple.Spec.{Meets, triple_of}
use denote.Triple.Table.{entered, run_framed}
use denote.Triple.Walked.{says, needs, Stays, stay_dropped, walk_of, ends_at, Goes-dropped, walk_Meets}
use Rattle.std.specs.Mem.{type_size}
use Rattle.std.proofs.RcSteps.{Ptr-Good}
use Rattle.std.proofs.VecSteps.El.{El, args, el_d, R, Vr, sz}
use Rattle.std.proofs.VecSteps.Shapes.{after}
use Rattle.std.proofs.ptr.Rows.{one_below, times_below}
use Rattle.kr_contact.specs.Places.{IsPlaceOf}
use Rattle.kr_contact.specs.contracts.places.place.Key.{name as #self}
use Rattle.kr_contact.proofs.Blocks.{nth_place}
use Rattle.kr_contact.proofs.places.place.Statement as stated
use Rattle.kr_contact.proofs.places.place.Code as code

module _ (E : El) where
  abbrev function : Fn
  function = inst_fn (args E) code.function

  abbrev ended : Ended
  ended = record { signature = record { lifetimes = 1; outlives = []; params = RefOf (0 ∷ []) tt (plain (λ _. Vr E)) (λ _. tt) ∷ plain (λ _. RawPtr) ∷ plain (λ _. usize) ∷ []; result = plain (λ _. RawPtr) }; kept = (yes, (yes, (yes, tt))) }

  abbrev stayed : Stays ended.signature.params ended.kept
  stayed = (stay_dropped (RefOf (0 ∷ []) tt (plain (λ _. Vr E)) (λ _. tt)) yes, (stay_dropped (plain (λ _. RawPtr)) yes, (stay_dropped (plain (λ _. usize)) yes, tt)))

  abbrev Asks : el_d E → Ptr → ℕ → Type 0
  Asks d p i = (p ≡ d.ptr) × (i < d.len) × (0 < type_size (R E))

  abbrev Gives : el_d E → ℕ → Ptr → Type 0
  Gives d i r = IsPlaceOf (R E) d.ptr d.len r i

  abbrev spec : {M : Type 1} {𝓤 : Ura M} (𝓛 : Logic 𝓤) → Clauses 𝓤 ended
  spec {𝓤 = 𝓤} 𝓛 κs a = record { ghost = Unit {0}; requires = λ _. fact 𝓤 (Asks a.0.now a.1.0 a.1.1.0); ensures = λ _ r w. fact 𝓤 (Gives a.0.now a.1.1.0 r) }

module _ (E : El) {M : Type 1} {𝓤 : Ura M} (𝓛 : Logic 𝓤) (C : Calls 𝓤 𝓛.H) (Λ : Loops 𝓤 𝓛.H) (κ : Lft) (q : Share) (rb ro : ℕ) (d : el_d E) (p : Ptr) (i : ℕ) (us0 us1 us2 : List Val) where
  open 𝓛 use {H, A}

  abbrev block : Bor (el_d E)
  block = record { ref_ptr = (rb, ro); now = d }

  abbrev bound : (walk_of 𝓛 (ended E) (stayed E) (spec E 𝓛)).Ghost
  bound = (((κ, tt), (q, tt), tt, (block, (p, (i, tt))), (us0, (us1, (us2, tt)))), tt)

  abbrev Post : Val → SProp 𝓤
  Post = (walk_of 𝓛 (ended E) (stayed E) (spec E 𝓛)).post bound

  exits : (r : Ptr) (v : Val) → Gives E d i r → ent 𝓤 (⋆ 𝓛 (‵ (flft κ q) ∷ ‵ (RawPtr.own_val r (v ∷ [])) ∷ [])) (Post v)
  exits r v given =
      qed 𝓛 (‵ (flft κ q) ∷ ‵ (RawPtr.own_val r (v ∷ [])) ∷ []) ∵
      suffices ! _ (ends_at 𝓛 (ended E) (stayed E) (spec E 𝓛) bound v r (tt, (tt, (tt, tt))) (tt, (tt, (tt, tt)))) $ says ! given $
      nothing ! $ move ! (1 ∷ 0 ∷ []) $ join ! $ frame ! $ nothing ! $ nothing ! $ fjoin ! $ nothing ! $ fjoin ! $ nothing ! $ fjoin ! $ done !

  abbrev Had : List (Item 𝓤)
  Had = ‵ (hidden_shr (Vr E) κ d rb ro) ∷ ‵ (flft κ q) ∷ []

  walk : Asks E d p i → i < 2 ^ 64 → ent 𝓤 (⋆ 𝓛 Had) (WpFn 𝓤 H C Λ (function E) (vptr rb ro ∷ ptr_val p ∷ vint w64 i ∷ []) Post)
  walk asked fits_i =
      let b = block_of d.ptr in
      let o = count_of d.ptr in
      let at : ℕ = i * sz E + o in
      let within : i < d.len = asked.1 in
      let most : d.len ≤ d.cap = d.ok.1 in
      qed 𝓛 Had ∵ enter ! C Λ (function E) (vptr rb ro ∷ ptr_val p ∷ vint w64 i ∷ []) _ $ alloc_all ! (λ l. pass_all ! refl ((tt, tt), (Ptr-Good p, ((tt, record { fits = fits_i }), tt))) $
      let En : Env 𝓤 H = env (function E).locals l in
      unhide ! $ fsplit ! $ drop ! $ fsplit ! $ flt_l ! (λ fit. fsplit ! $ use1 𝓛 (raw (fact 𝓤 (InBlock d.ptr))) (in_block_says 𝓛 d.ptr) $ heard ! (InBlock d.ptr) (λ inb. drop ! $
      let small : sz E < 2 ^ 63 = one_below d.cap (sz E) (2 ^ 63) (omega arith) fit in
      let near : i * sz E < 2 ^ 63 = times_below i d.cap (sz E) (2 ^ 63) (omega arith) fit in
      let tiny : sz E < 2 ^ 64 = omega arith in
      let far : i * sz E < 2 ^ 64 = omega arith in
      let lies : d.ptr ≡ block_ptr b o = at_block d.ptr inb in
      -- [the token; the locals]
      take_at ! 2 $ rewrite ! 0 (λ (y : Ptr). ‵ (fat full_share ty_ptr (l 2) 0 (ptr_val y))) (asked.0 ∙ lies) refl $ give_at ! 2 $
      first ! $ blocks ! $
      sets ! (bin ! (get ! refl) (size_lit ! (record { fits = tiny })) (record { fits = far })) refl (tt, record { fits = far }) $
      sets_last ! (bin ! (get ! refl) (get ! refl) tt) refl (tt, tt) $
      exec ! C Λ En (after 1 (function E).body) (at_ret En Post) $ sets ! (of_opd ! (get ! refl)) refl (tt, tt) $
      feq_i ! (List Val) (vptr b at ∷ []) (vptr b at ∷ []) refl $
      returns ! (look_at ! 0 refl) $ free_all ! refl $ keep ! (1 ∷ 0 ∷ []) $
      by ! (exits (block_ptr b at) (vptr b at) (nth_place (R E) d.ptr b o i d.len lies within asked.2)))))

  entry : Asks E d p i → ent 𝓤 (on_entry 𝓛 (ended E).signature (κ, tt) (q, tt) (block, (p, (i, tt))) (us0, (us1, (us2, tt)))) (WpFn 𝓤 H C Λ (function E) (us0 ++ (us1 ++ (us2 ++ []))) Post)
  entry asked =
      qed 𝓛 ((‵ (flft κ q) ⊛ ‵ ftrue) ∷ ‵ (owns (ShrRef (named 0) κ (Vr E) ∷ RawPtr ∷ usize ∷ []) (block, (p, (i, tt))) (us0, (us1, (us2, tt)))) ∷ []) ∵
      split ! $ move ! (2 ∷ []) $ fsplit ! $ fsplit ! $ feq_l ! (λ e0. move ! (1 ∷ []) $ fsplit ! $ feq_l ! (λ e1. fsplit ! $ fsplit ! $ feq_l ! (λ e2. flt_l ! (λ fits_i. keep ! (1 ∷ 2 ∷ []) $
      by ! (subst (λ (ws : List Val × List Val × List Val). ent 𝓤 (⋆ 𝓛 Had) (WpFn 𝓤 H C Λ (function E) (ws.0 ++ (ws.1 ++ (ws.2 ++ []))) Post)) (λ j. (sym e0 j, sym e1 j, sym e2 j)) (walk asked fits_i))))))

meets : (E : El) {M : Type 1} {𝓤 : Ura M} (𝓛 : Logic 𝓤) (𝓣 : Tables 𝓤 𝓛.H)
    → Meets 𝓛 (ended E).signature (WpFn 𝓤 𝓛.H 𝓣.C 𝓣.Λ (function E)) (closing 𝓛 (ended E) (spec E 𝓛))
meets E {𝓤 = 𝓤} 𝓛 𝓣 =
    walk_Meets 𝓛 (ended E) (stayed E) (Goes-dropped 𝓛 1 (RefOf (0 ∷ []) tt (plain (λ _. Vr E)) (λ _. tt)) yes (λ κs x f. refl), (Goes-dropped 𝓛 1 (plain (λ _. RawPtr)) yes (λ κs x f. refl), (Goes-dropped 𝓛 1 (plain (λ _. usize)) yes (λ κs x f. refl), tt)))
    (spec E 𝓛) (WpFn 𝓤 𝓛.H 𝓣.C 𝓣.Λ (function E)) (WpFn-mono 𝓤 𝓛.H 𝓛.laws 𝓣 (function E))
    (λ z. needs 𝓤 (Asks E z.0.3.0.now z.0.3.1.0 z.0.3.1.1.0) _ (entry E 𝓛 𝓣.C 𝓣.Λ z.0.0.0 z.0.1.0 z.0.3.0.ref_ptr.0 z.0.3.0.ref_ptr.1 z.0.3.0.now z.0.3.1.0 z.0.3.1.1.0 z.0.4.0 z.0.4.1.0 z.0.4.1.1.0))

pub place_spec : {M : Type 1} → stated.statement M
unfolding tables_of
place_spec 𝓤 𝓛 𝓜 𝓡 wired T A LT LA g dict drops met dropped y =
    let E : El = record { row = T; laws = LT; al = record { row = A; laws = LA; g = g; d = dict; drops = drops } } in
    let 𝓣 : Tables 𝓤 𝓛.H = tables_of 𝓤 𝓛.H 𝓜 (tables 𝓤 𝓛.H 𝓜 𝓡 𝓡.env) in
    let k = #self (args E) in
    spared 𝓛 (ended E).signature (𝓡.run (𝓡.env k)) (run_framed 𝓤 𝓛.H 𝓜 𝓡 (𝓡.env k)) 2 (T.lives, (A.lives, tt)) (closing 𝓛 (ended E) (spec E 𝓛))
    (entered 𝓤 𝓛.H (triple_of 𝓛 (ended E).signature (closing 𝓛 (ended E) (spec E 𝓛))) 𝓣.C 𝓣.Λ k (function E) (code.unfolded 𝓤 𝓛.H 𝓜 𝓡 wired (T, (A, tt)) dict drops) (meets E 𝓛 𝓣))
    ((y.0.0, y.0.1, tt, y.0.3, y.0.4), y.1)
