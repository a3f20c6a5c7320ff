-- `at_mut` lends the value that lies at the pointer to be written, and the block follows it. Assumes `Logic`.
use mathlib.Core.Path.{◌≡◌, refl, sym, ap, subst, ◌∙◌}
use Prim.Native.Nat.{ℕ, ◌+◌, ◌*◌, ◌≤◌, ◌<◌}
use native.Mathlib.Omega.{arith}
use mathlib.Core.List.{List, [], ◌∷◌, ◌++◌}
use lib.ListN.{length, get_or}
use seplogic.Ra.Ura.{Ura}
use base.Fraction.{full_share}
use mir.Syntax.{Fn, named, ty_ptr}
use mir.MapTy.{inst_fn}
use mir.Val.{Val, vptr}
use base.Logic.{SProp, ent, sep}
use base.Fml.{Lft, GName, Share, Fml, ftrue, fat, flft, fbor, fobs}
use prog.Wp.{Env, Calls, Loops, WpFn, Tables}
use types.Logic.{Logic, sem}
use types.SemTy.{Body}
use contract.Monad.{fact}
use contract.Running.{tables, tables_of}
use sound.WpLaws.{WpFn-mono}
use types.Kit.{Item, ⋆, ‵, raw, later, some, ◌⊛◌, at_ret, ◌$◌, ◌∵◌, !, qed, by, move, keep, group, await, pick, use1, split, join, rewrite, fsplit, fsplit3, fjoin, feq_l, suffices, frame, done}
use types.Run.{stop, of_opd, addr, first, blocks, exec, returns, enter}
use types.ByLocal.{alloc_all, pass_all, free_all, look_at, get, through, sets, sets_last, take_at, give_at, env}
use denote.Exit.{yes, no}
use denote.Follow.{follows}
use denote.Memory.{mem}
use denote.RattleType.{owns}
use denote.RawPtr.{Ptr, RawPtr, ptr_val}
use denote.Ref.{MutBor, MutRef}
use denote.Builtin.{RefMutOf}
use denote.Signature.{plain, mut_ref_to}
use denote.Steps.{nothing}
use denote.Triple.Carry.{spared}
use denote.Triple.Clauses.{Clauses, Ended, closing}
use denote.Triple.Entry.{on_entry}
use denote.Triple.Spec.{Meets, triple_of}
use denote.Triple.Table.{entered, run_framed}
use denote.Triple.Walked.{says, needs, Stays, stay_dropped, walk_of, ends_at, Goes-dropped, Goes-spent_ref, walk_Meets}
use Rattle.std.specs.Ptr.{ptr_add}
use Rattle.std.specs.Vec.{with_item}
use Rattle.std.proofs.RcSteps.{Ptr-Good}
use Rattle.std.proofs.SliceLists.{any-default}
use Rattle.std.proofs.VecSteps.El.{El, args, el_x, el_d, R, Vr, sz}
use Rattle.std.proofs.VecSteps.Element.{Got, lends}
use Rattle.std.proofs.VecSteps.Opens.{vec_opens}
use Rattle.std.proofs.VecSteps.Shapes.{after}
use Rattle.std.proofs.ptr.Rows.{hd}
use Rattle.kr_contact.specs.Places.{index_at, IsPlace}
use Rattle.kr_contact.specs.contracts.places.at_mut.Key.{name as #self}
use Rattle.kr_contact.proofs.places.at_mut.Statement as stated
use Rattle.kr_contact.proofs.places.at_mut.Code as code

module _ (E : El) where
  abbrev function : Fn
  function = inst_fn (args E) code.function

  abbrev ended : Ended
  ended = record { signature = record { lifetimes = 1; outlives = []; params = RefMutOf (0 ∷ []) tt (plain (λ _. Vr E)) (λ _. tt) ∷ plain (λ _. RawPtr) ∷ []; result = RefMutOf (0 ∷ []) tt (plain (λ _. R E)) (λ _. tt) }; kept = (no, (yes, tt)) }

  abbrev stayed : Stays ended.signature.params ended.kept
  stayed = (stay_dropped (mut_ref_to (0 ∷ []) tt (plain (λ _. Vr E))) no, (stay_dropped (plain (λ _. RawPtr)) yes, tt))

  abbrev Asks : el_d E → Ptr → Type 0
  Asks d p = IsPlace (R E) d.ptr d.len p

  abbrev Gives : el_d E → Ptr → el_x E → Type 0
  Gives d p x = x ≡ get_or d.items (index_at (R E) d.ptr p) x

  -- what is written to the value becomes that value of the block
  abbrev Follows : el_d E → Ptr → GName → GName → Fml
  Follows d p γ γ' = follows (Vr E) (R E) γ γ' (with_item d (index_at (R E) d.ptr p))

  abbrev spec : {M : Type 1} {𝓤 : Ura M} (𝓛 : Logic 𝓤) → Clauses 𝓤 ended
  spec {𝓤 = 𝓤} 𝓛 κs a = record { ghost = Unit {0}; requires = λ _. fact 𝓤 (Asks a.0.now a.1.0); ensures = λ _ r w. sep 𝓤 (sem 𝓛 (Follows a.0.now a.1.0 a.0.ghost_name r.ghost_name)) (fact 𝓤 (Gives a.0.now a.1.0 r.now)) }

module _ (E : El) {M : Type 1} {𝓤 : Ura M} (𝓛 : Logic 𝓤) (C : Calls 𝓤 𝓛.H) (Λ : Loops 𝓤 𝓛.H) (κ : Lft) (q : Share) (rb ro : ℕ) (γ : GName) (d : el_d E) (p : Ptr) (us0 us1 : List Val) where
  open 𝓛 use {H, A}

  abbrev block : MutBor (el_d E)
  block = record { ref_ptr = (rb, ro); ghost_name = γ; now = d }

  abbrev bound : (walk_of 𝓛 (ended E) (stayed E) (spec E 𝓛)).Ghost
  bound = (((κ, tt), (q, tt), tt, (block, (p, tt)), (us0, (us1, tt))), tt)

  abbrev Post : Val → SProp 𝓤
  Post = (walk_of 𝓛 (ended E) (stayed E) (spec E 𝓛)).post bound

  exits : (r : MutBor (el_x E)) (v : Val) → Gives E d p r.now
      → ent 𝓤 (⋆ 𝓛 (‵ ((MutRef (named 0) κ (R E)).own_val r (v ∷ [])) ∷ ‵ (flft κ q) ∷ ‵ (Follows E d p γ r.ghost_name) ∷ [])) (Post v)
  exits r v given =
      qed 𝓛 (‵ ((MutRef (named 0) κ (R E)).own_val r (v ∷ [])) ∷ ‵ (flft κ q) ∷ ‵ (Follows E d p γ r.ghost_name) ∷ []) ∵
      suffices ! _ (ends_at 𝓛 (ended E) (stayed E) (spec E 𝓛) bound v r (tt, (tt, tt)) (tt, (tt, tt))) $
      -- the token, then what is left of the arguments beside the result
      nothing ! $ move ! (2 ∷ 0 ∷ []) $ join ! $ nothing ! $ nothing ! $ fjoin ! $ nothing ! $ fjoin ! $ move ! (0 ∷ 2 ∷ []) $ join ! $
      move ! (1 ∷ 0 ∷ []) $ join ! $ frame ! $ says ! given $ done !

  -- the `&mut` to the block, which goes
  abbrev Had : List (Item 𝓤)
  Had = ‵ (fobs γ ((Vr E).coded.code d)) ∷ ‵ (fbor κ (Body (mem (Vr E)) rb ro γ)) ∷ ‵ (flft κ q) ∷ []

  walk : Asks E d p → ent 𝓤 (⋆ 𝓛 Had) (WpFn 𝓤 H C Λ (function E) (vptr rb ro ∷ ptr_val p ∷ []) Post)
  walk asked =
      let i : ℕ = index_at (R E) d.ptr p in
      let lens : d.len ≡ length d.items = d.ok.0 in
      let most : d.len ≤ d.cap = d.ok.1 in
      let within : i < length d.items = subst (λ (k : ℕ). i < k) lens asked.1 in
      let some_room : 0 < d.cap = omega (arith, asked.1) in
      let z : el_x E = hd d.items (omega arith) in
      let x : el_x E = get_or d.items i z in
      qed 𝓛 Had ∵ enter ! C Λ (function E) (vptr rb ro ∷ ptr_val p ∷ []) _ $ alloc_all ! (λ l. pass_all ! refl ((tt, tt), (Ptr-Good p, tt)) $
      let En : Env 𝓤 H = env (function E).locals l in
      -- the value is lent before anything runs
      vec_opens E ! tt d rb ro some_room (λ b o hv lies few room fit.
      group ! 7 $ use1 𝓛 (later (some (λ (γ' : GName). raw (Got E 𝓛 κ q rb ro γ d i b o x γ')))) (lends E 𝓛 κ q rb ro γ d i b o lies asked.1 few room fit some_room z) $ await ! tt $ pick ! (λ γ'.
      let at : ℕ = i * sz E + o in
      take_at ! 2 $ rewrite ! 0 (λ (y : Ptr). ‵ (fat full_share ty_ptr (l 2) 0 (ptr_val y))) (asked.0 ∙ ap (ptr_add (R E) i) lies) refl $ give_at ! 2 $
      first ! $ blocks ! $ sets_last ! (addr ! (through ! refl (stop !))) refl (tt, tt) $
      exec ! C Λ En (after 1 (function E).body) (at_ret En Post) $ sets ! (of_opd ! (get ! refl)) refl (tt, tt) $
      returns ! (look_at ! 0 refl) $ free_all ! refl $ keep ! (0 ∷ []) $
      by ! (exits (record { ref_ptr = (b, at); ghost_name = γ'; now = x }) (vptr b at) (any-default d.items i z x within)))))

  entry : Asks E d p → ent 𝓤 (on_entry 𝓛 (ended E).signature (κ, tt) (q, tt) (block, (p, tt)) (us0, (us1, tt))) (WpFn 𝓤 H C Λ (function E) (us0 ++ (us1 ++ [])) Post)
  entry asked =
      qed 𝓛 ((‵ (flft κ q) ⊛ ‵ ftrue) ∷ ‵ (owns (MutRef (named 0) κ (Vr E) ∷ RawPtr ∷ []) (block, (p, tt)) (us0, (us1, tt))) ∷ []) ∵
      split ! $ move ! (2 ∷ []) $ fsplit ! $ fsplit3 ! $ feq_l ! (λ e0. move ! (2 ∷ []) $ fsplit ! $ feq_l ! (λ e1. keep ! (1 ∷ 2 ∷ 3 ∷ []) $
      by ! (subst (λ (ws : List Val × List Val). ent 𝓤 (⋆ 𝓛 Had) (WpFn 𝓤 H C Λ (function E) (ws.0 ++ (ws.1 ++ [])) Post)) (λ j. (sym e0 j, sym e1 j)) (walk asked))))

meets : (E : El) {M : Type 1} {𝓤 : Ura M} (𝓛 : Logic 𝓤) (𝓣 : Tables 𝓤 𝓛.H)
    → Meets 𝓛 (ended E).signature (WpFn 𝓤 𝓛.H 𝓣.C 𝓣.Λ (function E)) (closing 𝓛 (ended E) (spec E 𝓛))
meets E {𝓤 = 𝓤} 𝓛 𝓣 =
    walk_Meets 𝓛 (ended E) (stayed E) (Goes-spent_ref 𝓛 1 (0 ∷ []) tt (plain (λ _. Vr E)), (Goes-dropped 𝓛 1 (plain (λ _. RawPtr)) yes (λ κs x f. refl), tt))
    (spec E 𝓛) (WpFn 𝓤 𝓛.H 𝓣.C 𝓣.Λ (function E)) (WpFn-mono 𝓤 𝓛.H 𝓛.laws 𝓣 (function E))
    (λ z. needs 𝓤 (Asks E z.0.3.0.now z.0.3.1.0) _ (entry E 𝓛 𝓣.C 𝓣.Λ z.0.0.0 z.0.1.0 z.0.3.0.ref_ptr.0 z.0.3.0.ref_ptr.1 z.0.3.0.ghost_name z.0.3.0.now z.0.3.1.0 z.0.4.0 z.0.4.1.0))

pub at_mut_spec : {M : Type 1} → stated.statement M
unfolding tables_of
at_mut_spec 𝓤 𝓛 𝓜 𝓡 wired T A LT LA g dict drops met dropped y =
    let E : El = record { row = T; laws = LT; al = record { row = A; laws = LA; g = g; d = dict; drops = drops } } in
    let 𝓣 : Tables 𝓤 𝓛.H = tables_of 𝓤 𝓛.H 𝓜 (tables 𝓤 𝓛.H 𝓜 𝓡 𝓡.env) in
    let k = #self (args E) in
    spared 𝓛 (ended E).signature (𝓡.run (𝓡.env k)) (run_framed 𝓤 𝓛.H 𝓜 𝓡 (𝓡.env k)) 2 (T.lives, (A.lives, tt)) (closing 𝓛 (ended E) (spec E 𝓛))
    (entered 𝓤 𝓛.H (triple_of 𝓛 (ended E).signature (closing 𝓛 (ended E) (spec E 𝓛))) 𝓣.C 𝓣.Λ k (function E) (code.unfolded 𝓤 𝓛.H 𝓜 𝓡 wired (T, (A, tt)) dict drops) (meets E 𝓛 𝓣))
    ((y.0.0, y.0.1, tt, y.0.3, y.0.4), y.1)
