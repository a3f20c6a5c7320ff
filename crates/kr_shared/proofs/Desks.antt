-- What the steps of serving come to, one after the other.
use Rattle.std.proofs.Common.{◌≡◌, ◌∙◌, sym, subst, ap, ℕ, ℤ, ◌+◌, ◌≤◌, Bool, true, false, List, [], ◌++◌, append-nil, arith}
use Rattle.std.specs.Prelude.{Option, Some, None, is_some, not, ◌&&◌, Result, Ok, Err, IsOk, OnOk}
use Rattle.std.specs.Result.{is_err}
use Rattle.kr_calls.specs.declared.events.Event.{Event}
use Rattle.kr_calls.specs.declared.events.Event.TheVariants as events
use Rattle.kr_calls.specs.declared.events.Entry.{Entry}
use Rattle.kr_model.specs.Engine.{Core, IsSound, IsStep, outputs_left}
use Rattle.law_published_log.specs.Following.{AreNotes}
use Rattle.kr_shared.specs.declared.answers.Aside.{Aside}
use Rattle.kr_shared.specs.declared.answers.Asking.{Asking}
use Rattle.kr_shared.specs.declared.taking.Given.{Given}
use Rattle.kr_shared.specs.Answers.{aside_noted}
use Rattle.kr_shared.specs.Desks.{HasSpare, IsCaughtUp, DeskState, DeskStands, held_back, aside_by, entered_by, settled, takes_writes}
use Rattle.kr_shared.specs.Gives.{GivesOut}
use Rattle.kr_shared.specs.Lines.{HasLineRoom, LineView}
use Rattle.kr_shared.specs.Serves.{ServesEvent}
use Rattle.kr_shared.specs.Tasks.{IsTask}
use Rattle.kr_shared.specs.Turns.{LosesLed}
use Rattle.kr_shared.specs.Works.{KeepsShown}
use Rattle.kr_shared.specs.inner.Dropping.{left_if, up_to_below}
use Rattle.kr_shared.proofs.Losing.{loses_led, lost_for}
use Rattle.kr_shared.proofs.Serving.{bare_then, serves_so, sound_then, stands_so}
use Rattle.kr_shared.proofs.Onwards.{keeps_refl}

pub when_ok : {T E P : Type 0} (r : Result T E) → OnOk r P → IsOk r → P
when_ok (Ok x) h k = h
when_ok (Err e) h k = absurd cc

pub when_no_err : {T E P : Type 0} (r : Result T E) → OnOk r P → is_err r ≡ false → P
when_no_err (Ok x) h k = h
when_no_err (Err e) h k = absurd cc

pub kept_sound : (k : DeskState) → DeskStands k → IsSound k.engine × (outputs_left k.engine ≡ [])
kept_sound k s = sound_then (settled k) s.stands

pub spare_room : (a : Option Aside) (l : LineView) → HasSpare a l → HasLineRoom l
spare_room None l spare = spare
spare_room (Some a) l spare = omega (arith, spare)

pub spare_after : (a : Option Aside) (old new : LineView) → HasSpare a old → (new.dues + new.waits) ≤ (old.dues + old.waits) → new.room ≡ old.room → HasSpare a new
spare_after None old new spare fewer same = omega (arith, spare, fewer, same)
spare_after (Some a) old new spare fewer same = omega (arith, spare, fewer, same)

-- ---- an event

module _ (w0 w1 w2 w3 w4 w5 w6 : DeskState) (lost : Bool)
    (one : w1 ≡ record w0 { engine = w1.engine })
    (two : w2 ≡ record w1 { line = w2.line })
    (three : w3 ≡ record w2 { engine = w3.engine; line = w3.line })
    (four : w4 ≡ record w3 { line = w4.line })
    (five : w5 ≡ record w4 { unstaged = w5.unstaged; fresh = w5.fresh })
    (six : w6 ≡ record w5 { fresh = w5.engine.fresh; engine = record w5.engine { fresh = [] } }) where
  pub six_steps : w6 ≡ record { shelf = w0.shelf; engine = record w3.engine { fresh = [] }; line = w4.line; unstaged = w5.unstaged; fresh = w3.engine.fresh }
  six_steps =
      six
      ∙ ap (λ (w : DeskState). record w { fresh = w.engine.fresh; engine = record w.engine { fresh = [] } })
      (five
      ∙ ap (λ (w : DeskState). record w { unstaged = w5.unstaged; fresh = w5.fresh })
      (four
      ∙ ap (λ (w : DeskState). record w { line = w4.line })
      (three
      ∙ ap (λ (w : DeskState). record w { engine = w3.engine; line = w3.line })
      (two ∙ ap (λ (w : DeskState). record w { line = w2.line }) one))))

  pub six_keep : KeepsShown w0.shelf w6.shelf
  six_keep = subst (λ (w : DeskState). KeepsShown w0.shelf w.shelf) (sym six_steps) (keeps_refl w0.shelf)

  -- before what goes with a leadership
  four_steps_so_far : w4 ≡ record w0 { engine = w3.engine; line = w4.line }
  four_steps_so_far =
      four
      ∙ ap (λ (w : DeskState). record w { line = w4.line })
      (three
      ∙ ap (λ (w : DeskState). record w { engine = w3.engine; line = w3.line })
      (two ∙ ap (λ (w : DeskState). record w { line = w2.line }) one))

  module _ (rests : IsCaughtUp w0) (fresh_left : w4.fresh ≡ [] → w5.fresh ≡ []) where
    pub none_fresh_yet : w4.fresh ≡ []
    none_fresh_yet = ap (λ (w : DeskState). w.fresh) four_steps_so_far ∙ rests.fresh

    pub none_fresh : w5.fresh ≡ []
    none_fresh = fresh_left none_fresh_yet

    pub kept_left : held_back w5 ≡ left_if lost w4.engine.committed (held_back w4) → w5.unstaged ≡ left_if lost w3.engine.committed w0.unstaged
    kept_left left =
        sym (append-nil w5.unstaged) ∙ ap (λ (es : List Entry). w5.unstaged ++ es) (sym none_fresh)
        ∙ (left
        ∙ ((λ i. left_if lost (four_steps_so_far i).engine.committed ((four_steps_so_far i).unstaged ++ (four_steps_so_far i).fresh))
        ∙ (ap (λ (es : List Entry). left_if lost w3.engine.committed (w0.unstaged ++ es)) rests.fresh ∙ ap (left_if lost w3.engine.committed) (append-nil w0.unstaged))))

  module _ (rests : IsCaughtUp w0) (sf : DeskStands w0) (event : Event) (asking : Option Asking) (task : IsTask w0.engine event asking) (given : Given) (aside : Option Aside) (led takes : Bool)
      (pieces pieces' : Option (List (List ℕ))) (faults faults' : ℕ)
      (led_is : led ≡ is_some w0.engine.leading)
      (takes_is : takes ≡ takes_writes w0.engine)
      (step : IsStep w0.engine w1.engine event)
      (aside_is : aside ≡ aside_by takes asking event)
      (entered : w2.line.waiting ≡ w1.line.waiting ++ entered_by takes asking event)
      (none : w2.line.due ≡ w1.line.due)
      (gives : GivesOut w2.engine w3.engine pieces pieces' faults faults' w2.line w3.line given)
      (noted : w4.line.due ≡ w3.line.due ++ aside_noted aside given.refusal given.reply)
      (waiting : w4.line.waiting ≡ w3.line.waiting)
      (lost_is : lost ≡ (led && not (is_some w4.engine.leading)))
      (left : held_back w5 ≡ left_if lost w4.engine.committed (held_back w4))
      (fresh_left : w4.fresh ≡ [] → w5.fresh ≡ []) where
    abbrev gives_then : GivesOut w1.engine w3.engine pieces pieces' faults faults' w2.line w3.line given
    gives_then = subst (λ (e : Core). GivesOut e w3.engine pieces pieces' faults faults' w2.line w3.line given) (ap (λ (w : DeskState). w.engine) two) gives

    entered_then : w2.line.waiting ≡ w0.line.waiting ++ entered_by (takes_writes w0.engine) asking event
    entered_then = entered ∙ (λ i. (one i).line.waiting ++ entered_by (takes_is i) asking event)

    none_then : w2.line.due ≡ w0.line.due
    none_then = none ∙ (λ i. (one i).line.due)

    noted_then : w4.line.due ≡ w3.line.due ++ aside_noted (aside_by (takes_writes w0.engine) asking event) given.refusal given.reply
    noted_then = noted ∙ (λ i. w3.line.due ++ aside_noted ((aside_is ∙ ap (λ b. aside_by b asking event) takes_is) i) given.refusal given.reply)

    lost_then : lost ≡ (is_some w0.engine.leading && not (is_some w3.engine.leading))
    lost_then = lost_is ∙ (λ i. led_is i && not (is_some (four i).engine.leading))

    pub steps_serve : ServesEvent pieces pieces' faults faults' (settled w0) (settled w6) event asking given.appended given.refusal
    steps_serve =
        serves_so w0 rests sf.stands event asking task w1.engine w3.engine w2.line w3.line w4.line given pieces pieces' faults faults' step gives_then
        entered_then none_then waiting noted_then lost lost_then w6 w5.unstaged (kept_left rests fresh_left left) six_steps

    pub steps_stand : HasLineRoom w4.line → DeskStands w6 × AreNotes w6.line.due
    steps_stand room = (
      stands_so w0 rests sf.stands event asking task w1.engine w3.engine w2.line w3.line w4.line given pieces pieces' faults faults' step gives_then
          entered_then none_then waiting noted_then lost lost_then w6 w5.unstaged (kept_left rests fresh_left left) six_steps room,
      subst (λ (w : DeskState). AreNotes w.line.due) (sym six_steps)
          (bare_then w0 rests sf.stands event asking task w1.engine w3.engine w2.line w3.line w4.line given pieces pieces' faults faults' step gives_then
          entered_then none_then waiting noted_then lost lost_then w6 w5.unstaged (kept_left rests fresh_left left) six_steps),
    )

-- ---- the loss of a leadership

module _ (w0 w1 w2 w3 w4 : DeskState) (one : w1 ≡ record w0 { engine = w1.engine }) (two : w2 ≡ record w1 { engine = w2.engine; line = w2.line })
    (three : w3 ≡ record w2 { engine = record w2.engine { fresh = [] } }) (four : w4 ≡ record w3 { unstaged = w4.unstaged; fresh = w4.fresh }) where
  three_steps : w3 ≡ record w0 { engine = record w2.engine { fresh = [] }; line = w2.line }
  three_steps =
      three
      ∙ ap (λ (w : DeskState). record w { engine = record w.engine { fresh = [] } })
      (two ∙ ap (λ (w : DeskState). record w { engine = w2.engine; line = w2.line }) one)

  pub four_steps : w4 ≡ record w0 { engine = record w2.engine { fresh = [] }; line = w2.line; unstaged = w4.unstaged; fresh = w4.fresh }
  four_steps = four ∙ ap (λ (w : DeskState). record w { unstaged = w4.unstaged; fresh = w4.fresh }) three_steps

  pub four_keep : KeepsShown w0.shelf w4.shelf
  four_keep = subst (λ (w : DeskState). KeepsShown w0.shelf w.shelf) (sym four_steps) (keeps_refl w0.shelf)

  module _ (sf : DeskStands w0) (bare : AreNotes w0.line.due) (epoch : ℤ) (led : w0.engine.leading ≡ Some epoch) (given : Given) (pieces pieces' : Option (List (List ℕ))) (faults faults' : ℕ)
      (step : IsStep w0.engine w1.engine (events.Lost epoch)) (gives : GivesOut w1.engine w2.engine pieces pieces' faults faults' w1.line w2.line given)
      (left : held_back w4 ≡ left_if true w3.engine.committed (held_back w3)) where
    gives_so : GivesOut w1.engine w2.engine pieces pieces' faults faults' w0.line w2.line given
    gives_so = subst (λ (l : LineView). GivesOut w1.engine w2.engine pieces pieces' faults faults' l w2.line given) (ap (λ (w : DeskState). w.line) one) gives

    cut_so : w4.unstaged ++ w4.fresh ≡ up_to_below w2.engine.committed (held_back w0)
    cut_so = left ∙ (λ i. up_to_below (three_steps i).engine.committed ((three_steps i).unstaged ++ (three_steps i).fresh))

    pub steps_lose : LosesLed pieces pieces' faults faults' (settled w0) (settled w4) (Some epoch)
    steps_lose = loses_led w0 sf bare epoch led w1.engine w2.engine w2.line given pieces pieces' faults faults' step gives_so w4 w4.unstaged w4.fresh cut_so four_steps

    pub steps_lost : DeskStands w4
    steps_lost = lost_for w0 sf bare epoch led w1.engine w2.engine w2.line given pieces pieces' faults faults' step gives_so w4 w4.unstaged w4.fresh cut_so four_steps sf.room
