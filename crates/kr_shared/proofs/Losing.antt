-- A leadership is lost, before what came of the event before it is published.
use Rattle.std.proofs.Common.{◌≡◌, ◌∙◌, sym, subst, ap, refl, ℕ, ℤ, pos, Bool, true, false, cond, List, [], ◌∷◌, ◌++◌, fold}
use Rattle.std.specs.Prelude.{Option, Some, None, is_some, not, Result, Ok, Err, ◌&&◌}
use Rattle.std.specs.Result.{result_unwrap_or}
use Rattle.std.proofs.lemmas.List.{append_assoc, append-nil}
use Rattle.kr_calls.specs.declared.events.Entry.{Entry}
use Rattle.kr_calls.specs.declared.events.Event.{Event}
use Rattle.kr_calls.specs.declared.events.Event.TheVariants as events
use Rattle.kr_calls.specs.declared.events.Reason.{Reason}
use Rattle.kr_calls.specs.RightAnswers.{AreRightAfter}
use Rattle.kr_calls.specs.SeatList.{item_entries}
use Rattle.kr_defs.specs.declared.options.Options.{Options}
use Rattle.kr_defs.specs.declared.record.Item.{Item}
use Rattle.kr_defs.proofs.IdLists.{id_itself}
use Rattle.kr_view.specs.Shelves.{Shelf, next_at, shown_at, with_staged}
use Rattle.kr_view.specs.Staged.{staged_above, staged_below}
use Rattle.kr_view.proofs.Moves.{right-append}
use Rattle.kr_model.specs.declared.writes.Told.{Told}
use Rattle.kr_model.specs.declared.writes.Write.{Write}
use Rattle.kr_model.specs.Engine.{Core, IsEngine, IsStep}
use Rattle.kr_model.specs.Entries.{entries_by, items_from}
use Rattle.kr_model.specs.Events.{at_time_of, happens, outcome, with_next_number}
use Rattle.kr_model.specs.Lost.{after_lost, cut, lost}
use Rattle.kr_model.specs.Outputs.{waiting_after}
use Rattle.kr_model.specs.Reasons.{not_leading}
use Rattle.kr_model.specs.World.{State, closed_of, leads_in, tip_of}
use Rattle.kr_model.proofs.LogEntries.{cut_behind}
use Rattle.law_published_log.specs.Following.{AreNotes}
use Rattle.law_published_log.proofs.Evolving.{Shorter}
use Rattle.kr_shared.specs.declared.asked.Asked.{Asked}
use Rattle.kr_shared.specs.declared.taking.Given.{Given}
use Rattle.kr_shared.specs.Answers.{Answering, AreReplied, answer_all, answering}
use Rattle.kr_shared.specs.Desks.{DeskState, DeskStands, held_back, ready, settled}
use Rattle.kr_shared.specs.Gives.{GivesOut}
use Rattle.kr_shared.specs.Lines.{HasLineRoom, LineView}
use Rattle.kr_shared.specs.Serves.{ServesEvent}
use Rattle.kr_shared.specs.Standing.{StandsForSome, Standing}
use Rattle.kr_shared.specs.Takes.{TakesEvent}
use Rattle.kr_shared.specs.Turns.{LosesLed}
use Rattle.kr_shared.specs.Works.{DeskView, cut_if, is_lost}
use Rattle.kr_shared.specs.inner.Dropping.{up_to_below}
use Rattle.kr_shared.proofs.Dropped.{AreBelow, above_front, all_below, below_front, both_parts, later_below, left_cut, up_to_low}
use Rattle.kr_shared.proofs.Made.{all_behind, all_noted, behind, both_notes}
use Rattle.kr_shared.proofs.Served as served
use Rattle.kr_shared.proofs.Serving as serving
use Rattle.kr_shared.proofs.Standings.{closed_stays, shorter_shown}
use Rattle.kr_shared.proofs.Giving.{still_room}

module _ (w : DeskState) (sf : DeskStands w) (bare : AreNotes w.line.due) (epoch : ℤ) (led : w.engine.leading ≡ Some epoch) (e1 e2 : Core) (l : LineView) (given : Given)
    (pieces pieces' : Option (List (List ℕ))) (faults faults' : ℕ) (step : IsStep w.engine e1 (events.Lost epoch)) (gives : GivesOut e1 e2 pieces pieces' faults faults' w.line l given)
    (new : DeskState) (unstaged fresh : List Entry) (cut_is : unstaged ++ fresh ≡ up_to_below e2.committed (held_back w)) (is : new ≡ record w { engine = record e2 { fresh = [] }; line = l; unstaged = unstaged; fresh = fresh }) where
  abbrev event : Event
  event = events.Lost epoch

  abbrev old : DeskView
  old = settled w

  abbrev k : StandsForSome old
  k = sf.stands

  abbrev s : State
  s = k.state

  abbrev o : Options
  o = w.engine.options

  abbrev told : List Told
  told = gives.told

  abbrev t : TakesEvent w.engine e2 event told
  t = record { between = e1; step = step; emptied = gives.emptied }

  abbrev next : State
  next = happens o s event

  leading : s.world.leading ≡ Some epoch
  leading = sym k.stands.engine.leading ∙ led

  out : outcome o (at_time_of s event) event ≡ Ok (after_lost (at_time_of s event))
  out =
      ap (λ (q : Option ℤ). cond (not (leads_in q epoch)) (Err (not_leading epoch q)) (Ok (after_lost (at_time_of s event)))) leading
      ∙ ap (λ b. cond (not b) (Err (not_leading epoch (Some epoch))) (Ok (after_lost (at_time_of s event)))) (id_itself epoch)

  next_is : next ≡ with_next_number (after_lost (at_time_of s event))
  next_is = ap (λ r. with_next_number (result_unwrap_or r (at_time_of s event))) out

  shorter : Shorter s.world next.world
  shorter =
      subst (λ (x : State). Shorter s.world x.world) (sym next_is)
      (record { cuts = refl; same = refl; led = ap (λ (q : Option ℤ). is_some q) leading; over = refl })

  no_fresh : e2.fresh ≡ []
  no_fresh =
      gives.emptied.fresh
      ∙ (step.fresh s k.writes k.stands.engine
      ∙ (ap (λ r. entries_by s event r) out ∙ ap (λ (xs : List Item). item_entries (pos (tip_of s)) xs) (cut_behind s.world.log s.world.committed)))

  after_stands : IsEngine e2 next (waiting_after o s k.writes event)
  after_stands = served.stands old e2 event told s k.writes k.stands t

  at_end : e2.closed ≡ w.engine.closed
  at_end = after_stands.closed ∙ (ap pos (closed_stays s.world next.world old.shelf.list e2.fresh (served.rests old e2 event told s k.writes k.stands t) k.stands.shows shorter) ∙ sym k.stands.engine.closed)

  -- ---- what is kept of the log

  abbrev more : List Entry
  more = serving.more old e2 event None told refl t

  -- nothing of that is published
  none : staged_below e2.closed more ≡ []
  none =
      (λ i. staged_below (after_stands.closed i) (served.added_so old e2 event told s k.writes k.stands t i))
      ∙ shorter_shown s.world next.world old.shelf.list e2.fresh (served.rests old e2 event told s k.writes k.stands t) k.stands.shows shorter no_fresh

  abbrev front : List Entry
  front = staged_below w.engine.closed (held_back w)

  abbrev behind_front : List Entry
  behind_front = up_to_below e2.committed old.unstaged

  lost_yes : is_lost w.engine e2 ≡ true
  lost_yes = (λ i. is_some (led i) && not (is_some (after_stands.leading i))) ∙ ap (λ (q : Option ℤ). not (is_some q)) shorter.over

  front_low : AreBelow e2.committed front
  front_low =
      subst (λ z. AreBelow z front) (sym (after_stands.committed ∙ ap pos shorter.same))
      (later_below (closed_of s.world) s.world.committed front (served.rests old e2 event told s k.writes k.stands t).committed
      (subst (λ z. AreBelow z front) k.stands.engine.closed (all_below w.engine.closed (held_back w))))

  added_is : unstaged ++ fresh ≡ front ++ behind_front
  added_is =
      cut_is
      ∙ (ap (up_to_below e2.committed) (sym (both_parts w.engine.closed (held_back w)))
      ∙ up_to_low e2.committed front old.unstaged front_low)

  front_then : AreBelow e2.closed front
  front_then = subst (λ z. AreBelow z front) (sym at_end) (all_below w.engine.closed (held_back w))

  -- as the event has it
  left_is : behind_front ≡ more
  left_is =
      left_cut true e2.committed old.unstaged s k.stands.unstaged after_stands.committed
      ∙ ((λ i. cut_if (sym lost_yes i) e2.committed old.unstaged)
      ∙ (sym (append-nil (cut_if (is_lost w.engine e2) e2.committed old.unstaged)) ∙ ap (λ (es : List Entry). cut_if (is_lost w.engine e2) e2.committed old.unstaged ++ es) (sym no_fresh)))

  below_then : staged_below e2.closed (unstaged ++ fresh) ≡ front
  below_then =
      ap (staged_below e2.closed) added_is
      ∙ (below_front e2.closed front behind_front front_then
      ∙ (ap (λ (es : List Entry). front ++ es) (ap (staged_below e2.closed) left_is ∙ none) ∙ append-nil front))

  above_then : staged_above e2.closed (unstaged ++ fresh) ≡ staged_above e2.closed more
  above_then = ap (staged_above e2.closed) added_is ∙ (above_front e2.closed front behind_front front_then ∙ ap (staged_above e2.closed) left_is)

  -- ---- what is due

  abbrev shelf : Shelf
  shelf = fold with_staged w.shelf front

  abbrev replied : Answering
  replied = serving.r old e2 event None told refl t

  abbrev with_due : List Entry → Shelf
  with_due es = record shelf { notes = shelf.notes ++ es }

  abbrev below : List Entry
  below = shelf.waiting ++ staged_below w.engine.closed shelf.items

  abbrev due : List Entry
  due = below ++ (shelf.notes ++ w.line.due)

  answers : answering l.waiting l.due ≡ behind w.line.due replied
  answers =
      gives.gives.answers
      ∙ (ap (λ (es : List Entry). answer_all (answering w.line.waiting es) told) (sym (append-nil w.line.due))
      ∙ all_behind w.line.due (answering w.line.waiting []) told)

  ready_old : ready w ≡ with_due w.line.due
  ready_old = all_noted shelf w.line.due bare

  list_is : old.shelf.list ≡ shelf.list ++ due
  list_is = ap (λ (h : Shelf). (shown_at w.engine.closed h).list) ready_old

  options_is : old.shelf.options ≡ shelf.options
  options_is = ap (λ (h : Shelf). h.options) ready_old

  -- nothing stays staged
  none_staged : staged_above w.engine.closed shelf.items ≡ []
  none_staged = sym (ap (λ (h : Shelf). staged_above w.engine.closed h.items) ready_old) ∙ ap (λ (h : Shelf). h.items) k.stands.rests

  ready_later : fold with_staged shelf l.due ≡ with_due l.due
  ready_later =
      all_noted shelf l.due
      (subst AreNotes (sym (ap (λ (q : Answering). q.notes) answers)) (both_notes w.line.due replied.notes bare (serving.replies old e2 event None told refl t s k.writes k.stands).bare))

  -- in front of the answers to what waited
  in_front : below ++ (shelf.notes ++ (w.line.due ++ replied.notes)) ≡ due ++ replied.notes
  in_front =
      ap (λ (es : List Entry). below ++ es) (sym (append_assoc shelf.notes w.line.due replied.notes))
      ∙ sym (append_assoc below (shelf.notes ++ w.line.due) replied.notes)

  list_so : shelf.list ++ (below ++ (shelf.notes ++ (w.line.due ++ replied.notes))) ≡ old.shelf.list ++ replied.notes
  list_so =
      ap (λ (es : List Entry). shelf.list ++ es) in_front
      ∙ (sym (append_assoc shelf.list due replied.notes)
      ∙ ap (λ (es : List Entry). es ++ replied.notes) (sym list_is))

  abbrev at_rest : Options → List Entry → List Entry → List Entry → List Asked → DeskView
  at_rest options list items left waiting =
      record { shelf = record { options = options; list = list; waiting = []; items = items; notes = [] }; unstaged = left; engine = record e2 { fresh = [] }; waiting = waiting }

  -- all is staged
  ready_new : ready new ≡ with_due l.due
  ready_new =
      (λ i. fold with_staged (fold with_staged (is i).shelf (staged_below (is i).engine.closed ((is i).unstaged ++ (is i).fresh))) (is i).line.due)
      ∙ (ap (λ (es : List Entry). fold with_staged (fold with_staged w.shelf es) l.due) below_then ∙ ready_later)

  settled_so : settled new ≡ serving.after old e2 event None told refl t
  settled_so =
      (λ i. record { shelf = shown_at (is i).engine.closed (ready_new i); unstaged = staged_above (is i).engine.closed ((is i).unstaged ++ (is i).fresh); engine = (is i).engine; waiting = (is i).line.waiting })
      ∙ ((λ i. at_rest (sym options_is i) (shelf.list ++ ((shelf.waiting ++ staged_below (at_end i) shelf.items) ++ (shelf.notes ++ (answers i).notes))) (staged_above (at_end i) shelf.items) (above_then i) (answers i).waiting)
      ∙ ((λ i. at_rest old.shelf.options (list_so i) (none_staged i) (staged_above e2.closed more) replied.waiting)
      ∙ (λ i. at_rest old.shelf.options (old.shelf.list ++ (sym none i ++ replied.notes)) [] (staged_above e2.closed more) replied.waiting)))

  pub loses_so : ServesEvent pieces pieces' faults faults' old (settled new) event None given.appended given.refusal
  loses_so = record {
    between = e2;
    told = told;
    takes = t;
    appends = gives.gives.appends;
    refused = gives.gives.refused;
    engine = ap (λ (d : DeskView). d.engine) settled_so;
    answers = replied;
    answered = refl;
    replied =
        subst (AreReplied replied.notes) (sym (served.outputs_told old e2 event told s k.writes k.stands t))
        (serving.replies old e2 event None told refl t s k.writes k.stands).replied;
    waiting = ap (λ (d : DeskView). d.waiting) settled_so;
    added = more;
    adds = refl;
    shelf = ap (λ (d : DeskView). d.shelf) settled_so;
    unstaged = ap (λ (d : DeskView). d.unstaged) settled_so;
    stands = λ s writes h. subst (λ (d : DeskView). Standing d (happens o s event) (waiting_after o s writes event)) (sym settled_so) (serving.stands_after old e2 event None told refl t s writes h);
  }

  pub loses_led : LosesLed pieces pieces' faults faults' old (settled new) (Some epoch)
  loses_led = record { appended = given.appended; refusal = given.refusal; serves = loses_so }

  -- ---- and it may be published

  right_behind : AreRightAfter shelf.options (shelf.list ++ due) replied.notes
  right_behind =
      subst (λ (q : Options). AreRightAfter q (shelf.list ++ due) replied.notes) (k.stands.options ∙ options_is)
      (subst (λ (es : List Entry). AreRightAfter o es replied.notes) list_is
      (subst (λ (es : List Entry). AreRightAfter o es replied.notes) (append-nil old.shelf.list)
      (subst (λ (es : List Entry). AreRightAfter o (old.shelf.list ++ es) replied.notes) (ap (λ z. staged_below z more) (sym after_stands.closed) ∙ none)
      (serving.replies old e2 event None told refl t s k.writes k.stands).right)))

  right_all : AreRightAfter shelf.options shelf.list (due ++ replied.notes)
  right_all =
      right-append shelf.options shelf.list due replied.notes
      (subst (λ (h : Shelf). AreRightAfter h.options h.list (next_at w.engine.closed h)) ready_old sf.right) right_behind

  right_so : AreRightAfter shelf.options shelf.list ((shelf.waiting ++ staged_below e2.closed shelf.items) ++ (shelf.notes ++ l.due))
  right_so =
      subst (AreRightAfter shelf.options shelf.list)
      (sym in_front ∙ (λ i. (shelf.waiting ++ staged_below (sym at_end i) shelf.items) ++ (shelf.notes ++ (sym answers i).notes))) right_all

  pub lost_for : HasLineRoom w.line → DeskStands new
  lost_for room = record {
    stands = record {
      state = next;
      writes = waiting_after o s k.writes event;
      stands = loses_so.stands s k.writes k.stands;
    };
    right =
        subst (λ (x : Shelf × ℤ). AreRightAfter x.0.options x.0.list (next_at x.1 x.0)) (λ i. (sym ready_new i, sym (ap (λ (x : DeskState). x.engine.closed) is) i)) right_so;
    room = subst (λ (x : DeskState). HasLineRoom x.line) (sym is) (still_room w.line l room gives.gives.fewer gives.gives.same);
  }
