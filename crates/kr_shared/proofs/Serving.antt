-- An event is served.
use Rattle.std.proofs.Common.{◌≡◌, ◌∙◌, sym, subst, ℕ, ℤ, pos, Bool, true, false, cond, List, [], ◌∷◌, ◌++◌, refl, ap}
use Rattle.std.specs.Prelude.{Option, Some, None, is_some, not, fold, ◌&&◌}
use Rattle.std.proofs.lemmas.List.{append_assoc, append-nil}
use Rattle.kr_calls.specs.declared.calls.Ask.{Ask}
use Rattle.kr_calls.specs.declared.events.Entry.{Entry}
use Rattle.kr_calls.specs.declared.events.Event.{Event}
use Rattle.kr_calls.specs.declared.calls.Ask.TheVariants as asks
use Rattle.kr_calls.specs.declared.events.Entry.TheVariants as entries
use Rattle.kr_calls.specs.declared.events.Event.TheVariants as events
use Rattle.kr_calls.specs.RightAnswers.{AreRightAfter}
use Rattle.kr_defs.specs.declared.options.Options.{Options}
use Rattle.kr_view.specs.Shelves.{Shelf, next_at, shown_at, with_staged}
use Rattle.kr_view.specs.Staged.{staged_above, staged_below}
use Rattle.kr_model.specs.declared.writes.Told.{Told}
use Rattle.kr_model.specs.declared.writes.Write.{Write}
use Rattle.kr_model.specs.Engine.{Core, IsEngine, IsSound, IsStep, outputs_left}
use Rattle.kr_model.specs.Events.{at_time_of, happens}
use Rattle.kr_model.specs.Outputs.{waiting_after}
use Rattle.kr_model.specs.World.{State, closed_of}
use Rattle.kr_model.proofs.OutputsLeft.{handing_out_stands}
use Rattle.law_published_log.specs.Following.{AreNotes, Shows}
use Rattle.law_published_log.proofs.Shown.{shown_logs_go_on}
use Rattle.kr_shared.specs.declared.answers.Asking.{Asking}
use Rattle.kr_shared.specs.declared.asked.Asked.{Asked}
use Rattle.kr_shared.specs.declared.taking.Given.{Given}
use Rattle.kr_shared.specs.Answers.{Answering, AreReplied, answer_all, answering, aside_noted}
use Rattle.kr_shared.specs.Desks.{IsCaughtUp, DeskState, DeskStands, aside_by, entered_by, settled, takes_writes}
use Rattle.kr_shared.specs.Desks.{ready as all_ready}
use Rattle.kr_shared.specs.Gives.{GivesOut}
use Rattle.kr_shared.specs.Lines.{HasLineRoom, LineView}
use Rattle.kr_shared.specs.Serves.{ServesEvent}
use Rattle.kr_shared.specs.Standing.{AreWaiting, StandsForSome, Standing}
use Rattle.kr_shared.specs.Takes.{TakesEvent}
use Rattle.kr_shared.specs.Tasks.{IsTask}
use Rattle.kr_shared.specs.Works.{DeskView, added_after, answers_of, cut_if, is_lost, resting}
use Rattle.kr_shared.specs.inner.Dropping.{left_if}
use Rattle.kr_shared.proofs.Dropped.{below_again, left_cut, none_above}
use Rattle.kr_shared.proofs.Made.{all_noted, made, with_more}
use Rattle.kr_shared.proofs.Published.{AreLogged, Publishes}
use Rattle.kr_shared.proofs.Replied.{link_silent}
use Rattle.kr_shared.proofs.Served.{Answers, answered, holds_none, next, next_committed, outputs_told, publishes, shown, stands}
use Rattle.kr_shared.proofs.Writes.{made_so, none_besides, written}

-- ---- items and images are right wherever they stand

pub right_behind : (o : Options) (list xs ys : List Entry) → AreLogged xs → AreRightAfter o (list ++ xs) ys → AreRightAfter o list (xs ++ ys)
right_behind o list [] ys h right = subst (λ (l : List Entry). AreRightAfter o l ys) (append-nil list) right
right_behind o list (entries.Item place item ∷ xs) ys h right =
    (tt, right_behind o (list ++ entries.Item place item ∷ []) xs ys h (subst (λ (l : List Entry). AreRightAfter o l ys) (sym (append_assoc list (entries.Item place item ∷ []) xs)) right))
right_behind o list (entries.Load offset records ∷ xs) ys h right =
    (tt, right_behind o (list ++ entries.Load offset records ∷ []) xs ys h (subst (λ (l : List Entry). AreRightAfter o l ys) (sym (append_assoc list (entries.Load offset records ∷ []) xs)) right))
right_behind o list (entries.Pin pin ∷ xs) ys h right = absurd h
right_behind o list (entries.Unpin pin ∷ xs) ys h right = absurd h
right_behind o list (entries.Answer answer ∷ xs) ys h right = absurd h
right_behind o list (entries.Stop number ∷ xs) ys h right = absurd h

logged_if : (b : Bool) (e : Entry) (rest : List Entry) → AreLogged (e ∷ []) → AreLogged rest → AreLogged (cond b (e ∷ rest) [])
logged_if false e rest h k = tt
logged_if true (entries.Item place item) rest h k = k
logged_if true (entries.Load offset records) rest h k = k
logged_if true (entries.Pin pin) rest h k = absurd h
logged_if true (entries.Unpin pin) rest h k = absurd h
logged_if true (entries.Answer answer) rest h k = absurd h
logged_if true (entries.Stop number) rest h k = absurd h

below_logged : (end : ℤ) (es : List Entry) → AreLogged es → AreLogged (staged_below end es)
below_logged end [] h = tt
below_logged end (entries.Item place item ∷ es) h = logged_if (Rattle.kr_calls.specs.SeatList.is_below end (entries.Item place item)) (entries.Item place item) (staged_below end es) tt (below_logged end es h)
below_logged end (entries.Load offset records ∷ es) h = logged_if (Rattle.kr_calls.specs.SeatList.is_below end (entries.Load offset records)) (entries.Load offset records) (staged_below end es) tt (below_logged end es h)
below_logged end (entries.Pin pin ∷ es) h = absurd h
below_logged end (entries.Unpin pin ∷ es) h = absurd h
below_logged end (entries.Answer answer ∷ es) h = absurd h
below_logged end (entries.Stop number ∷ es) h = absurd h

-- ---- what is staged

pub all_staged : (shelf : Shelf) (es : List Entry) → AreLogged es → fold with_staged shelf es ≡ record shelf { items = shelf.items ++ es }
all_staged shelf [] h = ap (λ (l : List Entry). record shelf { items = l }) (sym (append-nil shelf.items))
all_staged shelf (entries.Item place item ∷ es) h =
    all_staged (record shelf { items = shelf.items ++ entries.Item place item ∷ [] }) es h
    ∙ ap (λ (l : List Entry). record shelf { items = l }) (append_assoc shelf.items (entries.Item place item ∷ []) es)
all_staged shelf (entries.Load offset records ∷ es) h =
    all_staged (record shelf { items = shelf.items ++ entries.Load offset records ∷ [] }) es h
    ∙ ap (λ (l : List Entry). record shelf { items = l }) (append_assoc shelf.items (entries.Load offset records ∷ []) es)
all_staged shelf (entries.Pin pin ∷ es) h = absurd h
all_staged shelf (entries.Unpin pin ∷ es) h = absurd h
all_staged shelf (entries.Answer answer ∷ es) h = absurd h
all_staged shelf (entries.Stop number ∷ es) h = absurd h

-- ---- an engine from which what was added is taken

pub taken_stands : (e : Core) (s : State) (writes : List Write) → IsEngine e s writes → IsEngine (record e { fresh = [] }) s writes
taken_stands e s writes k = handing_out_stands e e.given e.refusal [] s writes k

-- ---- the event

module _ (old : DeskView) (between : Core) (event : Event) (asking : Option Asking) (told : List Told) (task : IsTask old.engine event asking) (t : TakesEvent old.engine between event told) where
  abbrev pub led : Bool
  led = is_some old.engine.leading

  abbrev pub r : Answering
  r = answers_of asking event led old.waiting told

  abbrev o : Options
  o = old.engine.options

  abbrev pub more : List Entry
  more = added_after (is_lost old.engine between) between.committed old.unstaged between.fresh

  -- all of it is staged that is below the closed end
  abbrev pub ready : Shelf
  ready = record { options = old.shelf.options; list = old.shelf.list; waiting = []; items = staged_below between.closed more; notes = r.notes }

  abbrev pub after : DeskView
  after = record {
    shelf = resting old.shelf.options (old.shelf.list ++ (staged_below between.closed more ++ r.notes));
    unstaged = staged_above between.closed more;
    engine = record between { fresh = [] };
    waiting = r.waiting;
  }

  -- a publish shows just that
  below_all : staged_below between.closed (staged_below between.closed more) ≡ staged_below between.closed more
  below_all = below_again between.closed more

  above_none : staged_above between.closed (staged_below between.closed more) ≡ []
  above_none = none_above between.closed more

  pub shown_is : shown_at between.closed ready ≡ after.shelf
  shown_is = λ i. record { options = old.shelf.options; list = old.shelf.list ++ (below_all i ++ r.notes); waiting = []; items = above_none i; notes = [] }

  module _ (s : State) (writes : List Write) (k : Standing old s writes) where
    answers_ask : (e : Event) (a : Asking) (x : TakesEvent old.engine between e told) → IsTask old.engine e (Some a) → Answers old between e told s writes k x (answers_of (Some a) e led old.waiting told)
    answers_ask (events.Lead epoch n now) a x h = absurd h
    answers_ask (events.Commit epoch end) a x h = absurd h
    answers_ask (events.Lost epoch) a x h = absurd h
    answers_ask (events.Batch bytes) a x h = absurd h
    answers_ask (events.Load bytes) a x h = absurd h
    answers_ask (events.Tick now) a x h = absurd h
    answers_ask (events.Request client now (asks.Call call)) a x h = written old between client now call a told s writes k x h
    answers_ask (events.Request client now (asks.Bare correlation fault)) a x h = absurd h
    answers_ask events.Image a x h = absurd h

    answers_by : (q : Option Asking) → IsTask old.engine event q → Answers old between event told s writes k t (answers_of q event led old.waiting told)
    answers_by None h = answered old between event told s writes k t (holds_none o s event h) (link_silent o (at_time_of s event) event h)
    answers_by (Some a) h = answers_ask event a t h

    pub replies : Answers old between event told s writes k t r
    replies = answers_by asking task

    p : Publishes (next old between event told s writes k t).world.log (closed_of (next old between event told s writes k t).world) old.shelf.list more
    p = publishes old between event told s writes k t

    e : IsEngine between (happens o s event) (waiting_after o s writes event)
    e = stands old between event told s writes k t

    abbrev end : ℕ
    end = closed_of (happens o s event).world

    at_end : between.closed ≡ pos end
    at_end = e.closed

    pub may_publish : AreRightAfter ready.options ready.list (next_at between.closed ready)
    may_publish =
        subst (λ (l : List Entry). AreRightAfter old.shelf.options old.shelf.list (l ++ r.notes)) (sym below_all)
        (subst (λ (q : Options). AreRightAfter q old.shelf.list (staged_below between.closed more ++ r.notes)) k.options
        (subst (λ z. AreRightAfter o old.shelf.list (staged_below z more ++ r.notes)) (sym at_end)
        (right_behind o old.shelf.list (staged_below (pos end) more) r.notes (below_logged (pos end) more p.logged) replies.right)))

    pub more_logged : AreLogged (staged_below between.closed more)
    more_logged = below_logged between.closed more p.logged

    pub stands_after : Standing after (happens o s event) (waiting_after o s writes event)
    stands_after = record {
      engine = taken_stands between (happens o s event) (waiting_after o s writes event) e;
      none = t.emptied.none;
      options = t.emptied.options ∙ (t.step.options ∙ k.options);
      rests = refl;
      unstaged = ap (λ z. staged_above z more) at_end ∙ p.rest;
      shows =
          subst (Shows (happens o s event).world.log end)
          (append_assoc old.shelf.list (staged_below (pos end) more) r.notes ∙ ap (λ z. old.shelf.list ++ (staged_below z more ++ r.notes)) (sym at_end))
          (shown_logs_go_on.notes (happens o s event).world.log end (old.shelf.list ++ staged_below (pos end) more) r.notes p.shows replies.bare);
      waits = subst (λ (q : Options). AreWaiting q (happens o s event).world.log r.waiting (waiting_after o s writes event)) (sym (t.emptied.options ∙ t.step.options)) replies.waits;
    }

-- ---- the steps of serving, one after the other

pub sound_then : (w : DeskView) → StandsForSome w → IsSound w.engine × (outputs_left w.engine ≡ [])
sound_then w k = (record { state = k.state; writes = k.writes; stands = k.stands.engine }, k.stands.none)

-- what is settled is at rest
pub at_rest : (k : DeskState) → IsCaughtUp k → StandsForSome (settled k) → k.shelf ≡ resting (settled k).shelf.options (settled k).shelf.list
at_rest k rests s = rests.rests ∙ s.stands.rests

module _ (w0 : DeskState) (rests : IsCaughtUp w0) (k : StandsForSome (settled w0)) (event : Event) (asking : Option Asking) (task : IsTask w0.engine event asking) (e1 e2 : Core) (l2 l3 l4 : LineView) (given : Given)
    (pieces pieces' : Option (List (List ℕ))) (faults faults' : ℕ) (step : IsStep w0.engine e1 event) (gives : GivesOut e1 e2 pieces pieces' faults faults' l2 l3 given) where
  abbrev takes : Bool
  takes = takes_writes w0.engine

  abbrev then : DeskView
  then = settled w0

  abbrev told : List Told
  told = gives.told

  abbrev t : TakesEvent w0.engine e2 event told
  t = record { between = e1; step = step; emptied = gives.emptied }

  abbrev replied : Answering
  replied = r then e2 event asking told task t

  made_ask : (e : Event) (a : Asking) (x : TakesEvent w0.engine e2 e told) → IsTask w0.engine e (Some a) → made takes (Some a) e w0.line.waiting told ≡ answers_of (Some a) e (is_some w0.engine.leading) w0.line.waiting told
  made_ask (events.Lead epoch n now) a x h = absurd h
  made_ask (events.Commit epoch end) a x h = absurd h
  made_ask (events.Lost epoch) a x h = absurd h
  made_ask (events.Batch bytes) a x h = absurd h
  made_ask (events.Load bytes) a x h = absurd h
  made_ask (events.Tick now) a x h = absurd h
  made_ask (events.Request client now (asks.Call call)) a x h = made_so then e2 client now call a told k.state k.writes k.stands x h
  made_ask (events.Request client now (asks.Bare correlation fault)) a x h = absurd h
  made_ask events.Image a x h = absurd h

  none_asked : (b : Bool) (told : List Told) → made b None event w0.line.waiting told ≡ answer_all (answering w0.line.waiting []) told
  none_asked b told = none_besides (answer_all (answering (w0.line.waiting ++ []) []) told) ∙ ap (λ (ws : List Asked). answer_all (answering ws []) told) (append-nil w0.line.waiting)

  made_by : (q : Option Asking) → IsTask w0.engine event q → made takes q event w0.line.waiting told ≡ answers_of q event (is_some w0.engine.leading) w0.line.waiting told
  made_by None h = none_asked takes told
  made_by (Some a) h = made_ask event a t h

  module _ (entered : l2.waiting ≡ w0.line.waiting ++ entered_by takes asking event) (none : l2.due ≡ w0.line.due) (waiting : l4.waiting ≡ l3.waiting)
      (noted : l4.due ≡ l3.due ++ aside_noted (aside_by takes asking event) given.refusal given.reply) (lost : Bool) (lost_is : lost ≡ (is_some w0.engine.leading && not (is_some e2.leading)))
      (w6 : DeskState) (unstaged : List Entry) (left : unstaged ≡ left_if lost e2.committed w0.unstaged) (is : w6 ≡ record { shelf = w0.shelf; engine = record e2 { fresh = [] }; line = l4; unstaged = unstaged; fresh = e2.fresh }) where
    answers : answering l4.waiting l4.due ≡ replied
    answers =
        (λ i. answering (waiting i) (noted i))
        ∙ (ap (λ (q : Answering). with_more q (aside_noted (aside_by takes asking event) given.refusal given.reply)) gives.gives.answers
        ∙ ((λ i. with_more (answer_all (answering (entered i) ((none ∙ rests.seated.due) i)) told) (aside_noted (aside_by takes asking event) (gives.gives.refused i) (gives.gives.reply i)))
        ∙ made_by asking task))

    pub bare_then : AreNotes l4.due
    bare_then = subst AreNotes (sym (ap (λ (q : Answering). q.notes) answers)) (replies then e2 event asking told task t k.state k.writes k.stands).bare

    abbrev shelf_then : Shelf
    shelf_then = ready then e2 event asking told task t

    abbrev s : State
    s = k.state

    -- what is kept of the log, by the state
    kept_is : left_if lost e2.committed w0.unstaged ≡ cut_if (is_lost w0.engine e2) e2.committed then.unstaged
    kept_is =
        ap (λ (es : List Entry). left_if lost e2.committed es) rests.unstaged
        ∙ (ap (λ b. left_if b e2.committed then.unstaged) lost_is
        ∙ left_cut (is_lost w0.engine e2) e2.committed then.unstaged s k.stands.unstaged (next_committed then e2 event told s k.writes k.stands t))

    added_so : unstaged ++ e2.fresh ≡ more then e2 event asking told task t
    added_so = ap (λ (es : List Entry). es ++ e2.fresh) (left ∙ kept_is)

    -- all is staged
    ready_so : all_ready w6 ≡ shelf_then
    ready_so =
        (λ i. fold with_staged (fold with_staged (is i).shelf (staged_below (is i).engine.closed ((is i).unstaged ++ (is i).fresh))) (is i).line.due)
        ∙ (ap (λ (es : List Entry). fold with_staged (fold with_staged w0.shelf (staged_below e2.closed es)) l4.due) added_so
        ∙ (ap (λ (h : Shelf). fold with_staged h l4.due) (all_staged w0.shelf (staged_below e2.closed (more then e2 event asking told task t)) (more_logged then e2 event asking told task t k.state k.writes k.stands))
        ∙ (all_noted (record w0.shelf { items = w0.shelf.items ++ staged_below e2.closed (more then e2 event asking told task t) }) l4.due bare_then
        ∙ (λ i. let h = at_rest w0 rests k i in record { options = h.options; list = h.list; waiting = h.waiting; items = h.items ++ staged_below e2.closed (more then e2 event asking told task t); notes = h.notes ++ (answers i).notes }))))

    settled_so : settled w6 ≡ after then e2 event asking told task t
    settled_so =
        (λ i. record { shelf = shown_at (is i).engine.closed (ready_so i); unstaged = staged_above (is i).engine.closed ((is i).unstaged ++ (is i).fresh); engine = (is i).engine; waiting = (is i).line.waiting })
        ∙ (λ i. record { shelf = shown_is then e2 event asking told task t i; unstaged = staged_above e2.closed (added_so i); engine = record e2 { fresh = [] }; waiting = (answers i).waiting })

    pub serves_so : ServesEvent pieces pieces' faults faults' then (settled w6) event asking given.appended given.refusal
    serves_so = record {
      between = e2;
      told = told;
      takes = t;
      appends = gives.gives.appends;
      refused = gives.gives.refused;
      engine = ap (λ (w : DeskView). w.engine) settled_so;
      answers = replied;
      answered = refl;
      replied = subst (AreReplied replied.notes) (sym (outputs_told then e2 event told k.state k.writes k.stands t)) (replies then e2 event asking told task t k.state k.writes k.stands).replied;
      waiting = ap (λ (w : DeskView). w.waiting) settled_so;
      added = more then e2 event asking told task t;
      adds = refl;
      shelf = ap (λ (w : DeskView). w.shelf) settled_so;
      unstaged = ap (λ (w : DeskView). w.unstaged) settled_so;
      stands = λ s writes h. subst (λ (w : DeskView). Standing w (happens w0.engine.options s event) (waiting_after w0.engine.options s writes event)) (sym settled_so) (stands_after then e2 event asking told task t s writes h);
    }

    pub stands_so : HasLineRoom l4 → DeskStands w6
    stands_so room = record {
      stands = record {
        state = happens w0.engine.options k.state event;
        writes = waiting_after w0.engine.options k.state k.writes event;
        stands = serves_so.stands k.state k.writes k.stands;
      };
      right =
          subst (λ (x : Shelf × Core). AreRightAfter x.0.options x.0.list (next_at x.1.closed x.0)) (λ i. (sym ready_so i, sym (ap (λ (w : DeskState). w.engine) is) i))
          (may_publish then e2 event asking told task t k.state k.writes k.stands);
      room = subst (λ (w : DeskState). HasLineRoom w.line) (sym is) room;
    }
