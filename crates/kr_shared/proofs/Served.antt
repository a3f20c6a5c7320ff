-- What comes of an event: what is published shows the log, the answers are right, and the other writes wait on.
use Rattle.std.proofs.Common.{◌≡◌, ◌∙◌, sym, subst, ℕ, ℤ, pos, Bool, true, false, cond, ◌+◌, ◌-◌, ◌≤◌, List, [], ◌∷◌, ◌++◌, map, refl, ap, arith, inl, inr}
use Rattle.std.specs.Prelude.{◌⊎◌, Option, Some, None, is_some, not, filter, fold, option_to_list, IsTrue, Result, Ok, Err}
use Rattle.std.proofs.lemmas.List.{append-nil}
use Rattle.kr_calls.specs.declared.events.Entry.{Entry}
use Rattle.kr_calls.specs.declared.events.Event.{Event}
use Rattle.kr_calls.specs.declared.events.Reason.{Reason}
use Rattle.kr_calls.specs.declared.events.Event.TheVariants as events
use Rattle.kr_calls.specs.declared.calls.Ask.{Ask}
use Rattle.kr_calls.specs.RightAnswers.{AreRightAfter}
use Rattle.kr_calls.specs.SeatList.{item_entries}
use Rattle.kr_defs.specs.declared.options.Options.{Options}
use Rattle.kr_defs.specs.Image.{Image}
use Rattle.kr_defs.specs.Log.{Log, tip}
use Rattle.kr_defs.specs.Records.{records_of}
use Rattle.kr_defs.proofs.OwnRecords.{own_records}
use Rattle.kr_defs.proofs.StateLogs.{closed_end_between}
use Rattle.kr_calls.specs.LinkEvents.{is_link_event}
use Rattle.kr_view.specs.Shelves.{Shelf}
use Rattle.kr_view.specs.Staged.{staged_below}
use Rattle.kr_model.specs.declared.writes.Told.{Told}
use Rattle.kr_model.specs.declared.writes.Write.{Write}
use Rattle.kr_model.specs.Engine.{Core, IsEngine, writes_in_order}
use Rattle.kr_model.specs.Entries.{items_from, log_entries}
use Rattle.kr_model.specs.Events.{at_time_of, happens, outcome}
use Rattle.kr_model.specs.Outputs.{answers, answers_in, answers_now, if_accepted, is_open, is_open_in, new_writes, outputs_of, told_alone, told_answers, waiting_after, writes_of}
use Rattle.kr_model.specs.World.{State, World, closed_of, log_with, tip_of}
use Rattle.kr_model.proofs.DueWrites.{event_goes}
use Rattle.kr_model.proofs.KeptImages.{none_open, not_higher}
use Rattle.kr_model.proofs.Logs.{as_records}
use Rattle.kr_model.proofs.StandingEngines.{tip_only}
use Rattle.law_published_log.specs.Following.{AreNotes, Shows}
use Rattle.law_published_log.proofs.Decided.{decided_on}
use Rattle.law_published_log.proofs.Evolving.{Evolved, Longer, evolves}
use Rattle.kr_shared.specs.declared.asked.Asked.{Asked}
use Rattle.kr_shared.specs.Answers.{Answering, AreReplied, answer_all, answered_of, answering, with_told}
use Rattle.kr_shared.specs.Standing.{AreWaiting, IsWaitingWrite, Standing}
use Rattle.kr_shared.specs.Takes.{TakesEvent}
use Rattle.kr_shared.specs.Works.{DeskView, added_after, is_lost}
use Rattle.kr_shared.proofs.Answered.{AreAnswers, Ends, alone_told, ends_all}
use Rattle.kr_shared.proofs.Published.{Publishes}
use Rattle.kr_shared.proofs.Replied.{AreSilent, all_replied, event_replied}
use Rattle.kr_shared.proofs.Standings.{Rests, closed_stays, loaded_added, longer_added, lost_by, shorter_added, shorter_shown}

-- ---- who waits, in a longer log

waiting_longer : (options : Options) (log : Log) (xs : List Rattle.kr_defs.specs.declared.record.Item.Item) (ones : List Asked) (ws : List Write) → AreWaiting options log ones ws → AreWaiting options (log_with log xs) ones ws
waiting_longer options log xs [] [] h = tt
waiting_longer options log xs [] (w ∷ ws) h = absurd h
waiting_longer options log xs (a ∷ ones) [] h = absurd h
waiting_longer options log xs (a ∷ ones) (w ∷ ws) h =
    let i = h.0 in (
      record { client = i.client; correlation = i.correlation; floor = i.floor; decided = decided_on options log xs (answered_of a w.decided.place w.decided.count w.reply) i.decided; need = i.need; refusal = i.refusal },
      waiting_longer options log xs ones ws h.1,
    )

pub none_wait : (options : Options) (log other : Log) (ones : List Asked) (ws : List Write) → ws ≡ [] → AreWaiting options log ones ws → AreWaiting options other ones ws
none_wait options log other [] [] none h = tt
none_wait options log other [] (w ∷ ws) none h = absurd h
none_wait options log other (a ∷ ones) [] none h = absurd h
none_wait options log other (a ∷ ones) (w ∷ ws) none h = absurd cc

-- ---- events of the link hold no write

abbrev no_write : List Write
no_write = []

none_of : (r : Result State Reason) → if_accepted r no_write ≡ []
none_of (Ok after) = refl
none_of (Err reason) = refl

pub holds_none : (options : Options) (s : State) (event : Event) → is_link_event event ≡ true → new_writes options s event ≡ []
holds_none options s (events.Lead epoch next now) link = none_of (outcome options (at_time_of s (events.Lead epoch next now)) (events.Lead epoch next now))
holds_none options s (events.Commit epoch end) link = none_of (outcome options (at_time_of s (events.Commit epoch end)) (events.Commit epoch end))
holds_none options s (events.Lost epoch) link = none_of (outcome options (at_time_of s (events.Lost epoch)) (events.Lost epoch))
holds_none options s (events.Batch bytes) link = none_of (outcome options (at_time_of s (events.Batch bytes)) (events.Batch bytes))
holds_none options s (events.Load bytes) link = none_of (outcome options (at_time_of s (events.Load bytes)) (events.Load bytes))
holds_none options s (events.Tick now) link = none_of (outcome options (at_time_of s (events.Tick now)) (events.Tick now))
holds_none options s (events.Request client now ask) link = absurd cc
holds_none options s events.Image link = absurd cc

-- ---- an event

module _ (old : DeskView) (between : Core) (event : Event) (told : List Told) (s : State) (writes : List Write) (k : Standing old s writes) (t : TakesEvent old.engine between event told) where
  abbrev o : Options
  o = old.engine.options

  abbrev pub next : State
  next = happens o s event

  abbrev pub later : List Write
  later = waiting_after o s writes event

  abbrev pub held : List Write
  held = writes ++ new_writes o s event

  mid : IsEngine t.between next later
  mid = t.step.stands s writes k.engine

  pub stands : IsEngine between next later
  stands = t.emptied.stands next later mid

  pub next_committed : between.committed ≡ pos next.world.committed
  next_committed = stands.committed

  fresh : between.fresh ≡ log_entries o s event
  fresh = t.emptied.fresh ∙ t.step.fresh s writes k.engine

  abbrev committed_low : s.world.committed ≤ tip_of s
  committed_low = not_higher s.world.committed s.world.batch_ends (tip_of s) k.engine.is_state.ends

  abbrev closed_between : (s.world.log.offset ≤ closed_of s.world) × (closed_of s.world ≤ s.world.committed)
  closed_between = closed_end_between s.world.log s.world.committed k.engine.is_state.started committed_low

  pub rests : Rests s.world next.world
  rests =
      let here = closed_between in
      let low = committed_low in
      let low_then = not_higher next.world.committed next.world.batch_ends (tip_of next) mid.is_state.ends in
      let then = closed_end_between next.world.log next.world.committed mid.is_state.started low_then in
      let first = here.0 in
      let second = here.1 in
      let third = then.1 in
      record {
        started = first;
        low = omega (arith, second, low);
        committed = second;
        rises = (event_goes o s event k.engine.is_state.started k.engine.is_state.ends).closed;
        within = omega (arith, third, low_then);
        few = mid.is_state.low;
        few_before = k.engine.is_state.low;
        image = t.between.images.tip;
        means = mid.present;
        before = old.engine.images.tip;
        meant = k.engine.present;
        at_standby = λ none. sym (tip_only s.world.log s.world.committed s.world.batch_ends (tip_of s) k.engine.is_state.ends (k.engine.is_state.at_standby none).0);
      }

  evolved : Evolved s.world next.world between.fresh
  evolved = subst (Evolved s.world next.world) (sym fresh) (evolves o s event)

  abbrev pub added : List Entry
  added = added_after (is_lost old.engine between) between.committed old.unstaged between.fresh

  abbrev pub added_by : List Entry
  added_by = added_after (lost_by s.world.leading next.world.leading) (pos next.world.committed) (item_entries (pos (closed_of s.world)) (items_from s.world.log (closed_of s.world))) between.fresh

  pub added_so : added ≡ added_by
  added_so =
      ap (λ (l : Option ℤ). added_after (lost_by l between.leading) between.committed old.unstaged between.fresh) k.engine.leading
      ∙ (ap (λ (l : Option ℤ). added_after (lost_by s.world.leading l) between.committed old.unstaged between.fresh) stands.leading
      ∙ (ap (λ (z : ℤ). added_after (lost_by s.world.leading next.world.leading) z old.unstaged between.fresh) stands.committed
      ∙ ap (λ (es : List Entry). added_after (lost_by s.world.leading next.world.leading) (pos next.world.committed) es between.fresh) k.unstaged))

  abbrev list : List Entry
  list = old.shelf.list

  publishes_by : Evolved s.world next.world between.fresh → Publishes next.world.log (closed_of next.world) list added_by
  publishes_by (inl (l, is)) = longer_added s.world next.world list between.fresh rests k.shows l is
  publishes_by (inr (inl (c, is))) = shorter_added s.world next.world list between.fresh rests k.shows c is
  publishes_by (inr (inr (l, is))) = loaded_added s.world next.world list between.fresh rests k.shows l is (λ valid. sym (as_records Rattle.kr_defs.specs.Image.empty (records_of l.image)) ∙ own_records l.image valid)

  pub publishes : Publishes next.world.log (closed_of next.world) list added
  publishes = subst (Publishes next.world.log (closed_of next.world) list) (sym added_so) (publishes_by evolved)

  abbrev pub shown : List Entry
  shown = list ++ staged_below (pos (closed_of next.world)) added

  -- ---- what is told

  abbrev pub answers_told : List Told
  answers_told = told_answers next.world.leading (pos (closed_of next.world)) held

  pub told_is : told ≡ map told_alone (t.between.given ++ option_to_list t.between.refusal) ++ answers_told
  told_is =
      let alone = map told_alone (t.between.given ++ option_to_list t.between.refusal) in
      t.emptied.all
      ∙ (ap (λ (l : Option ℤ). alone ++ told_answers l t.between.closed t.between.held) mid.leading
      ∙ (ap (λ c. alone ++ told_answers next.world.leading c t.between.held) mid.closed
      ∙ ap (λ ws. alone ++ told_answers next.world.leading (pos (closed_of next.world)) ws) (t.step.held s writes k.engine)))

  pub answers_are : (st : Answering) → fold with_told st told ≡ fold with_told st answers_told
  answers_are st = ap (fold with_told st) told_is ∙ alone_told st (t.between.given ++ option_to_list t.between.refusal) answers_told

  ordered : writes_in_order held ≡ true
  ordered = ap writes_in_order (sym (t.step.held s writes k.engine)) ∙ mid.ordered

  -- ---- who waits then, and what the answers are

  -- the notes are right where they are published, and the others wait
  pub record Answers (r : Answering) : Type 0 where
    pub waits : AreWaiting o next.world.log r.waiting later
    pub bare : AreNotes r.notes
    pub right : AreRightAfter o shown r.notes
    pub replied : AreReplied r.notes (outputs_of o s writes event)

  abbrev s1 : State
  s1 = at_time_of s event

  -- what is told is all that the event gives out
  pub outputs_told : map (λ (t : Told). t.output) told ≡ outputs_of o s writes event
  outputs_told = t.emptied.outputs ∙ t.step.outputs s writes k.engine

  pub replied_by : (notes : List Entry) → AreSilent (answers_now o s1 event) → AreReplied notes (answers_in next.world held) → AreReplied notes (outputs_of o s writes event)
  replied_by notes silent h = event_replied o s1 writes event (outcome o s1 event) notes silent h

  pub waits_on : (ones : List Asked) → AreWaiting o next.world.log ones held → AreWaiting o next.world.log (fold with_told (answering ones []) told).waiting later
  waits_on ones waits =
      subst (λ (r : Answering). AreWaiting o next.world.log r.waiting later) (sym (answers_are (answering ones [])))
      (ends_all o next.world.log (closed_of next.world) next.world.leading ones held [] waits ordered).waits

  pub answered_longer : (ones : List Asked) → AreSilent (answers_now o s1 event) → AreWaiting o next.world.log ones held → Answers (fold with_told (answering ones []) told)
  answered_longer ones silent waits =
      let e = ends_all o next.world.log (closed_of next.world) next.world.leading ones held [] waits ordered in
      subst Answers (sym (answers_are (answering ones []))) (record {
        waits = e.waits;
        bare = subst AreNotes (sym e.answers.added) e.answers.bare;
        right = subst (AreRightAfter o shown) (sym e.answers.added) (e.answers.right shown publishes.shows);
        replied = replied_by (fold with_told (answering ones []) answers_told).notes silent (all_replied o next.world.log (closed_of next.world) next.world.leading ones held [] waits ordered);
      })

  -- on standby no write waits
  pub none_waits : s.world.leading ≡ None → writes ≡ []
  none_waits none =
      sym k.engine.waits
      ∙ (ap (λ (l : Option ℤ). filter (is_open l old.engine.closed) old.engine.held) (k.engine.leading ∙ none)
      ∙ none_open old.engine.closed old.engine.held)

  pub waits_longer : Longer s.world next.world → AreWaiting o next.world.log old.waiting writes
  waits_longer l =
      subst (λ (g : Log). AreWaiting o g old.waiting writes) (sym l.writes) (waiting_longer o s.world.log l.items old.waiting writes k.waits)

  module _ (none : new_writes o s event ≡ []) (silent : AreSilent (answers_now o s1 event)) where
    held_is : held ≡ writes
    held_is = ap (λ (l : List Write). writes ++ l) none ∙ append-nil writes

    over : next.world.leading ≡ None → (end : ℤ) → filter (is_open next.world.leading end) held ≡ []
    over none end = ap (λ (l : Option ℤ). filter (is_open l end) held) none ∙ none_open end held

    answered_shorter : Rattle.law_published_log.proofs.Evolving.Shorter s.world next.world → between.fresh ≡ [] → Answers (fold with_told (answering old.waiting []) told)
    answered_shorter c is =
        let end : ℕ = closed_of s.world in
        let same : closed_of next.world ≡ end = closed_stays s.world next.world list between.fresh rests k.shows c in
        let e = ends_all o s.world.log end next.world.leading old.waiting held [] (subst (AreWaiting o s.world.log old.waiting) (sym held_is) k.waits) ordered in
        let r = fold with_told (answering old.waiting []) (told_answers next.world.leading (pos end) held) in
        let here : shown ≡ list =
        ap (λ (l : List Entry). list ++ staged_below (pos (closed_of next.world)) l) added_so ∙ (ap (λ (l : List Entry). list ++ l) (shorter_shown s.world next.world list between.fresh rests k.shows c is) ∙ append-nil list) in
        subst Answers
        (sym (answers_are (answering old.waiting []) ∙ ap (λ n. fold with_told (answering old.waiting []) (told_answers next.world.leading (pos n) held)) same))
        (record {
          waits =
              subst (AreWaiting o next.world.log r.waiting) (over c.over (pos end) ∙ sym (over c.over (pos (closed_of next.world))))
              (none_wait o s.world.log next.world.log r.waiting (filter (is_open next.world.leading (pos end)) held) (over c.over (pos end)) e.waits);
          bare = subst AreNotes (sym e.answers.added) e.answers.bare;
          right = subst (AreRightAfter o shown) (sym e.answers.added) (e.answers.right shown (subst (Shows s.world.log end) (sym here) k.shows));
          replied =
              replied_by r.notes silent
              (subst (λ n. AreReplied r.notes (answers next.world.leading (pos n) held)) (sym same)
              (all_replied o s.world.log end next.world.leading old.waiting held [] (subst (AreWaiting o s.world.log old.waiting) (sym held_is) k.waits) ordered));
        })

    answered_by : Evolved s.world next.world between.fresh → Answers (fold with_told (answering old.waiting []) told)
    answered_by (inl (l, is)) = answered_longer old.waiting silent (subst (AreWaiting o next.world.log old.waiting) (sym held_is) (waits_longer l))
    answered_by (inr (inl (c, is))) = answered_shorter c is
    answered_by (inr (inr (l, is))) =
        answered_longer old.waiting silent
        (subst (AreWaiting o next.world.log old.waiting) (sym held_is) (none_wait o s.world.log next.world.log old.waiting writes (none_waits l.standby) k.waits))

    pub answered : Answers (fold with_told (answering old.waiting []) told)
    answered = answered_by evolved
