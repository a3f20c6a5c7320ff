-- Each reply that is told has its answer among the notes.
use Rattle.std.proofs.Common.{◌≡◌, ◌∙◌, sym, subst, ℕ, ℤ, pos, Bool, true, false, cond, List, [], ◌∷◌, ◌++◌, map, fold, refl, ap, Contains}
use Rattle.std.specs.Prelude.{Option, Some, None, int_lt, is_some, ◌==◌, Result, Ok, Err, option_to_list}
use Rattle.std.specs.Result.{result_unwrap_or}
use Rattle.std.proofs.lemmas.List.Elements.{Contains-append_left, Contains-append_right}
use Rattle.kr_calls.specs.declared.answers.AnswerKind.TheVariants as kinds
use Rattle.kr_calls.specs.declared.calls.Ask.{Ask}
use Rattle.kr_calls.specs.declared.calls.Ask.TheVariants as asks
use Rattle.kr_calls.specs.declared.events.Entry.{Entry}
use Rattle.kr_calls.specs.declared.events.Entry.TheVariants as entries
use Rattle.kr_calls.specs.declared.events.Event.{Event}
use Rattle.kr_calls.specs.declared.events.Event.TheVariants as events
use Rattle.kr_calls.specs.declared.events.Output.{Output}
use Rattle.kr_calls.specs.declared.events.Output.TheVariants as given
use Rattle.kr_calls.specs.declared.events.Reason.{Reason}
use Rattle.kr_defs.specs.declared.options.Options.{Options}
use Rattle.kr_defs.specs.declared.record.Record.{Record}
use Rattle.kr_defs.specs.Log.{Log}
use Rattle.kr_calls.specs.LinkEvents.{is_link_event}
use Rattle.kr_model.specs.declared.writes.Told.{Told}
use Rattle.kr_model.specs.declared.writes.Write.{Write}
use Rattle.kr_model.specs.Engine.{writes_in_order}
use Rattle.kr_model.specs.Events.{with_next_number}
use Rattle.kr_model.specs.Lead.{giving_up, taking_over}
use Rattle.kr_model.specs.Outputs.{answers, answers_in, answers_now, append, append_fencings, append_for, appends, due_reply, if_accepted, images, is_open, outputs_by, outputs_then, told_answers, told_reply, writes_of}
use Rattle.kr_model.specs.Request.{decision, is_decided}
use Rattle.kr_model.specs.Tick.{fence, fencing_of, lapsed_contacts}
use Rattle.kr_model.specs.World.{State, World, image_of_tip}
use Rattle.kr_model.proofs.Queues.{first_is_due, none_is_due, order_behind}
use Rattle.law_published_log.proofs.Lists.{has_first}
use Rattle.kr_shared.specs.declared.asked.Asked.{Asked}
use Rattle.kr_shared.specs.Answers.{AreReplied, Answering, decided_answer, answered_of, answering, with_told}
use Rattle.kr_shared.specs.Standing.{AreWaiting}
use Rattle.kr_shared.proofs.Answered.{ends_all}
use Rattle.kr_shared.proofs.Fronts.{outputs_due}
use Rattle.kr_shared.proofs.Written.{outputs}

-- ---- the replies of writes that waited

noted : (notes more all : List Entry) (e : Entry) → all ≡ (notes ++ e ∷ []) ++ more → Contains all e
noted notes more all e is =
    subst (λ (l : List Entry). Contains l e) (sym is) (Contains-append_left (notes ++ e ∷ []) more e (Contains-append_right notes (e ∷ []) e (has_first e [])))

module _ (options : Options) (log : Log) (end : ℕ) (leading : Option ℤ) where
  abbrev told_of : List Write → List Told
  told_of ws = told_answers leading (pos end) ws

  abbrev Replies : List Asked → List Write → List Entry → List Told → Type 0
  Replies ones ws notes told = AreReplied (fold with_told (answering ones notes) told).notes (outputs told)

  told_replied : (ones : List Asked) (ws : List Write) (notes : List Entry) → AreWaiting options log ones ws → writes_in_order ws ≡ true → Replies ones ws notes (told_of ws)
  told_replied [] [] notes waits ordered = tt
  told_replied (a ∷ ones) [] notes waits ordered = absurd waits
  told_replied [] (w ∷ ws) notes waits ordered = absurd waits
  told_replied (a ∷ ones) (w ∷ ws) notes waits ordered =
      elim (is_open leading (pos end) w) as (λ b. is_open leading (pos end) w ≡ b → Replies (a ∷ ones) (w ∷ ws) notes (told_of (w ∷ ws))) [
        | true ↦ λ is. subst (Replies (a ∷ ones) (w ∷ ws) notes) (sym (none_is_due leading (pos end) w ws is ordered)) tt
        | false ↦ λ is.
            let lost = int_lt (pos end) w.need in
            let reply = cond lost w.refusal w.reply in
            let answer = decided_answer a (cond lost kinds.Lost kinds.Stands) w.decided.place w.decided.count reply in
            let behind = notes ++ entries.Answer answer ∷ [] in
            let ends = ends_all options log end leading ones ws behind waits.1 (order_behind w ws ordered) in
            subst (Replies (a ∷ ones) (w ∷ ws) notes) (sym (first_is_due leading (pos end) w ws is)) (
              record {
                answer = answer;
                answered = answered_of a w.decided.place w.decided.count reply;
                noted = noted notes ends.answers.more (fold with_told (answering ones behind) (told_of ws)).notes (entries.Answer answer) ends.answers.added;
                holds = refl;
                of_client = sym waits.0.client;
                of_call = sym waits.0.correlation;
                of_reply = refl;
              },
              told_replied ones ws behind waits.1 (order_behind w ws ordered),
            )
      ] refl

  pub all_replied : (ones : List Asked) (ws : List Write) (notes : List Entry) → AreWaiting options log ones ws → writes_in_order ws ≡ true
      → AreReplied (fold with_told (answering ones notes) (told_answers leading (pos end) ws)).notes (answers leading (pos end) ws)
  all_replied ones ws notes waits ordered =
      subst (λ (os : List Output). AreReplied (fold with_told (answering ones notes) (told_of ws)).notes os) (outputs_due (pos end) (Rattle.kr_model.specs.Outputs.due_writes leading (pos end) ws)) (told_replied ones ws notes waits ordered)

-- ---- outputs that are no reply

abbrev pub AreSilent : List Output → Type 0
AreSilent [] = Unit {0}
AreSilent (given.Append bytes ∷ rest) = AreSilent rest
AreSilent (given.Reply client correlation reply ∷ rest) = ⊥
AreSilent (given.Refused event reason ∷ rest) = AreSilent rest
AreSilent (given.Image bytes ∷ rest) = AreSilent rest

pub both_silent : (xs ys : List Output) → AreSilent xs → AreSilent ys → AreSilent (xs ++ ys)
both_silent [] ys h k = k
both_silent (given.Append bytes ∷ rest) ys h k = both_silent rest ys h k
both_silent (given.Reply client correlation reply ∷ rest) ys h k = absurd h
both_silent (given.Refused event reason ∷ rest) ys h k = both_silent rest ys h k
both_silent (given.Image bytes ∷ rest) ys h k = both_silent rest ys h k

-- in front of replies that have their answers
pub silent_replied : (notes : List Entry) (xs ys : List Output) → AreSilent xs → AreReplied notes ys → AreReplied notes (xs ++ ys)
silent_replied notes [] ys h k = k
silent_replied notes (given.Append bytes ∷ rest) ys h k = (tt, silent_replied notes rest ys h k)
silent_replied notes (given.Reply client correlation reply ∷ rest) ys h k = absurd h
silent_replied notes (given.Refused event reason ∷ rest) ys h k = (tt, silent_replied notes rest ys h k)
silent_replied notes (given.Image bytes ∷ rest) ys h k = (tt, silent_replied notes rest ys h k)

one_silent : (none : Bool) (bytes : List ℕ) → AreSilent (cond none [] (given.Append bytes ∷ []))
one_silent true bytes = tt
one_silent false bytes = tt

append_silent : (s : State) (records : List Record) → AreSilent (append s records)
append_silent s records = one_silent (Rattle.std.specs.Prelude.length records == 0) (Rattle.kr_batch.specs.BatchBytes.batch_bytes (Rattle.kr_model.specs.Outputs.next_batch s records))

fencings_silent : (options : Options) (s : State) (brokers : List ℤ) → AreSilent (append_fencings options s brokers)
fencings_silent options s [] = tt
fencings_silent options s (broker ∷ brokers) =
    both_silent (append s (fencing_of options (image_of_tip s) broker)) (append_fencings options (fence options s broker) brokers)
    (append_silent s (fencing_of options (image_of_tip s) broker))
    (fencings_silent options (fence options s broker) brokers)

if_silent : (b : Bool) (xs : List Output) → AreSilent xs → AreSilent (cond b xs [])
if_silent true xs h = h
if_silent false xs h = tt

ask_silent : (options : Options) (s : State) (ask : Ask) → AreSilent (append_for options s ask)
ask_silent options s (asks.Call call) = if_silent (is_decided s.world (asks.Call call)) (append s (decision options s call.request).records) (append_silent s (decision options s call.request).records)
ask_silent options s (asks.Bare correlation fault) = tt

pub appends_silent : (options : Options) (s : State) (event : Event) → AreSilent (appends options s event)
appends_silent options s (events.Lead epoch next now) = append_silent (taking_over s epoch next) (giving_up (taking_over s epoch next).world)
appends_silent options s (events.Commit epoch end) = tt
appends_silent options s (events.Lost epoch) = tt
appends_silent options s (events.Batch bytes) = tt
appends_silent options s (events.Load bytes) = tt
appends_silent options s (events.Tick now) = fencings_silent options s (lapsed_contacts options s)
appends_silent options s (events.Request client now ask) = ask_silent options s ask
appends_silent options s events.Image = tt

pub images_silent : (s : State) (event : Event) → AreSilent (images s event)
images_silent s (events.Lead epoch next now) = tt
images_silent s (events.Commit epoch end) = tt
images_silent s (events.Lost epoch) = tt
images_silent s (events.Batch bytes) = tt
images_silent s (events.Load bytes) = tt
images_silent s (events.Tick now) = tt
images_silent s (events.Request client now ask) = tt
images_silent s events.Image = tt

-- what the link brings is answered at once by nothing
pub link_silent : (options : Options) (s : State) (event : Event) → is_link_event event ≡ true → AreSilent (answers_now options s event)
link_silent options s (events.Lead epoch next now) link = tt
link_silent options s (events.Commit epoch end) link = tt
link_silent options s (events.Lost epoch) link = tt
link_silent options s (events.Batch bytes) link = tt
link_silent options s (events.Load bytes) link = tt
link_silent options s (events.Tick now) link = tt
link_silent options s (events.Request client now ask) link = absurd cc
link_silent options s events.Image link = tt

-- ---- all outputs of an event

pub event_replied : (options : Options) (s : State) (writes : List Write) (event : Event) (r : Result State Reason) (notes : List Entry) → AreSilent (answers_now options s event)
    → AreReplied notes (answers_in (with_next_number (result_unwrap_or r s)).world (writes ++ if_accepted r (writes_of options s event))) → AreReplied notes (outputs_by options s writes event r)
event_replied options s writes event (Ok after) notes silent h =
    silent_replied notes ((appends options s event ++ images s event) ++ answers_now options s event) (answers_in after.world (writes ++ writes_of options s event))
    (both_silent (appends options s event ++ images s event) (answers_now options s event) (both_silent (appends options s event) (images s event) (appends_silent options s event) (images_silent s event)) silent)
    h
event_replied options s writes event (Err reason) notes silent h = (tt, tt)
