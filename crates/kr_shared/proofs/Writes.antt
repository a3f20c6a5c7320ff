-- A client's write is served: it is refused, or lost at once, or waits.
use Rattle.std.proofs.Common.{◌≡◌, ◌∙◌, sym, subst, ℕ, ℤ, pos, Bool, true, false, cond, ◌+◌, List, [], ◌∷◌, ◌++◌, map, length, refl, ap}
use Rattle.std.specs.Prelude.{Option, Some, None, is_some, not, filter, fold, int_lt, ◌&&◌, ◌==◌, option_to_list, Result, Ok, Err}
use Rattle.std.specs.Result.{result_unwrap_or}
use Rattle.std.specs.Int.{int_max}
use Rattle.std.proofs.lemmas.List.{append_assoc, append-nil}
use Rattle.kr_calls.specs.declared.answers.AnswerKind.TheVariants as kinds
use Rattle.kr_calls.specs.declared.calls.Ask.TheVariants as asks
use Rattle.kr_calls.specs.declared.calls.Call.{Call}
use Rattle.kr_calls.specs.declared.calls.Reply.{Reply}
use Rattle.kr_calls.specs.declared.errors.TheConstants.{NOT_CONTROLLER}
use Rattle.kr_calls.specs.declared.events.Event.{Event}
use Rattle.kr_calls.specs.declared.events.Output.{Output}
use Rattle.kr_calls.specs.declared.events.Reason.{Reason}
use Rattle.kr_calls.specs.declared.events.Entry.{Entry}
use Rattle.kr_calls.specs.declared.events.Entry.TheVariants as entries
use Rattle.kr_calls.specs.declared.events.Event.TheVariants as events
use Rattle.kr_calls.specs.declared.events.Output.TheVariants as given
use Rattle.kr_calls.specs.Decide.{is_read, query}
use Rattle.kr_calls.specs.Refuse.{refuse}
use Rattle.kr_calls.specs.RightAnswers.{AreRightAfter}
use Rattle.kr_defs.specs.declared.options.Options.{Options}
use Rattle.kr_defs.specs.ImageLaws.{as_items}
use Rattle.kr_defs.specs.Log.{Log, tip}
use Rattle.kr_defs.proofs.Tests.{not_true}
use Rattle.kr_model.specs.declared.writes.Told.{Told}
use Rattle.kr_model.specs.declared.writes.Write.{Write}
use Rattle.kr_model.specs.Engine.{Core, IsEngine}
use Rattle.kr_model.specs.Events.{at_time_of, happens, next_number, outcome, with_next_number}
use Rattle.kr_model.specs.Outputs.{answers_in, answers_now, append, is_open_in, new_writes, outputs_of, outputs_then, replies_now, told_alone, told_answers, write_of, writes_of}
use Rattle.kr_model.specs.Reasons.{exhausted}
use Rattle.kr_model.specs.Request.{after_ask, after_write, decision, is_decided}
use Rattle.kr_model.specs.World.{State, World, closed_of, image_of_closed, is_far, log_with, tip_of}
use Rattle.kr_model.proofs.EventOutcomes.{outputs_accepted, outputs_refused, writes_accepted, writes_refused}
use Rattle.kr_model.proofs.LogEntries.{batch_written}
use Rattle.law_published_log.specs.Following.{AreNotes}
use Rattle.law_published_log.proofs.Evolving.{request_longer}
use Rattle.kr_shared.specs.declared.answers.Asking.{Asking}
use Rattle.kr_shared.specs.declared.asked.Asked.{Asked}
use Rattle.kr_shared.specs.Answers.{Answering, AreReplied, answer_all, aside_noted, aside_of, decided_answer, answer_write, answered_of, answering, asked_by, exhausted_answer, first_reply, lost_at_once, or_reply, or_reply_in, refusal_in, with_told}
use Rattle.kr_shared.specs.Desks.{takes_writes}
use Rattle.kr_shared.specs.Standing.{AreWaiting, Standing}
use Rattle.kr_shared.specs.Takes.{TakesEvent}
use Rattle.kr_shared.specs.Tasks.{IsWrite}
use Rattle.kr_shared.specs.Works.{DeskView}
use Rattle.law_published_log.proofs.Lists.{has_first}
use Rattle.kr_shared.proofs.Replied.{AreSilent, appends_silent, both_silent, silent_replied}
use Rattle.kr_shared.proofs.Answered.{alone_told}
use Rattle.kr_shared.proofs.Made.{made, with_more}
use Rattle.kr_shared.proofs.Served.{Answers, answered_longer, none_waits, shown, told_is, waits_longer, waits_on}
use Rattle.kr_shared.proofs.Written.{AreAccepted, alone_outputs, both_accepted, kept_reply, no_reason, or_reason_of, outputs, reasons_in, refused_told, replies_accepted, replies_alone, waiting_write, waits_more}

and_true : (a b : Bool) → b ≡ true → (a && b) ≡ a
and_true true b is = is
and_true false b is = refl

led_none : (leading : Option ℤ) → is_some leading ≡ false → leading ≡ None
led_none None is = refl
led_none (Some epoch) is = absurd cc

pub none_besides : (r : Answering) → with_more r [] ≡ r
none_besides r = ap (λ (es : List Entry). answering r.waiting es) (append-nil r.notes)

module _ (old : DeskView) (between : Core) (client : ℕ) (now : ℤ) (call : Call) (a : Asking) (told : List Told) (s : State) (writes : List Write) (k : Standing old s writes)
    (t : TakesEvent old.engine between (events.Request client now (asks.Call call)) told) (task : IsWrite old.engine a client now call) where
  abbrev event : Event
  event = events.Request client now (asks.Call call)

  abbrev o : Options
  o = old.engine.options

  abbrev s1 : State
  s1 = at_time_of s event

  abbrev next : State
  next = happens o s event

  abbrev decided : Bool
  decided = is_decided s.world (asks.Call call)

  abbrev Ends : Answering → Type 0
  Ends r = Answers old between event told s writes k t r

  abbrev led : Bool
  led = is_some old.engine.leading

  abbrev answer : Answering
  answer = answer_write a call led (refusal_in told) old.waiting told

  no_read : is_read call.request ≡ false
  no_read = not_true (is_read call.request) task.1

  led_is : led ≡ decided
  led_is = ap (λ (l : Option ℤ). is_some l) k.engine.leading ∙ sym (and_true (is_some s.world.leading) (not (is_read call.request)) task.1)

  given_out : outputs told ≡ outputs_of o s writes event
  given_out = t.emptied.outputs ∙ t.step.outputs s writes k.engine

  longer : AreWaiting o next.world.log old.waiting writes
  longer = waits_longer old between event told s writes k t (request_longer o s client now (asks.Call call))

  floor : not (int_lt (pos (tip_of s)) a.floor) ≡ true
  floor = subst (λ z. not (int_lt z a.floor) ≡ true) k.engine.tip task.2

  -- what the decision rests on is the basis of the state, at the time
  basis_is : a.basis ≡ s1.basis
  basis_is =
      task.4
      ∙ (λ i. record { time = int_max (k.engine.time i) now; led = k.engine.led i; contacts = (k.engine.heard_of i).contacts; stopping = (k.engine.heard_of i).stopping })

  -- ---- the log takes no more

  module _ (reason : Reason) (is : outcome o s1 event ≡ Err reason) where
    out : outputs told ≡ given.Refused (next_number s.world.count) reason ∷ []
    out = given_out ∙ outputs_refused old.engine o s writes event reason is

    why : refusal_in told ≡ Some reason
    why = reasons_in None told ∙ ap (fold or_reason_of None) out

    still : AreWaiting o next.world.log old.waiting (writes ++ new_writes o s event)
    still = subst (λ (ws : List Write). AreWaiting o next.world.log old.waiting (writes ++ ws)) (sym (writes_refused old.engine o s writes event reason is)) (subst (AreWaiting o next.world.log old.waiting) (sym (append-nil writes)) longer)

    refused : Ends answer
    refused =
        let e = waits_on old between event told s writes k t old.waiting still in
        let same = refused_told (answering old.waiting []) told (next_number s.world.count) reason out in
        subst (λ (r : Option Reason). Ends (answer_write a call led r old.waiting told)) (sym why) (record {
          waits = subst (λ (r : Answering). AreWaiting o next.world.log r.waiting (Rattle.kr_model.specs.Outputs.waiting_after o s writes event)) same e;
          bare = tt;
          right = (tt, tt);
          replied = subst (AreReplied (exhausted_answer a ∷ [])) (sym (outputs_refused old.engine o s writes event reason is)) (tt, tt);
        })

  -- ---- it is taken

  module _ (after : State) (is : outcome o s1 event ≡ Ok after) where
    out_then : outputs told ≡ outputs_then o s1 writes event after
    out_then = given_out ∙ outputs_accepted old.engine o s writes event after is

    one_append : (b : Bool) (rs : List Output) → AreAccepted rs → AreAccepted (cond b rs [])
    one_append true rs h = h
    one_append false rs h = tt

    appended : (n : Bool) (bytes : List ℕ) → AreAccepted (cond n [] (given.Append bytes ∷ []))
    appended true bytes = tt
    appended false bytes = tt

    abbrev batches : List Output
    batches = append s1 (decision o s1 call.request).records

    abbrev at_last : List Output
    at_last = answers_in after.world (writes ++ writes_of o s1 event)

    none_refused : AreAccepted (outputs_then o s1 writes event after)
    none_refused =
        let first = cond decided batches [] in
        let now_given = map (given.Reply client call.correlation) (replies_now o s1 call.request) in
        both_accepted ((first ++ []) ++ now_given) at_last
        (both_accepted (first ++ []) now_given
        (both_accepted first [] (one_append decided batches (appended (length (decision o s1 call.request).records == 0) (Rattle.kr_batch.specs.BatchBytes.batch_bytes (Rattle.kr_model.specs.Outputs.next_batch s1 (decision o s1 call.request).records)))) tt)
        (replies_accepted (λ _. client) (λ _. call.correlation) (λ (r : Reply). r) (replies_now o s1 call.request)))
        (replies_accepted (λ (w : Write). w.client) (λ (w : Write). w.correlation) (λ (w : Write). cond (int_lt (pos (closed_of after.world)) w.need) w.refusal w.reply)
        (Rattle.kr_model.specs.Outputs.due_writes after.world.leading (pos (closed_of after.world)) (writes ++ writes_of o s1 event)))

    no_why : refusal_in told ≡ None
    no_why = reasons_in None told ∙ (ap (fold or_reason_of None) out_then ∙ no_reason (outputs_then o s1 writes event after) none_refused)

    writes_then : new_writes o s event ≡ writes_of o s1 event
    writes_then = writes_accepted old.engine o s writes event after is

    -- by a leader
    module _ (yes : decided ≡ true) (as_so : after ≡ after_write o s1 call.request) where
      held : new_writes o s event ≡ write_of o s1 client call ∷ []
      held = writes_then ∙ ap (λ b. cond b (write_of o s1 client call ∷ []) []) yes

      log_is : next.world.log ≡ log_with s.world.log (as_items (decision o s1 call.request).records)
      log_is =
          ap (λ r. (with_next_number (result_unwrap_or r s1)).world.log) is
          ∙ (ap (λ (x : State). x.world.log) as_so ∙ batch_written s.world (as_items (decision o s1 call.request).records))

      tip_is : tip_of (after_ask o s1 (asks.Call call)) ≡ tip next.world.log
      tip_is =
          ap (λ b. tip_of (cond b (after_write o s1 call.request) s1)) yes
          ∙ (ap tip (batch_written s.world (as_items (decision o s1 call.request).records)) ∙ ap tip (sym log_is))

      leads : is_some s.world.leading ≡ true
      leads = sym (and_true (is_some s.world.leading) (not (is_read call.request)) task.1) ∙ yes

      none_now : replies_now o s1 call.request ≡ []
      none_now =
          ap (λ b. cond b (option_to_list (query o (image_of_closed s1) call.request)) (cond (is_some s.world.leading) [] (refuse call.request NOT_CONTROLLER ∷ []))) no_read
          ∙ ap (λ b. cond b [] (refuse call.request NOT_CONTROLLER ∷ [])) leads

      silent : AreSilent (answers_now o s1 event)
      silent = subst (λ (rs : List Reply). AreSilent (map (given.Reply client call.correlation) rs)) (sym none_now) tt

      taken : Ends answer
      taken =
          subst (λ (r : Option Reason). Ends (answer_write a call led r old.waiting told)) (sym no_why)
          (subst (λ b. Ends (answer_write a call b None old.waiting told)) (sym (led_is ∙ yes))
          (answered_longer old between event told s writes k t (old.waiting ++ asked_by a call ∷ []) silent
          (subst (λ (ws : List Write). AreWaiting o next.world.log (old.waiting ++ asked_by a call ∷ []) (writes ++ ws)) (sym held)
          (waits_more o next.world.log old.waiting writes (asked_by a call) (write_of o s1 client call) longer
          (waiting_write o s1 client call a next.world.log log_is basis_is task.0 tip_is floor)))))

    -- on standby
    module _ (no : decided ≡ false) where
      standby : s.world.leading ≡ None
      standby = led_none s.world.leading (sym (and_true (is_some s.world.leading) (not (is_read call.request)) task.1) ∙ no)

      abbrev reply : Reply
      reply = refuse call.request NOT_CONTROLLER

      replies : replies_now o s1 call.request ≡ reply ∷ []
      replies =
          ap (λ b. cond b (option_to_list (query o (image_of_closed s1) call.request)) (cond (is_some s.world.leading) [] (reply ∷ []))) no_read
          ∙ ap (λ (l : Option ℤ). cond (is_some l) [] (reply ∷ [])) standby

      none_then : Rattle.kr_model.specs.Outputs.waiting_after o s writes event ≡ []
      none_then =
          ap (λ (ws : List Write). filter (is_open_in next.world) (ws ++ new_writes o s event)) (none_waits old between event told s writes k t standby)
          ∙ ap (filter (is_open_in next.world)) (writes_then ∙ ap (λ b. cond b (write_of o s1 client call ∷ []) []) no)

      none_left : at_last ≡ []
      none_left =
          ap (λ (ws : List Write). answers_in after.world (ws ++ writes_of o s1 event)) (none_waits old between event told s writes k t standby)
          ∙ ap (λ b. answers_in after.world (cond b (write_of o s1 client call ∷ []) [])) no

      abbrev alone : List Output
      alone = t.between.given ++ option_to_list t.between.refusal

      none_held : writes ++ new_writes o s event ≡ []
      none_held =
          ap (λ (ws : List Write). ws ++ new_writes o s event) (none_waits old between event told s writes k t standby)
          ∙ (writes_then ∙ ap (λ b. cond b (write_of o s1 client call ∷ []) []) no)

      told_so_far : told ≡ map told_alone alone
      told_so_far =
          told_is old between event told s writes k t
          ∙ (ap (λ (ws : List Write). map told_alone alone ++ told_answers next.world.leading (pos (closed_of next.world)) ws) none_held
          ∙ append-nil (map told_alone alone))

      none_answered : (st : Answering) → fold with_told st told ≡ st
      none_answered st =
          ap (fold with_told st) (told_so_far ∙ sym (append-nil (map told_alone alone))) ∙ alone_told st alone []

      first : first_reply told ≡ Some reply
      first =
          ap (fold or_reply None) told_so_far
          ∙ (replies_alone None alone
          ∙ (ap (fold or_reply_in None)
          (sym (alone_outputs alone)
          ∙ (ap (λ (l : List Told). outputs l) (sym told_so_far)
          ∙ (out_then
          ∙ (ap (λ b. ((cond b batches [] ++ []) ++ map (given.Reply client call.correlation) (replies_now o s1 call.request)) ++ at_last) no
          ∙ ap (λ (rs : List Reply). map (given.Reply client call.correlation) rs ++ at_last) replies))))
          ∙ kept_reply reply at_last))

      abbrev note : List Entry
      note = entries.Answer (decided_answer (asked_by a call) kinds.Lost a.place 0 reply) ∷ []

      told_so : AreReplied note (map (given.Reply client call.correlation) (replies_now o s1 call.request) ++ at_last)
      told_so =
          subst (λ (rs : List Reply). AreReplied note (map (given.Reply client call.correlation) rs ++ at_last)) (sym replies)
          (subst (λ (os : List Output). AreReplied note (given.Reply client call.correlation reply ∷ os)) (sym none_left) (
            record {
              answer = decided_answer (asked_by a call) kinds.Lost a.place 0 reply;
              answered = answered_of (asked_by a call) a.place 0 reply;
              noted = has_first (entries.Answer (decided_answer (asked_by a call) kinds.Lost a.place 0 reply)) [];
              holds = refl;
              of_client = sym task.0;
              of_call = refl;
              of_reply = refl;
            },
            tt,
          ))

      all_told : AreReplied note (outputs_of o s writes event)
      all_told =
          subst (AreReplied note)
          (sym (outputs_accepted old.engine o s writes event after is
          ∙ append_assoc (cond decided batches [] ++ []) (map (given.Reply client call.correlation) (replies_now o s1 call.request)) at_last))
          (silent_replied note (cond decided batches [] ++ []) (map (given.Reply client call.correlation) (replies_now o s1 call.request) ++ at_last)
          (both_silent (cond decided batches []) [] (appends_silent o s1 event) tt)
          told_so)

      at_once : Ends answer
      at_once =
          subst (λ (r : Option Reason). Ends (answer_write a call led r old.waiting told)) (sym no_why)
          (subst (λ b. Ends (answer_write a call b None old.waiting told)) (sym (led_is ∙ no))
          (subst (λ (r : Option Reply). Ends (answering old.waiting (lost_at_once (asked_by a call) a.place r))) (sym first) (record {
            waits =
                subst (AreWaiting o next.world.log old.waiting) (none_waits old between event told s writes k t standby ∙ sym none_then) longer;
            bare = tt;
            right = ((record { seat = refl; ticket = refl; place = refl; floor = subst (λ z. not (int_lt z a.floor) ≡ true) (sym task.3) task.2 }, refl), tt);
            replied = all_told;
          })))

  -- ---- what the worker makes of it

  abbrev far : Bool
  far = is_far (pos (tip_of s1))

  takes_so : takes_writes old.engine ≡ (decided && not far)
  takes_so = ap (λ b. b && not (is_far old.engine.tip)) led_is ∙ ap (λ z. decided && not (is_far z)) k.engine.tip

  abbrev Made : Bool → Type 0
  Made takes = made takes (Some a) event old.waiting told ≡ answer

  none_more : answer_all (answering (old.waiting ++ []) []) told ≡ answer_all (answering old.waiting []) told
  none_more = ap (λ (ws : List Asked). answer_all (answering ws []) told) (append-nil old.waiting)

  made_refused : (reason : Reason) → outcome o s1 event ≡ Err reason → Made false
  made_refused reason is =
      subst (λ (r : Option Reason). with_more (answer_all (answering (old.waiting ++ []) []) told) (aside_noted (Some (aside_of a call)) r (first_reply told)) ≡ answer_write a call led r old.waiting told) (sym (why reason is))
      (ap (λ (r : Answering). with_more r (exhausted_answer a ∷ [])) (none_more ∙ refused_told (answering old.waiting []) told (next_number s.world.count) reason (out reason is)))

  module _ (after : State) (is : outcome o s1 event ≡ Ok after) where
    made_taken : decided ≡ true → Made true
    made_taken leads =
        subst (λ (r : Option Reason). made true (Some a) event old.waiting told ≡ answer_write a call led r old.waiting told) (sym (no_why after is))
        (subst (λ b. made true (Some a) event old.waiting told ≡ answer_write a call b None old.waiting told) (sym (led_is ∙ leads))
        (none_besides (answer_all (answering (old.waiting ++ asked_by a call ∷ []) []) told)))

    made_at_once : decided ≡ false → Made false
    made_at_once standby =
        subst (λ (r : Option Reason). with_more (answer_all (answering (old.waiting ++ []) []) told) (aside_noted (Some (aside_of a call)) r (first_reply told)) ≡ answer_write a call led r old.waiting told) (sym (no_why after is))
        (subst (λ b. with_more (answer_all (answering (old.waiting ++ []) []) told) (aside_noted (Some (aside_of a call)) None (first_reply told)) ≡ answer_write a call b None old.waiting told) (sym (led_is ∙ standby))
        (ap (λ (r : Answering). with_more r (lost_at_once (asked_by a call) a.place (first_reply told))) (none_more ∙ none_answered after is standby (answering old.waiting []))))

  pub made_so : made (takes_writes old.engine) (Some a) event old.waiting told ≡ answer
  made_so =
      subst Made (sym takes_so)
      (elim decided as (λ b. decided ≡ b → Made (b && not far)) [
        | true ↦ λ yes. elim far as (λ f. far ≡ f → Made (not f)) [
          | true ↦ λ is. made_refused (exhausted (pos (tip_of s1))) (ap (λ b. cond (b && far) (Err (exhausted (pos (tip_of s1)))) (Ok (after_ask o s1 (asks.Call call)))) yes ∙ ap (λ f. cond f (Err (exhausted (pos (tip_of s1)))) (Ok (after_ask o s1 (asks.Call call)))) is)
          | false ↦ λ is. made_taken (after_ask o s1 (asks.Call call)) (ap (λ b. cond (b && far) (Err (exhausted (pos (tip_of s1)))) (Ok (after_ask o s1 (asks.Call call)))) yes ∙ ap (λ f. cond f (Err (exhausted (pos (tip_of s1)))) (Ok (after_ask o s1 (asks.Call call)))) is) yes
        ] refl
        | false ↦ λ no. made_at_once (after_ask o s1 (asks.Call call)) (ap (λ b. cond (b && far) (Err (exhausted (pos (tip_of s1)))) (Ok (after_ask o s1 (asks.Call call)))) no) no
      ] refl)

  accepted : outcome o s1 event ≡ Ok (after_ask o s1 (asks.Call call)) → Ends answer
  accepted out =
      elim decided as (λ b. decided ≡ b → Ends answer) [
        | true ↦ λ yes. taken (after_ask o s1 (asks.Call call)) out yes (ap (λ b. cond b (after_write o s1 call.request) s1) yes)
        | false ↦ λ no. at_once (after_ask o s1 (asks.Call call)) out no
      ] refl

  abbrev either : Bool → Result State Reason
  either b = cond b (Err (exhausted (pos (tip_of s1)))) (Ok (after_ask o s1 (asks.Call call)))

  pub written : Ends answer
  written =
      elim (decided && is_far (pos (tip_of s1))) as (λ b. (decided && is_far (pos (tip_of s1))) ≡ b → Ends answer) [
        | true ↦ λ is. refused (exhausted (pos (tip_of s1))) (ap either is)
        | false ↦ λ is. accepted (ap either is)
      ] refl
