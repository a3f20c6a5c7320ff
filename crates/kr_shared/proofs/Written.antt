-- What comes of a client's write: it is refused, or lost at once, or waits.
use Rattle.std.proofs.Common.{◌≡◌, ◌∙◌, sym, subst, ℕ, ℤ, pos, Bool, true, false, cond, ◌+◌, ◌-◌, ◌≤◌, List, [], ◌∷◌, ◌++◌, map, take, drop, length, refl, ap, arith}
use Rattle.std.specs.Prelude.{Option, Some, None, is_some, not, filter, fold, IsTrue, int_lt, ◌&&◌, Result, Ok, Err}
use Rattle.std.specs.Result.{result_unwrap_or}
use Rattle.std.proofs.lemmas.List.{append-nil, append_assoc, length-map, take_all}
use Rattle.kr_calls.specs.declared.answers.Answered.{Answered}
use Rattle.kr_calls.specs.declared.answers.AnswerKind.TheVariants as kinds
use Rattle.kr_calls.specs.declared.calls.Ask.TheVariants as asks
use Rattle.kr_calls.specs.declared.calls.Call.{Call}
use Rattle.kr_calls.specs.declared.calls.Reply.{Reply}
use Rattle.kr_calls.specs.declared.errors.TheConstants.{NOT_CONTROLLER}
use Rattle.kr_calls.specs.declared.events.Event.{Event}
use Rattle.kr_calls.specs.declared.events.Output.{Output}
use Rattle.kr_calls.specs.declared.events.Reason.{Reason}
use Rattle.kr_calls.specs.declared.events.Event.TheVariants as events
use Rattle.kr_calls.specs.declared.events.Output.TheVariants as given
use Rattle.kr_calls.specs.Decide.{Decision, decide, is_read}
use Rattle.kr_calls.specs.Refuse.{refuse}
use Rattle.kr_calls.specs.RightAnswers.{AreRightAfter}
use Rattle.kr_defs.specs.declared.basis.Basis.{Basis}
use Rattle.kr_defs.specs.declared.options.Options.{Options}
use Rattle.kr_defs.specs.declared.record.Item.{Item}
use Rattle.kr_defs.specs.declared.record.Item.TheVariants as items
use Rattle.kr_defs.specs.Image.{Image, empty}
use Rattle.kr_defs.specs.ImageLaws.{as_items}
use Rattle.kr_defs.specs.Log.{Log, tip}
use Rattle.kr_model.specs.declared.writes.Ended.{Ended}
use Rattle.kr_model.specs.declared.writes.Told.{Told}
use Rattle.kr_model.specs.declared.writes.Write.{Write}
use Rattle.kr_model.specs.Events.{at_time_of, happens, next_number, outcome}
use Rattle.kr_model.specs.Outputs.{answers_in, if_accepted, is_open_in, new_writes, outputs_by, outputs_of, told_alone, waiting_after, write_of, writes_of}
use Rattle.kr_model.specs.Reasons.{exhausted}
use Rattle.kr_model.specs.Request.{after_ask, after_write, decision, is_decided}
use Rattle.kr_model.specs.World.{State, World, is_far, log_with, seen_at, tip_of}
use Rattle.kr_model.proofs.LogEntries.{batch_written, behind}
use Rattle.kr_model.proofs.Logs.{tip_written, written_below}
use Rattle.law_published_log.specs.Following.{IsDecided, decision_at}
use Rattle.kr_shared.specs.declared.answers.Asking.{Asking}
use Rattle.kr_shared.specs.declared.asked.Asked.{Asked}
use Rattle.kr_shared.specs.Answers.{Answering, decided_answer, answered_of, answering, asked_by, exhausted_answer, or_reason, or_reply, or_reply_in, reason_in, refusal_in, with_ended, with_told, with_told_end}
use Rattle.kr_shared.specs.Standing.{AreWaiting, IsWaitingWrite}
use Rattle.kr_shared.proofs.Answered.{pos_sum}

abbrev items_record : Rattle.kr_defs.specs.declared.record.Record.Record → Item
items_record r = items.Record r

-- ---- what outputs say

abbrev pub outputs : List Told → List Output
outputs told = map (λ (t : Told). t.output) told

abbrev pub or_reason_of : Option Reason → Output → Option Reason
or_reason_of (Some reason) output = Some reason
or_reason_of None output = reason_in output

pub reasons_in : (r : Option Reason) (told : List Told) → fold or_reason r told ≡ fold or_reason_of r (outputs told)
reasons_in r [] = refl
reasons_in (Some reason) (t ∷ told) = reasons_in (Some reason) told
reasons_in None (t ∷ told) = reasons_in (reason_in t.output) told

-- outputs that no write waited for
pub replies_alone : (r : Option Reply) (outputs : List Output) → fold or_reply r (map told_alone outputs) ≡ fold or_reply_in r outputs
replies_alone r [] = refl
replies_alone r (output ∷ outputs) = replies_alone (or_reply_in r output) outputs

pub alone_outputs : (all : List Output) → outputs (map told_alone all) ≡ all
alone_outputs [] = refl
alone_outputs (output ∷ all) = ap (λ (l : List Output). output ∷ l) (alone_outputs all)

pub kept_reply : (reply : Reply) (outputs : List Output) → fold or_reply_in (Some reply) outputs ≡ Some reply
kept_reply reply [] = refl
kept_reply reply (output ∷ outputs) = kept_reply reply outputs

-- none of these is a refusal
abbrev pub AreAccepted : List Output → Type 0
AreAccepted [] = Unit {0}
AreAccepted (given.Append bytes ∷ rest) = AreAccepted rest
AreAccepted (given.Reply client correlation reply ∷ rest) = AreAccepted rest
AreAccepted (given.Refused event reason ∷ rest) = ⊥
AreAccepted (given.Image bytes ∷ rest) = AreAccepted rest

pub no_reason : (outputs : List Output) → AreAccepted outputs → fold or_reason_of None outputs ≡ None
no_reason [] h = refl
no_reason (given.Append bytes ∷ rest) h = no_reason rest h
no_reason (given.Reply client correlation reply ∷ rest) h = no_reason rest h
no_reason (given.Refused event reason ∷ rest) h = absurd h
no_reason (given.Image bytes ∷ rest) h = no_reason rest h

pub both_accepted : (xs ys : List Output) → AreAccepted xs → AreAccepted ys → AreAccepted (xs ++ ys)
both_accepted [] ys h k = k
both_accepted (given.Append bytes ∷ rest) ys h k = both_accepted rest ys h k
both_accepted (given.Reply client correlation reply ∷ rest) ys h k = both_accepted rest ys h k
both_accepted (given.Refused event reason ∷ rest) ys h k = absurd h
both_accepted (given.Image bytes ∷ rest) ys h k = both_accepted rest ys h k

pub replies_accepted : {X : Type 0} (client : X → ℕ) (correlation : X → ℤ) (reply : X → Reply) (xs : List X) → AreAccepted (map (λ x. given.Reply (client x) (correlation x) (reply x)) xs)
replies_accepted client correlation reply [] = tt
replies_accepted client correlation reply (x ∷ xs) = replies_accepted client correlation reply xs

-- a refusal ends no write
refused_end : (st : Answering) (output : Output) (ended : Option Ended) (event : ℕ) (reason : Reason) → output ≡ given.Refused event reason → with_told_end st output ended ≡ st
refused_end st output None event reason is = refl
refused_end st output (Some ended) event reason is = ap (λ (x : Output). with_ended st x ended) is

abbrev first_of : Output → List Output → Output
first_of x [] = x
first_of x (y ∷ ys) = y

pub refused_told : (st : Answering) (told : List Told) (event : ℕ) (reason : Reason) → outputs told ≡ given.Refused event reason ∷ [] → fold with_told st told ≡ st
refused_told st [] event reason is = refl
refused_told st (t ∷ []) event reason is = refused_end st t.output t.ended event reason (ap (first_of t.output) is)
refused_told st (t ∷ u ∷ told) event reason is = absurd cc

-- ---- the write of an accepted request

module _ (o : Options) (s1 : State) (client : ℕ) (call : Call) (a : Asking) (longer : Log) where
  abbrev d : Decision
  d = decision o s1 call.request

  abbrev w : Write
  w = write_of o s1 client call

  abbrev asked : Asked
  asked = asked_by a call

  abbrev answered : Answered
  answered = answered_of asked w.decided.place w.decided.count w.reply

  module _ (is : longer ≡ log_with s1.world.log (as_items d.records)) (rests : a.basis ≡ s1.basis) where
    few : length (as_items d.records) ≡ length d.records
    few = length-map d.records items_record

    same : decision_at o longer (tip_of s1) answered ≡ d
    same =
        ap (λ (b : Basis). decide o (seen_at longer (tip_of s1)) b (pos (tip_of s1)) call.request) rests
        ∙ ap (λ (i : Image). decide o i s1.basis (pos (tip_of s1)) call.request)
        (ap (λ (g : Log). seen_at g (tip_of s1)) is ∙ ap (λ r. result_unwrap_or r empty) (written_below s1.world.log (as_items d.records) (tip_of s1) (omega arith)))

    is_decided_write : IsDecided o longer answered
    is_decided_write = record {
      at = tip_of s1;
      place = refl;
      started = subst (λ (g : Log). g.offset ≤ tip_of s1) (sym is) (omega arith);
      within = subst (λ (g : Log). (tip_of s1 + length d.records) ≤ tip g) (sym is) (let t = tip_written s1.world.log (as_items d.records) in let f = few in omega (arith, t, f));
      count = ap (λ (x : Decision). length x.records) same;
      records =
          ap (λ (g : Log). take (length d.records) (drop (tip_of s1 - g.offset) g.items)) is
          ∙ (ap (take (length d.records)) (behind s1.world.log (as_items d.records))
          ∙ (take_all (length d.records) (as_items d.records) (let f = few in omega (arith, f))
          ∙ ap (λ (x : Decision). as_items x.records) (sym same)));
      reply = ap (λ (x : Decision). x.reply) (sym same);
    }

    pub waiting_write : client ≡ a.seat → tip_of (after_ask o s1 (asks.Call call)) ≡ tip longer → IsTrue (not (int_lt (pos (tip_of s1)) a.floor)) → IsWaitingWrite o longer asked w
    waiting_write seat after floor = record {
      client = seat;
      correlation = refl;
      floor = floor;
      decided = is_decided_write;
      need = ap pos (after ∙ (ap tip is ∙ (tip_written s1.world.log (as_items d.records) ∙ ap (λ n. tip_of s1 + n) few))) ∙ pos_sum (tip_of s1) (length d.records);
      refusal = refl;
    }

-- one more waits
pub waits_more : (o : Options) (log : Log) (ones : List Asked) (ws : List Write) (a : Asked) (w : Write) → AreWaiting o log ones ws → IsWaitingWrite o log a w → AreWaiting o log (ones ++ a ∷ []) (ws ++ w ∷ [])
waits_more o log [] [] a w h i = (i, tt)
waits_more o log [] (v ∷ ws) a w h i = absurd h
waits_more o log (b ∷ ones) [] a w h i = absurd h
waits_more o log (b ∷ ones) (v ∷ ws) a w h i = (h.0, waits_more o log ones ws a w h.1 i)
