-- What is given out behind a prefix of the log is given out behind its image.
use Rattle.std.proofs.Common.{◌≡◌, ◌∙◌, sym, subst, ℕ, ℤ, pos, negsuc, Bool, true, false, cond, ◌≤◌, ◌<◌, List, [], ◌∷◌, ◌++◌, map, refl, ap, arith, inl, inr}
use Rattle.std.proofs.lemmas.Int.{ints, clamps}
use Rattle.std.proofs.lemmas.Bool.Decides.{nat_tests}
use Rattle.std.proofs.lemmas.List.{append-nil}
use Rattle.std.specs.Prelude.{None, Option, Result, Some, Ok, Err, IsTrue, filter, int_lt, not}
use Rattle.std.specs.Option.{option_map_or}
use Rattle.std.specs.List.{AllByRecursion}
use Rattle.std.specs.Ordering.{int_eq}
use Rattle.std.specs.Result.{result_unwrap_or}
use Rattle.kr_calls.specs.declared.events.Event.{Event}
use Rattle.kr_calls.specs.declared.events.Reason.{Reason}
use Rattle.kr_calls.specs.declared.events.Event.TheVariants as events
use Rattle.kr_defs.specs.declared.options.Options.{Options}
use Rattle.kr_defs.specs.Guard.{and_then}
use Rattle.kr_defs.specs.Heartbeats.{Heartbeats, heard}
use Rattle.kr_defs.specs.Heartbeats as hearing
use Rattle.kr_defs.specs.Image.{Image}
use Rattle.kr_defs.specs.Log.{closed_end_at, state_at, tip}
use Rattle.kr_defs.specs.LogStates.{Opened, closed, closed_end}
use Rattle.kr_defs.proofs.StateLogs.{closed_end_told, open_stands, state_at_tip}
use Rattle.kr_defs.proofs.HeartbeatLists.{le_itself}
use Rattle.kr_defs.proofs.IdLists.{same_id}
use Rattle.kr_defs.proofs.Tests.{not_true}
use Rattle.kr_snapshot.specs.Grammar.{IsImage}
use Rattle.kr_snapshot.specs.declared.fault.ImageFault.{ImageFault}
use Rattle.kr_snapshot.proofs.WholeImages.{image_complete}
use Rattle.kr_model.specs.declared.writes.Write.{Write}
use Rattle.kr_model.specs.Events.{with_next_number, happens, state}
use Rattle.kr_model.specs.Engine.{Rise}
use Rattle.kr_model.specs.Outputs.{is_open, outputs_of, waiting_writes, waiting_after, writes_from}
use Rattle.kr_model.specs.Reasons.{exhausted, older_image}
use Rattle.kr_model.specs.Load.{image_or, take_image, after_load}
use Rattle.kr_model.specs.World.{State, closed_of, is_far, start}
use Rattle.kr_model.proofs.CoveredEnds.{AreCovered}
use Rattle.kr_model.proofs.Logs.{HasState, state_seen}
use Rattle.kr_model.proofs.WaitingWrites.{state_more}
use Rattle.law_compaction.specs.ReplacedPrefix.{IsLater, ReplacedPrefix, StandsBy, given_after, unnumbered}
use Rattle.law_compaction.proofs.AlikeEvents.{stays_alike}
use Rattle.law_compaction.proofs.AlikeOutputs.{outputs_alike, waiting_alike}
use Rattle.law_compaction.proofs.AlikeStates.{Alike, AlikeEpochs}
use Rattle.kr_model.proofs.OrderlyStates.{Holds, holds, holds_more, waiting_then}

-- ---- from two alike states on

module _ (before : State) (options : Options) where
  record Both (past other : List Event) : Type 0 where
    alike : Alike before (state options past) (state options other)
    waits : waiting_writes options past ≡ waiting_writes options other
    first : Holds options past
    second : Holds options other

  module _ (past other : List Event) (b : Both past other) (event : Event) (later : IsLater before event) where
    abbrev s : State
    s = state options past

    abbrev r : State
    r = state options other

    next : Both (past ++ event ∷ []) (other ++ event ∷ [])
    next = record {
      alike =
          subst (λ (t : State). Alike before t (state options (other ++ event ∷ []))) (sym (state_more options past event))
          (subst (Alike before (happens options s event)) (sym (state_more options other event)) (stays_alike before options s r b.alike b.second.orderly event later));
      waits =
          waiting_then options past event b.first
          ∙ (ap (λ writes. waiting_after options s writes event) b.waits
          ∙ (waiting_alike before options s r b.alike b.second.orderly event later (waiting_writes options other)
          ∙ sym (waiting_then options other event b.second)));
      first = holds_more options past event b.first;
      second = holds_more options other event b.second;
    }

    one_alike : map unnumbered (outputs_of options s (waiting_writes options past) event) ≡ map unnumbered (outputs_of options r (waiting_writes options other) event)
    one_alike =
        ap (λ writes. map unnumbered (outputs_of options s writes event)) b.waits
        ∙ outputs_alike before options s r b.alike b.second.orderly event later (waiting_writes options other)

  given_alike : (events : List Event) (past other : List Event) → Both past other → AllByRecursion (IsLater before) events → given_after options past events ≡ given_after options other events
  given_alike [] past other b later = refl
  given_alike (event ∷ events) past other b (later, rest) =
      ap (λ first. first ∷ given_after options (past ++ event ∷ []) events) (one_alike past other b event later)
      ∙ ap (λ others. map unnumbered (outputs_of options (state options other) (waiting_writes options other) event) ∷ others) (given_alike events (past ++ event ∷ []) (other ++ event ∷ []) (next past other b event later) rest)

-- ---- on standby, and behind a Load

-- no write waits on standby
none_open : (end : ℤ) (writes : List Write) → filter (is_open None end) writes ≡ []
none_open end [] = refl
none_open end (write ∷ writes) = none_open end writes

none_waits : (options : Options) (past : List Event) → (state options past).world.leading ≡ None → waiting_writes options past ≡ []
none_waits options past standby =
    let w = (state options past).world in
    ap (λ l. filter (is_open l (pos (closed_of w))) (writes_from options start past)) standby ∙ none_open (pos (closed_of w)) (writes_from options start past)

-- none stands between an end and itself
none_covered : (end : ℕ) (ns : List ℕ) → AreCovered end end ns → ns ≡ []
none_covered end [] are = refl
none_covered end (n ∷ ns) are = let above : end < n = are.0.0 in let low : n ≤ end = are.0.1 in absurd (omega (arith, above, low))

not_below_zero : (n : ℕ) → int_lt (pos n) (pos 0) ≡ false
not_below_zero n = grind (arith, nat_tests)

module _ (options : Options) (earlier : List Event) (end : ℕ) (image : Image) (bytes : List ℕ) (stands : StandsBy (state options earlier) end image) (near : IsTrue (not (is_far (pos end)))) (is : IsImage (pos end) image bytes) where
  abbrev before : State
  before = state options earlier

  -- the state behind the Load alone
  abbrev behind : State
  behind = with_next_number (after_load start end image)

  abbrev accepts : Result State Reason → State
  accepts r = with_next_number (result_unwrap_or r start)

  behind_load : state options (events.Load bytes ∷ []) ≡ behind
  behind_load =
      ap (λ (r : Result (ℤ × Image) ImageFault). accepts (and_then (image_or r) (take_image start))) (image_complete (pos end) image bytes is)
      ∙ (ap (λ b. accepts (cond b (Err (older_image (pos end) (pos 0))) (cond (is_far (pos end)) (Err (exhausted (pos end))) (Ok (after_load start end image))))) (not_below_zero end)
      ∙ ap (λ b. accepts (cond b (Err (exhausted (pos end))) (Ok (after_load start end image)))) (not_true (is_far (pos end)) near))

  h : Holds options earlier
  h = holds options earlier

  at_standby : (before.world.batch_ends ≡ []) × (heard before.basis ≡ hearing.end)
  at_standby = h.orderly.at_standby stands.standby

  at_end : end ≡ tip before.world.log
  at_end = sym stands.committed ∙ subst (λ (ends : List ℕ). Rise before.world.committed ends (tip before.world.log)) at_standby.0 h.orderly.rises.ends

  epochs_by : (b : Bool) → int_eq before.world.greatest (negsuc 0) ≡ b → AlikeEpochs before.world.greatest before.world.greatest (negsuc 0)
  epochs_by true none = inl (same_id before.world.greatest (negsuc 0) none)
  epochs_by false some = inr (some, le_itself before.world.greatest, h.least)

  at_its_end : HasState before.world.log end image
  at_its_end = state_seen before.world.log end image stands.seen

  -- what is open began below the end
  nothing_open : (opened : Option Opened) → at_its_end.state.opened ≡ opened → opened ≡ None
  nothing_open None is = refl
  nothing_open (Some opened) is =
      let begins : closed_end at_its_end.state end ≡ opened.place = ap (λ (o : Option Opened). option_map_or (λ (x : Opened). x.place) o end) is in
      let told : closed_end at_its_end.state end ≡ closed_end_at before.world.log end = closed_end_told before.world.log end at_its_end.state at_its_end.there in
      let closes : closed_end_at before.world.log end ≡ end = ap (closed_end_at before.world.log) (sym stands.committed) ∙ stands.closed in
      let below = (open_stands before.world.log end at_its_end.state opened at_its_end.there is).below in
      absurd (omega (arith, begins, told, closes, below))

  state_there : state_at before.world.log end ≡ Ok (closed image)
  state_there =
      at_its_end.there
      ∙ (ap (λ (o : Option Opened). Ok (record at_its_end.state { opened = o })) (nothing_open at_its_end.state.opened refl)
      ∙ ap (λ (i : Image). Ok (closed i)) at_its_end.same)

  alike : Alike before before behind
  alike = record {
    log = record {
      prefix = before.world.log.items;
      items = sym (append-nil before.world.log.items);
      offset = at_end;
      state = sym (state_at_tip before.world.log) ∙ (ap (state_at before.world.log) (sym at_end) ∙ state_there);
    };
    committed = stands.committed;
    covered = none_covered before.world.committed before.world.covered (subst (λ c. AreCovered c before.world.committed before.world.covered) (stands.closed ∙ sym stands.committed) h.orderly.rises.covered);
    ends = at_standby.0;
    leading = stands.standby;
    epochs = epochs_by (int_eq before.world.greatest (negsuc 0)) refl;
    time = (let natural = h.orderly.natural in omega (arith, ints, clamps, natural));
    led = λ leads. absurd cc;
    contacts = ap (λ (x : Heartbeats). x.contacts) at_standby.1;
    stopping = ap (λ (x : Heartbeats). x.stopping) at_standby.1;
  }

  both : Both before options earlier (events.Load bytes ∷ [])
  both = record {
    alike = subst (Alike before before) (sym behind_load) alike;
    waits = none_waits options earlier stands.standby ∙ sym (none_waits options (events.Load bytes ∷ []) (ap (λ (s : State). s.world.leading) behind_load));
    first = h;
    second = holds options (events.Load bytes ∷ []);
  }

pub replaced_prefix : ReplacedPrefix
replaced_prefix options earlier later end image bytes stands near is due =
    given_alike (state options earlier) options later earlier (events.Load bytes ∷ []) (both options earlier end image bytes stands near is) due
