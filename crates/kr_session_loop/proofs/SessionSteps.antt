-- A session goes on by one frame, or ends.
use Rattle.std.proofs.Common.{◌≡◌, ℕ, ◌+◌, ◌<◌, ◌≤◌, inl, inr, false, true, List, [], ◌∷◌, ◌++◌, length, append-nil, length-append, Option, None, Result, Ok, Err, refl, sym, ap, subst, ◌∙◌, arith}
use Rattle.std.specs.Prelude.{OnOk}
use Rattle.std.specs.Io.KnownBytes.{Consumes}
use Rattle.std.proofs.KnownBytes.{Consumes-trans}
use Rattle.kr_wire.specs.Laws.{IsBytes}
use Rattle.kr_wire.proofs.WrittenBytes.{none_fits}
use Rattle.kr_calls.specs.declared.events.Event.{Event}
use Rattle.kr_calls.specs.declared.events.Event.TheVariants as events
use Rattle.kr_calls.specs.declared.events.Output.{Output}
use Rattle.kr_defs.specs.declared.limits.TheConstants.{MOST_SESSION_BYTES}
use Rattle.kr_defs.specs.declared.options.Options.{Options}
use Rattle.kr_model.specs.declared.writes.Write.{Write}
use Rattle.kr_model.specs.Engine as engines
use Rattle.kr_model.specs.Engine.{Core, Hands, IsEngine}
use Rattle.kr_model.specs.Events.{state}
use Rattle.kr_model.specs.Outputs.{outputs, outputs_of, waiting_writes}
use Rattle.kr_model.specs.World.{State, start}
use Rattle.kr_model.proofs.AllEvents.{runs_give_outputs}
use Rattle.kr_stream.specs.declared.fault.StreamFault.{StreamFault}
use Rattle.kr_stream.specs.declared.fault.StreamFault.TheVariants as stops
use Rattle.kr_stream.specs.declared.fault.WriteFault.{WriteFault}
use Rattle.kr_stream.specs.declared.fault.WriteFault.TheVariants as faults
use Rattle.kr_stream.specs.declared.frame.Frame.{Frame}
use Rattle.kr_stream.specs.Frames.{IsOpen, IsEvent, IsEnd, IsFrameOf, kind_of_event}
use Rattle.kr_stream.specs.Kinds.{may_stand}
use Rattle.kr_stream.specs.declared.frame.Frame.TheVariants as frames
use Rattle.kr_stream.specs.declared.stage.Stage.{Stage}
use Rattle.kr_stream.specs.declared.stage.Stage.TheVariants as stages
use Rattle.kr_stream.specs.Reader.{Took, IsNext, Stands, Stopped, Stops, in_size}
use Rattle.kr_stream.proofs.FrameForms.{frame_length}
use Rattle.kr_stream.proofs.Parts.{both_bytes, consumes_none, took_as}
use Rattle.kr_process.specs.declared.status.Status.{Status}
use Rattle.kr_process.specs.declared.status.Status.TheVariants as statuses
use Rattle.kr_session_loop.specs.Session.{Progress, Unopened, Opened, HasRead, all_outputs, is_opened, outputs_so_far}
use Rattle.kr_session_loop.specs.Endings.{EndsWith, TookWhole, WroteAll, WroteSome}
use Rattle.kr_session_loop.specs.inner.Serving.{Going, Serves, unread_status, unwritten_status}
use Rattle.kr_session_loop.proofs.Handed.{run_further, runs_options, step_through}
use Rattle.kr_session_loop.proofs.OutputFrames.{all_of, both_written, none_written, some_behind}
use Rattle.kr_session_loop.proofs.PastEvents.{opened_first, read_further, joined, joined_behind, all_behind}

-- what holds of each result
pub on_ok : {P : Type 0} (result : Result (Unit {0}) Status) → P → OnOk result P
on_ok (Ok u) p = p
on_ok (Err status) p = tt

-- a frame takes some bytes
pub took_further : (frame : Frame) (a b : Option (List ℕ)) (at end : ℕ) → Took (IsFrameOf frame) a b at end → (at < end) × (end ≤ MOST_SESSION_BYTES)
took_further frame a b at end t = let long = frame_length _ _ t.taken t.is in (omega (arith, long, t.place), t.within)

-- ---- no frame is read

module _ (progress : Progress) (front : List ℕ) (left mid left' written written' : Option (List ℕ)) (read : HasRead progress front) (bytes : IsBytes front)
    (took : Consumes left mid front) (wrote : WroteAll written written' (outputs_so_far progress)) (f g : ℕ) where
  unread_at : (fault : StreamFault) → Stopped (is_opened progress) (length front) mid left' f g fault → EndsWith left left' written written' (unread_status fault)
  unread_at (stops.Malformed at) s = record {
    progress = progress;
    front = front;
    rest = s.taken;
    read = read;
    bytes = bytes;
    within = s.within;
    took = Consumes-trans left mid left' front s.taken took s.took;
    behind = (
      s.cause.0,
      elim s.cause.1 [
        | inl refused ↦ inl refused
        | inr cut ↦ inr ((cut.0, cut.2), cut.1)
      ],
    );
    wrote = wrote;
  }
  unread_at stops.ReadFault s = record {
    progress = progress;
    front = front;
    rest = s.taken;
    read = read;
    bytes = bytes;
    within = s.within;
    took = Consumes-trans left mid left' front s.taken took s.took;
    behind = (s.cause.0, s.cause.2);
    wrote = wrote;
  }
  unread_at stops.TooLong s = record {
    progress = progress;
    front = front;
    rest = s.taken;
    read = read;
    bytes = bytes;
    within = s.within;
    took = Consumes-trans left mid left' front s.taken took s.took;
    behind = s.cause;
    wrote = wrote;
  }
  unread_at stops.NoMemory s = record {
    progress = progress;
    front = front;
    rest = s.taken;
    read = read;
    bytes = bytes;
    within = s.within;
    took = Consumes-trans left mid left' front s.taken took s.took;
    behind = elim s.cause [
      | inl cut ↦ inl cut
      | inr whole ↦ inr (inl whole)
    ];
    wrote = all_of written written' (outputs_so_far progress) wrote;
  }

  pub unread : (at : ℕ) (fault : StreamFault) → at ≡ length front → Stopped (is_opened progress) at mid left' f g fault → EndsWith left left' written written' (unread_status fault)
  unread at fault place s = unread_at fault (subst (λ (n : ℕ). Stopped (is_opened progress) n mid left' f g fault) place s)

-- ---- the first frame

-- nothing is handed out of a new engine
drained : (engine : Core) (s : State) (writes : List Write) → IsEngine engine s writes → engines.outputs_left engine ≡ [] → Hands engine engine None
drained engine s writes stands none = record { options = refl; in_order = refl; all = λ is. none; ordered = stands.ordered; fresh = refl; stands = λ s writes k. k }

module _ (left left' written written' : Option (List ℕ)) (options : Options) (at : ℕ) (t : Took (IsOpen options) left left' 0 at) (wrote : WroteAll written written' []) where
  pub opened : (engine : Core) → engine.options ≡ options → IsEngine engine start [] → engines.outputs_left engine ≡ [] → Going left left' written written' engine at
  opened engine same stands none = record {
    options = options;
    events = [];
    front = t.taken;
    read = opened_first options t.taken t.is;
    bytes = t.bytes;
    place = omega (arith, t.place);
    took = t.took;
    first = engine;
    opened = same;
    begins = stands;
    given = [];
    last = engine;
    runs = refl;
    none = drained engine start [] stands none;
    wrote = wrote;
  }

  -- no memory for an engine
  pub unopened : EndsWith left left' written written' statuses.NoMemory
  unopened = record {
    progress = Opened options [];
    front = t.taken;
    rest = [];
    read = opened_first options t.taken t.is;
    bytes = t.bytes;
    within = omega (arith, t.place, t.within);
    took = subst (λ (l : List ℕ). Consumes left left' l) (sym (append-nil t.taken)) t.took;
    behind = inl (in_size (omega arith));
    wrote = all_of written written' [] wrote;
  }

-- ---- a frame behind it

module _ (left mid left' written between : Option (List ℕ)) (engine : Core) (at : ℕ) (going : Going left mid written between engine at) where
  given_so : going.given ≡ outputs going.options going.events
  given_so = (runs_give_outputs going.options going.events going.given going.first going.last going.opened going.begins going.runs).0

  pub stands_so : IsEngine engine (state going.options going.events) (waiting_writes going.options going.events)
  stands_so = going.none.stands _ _ (runs_give_outputs going.options going.events going.given going.first going.last going.opened going.begins going.runs).1

  options_so : engine.options ≡ going.options
  options_so = going.none.options ∙ (runs_options going.first going.last going.events going.given going.runs ∙ going.opened)

  wrote_so : WroteAll written between (all_outputs going.options going.events)
  wrote_so = subst (λ (l : List (List Output)). WroteAll written between (joined l)) given_so going.wrote

  -- no frame is read
  pub unread_next : (fault : StreamFault) (f g : ℕ) → Stopped true at mid left' f g fault → EndsWith left left' written between (unread_status fault)
  unread_next fault f g s = unread (Opened going.options going.events) going.front left mid left' written between going.read going.bytes going.took wrote_so f g at fault going.place s

  -- it is End
  pub ended : (end : ℕ) → Took IsEnd mid left' at end → TookWhole left left' written between
  ended end t = record {
    options = going.options;
    events = going.events;
    taken = going.front ++ t.taken;
    session = record { left = going.front; right = t.taken; is = refl; first = going.read; second = t.is };
    bytes = both_bytes going.front t.taken going.bytes t.bytes;
    within = let e = length-append going.front t.taken in omega (arith, e, going.place, t.place, t.within);
    took = Consumes-trans left mid left' going.front t.taken going.took t.took;
    wrote = wrote_so;
  }

  -- it is an event
  module _ (event : Event) (end : ℕ) (t : Took (IsEvent event) mid left' at end) where
    length_so : length (going.front ++ t.taken) ≡ end
    length_so = length-append going.front t.taken ∙ (ap (λ (n : ℕ). n + length t.taken) (sym going.place) ∙ sym t.place)

    -- its outputs are written
    pub goes_on : (after : Core) (written' : Option (List ℕ)) → Serves engine after event between written' → Going left left' written written' after end
    goes_on after written' s = record {
      options = going.options;
      events = going.events ++ event ∷ [];
      front = going.front ++ t.taken;
      read = read_further going.options going.events event going.front t.taken going.read t.is;
      bytes = both_bytes going.front t.taken going.bytes t.bytes;
      place = sym length_so;
      took = Consumes-trans left mid left' going.front t.taken going.took t.took;
      first = going.first;
      opened = going.opened;
      begins = going.begins;
      given = going.given ++ s.given ∷ [];
      last = s.drains.last;
      runs = run_further going.first going.last s.stepped s.drains.last going.events going.given event s.given going.runs (step_through going.last engine s.stepped event going.none s.step) s.drains.all;
      none = s.drains.none;
      wrote = subst (WroteAll written written') (sym (joined_behind going.given s.given)) (both_written written between written' (joined going.given) s.given going.wrote s.wrote);
    }

    -- they aren't all written
    module _ (written' : Option (List ℕ)) (some : (s : State) (writes : List Write) → IsEngine engine s writes → WroteSome between written' (outputs_of engine.options s writes event)) where
      some_so : WroteSome written written' (all_outputs going.options (going.events ++ event ∷ []))
      some_so =
          let more = subst (λ (o : Options). WroteSome between written' (outputs_of o (state going.options going.events) (waiting_writes going.options going.events) event)) options_so (some _ _ stands_so) in
          subst (WroteSome written written') (sym (all_behind going.options going.events event)) (some_behind written between written' _ _ wrote_so more)

      abbrev taken_so : Consumes left left' ((going.front ++ t.taken) ++ [])
      taken_so = subst (λ (l : List ℕ). Consumes left left' l) (sym (append-nil (going.front ++ t.taken))) (Consumes-trans left mid left' going.front t.taken going.took t.took)

      pub unwritten_event : (fault : WriteFault) → EndsWith left left' written written' (unwritten_status fault)
      unwritten_event faults.Failed = record {
        progress = Opened going.options (going.events ++ event ∷ []);
        front = going.front ++ t.taken;
        rest = [];
        read = read_further going.options going.events event going.front t.taken going.read t.is;
        bytes = both_bytes going.front t.taken going.bytes t.bytes;
        within = omega (arith, length_so, t.within);
        took = taken_so;
        behind = refl;
        wrote = some_so;
      }
      unwritten_event faults.NoMemory = record {
        progress = Opened going.options (going.events ++ event ∷ []);
        front = going.front ++ t.taken;
        rest = [];
        read = read_further going.options going.events event going.front t.taken going.read t.is;
        bytes = both_bytes going.front t.taken going.bytes t.bytes;
        within = omega (arith, length_so, t.within);
        took = taken_so;
        behind = inl (in_size (omega arith));
        wrote = some_so;
      }

-- ---- what a reader took behind the first frame

module _ (stage : Stage) (opened_so : stage ≡ stages.Opened) where
  pub stopped_there : (at : ℕ) (a b : Option (List ℕ)) (f g : ℕ) (fault : StreamFault) → Stops stage at a b f g fault → Stopped true at a b f g fault
  stopped_there at a b f g fault s = subst (λ (s : Stage). Stops s at a b f g fault) opened_so s

  module _ (frame : Frame) (a b : Option (List ℕ)) (at end : ℕ) (t : Took (IsNext stage frame) a b at end) where
    frame_taken : Took (Stands true frame) a b at end
    frame_taken = subst (λ (s : Stage). Took (IsNext s frame) a b at end) opened_so t

    pub never_opens : (options : Options) → frame ≡ frames.Open options → ⊥
    never_opens options is = let wrong : false ≡ true = (subst (λ (f : Frame). Took (Stands true f) a b at end) is frame_taken).is.place in absurd cc

    -- it is this frame
    pub taken_as : (other : Frame) → frame ≡ other → Took (IsFrameOf other) a b at end
    taken_as other is = took_as a b at end (subst (λ (f : Frame). Took (Stands true f) a b at end) is frame_taken) (λ bytes stands. stands.is)

-- ---- what a reader took at the beginning

no_bytes : IsBytes []
no_bytes = none_fits.each

never_first : (event : Event) → may_stand false (kind_of_event event) ≡ true → ⊥
never_first (events.Lead epoch next now) wrong = absurd cc
never_first (events.Commit epoch end) wrong = absurd cc
never_first (events.Lost epoch) wrong = absurd cc
never_first (events.Batch bytes) wrong = absurd cc
never_first (events.Load bytes) wrong = absurd cc
never_first (events.Tick now) wrong = absurd cc
never_first (events.Request client now ask) wrong = absurd cc
never_first events.Image wrong = absurd cc

module _ (stage : Stage) (unopened_so : stage ≡ stages.Unopened) (left left' : Option (List ℕ)) where
  module _ (frame : Frame) (at end : ℕ) (t : Took (IsNext stage frame) left left' at end) where
    first_taken : Took (Stands false frame) left left' at end
    first_taken = subst (λ (s : Stage). Took (IsNext s frame) left left' at end) unopened_so t

    pub no_event_first : (event : Event) → frame ≡ frames.Event event → ⊥
    no_event_first event is = never_first event (subst (λ (f : Frame). Took (Stands false f) left left' at end) is first_taken).is.place

    pub no_end_first : frame ≡ frames.End → ⊥
    no_end_first is = let wrong : false ≡ true = (subst (λ (f : Frame). Took (Stands false f) left left' at end) is first_taken).is.place in absurd cc

    pub open_taken : (options : Options) → frame ≡ frames.Open options → at ≡ 0 → Took (IsOpen options) left left' 0 end
    open_taken options is zero = subst (λ (n : ℕ). Took (IsOpen options) left left' n end) zero
        (took_as left left' at end (subst (λ (f : Frame). Took (Stands false f) left left' at end) is first_taken) (λ bytes stands. stands.is))

  pub unread_first : (written : Option (List ℕ)) (at f g : ℕ) (fault : StreamFault) → at ≡ 0 → Stops stage at left left' f g fault → EndsWith left left' written written (unread_status fault)
  unread_first written at f g fault zero s =
      unread Unopened [] left left left' written written refl no_bytes (consumes_none left) (none_written written) f g at fault zero
      (subst (λ (s : Stage). Stops s at left left' f g fault) unopened_so s)
