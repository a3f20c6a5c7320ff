-- How far a stream is a session: Open, then events, then End, one frame after the other.
use Rattle.std.specs.Prelude.{ℕ, Bool, false, true, List, []}
use Rattle.std.specs.List.{flat_map}
use Rattle.kr_wire.specs.Grammar.{◌⌢◌, Each, Exactly}
use Rattle.kr_calls.specs.declared.events.Event.{Event}
use Rattle.kr_calls.specs.declared.events.Output.{Output}
use Rattle.kr_defs.specs.declared.options.Options.{Options}
use Rattle.kr_model.specs.Outputs.{outputs}
use Rattle.kr_stream.specs.Frames.{IsOpen, IsEvent, IsEnd}

-- how far a session was read: not even its first frame, or that and these events
pub data Progress : Type 0 where
  Unopened : Progress
  Opened : (options : Options) (events : List Event) → Progress

abbrev pub is_opened : Progress → Bool
is_opened Unopened = false
is_opened (Opened options events) = true

-- these bytes are the frames that were read, whole and in order
abbrev pub HasRead : Progress → List ℕ → Type 0
HasRead Unopened = Exactly []
HasRead (Opened options events) = IsOpen options ⌢ Each IsEvent events

-- a whole session
abbrev pub IsSession : Options → List Event → List ℕ → Type 0
IsSession options events = HasRead (Opened options events) ⌢ IsEnd

-- all outputs of events, in order
abbrev pub all_outputs : Options → List Event → List Output
all_outputs options events = flat_map (λ given. given) (outputs options events)

-- the outputs of the events that were read
abbrev pub outputs_so_far : Progress → List Output
outputs_so_far Unopened = []
outputs_so_far (Opened options events) = all_outputs options events
