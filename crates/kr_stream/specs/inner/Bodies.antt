-- Reading the body of a frame from its front: what is read, or that it doesn't read. The fault says no more than that.
use Rattle.std.specs.Prelude.{◌≡◌, ℕ, ℤ, pos, Bool, true, false, List, [], int_lt, Ok}
use Rattle.std.specs.Int.{w16, w32, w64}
use Rattle.kr_wire.specs.declared.WireFault.TheVariants.{TooBig}
use Rattle.kr_wire.specs.Grammar.{◌⌢◌, Exactly, IsNumber, IsSigned}
use Rattle.kr_wire.specs.Reading.{◌>>=◌, Read, refuse◌when◌else◌, number_at, signed_at}
use Rattle.kr_defs.specs.declared.options.Options.{Options}
use Rattle.kr_calls.specs.declared.events.Event.{Event}
use Rattle.kr_calls.specs.declared.events.Event.TheVariants as events
use Rattle.kr_calls.specs.declared.calls.Ask.{Ask}
use Rattle.kr_stream.specs.declared.frame.Frame.{Frame}
use Rattle.kr_stream.specs.declared.kind.FrameKind.{FrameKind}
use Rattle.kr_stream.specs.declared.opening.Opening.{Opening}
use Rattle.kr_stream.specs.declared.kind.FrameKind.TheVariants as kinds
use Rattle.kr_stream.specs.Frames.{IsTime, IsMessage, IsBody, IsEventBody, frame_kind, kind_of_event}

-- the body of a frame of this kind
pub record IsBodyOf (kind : FrameKind) (frame : Frame) (body : List ℕ) : Type 0 where
  pub named : frame_kind frame ≡ kind
  pub is : IsBody frame body

-- the body of an event of this kind
pub record IsEventOf (kind : FrameKind) (event : Event) (body : List ℕ) : Type 0 where
  pub named : kind_of_event event ≡ kind
  pub is : IsEventBody event body

-- ---- numbers alone

-- an event of numbers alone
abbrev pub is_of_numbers : FrameKind → Bool
is_of_numbers kinds.Lead = true
is_of_numbers kinds.Commit = true
is_of_numbers kinds.Lost = true
is_of_numbers kinds.Tick = true
is_of_numbers kinds.Image = true
is_of_numbers _ = false

-- milliseconds, at least 0
unfoldable pub time_at : List ℕ → Read ℤ
time_at bytes = do
  now ← signed_at w64 bytes
  refuse TooBig when int_lt now.0 (pos 0) else Ok now

unfoldable pub lead_at : List ℕ → Read Event
lead_at bytes = do
  epoch ← signed_at w32 bytes
  next ← signed_at w64 epoch.1
  now ← time_at next.1
  Ok (events.Lead epoch.0 next.0 now.0, now.1)

unfoldable pub commit_at : List ℕ → Read Event
commit_at bytes = do
  epoch ← signed_at w32 bytes
  end ← signed_at w64 epoch.1
  Ok (events.Commit epoch.0 end.0, end.1)

unfoldable pub lost_at : List ℕ → Read Event
lost_at bytes = do
  epoch ← signed_at w32 bytes
  Ok (events.Lost epoch.0, epoch.1)

unfoldable pub tick_at : List ℕ → Read Event
tick_at bytes = do
  now ← time_at bytes
  Ok (events.Tick now.0, now.1)

abbrev pub numbers_at : FrameKind → List ℕ → Read Event
numbers_at kinds.Lead bytes = lead_at bytes
numbers_at kinds.Commit bytes = commit_at bytes
numbers_at kinds.Lost bytes = lost_at bytes
numbers_at kinds.Tick bytes = tick_at bytes
numbers_at other bytes = Ok (events.Image, bytes)

-- ---- requests

-- the client and the time, before the message
abbrev pub IsStamp : ℕ × ℤ → List ℕ → Type 0
IsStamp x = IsNumber w32 x.0 ⌢ IsTime x.1

unfoldable pub stamp_at : List ℕ → Read (ℕ × ℤ)
stamp_at bytes = do
  client ← number_at w32 bytes
  now ← time_at client.1
  Ok ((client.0, now.0), now.1)

-- a request of this client at this time, with the message of these bytes
pub record IsRequestOf (client : ℕ) (now : ℤ) (event : Event) (message : List ℕ) : Type 0 where
  pub ask : Ask
  pub request : event ≡ events.Request client now ask
  pub is : IsMessage ask message

-- ---- Open

-- the settings, of which the cluster id is what is left
abbrev pub AreSpelled : Options → List ℕ → Type 0
AreSpelled o = IsSigned w32 o.node ⌢ IsNumber w64 o.salt ⌢ IsNumber w32 o.session_ms ⌢ IsSigned w32 o.partitions ⌢ IsSigned w16 o.factor ⌢ IsSigned w32 o.minimum ⌢ Exactly o.cluster

unfoldable pub options_at : List ℕ → Read Options
options_at bytes = do
  node ← signed_at w32 bytes
  salt ← number_at w64 node.1
  session ← number_at w32 salt.1
  partitions ← signed_at w32 session.1
  factor ← signed_at w16 partitions.1
  minimum ← signed_at w32 factor.1
  Ok (record { node = node.0; salt = salt.0; session_ms = session.0; partitions = partitions.0; factor = factor.0; minimum = minimum.0; cluster = minimum.1 }, [])

-- the settings that were opened, with this cluster id
abbrev pub options_with : Opening → List ℕ → Options
options_with o cluster = record { node = o.node; salt = o.salt; session_ms = o.session_ms; partitions = o.partitions; factor = o.factor; minimum = o.minimum; cluster = cluster }
