-- What the frames of a session stand for (this project's own): a u32 size of what follows it, the number of the kind, and the body.
use Rattle.std.specs.Prelude.{◌≡◌, ℕ, ℤ, pos, ◌≤ℤ◌, ◌+◌, ◌≤◌, List, [], ◌∷◌, length, IsUtf8, IsTrue}
use Rattle.std.specs.Int.{w16, w32, w64}
use Rattle.kr_wire.specs.Grammar.{◌⌢◌, Exactly, IsNumber, IsSigned}
use Rattle.kr_defs.specs.declared.limits.TheConstants.{MOST_MESSAGE_BYTES}
use Rattle.kr_defs.specs.OpenOptions.{are_options}
use Rattle.kr_defs.specs.declared.options.Options.{Options}
use Rattle.kr_calls.specs.declared.events.Event.{Event}
use Rattle.kr_calls.specs.declared.events.Event.TheVariants as events
use Rattle.kr_calls.specs.declared.calls.Ask.{Ask}
use Rattle.kr_req.specs.Messages.{IsAsk}
use Rattle.kr_stream.specs.declared.frame.Frame.{Frame}
use Rattle.kr_stream.specs.declared.frame.Frame.TheVariants as frames
use Rattle.kr_stream.specs.declared.kind.FrameKind.{FrameKind}
use Rattle.kr_stream.specs.declared.kind.FrameKind.TheVariants as kinds
use Rattle.kr_stream.specs.Kinds.{number_of, longest_body}

-- this kind, and a body of which that holds, behind their size
pub record IsFrame (kind : ℕ) (Body : List ℕ → Type 0) (bytes : List ℕ) : Type 0 where
  pub body : List ℕ
  pub holds : Body body
  pub spelled : (IsNumber w32 (length body + 1) ⌢ Exactly (kind ∷ body)) bytes

-- ---- Open

-- all that is left, as text
pub record IsTextRest (text bytes : List ℕ) : Type 0 where
  pub utf8 : IsUtf8 text
  pub all : bytes ≡ text

-- settings that a controller may be started with
pub record IsOptions (options : Options) (body : List ℕ) : Type 0 where
  pub fits : IsTrue (are_options options)
  pub spelled : (IsSigned w32 options.node ⌢ IsNumber w64 options.salt ⌢ IsNumber w32 options.session_ms ⌢
      IsSigned w32 options.partitions ⌢ IsSigned w16 options.factor ⌢ IsSigned w32 options.minimum ⌢ IsTextRest options.cluster) body

-- ---- events

-- milliseconds, at least 0
pub record IsTime (now : ℤ) (bytes : List ℕ) : Type 0 where
  pub natural : pos 0 ≤ℤ now
  pub spelled : IsSigned w64 now bytes

-- all that is left, at most so many bytes
pub record IsRestUpTo (most : ℕ) (rest bytes : List ℕ) : Type 0 where
  pub short : length bytes ≤ most
  pub all : bytes ≡ rest

-- what a message of at most 8 MiB asks, all that is left
pub record IsMessage (ask : Ask) (bytes : List ℕ) : Type 0 where
  pub short : length bytes ≤ MOST_MESSAGE_BYTES
  pub is : IsAsk ask bytes

-- ---- what is read

abbrev pub kind_of_event : Event → FrameKind
kind_of_event (events.Lead epoch next now) = kinds.Lead
kind_of_event (events.Commit epoch end) = kinds.Commit
kind_of_event (events.Lost epoch) = kinds.Lost
kind_of_event (events.Batch bytes) = kinds.Batch
kind_of_event (events.Load bytes) = kinds.Load
kind_of_event (events.Tick now) = kinds.Tick
kind_of_event (events.Request client now ask) = kinds.Request
kind_of_event events.Image = kinds.Image

-- The rest of a batch and of an image may be any bytes: the controller judges them.
abbrev pub IsEventBody : Event → List ℕ → Type 0
IsEventBody (events.Lead epoch next now) = IsSigned w32 epoch ⌢ IsSigned w64 next ⌢ IsTime now
IsEventBody (events.Commit epoch end) = IsSigned w32 epoch ⌢ IsSigned w64 end
IsEventBody (events.Lost epoch) = IsSigned w32 epoch
IsEventBody (events.Batch bytes) = IsRestUpTo (longest_body kinds.Batch) bytes
IsEventBody (events.Load bytes) = IsRestUpTo (longest_body kinds.Load) bytes
IsEventBody (events.Tick now) = IsTime now
IsEventBody (events.Request client now ask) = IsNumber w32 client ⌢ IsTime now ⌢ IsMessage ask
IsEventBody events.Image = Exactly []

abbrev pub frame_kind : Frame → FrameKind
frame_kind (frames.Open options) = kinds.Open
frame_kind (frames.Event event) = kind_of_event event
frame_kind frames.End = kinds.End

abbrev pub IsBody : Frame → List ℕ → Type 0
IsBody (frames.Open options) = IsOptions options
IsBody (frames.Event event) = IsEventBody event
IsBody frames.End = Exactly []

-- the bytes are the frame
abbrev pub IsFrameOf : Frame → List ℕ → Type 0
IsFrameOf frame = IsFrame (number_of (frame_kind frame)) (IsBody frame)

abbrev pub IsOpen : Options → List ℕ → Type 0
IsOpen options = IsFrameOf (frames.Open options)

abbrev pub IsEvent : Event → List ℕ → Type 0
IsEvent event = IsFrameOf (frames.Event event)

abbrev pub IsEnd : List ℕ → Type 0
IsEnd = IsFrameOf frames.End
