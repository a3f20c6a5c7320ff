-- What holds of all bytes.
use Rattle.std.specs.Prelude.{◌≡◌, ℕ, Bool, List, ◌++◌, All}
use Rattle.kr_wire.specs.Grammar.{Each}
use Rattle.kr_wire.specs.Laws.{IsBytes}
use Rattle.kr_calls.specs.declared.events.Output.{Output}
use Rattle.kr_calls.specs.declared.events.Output.TheVariants as outputs
use Rattle.kr_req.specs.WrittenReplies.{answered}
use Rattle.kr_stream.specs.declared.frame.Frame.{Frame}
use Rattle.kr_stream.specs.Frames.{IsFrameOf}
use Rattle.kr_stream.specs.Reader.{Stands, IsUnfinished, IsRefused}
use Rattle.kr_stream.specs.Outputs.{FrameFits, IsOutput, frames_bytes}

-- no front of the bytes is a frame that may stand here
abbrev pub NoneBegins : Bool → List ℕ → Type 0
NoneBegins opened bytes = (frame : Frame) (front behind : List ℕ) → bytes ≡ front ++ behind → Stands opened frame front → ⊥

-- the frames at the front of one stream are the same, and so is what is behind them
abbrev pub FramesAreToldApart : Type 0
FramesAreToldApart = (a b : Frame) (front other behind rest : List ℕ) → IsBytes front → IsFrameOf a front → IsFrameOf b other → front ++ behind ≡ other ++ rest → (a ≡ b) × (behind ≡ rest)

-- bytes that tell that no frame stands here tell it whatever follows
abbrev pub RefusedBytesBeginNone : Type 0
RefusedBytesBeginNone = (opened : Bool) (bytes behind : List ℕ) → IsRefused opened bytes → NoneBegins opened (bytes ++ behind)

-- bytes that are too few begin with no whole frame
abbrev pub UnfinishedBytesBeginNone : Type 0
UnfinishedBytesBeginNone = (opened : Bool) (bytes : List ℕ) → IsUnfinished opened bytes → NoneBegins opened bytes

-- What is written for outputs stands for them.
abbrev pub WrittenOutputsStand : Type 0
WrittenOutputsStand = (outputs : List Output) → All FrameFits outputs → Each IsOutput outputs (frames_bytes outputs)

-- Of two outputs whose frames stand at the front of one stream, the kinds are the same, and so is what is behind them; and so are the
-- outputs, if replies are to one request: their bytes don't say to which.
abbrev pub SameOutput : Output → Output → Type 0
SameOutput (outputs.Reply client correlation reply) (outputs.Reply client' correlation' reply') =
    (client ≡ client') × (correlation ≡ correlation') × (answered reply ≡ answered reply' → reply ≡ reply')
SameOutput a b = a ≡ b

abbrev pub OutputsAreToldApart : Type 0
OutputsAreToldApart = (a b : Output) (front other behind rest : List ℕ) → IsOutput a front → IsOutput b other → front ++ behind ≡ other ++ rest → SameOutput a b × (behind ≡ rest)
