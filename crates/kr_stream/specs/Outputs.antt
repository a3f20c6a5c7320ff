-- The frames of outputs (this project's own): a u32 size of what follows it, the number of the kind, and the body.
use Rattle.std.specs.Prelude.{ℕ, ◌+◌, ◌^◌, ◌<◌, List, ◌∷◌, ◌++◌, length, Option, FitsSigned}
use Rattle.std.specs.List.{flat_map}
use Rattle.std.specs.Int.{w8, w32, w64}
use Rattle.std.specs.Io.KnownBytes.{Appends}
use Rattle.kr_base.specs.FailedPuts.{AppendsFront}
use Rattle.kr_wire.specs.Grammar.{◌⌢◌, Exactly, IsNumber, IsSigned}
use Rattle.kr_wire.specs.Spelling.{number, signed}
use Rattle.kr_calls.specs.declared.events.Output.{Output}
use Rattle.kr_calls.specs.declared.events.Output.TheVariants as outputs
use Rattle.kr_calls.specs.declared.events.Reason.{Reason}
use Rattle.kr_req.specs.Messages.{IsReply}
use Rattle.kr_req.specs.WrittenReplies.{ReplyFits, reply_bytes}
use Rattle.kr_stream.specs.Frames.{IsFrame}
use Rattle.kr_stream.specs.RefusalNumbers.{first_number, reason_number, second_number, third_number}

-- the number of the kind
abbrev pub number_of : Output → ℕ
number_of (outputs.Append bytes) = 129
number_of (outputs.Reply client correlation reply) = 130
number_of (outputs.Refused event reason) = 131
number_of (outputs.Image bytes) = 132

-- a reason's number, and its three numbers
abbrev pub IsReason : Reason → List ℕ → Type 0
IsReason reason = IsNumber w8 (reason_number reason) ⌢ IsSigned w64 (first_number reason) ⌢ IsSigned w64 (second_number reason) ⌢ IsSigned w64 (third_number reason)

abbrev pub IsOutputBody : Output → List ℕ → Type 0
IsOutputBody (outputs.Append bytes) = Exactly bytes
IsOutputBody (outputs.Reply client correlation reply) = IsNumber w32 client ⌢ IsReply correlation reply
IsOutputBody (outputs.Refused event reason) = IsNumber w64 event ⌢ IsReason reason
IsOutputBody (outputs.Image bytes) = Exactly bytes

-- the bytes are the output's frame
abbrev pub IsOutput : Output → List ℕ → Type 0
IsOutput output = IsFrame (number_of output) (IsOutputBody output)

-- ---- what is written

abbrev pub reason_bytes : Reason → List ℕ
reason_bytes reason = reason_number reason ∷ (signed w64 (first_number reason) ++ (signed w64 (second_number reason) ++ signed w64 (third_number reason)))

abbrev pub body_bytes : Output → List ℕ
body_bytes (outputs.Append bytes) = bytes
body_bytes (outputs.Reply client correlation reply) = number w32 client ++ reply_bytes correlation reply
body_bytes (outputs.Refused event reason) = number w64 event ++ reason_bytes reason
body_bytes (outputs.Image bytes) = bytes

-- the number of a kind and a body, behind their size
abbrev pub sized_bytes : ℕ → List ℕ → List ℕ
sized_bytes kind body = number w32 (length body + 1) ++ (kind ∷ body)

abbrev pub frame_bytes : Output → List ℕ
frame_bytes output = sized_bytes (number_of output) (body_bytes output)

-- the frames of outputs, in order
abbrev pub frames_bytes : List Output → List ℕ
frames_bytes outputs = flat_map frame_bytes outputs

-- ---- the values fit their fields

abbrev pub ReasonFits : Reason → Type 0
ReasonFits reason = (reason_number reason < 2 ^ 8) × FitsSigned w64 (first_number reason) × FitsSigned w64 (second_number reason) × FitsSigned w64 (third_number reason)

abbrev pub BodyFits : Output → Type 0
BodyFits (outputs.Append bytes) = Unit {0}
BodyFits (outputs.Reply client correlation reply) = (client < 2 ^ 32) × ReplyFits correlation reply
BodyFits (outputs.Refused event reason) = (event < 2 ^ 64) × ReasonFits reason
BodyFits (outputs.Image bytes) = Unit {0}

pub record FrameFits (output : Output) : Type 0 where
  pub body : BodyFits output
  pub size : length (body_bytes output) + 1 < 2 ^ 32

-- ---- what was written

-- the output's frame, all of it
pub record Wrote (output : Output) (before after : Option (List ℕ)) : Type 0 where
  pub fits : FrameFits output
  pub bytes : Appends before after (frame_bytes output)

-- or some front of it
pub record WroteFront (output : Output) (before after : Option (List ℕ)) : Type 0 where
  pub fits : FrameFits output
  pub bytes : AppendsFront before after (frame_bytes output)
