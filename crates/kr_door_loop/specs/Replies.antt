-- Replies as JSON: the question's front, and its answer. This project's own.
use Rattle.std.specs.Prelude.{◌≡◌, ℕ, ℤ, List, Option, Some, None, Result, Ok, Err}
use Rattle.kr_messages.specs.declared.fault.MessageFault.TheVariants as faults
use Rattle.kr_messages.specs.declared.message_type.ApiMessageType.{ApiMessageType}
use Rattle.kr_messages.specs.MessageTypes.{known_by}
use Rattle.kr_messages.specs.Shown.{ShowsReply}
use Rattle.kr_wire.specs.Reading.{Read}
use Rattle.kr_wire.specs.Schema.{Schema, ◌▸◌, Int16, value_at}
use Rattle.kr_door_loop.specs.declared.refusal.DoorRefusal.{DoorRefusal}
use Rattle.kr_door_loop.specs.declared.refusal.DoorRefusal.TheVariants as refusals

-- the text, or that the bytes are no reply to this request
abbrev pub GivesReply : ApiMessageType → List ℕ → Result (List ℕ) DoorRefusal → Type 0
GivesReply asked message (Ok text) = ShowsReply asked message (Ok text)
GivesReply asked message (Err refusals.BadBody) = ShowsReply asked message (Err faults.BadMessage)
GivesReply asked message (Err refusals.NoMemory) = Unit {0}
GivesReply asked message (Err other) = ⊥

abbrev pub ShowsKnown : Option ApiMessageType → List ℕ → Result (List ℕ) DoorRefusal → Type 0
ShowsKnown (Some asked) message answer = GivesReply asked message answer
ShowsKnown None message answer = answer ≡ Err refusals.BadBody

-- the key and the version of the request, as its header has them
abbrev pub asked_api : Schema (ℤ × ℤ)
asked_api = Int16 ▸ Int16

abbrev pub ShowsAsked : Read (ℤ × ℤ) → Result (List ℕ) DoorRefusal → Type 0
ShowsAsked (Ok (api, message)) answer = ShowsKnown (known_by api.0 api.1) message answer
ShowsAsked (Err fault) answer = answer ≡ Err refusals.BadBody

abbrev pub AnswersReply : List ℕ → Result (List ℕ) DoorRefusal → Type 0
AnswersReply body = ShowsAsked (value_at asked_api body)
