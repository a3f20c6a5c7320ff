-- Messages of requests from JSON. This project's own.
use Rattle.std.specs.Prelude.{ℕ, List, Result, Ok, Err}
use Rattle.kr_request_json.specs.declared.fault.RequestFault.TheVariants as faults
use Rattle.kr_request_json.specs.Messages.{IsAnswerTo, message_of_text}
use Rattle.kr_door_loop.specs.declared.refusal.DoorRefusal.{DoorRefusal}
use Rattle.kr_door_loop.specs.declared.refusal.DoorRefusal.TheVariants as refusals

-- the message, or why the text gives none
abbrev pub AnswersRequest : List ℕ → Result (List ℕ) DoorRefusal → Type 0
AnswersRequest text (Ok message) = IsAnswerTo (Ok message) (message_of_text text)
AnswersRequest text (Err refusals.NotJson) = IsAnswerTo (Err faults.NotJson) (message_of_text text)
AnswersRequest text (Err refusals.UnknownRequest) = IsAnswerTo (Err faults.UnknownRequest) (message_of_text text)
AnswersRequest text (Err refusals.BadField) = IsAnswerTo (Err faults.BadField) (message_of_text text)
AnswersRequest text (Err refusals.NoMemory) = Unit {0}
AnswersRequest text (Err other) = ⊥
