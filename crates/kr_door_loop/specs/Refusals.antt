-- Why a question isn't answered: a place in its body, 0 for none, and a name. This project's own.
use Rattle.std.specs.Prelude.{ℕ, List, codes}
use Rattle.kr_lines.specs.Notes.{fault_name}
use Rattle.kr_door_loop.specs.declared.refusal.DoorRefusal.{DoorRefusal}
use Rattle.kr_door_loop.specs.declared.refusal.DoorRefusal.TheVariants as refusals

abbrev pub refusal_place : DoorRefusal → ℕ
refusal_place (refusals.NoBatch at cause) = at
refusal_place (refusals.Malformed at) = at
refusal_place other = 0

abbrev pub refusal_name : DoorRefusal → List ℕ
refusal_name refusals.UnknownKind = codes "UnknownKind"
refusal_name refusals.BadBody = codes "BadBody"
refusal_name refusals.NoHead = codes "Head"
refusal_name (refusals.NoBatch at cause) = fault_name cause
refusal_name (refusals.Malformed at) = codes "Malformed"
refusal_name refusals.BadNumber = codes "BadNumber"
refusal_name refusals.Repeated = codes "Repeated"
refusal_name refusals.TooFew = codes "TooFew"
refusal_name refusals.NotJson = codes "NotJson"
refusal_name refusals.UnknownRequest = codes "UnknownRequest"
refusal_name refusals.BadField = codes "BadField"
refusal_name refusals.NoMemory = codes "NoMemory"
