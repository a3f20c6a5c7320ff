-- The refusals of the calls' faults.
use Rattle.kr_fold.specs.declared.fault.ToolFault.{ToolFault}
use Rattle.kr_fold.specs.declared.fault.ToolFault.TheVariants as tools
use Rattle.kr_lines.specs.declared.fault.ShowFault.{ShowFault}
use Rattle.kr_lines.specs.declared.fault.ShowFault.TheVariants as shows
use Rattle.kr_door_loop.specs.declared.refusal.DoorRefusal.{DoorRefusal}
use Rattle.kr_door_loop.specs.declared.refusal.DoorRefusal.TheVariants as refusals

abbrev pub of_lines : ShowFault → DoorRefusal
of_lines shows.BadHead = refusals.NoHead
of_lines (shows.Malformed at cause) = refusals.NoBatch at cause
of_lines other = refusals.NoMemory

abbrev pub of_tool : ToolFault → DoorRefusal
of_tool (tools.Malformed at) = refusals.Malformed at
of_tool other = refusals.NoMemory
