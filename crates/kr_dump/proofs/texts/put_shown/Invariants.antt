use Rattle.std.proofs.Common.{◌≡◌, ◌++◌, take}
use Rattle.std.specs.List.{flat_map}
use Rattle.kr_dump.specs.DumpText.{shown_byte}
use Rattle.kr_dump.proofs.texts.put_shown.Given as goal

abbrev pub invariant-loop-byte : goal.invariant-loop-byte
invariant-loop-byte l = l.out ≡ l.initial.out ++ flat_map shown_byte (take l.byte-index l.bytes)
