-- Where the bytes so far end.
use Rattle.std.proofs.Common.{◌≡◌, take}
use Rattle.std.specs.Prelude.{fold}
use Rattle.kr_flow.specs.Progresses.{behind_byte}
use Rattle.kr_flow.proofs.progress.Progress.take.Given as goal

abbrev pub invariant-loop-byte : goal.invariant-loop-byte
invariant-loop-byte l = l.self ≡ fold behind_byte l.fn.self (take l.byte-index l.bytes)
