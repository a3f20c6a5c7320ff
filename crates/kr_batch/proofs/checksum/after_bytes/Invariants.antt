use Rattle.std.proofs.Common.{◌≡◌, take}
use Rattle.std.specs.List.{fold}
use Rattle.kr_batch.specs.Crc.{byte_step}
use Rattle.kr_batch.proofs.checksum.after_bytes.Given as goal

abbrev pub invariant-loop-byte : goal.invariant-loop-byte
invariant-loop-byte l = l.sum ≡ fold byte_step l.start (take l.byte-index l.bytes)
