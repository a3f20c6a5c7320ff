-- Reading a record: the value and the bytes after it, or the first fault.
use Rattle.std.specs.Prelude.{ℕ, not, List, length, Result, Ok, Err, ◌==◌, nat_lt}
use Rattle.kr_defs.specs.declared.record.Record.{Record}
use Rattle.kr_wire.specs.declared.WireFault.{WireFault}
use Rattle.kr_wire.specs.Reading.{◌>>=◌, refuse◌when◌else◌, structure_at, uvarint_at}
use Rattle.kr_record.specs.declared.fault.RecordFault.{RecordFault}
use Rattle.kr_record.specs.declared.fault.RecordFault.TheVariants as faults
use Rattle.kr_record.specs.Layout.{RecordLayout, Kind, version_at}
use Rattle.kr_record.specs.Records.{by_key}

abbrev pub wired : {X : Type 0} → Result X WireFault → Result X RecordFault
wired (Ok x) = Ok x
wired (Err fault) = Err (faults.Wire fault)

-- what stands in a record of a kind with this key, newest version and layout, in a version that it has
unfoldable pub served_at : {X : Type 0} → ℕ → ℕ → RecordLayout X → ℕ → List ℕ → Result (X × List ℕ) RecordFault
served_at key newest layout version bytes = refuse (faults.UnknownVersion key version) when nat_lt newest version else wired (version_at layout version bytes)

-- a record of the kind
unfoldable pub kind_at : Kind → ℕ → List ℕ → Result (Record × List ℕ) RecordFault
kind_at k version bytes = structure_at k.record_of (served_at k.key k.newest k.layout version) bytes

-- the record of the kind with the key
unfoldable pub layout_at : ℕ → ℕ → List ℕ → Result (Record × List ℕ) RecordFault
layout_at key version bytes = by_key key (λ k. kind_at k version bytes) (Err (faults.UnknownKey key))

unfoldable pub record_at : List ℕ → Result (Record × List ℕ) RecordFault
record_at bytes = do
  frame ← wired (uvarint_at bytes)
  refuse (faults.FrameVersion frame.0) when not (frame.0 == 1) else do
    key ← wired (uvarint_at frame.1)
    version ← wired (uvarint_at key.1)
    layout_at key.0 version.0 version.1

-- the record that all of the bytes give, or the first fault
unfoldable pub record_of : List ℕ → Result Record RecordFault
record_of bytes = do
  value ← record_at bytes
  refuse faults.Trailing when nat_lt 0 (length value.1) else Ok value.0
