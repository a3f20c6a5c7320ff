-- What bytes stand for a batch: record batches of magic 2 (KIP-98), in this project's profile.
use Rattle.std.specs.Prelude.{◌≡◌, ℕ, ℤ, pos, negsuc, ◌≤ℤ◌, ◌+◌, ◌-◌, ◌/◌, ◌%◌, ◌==◌, ◌<◌, ◌≤◌, ◌^◌, Bool, true, false, List, [], ◌∷◌, length}
use Rattle.std.specs.Int.{w8, w16, w32, w64}
use Rattle.std.proofs.Math.ListN.{replicate}
use Rattle.kr_defs.specs.declared.limits.TheConstants.{MOST_RECORDS}
use Rattle.kr_defs.specs.declared.record.Record.{Record}
use Rattle.kr_defs.specs.declared.record.Item.{Item}
use Rattle.kr_defs.specs.declared.record.Item.TheVariants as items
use Rattle.kr_wire.specs.Grammar.{◌⌢◌, Exactly, IsNumber, IsSigned, IsVarint32, IsVarint64}
use Rattle.kr_record.specs.Grammar.{IsRecord}
use Rattle.kr_batch.specs.Crc.{crc32c}
use Rattle.kr_batch.specs.declared.Batch.{Batch}

-- a length; a negative one is that of nothing
abbrev pub natural : ℤ → ℕ
natural (pos n) = n
natural (negsuc n) = 0

-- so many bytes
abbrev pub IsPiece : ℕ → List ℕ → List ℕ → Type 0
IsPiece len piece bytes = (length bytes ≡ len) × (bytes ≡ piece)

-- a value that is skipped
pub record IsSome {X : Type 0} (Is : X → List ℕ → Type 0) (bytes : List ℕ) : Type 0 where
  pub value : X
  pub spelled : Is value bytes

-- bytes behind their length
abbrev pub IsSized : List ℕ → List ℕ → Type 0
IsSized piece = IsVarint32 (pos (length piece)) ⌢ Exactly piece

-- bytes behind their length, or nothing behind a negative one
pub record IsKey (key bytes : List ℕ) : Type 0 where
  pub size : ℤ
  pub spelled : (IsVarint32 size ⌢ IsPiece (natural size) key) bytes

-- attributes, timestamp delta, offset delta, key, value, and no headers
abbrev pub IsBody : ℤ × List ℕ → List ℕ → Type 0
IsBody (delta, value) =
    IsSome (IsPiece 1) ⌢ IsSome IsVarint64 ⌢ IsVarint32 delta ⌢ IsSome IsKey ⌢ IsSized value ⌢ IsVarint32 (pos 0)

-- a body behind its length
pub record IsFrame (frame : ℤ × List ℕ) (bytes : List ℕ) : Type 0 where
  pub body : List ℕ
  pub whole : IsBody frame body
  pub spelled : IsSized body bytes

-- a record with its number as offset delta, and its value
pub record IsEntry (at : ℕ) (r : Record) (bytes : List ℕ) : Type 0 where
  pub value : List ℕ
  pub is : IsRecord r value
  pub spelled : IsFrame (pos at, value) bytes

-- records, numbered from here on
abbrev pub AreEntries : ℕ → List Item → List ℕ → Type 0
AreEntries at [] = Exactly []
AreEntries at (items.Record r ∷ others) = IsEntry at r ⌢ AreEntries (at + 1) others
AreEntries at (items.Control ∷ others) = λ bytes. ⊥

-- base offset, and the size of all that follows
abbrev pub IsStart : ℤ × ℕ → List ℕ → Type 0
IsStart (base, size) = IsSigned w64 base ⌢ IsNumber w32 size

-- the leader's epoch, magic 2, and the CRC
abbrev pub IsSum : ℤ × ℕ → List ℕ → Type 0
IsSum (epoch, crc) = IsSigned w32 epoch ⌢ IsSigned w8 (pos 2) ⌢ IsNumber w32 crc

-- bits 0 to 2 say how the records are compressed, and bit 5 that the batch is a control batch
abbrev pub compression : ℕ → ℕ
compression attributes = attributes % 8

abbrev pub is_control : ℕ → Bool
is_control attributes = attributes / 32 % 2 == 1

-- no compression, and whether it is a control batch; the other bits are skipped
pub record IsAttributes (control : Bool) (bytes : List ℕ) : Type 0 where
  pub attributes : ℕ
  pub plain : compression attributes ≡ 0
  pub is : control ≡ is_control attributes
  pub spelled : IsNumber w16 attributes bytes

pub record IsCount (count : ℕ) (bytes : List ℕ) : Type 0 where
  pub some : 1 ≤ count
  pub few : count ≤ MOST_RECORDS
  pub spelled : IsNumber w32 count bytes

-- attributes, last offset delta, base timestamp, max timestamp and producer, and the count
abbrev pub IsFixed : Bool × ℤ × ℕ → List ℕ → Type 0
IsFixed (control, time, count) =
    IsAttributes control ⌢ IsNumber w32 (count - 1) ⌢ IsSigned w64 time ⌢ IsSome (IsPiece 22) ⌢ IsCount count

-- The records of a control batch are any bytes.
abbrev pub AreItems : Bool → List Item → List ℕ → Type 0
AreItems true all bytes = all ≡ replicate (length all) items.Control
AreItems false all bytes = AreEntries 0 all bytes

pub record IsBatch (batch : Batch) (bytes : List ℕ) : Type 0 where
  -- what stands behind the size, what the CRC is over, and the records
  pub behind : List ℕ
  pub checked : List ℕ
  pub records : List ℕ
  pub control : Bool
  pub based : pos 0 ≤ℤ batch.base
  pub fits : length behind < 2 ^ 31
  pub start : (IsStart (batch.base, length behind) ⌢ Exactly behind) bytes
  pub sum : (IsSum (batch.epoch, crc32c checked) ⌢ Exactly checked) behind
  pub fixed : (IsFixed (control, batch.time, length batch.items) ⌢ Exactly records) checked
  pub items : AreItems control batch.items records
