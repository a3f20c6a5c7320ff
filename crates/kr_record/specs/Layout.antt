-- Layouts that differ by version, on top of those that don't: parts that are there since a version, and tagged fields (KIP-482).
-- From one description follow the bytes that stand for a value and how it is read.
use Rattle.std.specs.Prelude.{◌≡◌, ℕ, ℤ, Bool, true, false, ◌&&◌, cond, List, [], Ok}
use Rattle.kr_defs.specs.declared.record.Record.{Record}
use Rattle.kr_wire.specs.Grammar.{◌⌢◌, IsTags, includes}
use Rattle.kr_wire.specs.Reading.{Read, ◌followed_by◌, structure_at, tags_at}
use Rattle.kr_wire.specs.Schema as plain
pub use Rattle.kr_wire.specs.Schema.{Schema, Int8, Int16, Int32, Int64, Uint16, Boolean, Uuid, Text, TextOrNull, End, Array, ◌▸◌, Dropped, Structure}
pub use Rattle.kr_wire.specs.Tables.{Table, NoField, Field, Int8NotZero, Int8OrNone, Int32OrNone, Int32sOrNull, Int32sOrEmpty, TextOrNone, UuidsDropped}
use Rattle.kr_wire.specs.Tables.{Are, absents, known, are_rising}

infixr 6 ◌▹◌
pub data RecordLayout : Type 0 → Type 1 where
  -- the same in each version
  Of : {X : Type 0} → Schema X → RecordLayout X
  -- a flag that is there since a version, and false before
  Flag : ℕ → RecordLayout Bool
  -- one after the other
  ◌▹◌ : {X Y : Type 0} → RecordLayout X → RecordLayout Y → RecordLayout (X × Y)
  -- ids, other parts, and since a version behind these a directory for each id: dropped when they are read, and written as zeros
  Directories : {X : Type 0} → ℕ → RecordLayout X → RecordLayout (List ℤ × X)
  -- tagged fields, as each structure ends that has some
  Tagged : {Z : Type 0} → Table Z → RecordLayout Z

-- A kind of record: its key, the newest version that is served, which is the one that is written, its layout, and the
-- record of what stands in it.
pub record Kind : Type 1 where
  pub Parts : Type 0
  pub key : ℕ
  pub newest : ℕ
  pub layout : RecordLayout Parts
  pub record_of : Parts → Record

abbrev pub kind : {X : Type 0} → ℕ → ℕ → RecordLayout X → (X → Record) → Kind
kind {X} key newest layout record_of = record { Parts = X; key = key; newest = newest; layout = layout; record_of = record_of }

abbrev pub IsSince : {X : Type 0} → Bool → (X → List ℕ → Type 0) → X → X → List ℕ → Type 0
IsSince true One absent x bytes = One x bytes
IsSince false One absent x bytes = (bytes ≡ []) × (x ≡ absent)

-- The bytes stand for the value in the version.
abbrev pub IsInVersion : {X : Type 0} → RecordLayout X → ℕ → X → List ℕ → Type 0
IsInVersion (Of s) version = plain.Is s
IsInVersion (Flag first) version = IsSince (includes first version) (plain.Is Boolean) false
IsInVersion (a ▹ b) version = λ v. IsInVersion a version v.0 ⌢ IsInVersion b version v.1
IsInVersion (Directories first a) version = λ x. (plain.Is (Array Int32) x.0 ⌢ IsInVersion a version x.1) ⌢ IsSince (includes first version) (plain.Is (Dropped (Array Uuid))) tt tt
IsInVersion (Tagged table) version = λ z. IsTags (Are table version z)

abbrev pub since_at : {X : Type 0} → Bool → (List ℕ → Read X) → X → List ℕ → Read X
since_at here read absent bytes = cond here (read bytes) (Ok (absent, bytes))

-- Reading the value from the front of some bytes of the version.
abbrev pub version_at : {X : Type 0} → RecordLayout X → ℕ → List ℕ → Read X
version_at (Of s) version = plain.value_at s
version_at (Flag first) version = since_at (includes first version) (plain.value_at Boolean) false
version_at (a ▹ b) version = version_at a version followed_by version_at b version
version_at (Directories first a) version =
    structure_at (λ p. p.0) ((plain.value_at (Array Int32) followed_by version_at a version) followed_by since_at (includes first version) (plain.value_at (Dropped (Array Uuid))) tt)
version_at (Tagged table) version = tags_at (known table version) (absents table)

-- No constant is in it, and the tags rise.
abbrev pub is_whole : {X : Type 0} → RecordLayout X → Bool
is_whole (Of s) = plain.is_readable s
is_whole (Flag first) = true
is_whole (a ▹ b) = is_whole a && is_whole b
is_whole (Directories first a) = is_whole a
is_whole (Tagged table) = are_rising table
