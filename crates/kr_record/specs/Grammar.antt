-- What a record's bytes stand for.
use Rattle.std.specs.Prelude.{◌≡◌, ℕ, ◌≤◌, List}
use Rattle.kr_defs.specs.declared.record.Record.{Record}
use Rattle.kr_wire.specs.Grammar.{◌⌢◌, IsUvarint}
use Rattle.kr_record.specs.Layout.{IsInVersion}
use Rattle.kr_record.specs.Records.{OfKind, chosen}

-- the key of the kind, a version that it has, and its layout
abbrev pub IsOfKind : OfKind → ℕ → ℕ → List ℕ → Type 0
IsOfKind of key version bytes = (key ≡ of.kind.key) × (version ≤ of.kind.newest) × IsInVersion of.kind.layout version of.parts bytes

abbrev pub IsLayout : ℕ → ℕ → Record → List ℕ → Type 0
IsLayout key version r = IsOfKind (chosen r) key version

-- frame version 1, the key, the version, and the layout
pub record IsRecord (value : Record) (bytes : List ℕ) : Type 0 where
  pub key : ℕ
  pub version : ℕ
  pub spelled : (IsUvarint 1 ⌢ IsUvarint key ⌢ IsUvarint version ⌢ IsLayout key version value) bytes
