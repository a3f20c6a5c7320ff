-- What is written for a value by a layout, in the newest version.
use Rattle.std.specs.Prelude.{ℕ, ℤ, List, ◌++◌, map}
use Rattle.kr_defs.specs.declared.record.Record.{Record}
use Rattle.kr_wire.specs.Schema as plain
use Rattle.kr_wire.specs.Spelling.{uvarint, id, list, tags}
use Rattle.kr_wire.specs.Tables.{ids, written_fields}
use Rattle.kr_record.specs.Layout.{RecordLayout, Of, Flag, ◌▹◌, Directories, Tagged, Boolean}
use Rattle.kr_record.specs.Records.{chosen}

-- one all-zero directory per replica
abbrev pub no_directories : List ℤ → List ℕ
no_directories replicas = map (λ r. 0) replicas

abbrev pub written : {X : Type 0} → RecordLayout X → X → List ℕ
written (Of s) = plain.written s
written (Flag first) = plain.written Boolean
written (a ▹ b) = λ x. written a x.0 ++ written b x.1
written (Directories first a) = λ x. (ids x.0 ++ written a x.1) ++ list id (no_directories x.0)
written (Tagged table) = λ z. tags (written_fields table z)

-- ---- a record: frame version 1, the kind's key, the version, and the layout

unfoldable pub framed : ℕ → ℕ → List ℕ
framed key version = uvarint 1 ++ uvarint key ++ uvarint version

-- the key of its kind, the version that is written, and what stands in it
unfoldable pub record_value : Record → List ℕ
record_value r = framed (chosen r).kind.key (chosen r).kind.newest ++ written (chosen r).kind.layout (chosen r).parts
