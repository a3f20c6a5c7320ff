use Rattle.std.proofs.Common.{◌≡◌, ◌-◌}
use Rattle.kr_wire.specs.Reading.{fields_at, tags_at}
use Rattle.kr_wire.specs.Tables.{absents, known}
use Rattle.kr_record.proofs.parts.read_tags.Given as goal

abbrev pub invariant-loop : goal.invariant-loop
invariant-loop g l = fields_at (known g.F.Fields.table l.version) (l.count - l.counter) l.last l.value l.from ≡ tags_at (known g.F.Fields.table l.version) (absents g.F.Fields.table) l.fn.from
