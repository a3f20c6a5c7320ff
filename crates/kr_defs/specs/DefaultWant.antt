-- What is asked of a partition where nothing is named: its own lists (this project's own).
use Rattle.std.specs.Prelude.{None}
use Rattle.kr_defs.specs.declared.partition.Partition.{Partition}
use Rattle.kr_defs.specs.declared.changing.Mode.TheVariants as modes
use Rattle.kr_defs.specs.declared.changing.Want.{Want}

-- no leader is preferred, and no broker has restarted
abbrev pub default_want : Partition → Want
default_want p = record {
  replicas = p.replicas;
  adding = p.adding;
  removing = p.removing;
  in_sync = p.in_sync;
  recovery = p.recovery;
  mode = modes.Plain;
  restarted = None;
}
