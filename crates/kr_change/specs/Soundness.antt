-- The first replica in turn that may lead without loss (KIP-966).
use Rattle.std.specs.Prelude.{ℤ, List, Option, find}
use Rattle.kr_defs.specs.declared.partition.Partition.{Partition}
use Rattle.kr_defs.specs.declared.changing.Mode.{Mode}
use Rattle.kr_defs.specs.declared.changing.Facts.{Facts}
use Rattle.kr_defs.specs.Elect.{is_sound, in_turn}

-- in sync and active: in mode Preferred the first replica, then the present leader, then all replicas
abbrev pub first_sound : Partition → List ℤ → List ℤ → Mode → Option ℤ → Facts → Option ℤ
first_sound p replicas in_sync mode restarted facts =
    find (is_sound p replicas in_sync mode restarted facts) (in_turn p replicas in_sync mode restarted facts)
