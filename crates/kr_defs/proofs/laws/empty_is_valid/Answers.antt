use Rattle.std.proofs.Common.{refl, arith}
use Rattle.std.proofs.lemmas.List.Elements.{All-nil}
use Rattle.std.specs.List.Sorted.{IsStrictlySortedBy}
use Rattle.kr_defs.specs.Image.{IsValid, empty}
use Rattle.kr_defs.proofs.laws.empty_is_valid.Goals as goal

valid : IsValid empty
unfolding IsStrictlySortedBy
valid = record {
  brokers = record { ordered = tt; numbers = All-nil _; small = All-nil _; few = omega arith };
  topics = record { ordered = tt; names = All-nil _; ids = All-nil _; distinct = refl; few = omega arith };
  partitions = record { ordered = tt; owned = All-nil _; indexes = All-nil _; well_formed = All-nil _; few = omega arith };
  configs = record { ordered = tt; little = omega arith };
  features = record { ordered = tt; levels = All-nil _; short = All-nil _; few = omega arith };
}

pub returns : goal.returns
returns c = valid
