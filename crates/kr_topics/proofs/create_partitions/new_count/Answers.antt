use Rattle.std.proofs.Common.{arith}
use Rattle.std.proofs.lemmas.Int.{ints}
use Rattle.kr_topics.proofs.create_partitions.new_count.Goals as goal

pub returns-clause-room : goal.returns-clause-room
returns-clause-room c = omega (arith, ints)
