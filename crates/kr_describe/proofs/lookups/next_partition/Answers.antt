use Rattle.std.proofs.Common.{◌∙◌, w32}
use Rattle.std.proofs.lemmas.Int.{to_z-of_z}
use Rattle.kr_describe.proofs.Going.{no_memory}
use Rattle.kr_describe.proofs.LookedUp.{partition_next}
use Rattle.kr_describe.proofs.lookups.next_partition.Goals as goal

pub returns-clause-partition : goal.returns-clause-partition
returns-clause-partition g c =
    let own = to_z-of_z w32 c.args.index c.ranges.index in
    let found = rw c.in_ok-copied.ensures at c.in_ok-found.ensures.next in
    c.in_ok-partition_in.ensures.partition ∙ partition_next _ c.args.name.now c.args.id.now c.args.index _ c.requires.steady.valid c.requires.named (rw own at found)

pub returns-in_err-copied-clause-went : goal.returns-in_err-copied-clause-went
returns-in_err-copied-clause-went g c = no_memory g.R.RecordReader.reading g.R.RecordReader.with_reading c.args.steady.now c.args.reader.now c.from_residual.result c.requires.steady c.from_residual.ensures.1
