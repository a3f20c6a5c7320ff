use Rattle.std.proofs.Common.{◌≡◌}
use Rattle.std.proofs.Math.ListN.{replicate}
use Rattle.kr_defs.specs.declared.record.Item.TheVariants as items
use Rattle.kr_batch.proofs.decoding.controls.Given as goal

abbrev pub invariant-loop : goal.invariant-loop
invariant-loop l = l.list.items ≡ replicate l.counter items.Control
