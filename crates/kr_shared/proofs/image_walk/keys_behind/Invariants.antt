use Rattle.std.proofs.Common.{◌≡◌, drop, fold}
use Rattle.kr_shared.specs.KeysBehind.{key_behind}
use Rattle.kr_shared.proofs.image_walk.keys_behind.Given as goal

abbrev pub invariant-loop-value : goal.invariant-loop-value
invariant-loop-value l = fold key_behind l.key (drop l.value-index l.records) ≡ fold key_behind l.initial.key l.records
