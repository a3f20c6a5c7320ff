use Rattle.std.proofs.Common.{◌≡◌, ◌++◌, take}
use Rattle.kr_timeline.proofs.restoration.list_keys.Given as goal

abbrev pub invariant-loop-key : goal.invariant-loop-key
invariant-loop-key g l = l.keys.items ≡ l.initial.keys.items ++ take l.key-index l.more.items
