use Rattle.std.proofs.Common.{◌≡◌, ◌++◌, ℕ, List, drop}
use Rattle.std.specs.Prelude.{filter, bytes_eq, not}
use Rattle.std.specs.List.{list_any}
use Rattle.kr_configs.proofs.parts.others.Given as goal

abbrev pub invariant-loop-part : goal.invariant-loop-part
invariant-loop-part l =
    let stays = λ (part : List ℕ). not (list_any (bytes_eq part) l.those) in
    l.left ++ filter stays (drop l.part-index l.parts) ≡ filter stays l.parts
