use Rattle.std.proofs.Common.{◌≡◌, length, List, ℕ}
use Rattle.std.specs.List.{list_any}
use Rattle.std.specs.Option.{option_copied}
use Rattle.kr_defs.specs.Map.{above, text_order}
use Rattle.kr_defs.specs.Texts.{names_agree}
use Rattle.kr_replication.proofs.collision.has_agreeing_name.Given as goal

abbrev pub invariant-loop-next : goal.invariant-loop-next
invariant-loop-next g l =
    let topics = l.seen.topics in
    let test = λ (topic : List ℕ × ℕ). names_agree topic.0 l.name in
    list_any test topics ≡ list_any test (above text_order topics (option_copied l.after))

abbrev pub decreases-loop-next : goal.decreases-loop-next
decreases-loop-next g l = length (above text_order l.seen.topics (option_copied l.after))
