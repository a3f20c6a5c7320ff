use Rattle.std.proofs.Common.{◌≡◌, ◌∙◌, ◌+◌, ◌++◌, ap, drop, length, take}
use Rattle.kr_flow.proofs.Holding.{read_behind_first, whole}
use Rattle.kr_flow.proofs.held.read_grown.Goals as goal

pub returns-in-Ok : goal.returns-in-Ok
returns-in-Ok g c =
    let into = c.read_behind.new.into in
    let all : take c.args.held.now.len (into ++ drop (length into) c.args.held.now.items) ≡ into = whole c.args.held.now.len into (drop (length into) c.args.held.now.items) (c.read_behind.ensures.len ∙ c.as_mut_slice.ensures.len) in
    read_behind_first _ _ _ into _ c.args.len c.in-Ok.count (c.read_behind.ensures.before ∙ ap (take c.args.len) c.as_mut_slice.ensures.value) c.in-Ok.ensures.bytes (c.truncate.ensures.items ∙ ap (take (c.args.len + c.in-Ok.count)) all)
