use Rattle.std.proofs.Common.{rules, ◌≡◌, ◌<◌, ◌≤◌, length, subst}
use Rattle.std.specs.Prelude.{All, get_or}
use Rattle.std.proofs.lemmas.List.{take_all}
use Rattle.std.proofs.lemmas.List.Elements.{All-more}
use Rattle.law_nodes.specs.ReadingBack.{IsHeldEntry}
use Rattle.kr_nodes.proofs.node.hold.Goals as goal

pub loop-entry-preserved : goal.loop-entry-preserved
loop-entry-preserved c = λ k d low.
    let at = c.loop-entry.entry-index in
    let entries = c.args.entries.now in
    let some : at < length entries = search rules in
    let same : c.entry-item.result ≡ get_or entries at c.entry-item.result = search rules in
    All-more IsHeldEntry entries at c.entry-item.result some c.loop-entry.invariant (subst IsHeldEntry same c.hold_entry.ensures) k d low

pub returns : goal.returns
returns c =
    let all : length c.args.entries.now ≤ c.loop-entry.entry-index = search rules in
    subst (All IsHeldEntry) (take_all c.loop-entry.entry-index c.args.entries.now all) c.loop-entry.invariant
