use Rattle.std.proofs.Common.{◌≡◌, ◌∙◌, sym, ap, arith, ◌-◌, List, [], ◌∷◌, ◌++◌}
use Rattle.std.specs.Prelude.{None, Some}
use Rattle.law_quorum.specs.Batches.{Batch}
use Rattle.law_core.specs.Core.{AppendGroup}
use Rattle.kr_link.proofs.Grouping.{group_of_first, none_grouped, none_left, none_popped, one_popped, rest_of_first}
use Rattle.kr_link.proofs.waiting.take_group.Goals as goal

pub returns-in-None-clause-group : goal.returns-in-None-clause-group
returns-in-None-clause-group c =
    let none : c.pop_front.result ≡ None = cc in
    c.new-group.ensures ∙ sym (ap (λ (g : AppendGroup). g.0)
    (none_grouped c.args.waits.now.items (none_popped c.args.waits.now.items c.pop_front.result (λ d some. c.pop_front.ensures.value d (omega (arith, c.args.waits.now.ok))) none)))

pub returns-in-None-clause-rest : goal.returns-in-None-clause-rest
returns-in-None-clause-rest c =
    let none : c.pop_front.result ≡ None = cc in
    sym (none_left c.args.waits.now.items _ c.pop_front.result c.pop_front.ensures.items none)
    ∙ sym (ap (λ (g : AppendGroup). g.1)
    (none_grouped c.args.waits.now.items (none_popped c.args.waits.now.items c.pop_front.result (λ d some. c.pop_front.ensures.value d (omega (arith, c.args.waits.now.ok))) none)))

pub returns-in_ok-fill-in-Some-clause-group : goal.returns-in_ok-fill-in-Some-clause-group
returns-in_ok-fill-in-Some-clause-group c =
    let some : c.pop_front.result ≡ Some c.in-Some.first = cc in
    let room : c.saturating_sub-room.result ≡ 1048576 - c.size.result = c.saturating_sub-room.ensures in
    let one : c.push.new.self ≡ c.in-Some.first ∷ [] = c.in_ok-push-in-Some.ensures.ok ∙ ap (λ (bs : List Batch). bs ++ c.in-Some.first ∷ []) c.new-group.ensures in
    group_of_first c.args.waits.now.items _ c.in-Some.first c.saturating_sub-room.result (one_popped c.args.waits.now.items _ c.in-Some.first c.pop_front.result c.pop_front.ensures.items some)
    (rw c.size.ensures at room) _ _ one c.in_ok-fill-in-Some.ensures.group

pub returns-in_ok-fill-in-Some-clause-rest : goal.returns-in_ok-fill-in-Some-clause-rest
returns-in_ok-fill-in-Some-clause-rest c =
    let some : c.pop_front.result ≡ Some c.in-Some.first = cc in
    let room : c.saturating_sub-room.result ≡ 1048576 - c.size.result = c.saturating_sub-room.ensures in
    rest_of_first c.args.waits.now.items _ c.in-Some.first c.saturating_sub-room.result (one_popped c.args.waits.now.items _ c.in-Some.first c.pop_front.result c.pop_front.ensures.items some)
    (rw c.size.ensures at room) _ c.in_ok-fill-in-Some.ensures.rest
