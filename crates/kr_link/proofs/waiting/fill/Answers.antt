use Rattle.std.proofs.Common.{◌≡◌, ◌∙◌, arith}
use Rattle.std.specs.Prelude.{None, Some}
use Rattle.kr_link.specs.Groups.{fitted}
use Rattle.kr_link.proofs.Grouping.{fits, full_group, full_rest, next_group, next_rest, none_group, none_rest}
use Rattle.kr_link.proofs.waiting.fill.Goals as goal

pub overflow_sub-room : goal.overflow_sub-room
overflow_sub-room c =
    let first : Some c.in-Some.next ≡ fitted c.loop-most.room c.loop-most.waits.items = cc in
    omega (arith, fits c.loop-most.room c.loop-most.waits.items c.in-Some.next first, c.size-room.ensures)

pub loop-most-preserved : goal.loop-most-preserved
loop-most-preserved c =
    let first : Some c.in-Some.next ≡ fitted c.loop-most.room c.loop-most.waits.items = cc in
    record {
      group = next_group c.loop-most.most c.loop-most.room c.loop-most.waits.items c.loop-most.group c.loop-most-test.true _ _ c.in-Some.next c.size-room.result first
          c.pop_fitting.ensures.rest c.in_ok-push-in-Some.ensures.ok c.size-room.ensures ∙ c.loop-most.invariant.group;
      rest = next_rest c.loop-most.most c.loop-most.room c.loop-most.waits.items c.loop-most.group c.loop-most-test.true _ c.in-Some.next c.size-room.result first
          c.pop_fitting.ensures.rest c.size-room.ensures ∙ c.loop-most.invariant.rest;
    }

pub returns-in-None-clause-group : goal.returns-in-None-clause-group
returns-in-None-clause-group c =
    let first : None ≡ fitted c.loop-most.room c.loop-most.waits.items = cc in
    none_group c.loop-most.most c.loop-most.room c.loop-most.waits.items c.loop-most.group c.loop-most-test.true _ _ first c.pop_fitting.ensures.rest c.loop-most.invariant.group

pub returns-in-None-clause-rest : goal.returns-in-None-clause-rest
returns-in-None-clause-rest c =
    let first : None ≡ fitted c.loop-most.room c.loop-most.waits.items = cc in
    none_rest c.loop-most.most c.loop-most.room c.loop-most.waits.items c.loop-most.group c.loop-most-test.true _ _ first c.pop_fitting.ensures.rest c.loop-most.invariant.rest

pub returns-clause-group : goal.returns-clause-group
returns-clause-group c = full_group c.loop-most.most c.loop-most.room c.loop-most.waits.items c.loop-most.group c.loop-most-test.false _ c.loop-most.invariant.group

pub returns-clause-rest : goal.returns-clause-rest
returns-clause-rest c = full_rest c.loop-most.most c.loop-most.room c.loop-most.waits.items c.loop-most.group c.loop-most-test.false _ c.loop-most.invariant.rest
