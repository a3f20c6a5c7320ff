use Rattle.kr_calls.specs.Deciding.{apply_records}
use Rattle.kr_rules.proofs.FullImages.{full_here, more_here}
use Rattle.kr_rules.proofs.room.has_room.Goals as goal

pub returns-then-not-branch : goal.returns-then-not-branch
returns-then-not-branch g c =
    let image = c.args.seen.now in
    let records = c.args.records.now in
    full_here image.configs (apply_records image records) records c.loop-value.value-index c.value-item.result c.loop-value-test.true c.value-item.is c.loop-value.filling c.loop-value.invariant.far c.add.new.self (rw c.if-not-branch.true at c.in_ok-add.ensures)

pub loop-value-preserved : goal.loop-value-preserved
loop-value-preserved g c =
    let image = c.args.seen.now in
    let records = c.args.records.now in
    let more = more_here image.configs (apply_records image records) records c.loop-value.value-index c.value-item.result c.loop-value-test.true c.value-item.is c.loop-value.filling c.loop-value.invariant.far c.add.new.self c.loop-value.invariant.plain (rw c.if-not-branch.false at c.in_ok-add.ensures) in
    record { plain = more.0; far = more.1 }
