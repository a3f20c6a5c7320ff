use Rattle.std.proofs.Common.{◌+◌, ◌≤◌, length, arith}
use Rattle.std.proofs.lemmas.Result.{err_from_is_err_and}
use Rattle.kr_snapshot.specs.ReaderState.{body_in}
use Rattle.kr_snapshot.proofs.ReaderSteps.{part_fault, part_taken}
use Rattle.kr_snapshot.proofs.pieces.Pieces.take_some.Goals as goal

pub returns-in_err-judge-clause-fault : goal.returns-in_err-judge-clause-fault
returns-in_err-judge-clause-fault c =
    let p = err_from_is_err_and c.from_residual-in_err-judge.result c.from_residual-in_err-judge.ensures.1 in
    let some : 1 ≤ length c.split_at.result.0.now = omega (arith, c.goal.ensures.more, c.requires.some, c.split_at.ensures.front_len) in
    let room : length c.args.self.now.held.items + length c.split_at.result.0.now ≤ c.goal.result = omega (arith, c.goal.ensures.more, c.split_at.ensures.front_len) in
    rw (p.1, p.2)
    (part_fault (body_in c.args.self.now.body c.args.self.now.store.tip) c.args.self.now.held.items c.split_at.result.0.now c.split_at.result.1.now c.args.piece.now c.goal.result
    c.split_at.ensures.by_index.0 c.goal.ensures.waits some room c.in_err-judge.field-0.0 (rw c.in_ok-extend_from_slice.ensures.items at c.in_err-judge.ensures.read))

pub returns-clause-read : goal.returns-clause-read
returns-clause-read c =
    let some : 1 ≤ length c.split_at.result.0.now = omega (arith, c.goal.ensures.more, c.requires.some, c.split_at.ensures.front_len) in
    let room : length c.args.self.now.held.items + length c.split_at.result.0.now ≤ c.goal.result = omega (arith, c.goal.ensures.more, c.split_at.ensures.front_len) in
    part_taken (body_in c.args.self.now.body c.args.self.now.store.tip) c.args.self.now.held.items c.split_at.result.0.now c.split_at.result.1.now c.args.piece.now c.goal.result
    c.split_at.ensures.by_index.0 c.goal.ensures.waits some room _ (rw c.in_ok-extend_from_slice.ensures.items at c.in_ok-judge.ensures.read)
