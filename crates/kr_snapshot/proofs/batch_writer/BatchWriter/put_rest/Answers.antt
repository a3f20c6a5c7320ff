use Rattle.std.proofs.Common.{◌≤◌, arith}
use Rattle.std.proofs.lemmas.Bool.Decides.{nat_tests}
use Rattle.std.proofs.lemmas.Result.{on_ok_weaker}
use Rattle.kr_snapshot.proofs.Groups.{at_rest, put_behind, put_all, put_last}
use Rattle.kr_snapshot.proofs.batch_writer.BatchWriter.put_rest.Goals as goal

pub returns-then-self-eq0-clause-body : goal.returns-then-self-eq0-clause-body
returns-then-self-eq0-clause-body c = λ done s. at_rest c.args.self.now done s (grind (arith, nat_tests))

pub returns-clause-behind : goal.returns-clause-behind
returns-clause-behind c = on_ok_weaker c.put_group.result (λ puts. put_behind _ _ puts c.requires.done c.requires.stands) c.put_group.ensures

pub returns-clause-body : goal.returns-clause-body
returns-clause-body c =
    let some : 1 ≤ c.args.self.now.count = grind (arith, nat_tests) in
    λ done s. on_ok_weaker c.put_group.result (λ puts. put_last _ _ puts done s some) c.put_group.ensures

pub returns-clause-all : goal.returns-clause-all
returns-clause-all c = λ done s. on_ok_weaker c.put_group.result (λ puts. put_all _ _ puts done s) c.put_group.ensures
