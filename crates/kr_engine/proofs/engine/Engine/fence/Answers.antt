use Rattle.kr_engine.proofs.Fencings.{advances_by, fences_by}
use Rattle.kr_engine.proofs.engine.Engine.fence.Goals as goal

pub returns-clause-fences : goal.returns-clause-fences
returns-clause-fences g c =
    fences_by c.args.self.now c.fencing_records.new.self c.append.new.self c.args.broker.now c.in_ok-records.records
    c.requires.valid c.in_ok-records.ensures.records c.in_ok-records.ensures.image c.in_ok-records.ensures.kept c.in_ok-records.ensures.made c.in_ok-records.ensures.calls c.in_ok-records.ensures.begins c.in_ok-records.ensures.settled c.in_ok-records.ensures.same c.in_ok-append.ensures.appended

pub returns-clause-counted : goal.returns-clause-counted
returns-clause-counted g c =
    advances_by c.args.self.now c.append.new.self c.args.broker.now c.in_ok-records.records c.args.steps.now c.fencing_records.new.steps c.in_ok-records.ensures.records c.in_ok-records.ensures.counted (returns-clause-fences g c)
