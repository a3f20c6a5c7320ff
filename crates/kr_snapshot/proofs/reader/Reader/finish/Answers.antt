use Rattle.std.proofs.Common.{Err}
use Rattle.kr_snapshot.specs.ReaderState.{taken_in}
use Rattle.kr_snapshot.proofs.ReaderSteps.{fault_stays, given_end, given_found, given_only, stands_fault, stands_open}
use Rattle.kr_snapshot.proofs.reader.Reader.finish.Goals as goal

pub returns-in-Some-clause-only : goal.returns-in-Some-clause-only
returns-in-Some-clause-only c = λ fed offset image stands is.
    given_only (Err c.in-Some.fault) fed offset image is
    (fault_stays c.in-Some.fault fed (stands_fault c.args.self c.self.inside.fault (taken_in c.self.inside.pieces) c.in-Some.fault c.self.view_is c.in-Some.is fed stands))

pub returns-in-None-clause-found : goal.returns-in-None-clause-found
returns-in-None-clause-found c = λ fed bytes stands.
    let t = taken_in c.self.inside.pieces in
    given_found c.finish.result fed bytes (given_end c.finish.result t fed (stands_open c.args.self c.self.inside.fault t c.self.view_is c.in-None.is fed stands) c.finish.ensures)

pub returns-in-None-clause-only : goal.returns-in-None-clause-only
returns-in-None-clause-only c = λ fed offset image stands is.
    let t = taken_in c.self.inside.pieces in
    given_only c.finish.result fed offset image is (given_end c.finish.result t fed (stands_open c.args.self c.self.inside.fault t c.self.view_is c.in-None.is fed stands) c.finish.ensures)

pub returns-in-None-clause-exact : goal.returns-in-None-clause-exact
returns-in-None-clause-exact c = λ fed stands.
    let t = taken_in c.self.inside.pieces in
    given_end c.finish.result t fed (stands_open c.args.self c.self.inside.fault t c.self.view_is c.in-None.is fed stands) c.finish.ensures
