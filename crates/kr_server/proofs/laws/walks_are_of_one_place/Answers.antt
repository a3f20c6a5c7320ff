use Rattle.kr_server.proofs.Walks.{neighbours_go_on, walks_join}
use Rattle.kr_server.proofs.laws.walks_are_of_one_place.Goals as goal

pub returns-clause-neighbours : goal.returns-clause-neighbours
returns-clause-neighbours c = neighbours_go_on

pub returns-clause-walks : goal.returns-clause-walks
returns-clause-walks c = walks_join c.empty_is_valid.ensures
