use Rattle.kr_brokers.proofs.elections.build_unfenced.Goals as goal

pub returns : goal.returns
returns g c = rw c.active_with_test-test.ensures at c.build_with.ensures
