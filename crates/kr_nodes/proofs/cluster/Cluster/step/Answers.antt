use Rattle.std.proofs.Common.{refl}
use Rattle.kr_nodes.proofs.Agreements.{agrees, are_idle, still_ready}
use Rattle.kr_nodes.proofs.cluster.Cluster.step.Goals as goal

pub make-result-requires-clause-idle : goal.make-result-requires-clause-idle
make-result-requires-clause-idle c = are_idle c.args.self.now c.requires.ready c.if-self.false

pub returns-clause-agrees : goal.returns-clause-agrees
returns-clause-agrees c = λ running.
    let made = c.make-result.new.self in
    let after = record made { spent = c.is_memory-self.result } in
    agrees after (still_ready c.args.self.now made after c.args.turn c.make-result.result c.make-result.ensures refl refl refl c.is_memory-self.ensures c.requires.ready c.if-self.false running)

pub returns-clause-ready : goal.returns-clause-ready
returns-clause-ready c =
    let made = c.make-result.new.self in
    still_ready c.args.self.now made (record made { spent = c.is_memory-self.result }) c.args.turn c.make-result.result c.make-result.ensures refl refl refl c.is_memory-self.ensures c.requires.ready c.if-self.false
