use Rattle.std.proofs.Common.{refl, subst, sym}
use Rattle.std.specs.Prelude.{IsSome, Option}
use Rattle.kr_defs.specs.declared.broker.Broker.{Broker}
use Rattle.kr_brokers.proofs.broker_heartbeat.step.Goals as goal

pub of_active-requires : goal.of_active-requires
of_active-requires g c = subst (λ (o : Option Broker). IsSome o) (sym c.requires) refl
