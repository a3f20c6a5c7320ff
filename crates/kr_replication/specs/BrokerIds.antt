-- The brokers of an image that a test accepts.
use Rattle.std.specs.Prelude.{ℤ, Bool, List, map, filter}
use Rattle.kr_defs.specs.declared.broker.Broker.{Broker}

-- their ids, in the order of these brokers
abbrev pub ids_where : (ℤ × Broker → Bool) → List (ℤ × Broker) → List ℤ
ids_where test brokers = map (λ e. e.0) (filter test brokers)
