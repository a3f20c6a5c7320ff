-- Brokers that are stopping (this project's own).
use Rattle.std.specs.Prelude.{Bool, List}
use Rattle.std.specs.List.{list_all}
use Rattle.kr_defs.specs.declared.basis.Stopping.{Stopping}
use Rattle.kr_defs.specs.Image.{Image}
use Rattle.kr_calls.specs.NextBasis.{broker_is_stopping}

-- each of these brokers is stopping in the image
abbrev pub are_stopping : Image → List Stopping → Bool
are_stopping image stops = list_all (λ s. broker_is_stopping image s.broker) stops
