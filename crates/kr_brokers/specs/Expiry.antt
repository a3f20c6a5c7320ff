-- A broker is fenced as its session has expired.
use Rattle.std.specs.Prelude.{◌≡◌, ℤ, List, Some, Result, OnOk}
use Rattle.std.specs.Ordering.{int_cmp}
use Rattle.kr_defs.specs.declared.broker.Broker.{Broker}
use Rattle.kr_defs.specs.declared.record.Record.{Record}
use Rattle.kr_defs.specs.Image.{Image}
use Rattle.kr_defs.specs.Map as entries
use Rattle.kr_calls.specs.TakingOut.{fencing}

-- where the answer is Ok, these are the records that fence the broker as it is registered
abbrev pub FencesExpired : {X E : Type 0} → Result X E → ℤ → Image → ℤ → List Record → Type 0
FencesExpired result minimum image broker records =
    (state : Broker) → entries.get int_cmp image.brokers broker ≡ Some state
    → OnOk result (records ≡ fencing minimum image broker state.epoch)
