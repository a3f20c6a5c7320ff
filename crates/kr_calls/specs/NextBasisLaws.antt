-- Laws of the brokers that are heard of after a write (this project's own).
use Rattle.std.specs.Prelude.{◌≡◌, ℤ, Bool, true, false}
use Rattle.kr_defs.specs.declared.basis.Basis.{Basis}
use Rattle.kr_defs.specs.declared.options.Options.{Options}
use Rattle.kr_defs.specs.Heartbeats.{heard}
use Rattle.kr_defs.specs.Image.{Image}
use Rattle.kr_calls.specs.declared.calls.Request.{Request}
use Rattle.kr_calls.specs.declared.calls.Request.TheVariants as requests
use Rattle.kr_calls.specs.Decide.{Decision, decide}

-- a broker registers, beats or unregisters
abbrev pub is_of_a_broker : Request → Bool
is_of_a_broker (requests.BrokerRegistration q) = true
is_of_a_broker (requests.BrokerHeartbeat q) = true
is_of_a_broker (requests.UnregisterBroker q) = true
is_of_a_broker other = false

-- the brokers of the image, and who is heard of
pub record LeavesBrokers (basis : Basis) (image : Image) (decision : Decision) : Type 0 where
  pub registered : decision.image.brokers ≡ image.brokers
  pub heard_of : decision.heartbeats ≡ heard basis

-- Every other request leaves them as they are.
abbrev pub OtherRequestsLeaveBrokers : Type 0
OtherRequestsLeaveBrokers =
    (options : Options) (basis : Basis) (image : Image) (place : ℤ) (request : Request) → is_of_a_broker request ≡ false →
    LeavesBrokers basis image (decide options image basis place request)
