-- Kafka's BrokerRegistration, version 3 (KIP-631; KIP-966's previous broker epoch). That a registration takes the broker
-- out, and what is refused in which order, is this project's own.
use Rattle.std.specs.Prelude.{ℤ, pos, negsuc, int_lt, Bool, true, false, not, ◌&&◌, ◌||◌, ◌==◌, List, [], ◌∷◌, length, Option, Some, None, Result, Ok, bytes_eq}
use Rattle.std.specs.Option.{option_map_or}
use Rattle.std.specs.Ordering.{int_cmp, int_eq}
use Rattle.kr_defs.specs.declared.broker.Broker.{Broker}
use Rattle.kr_defs.specs.declared.options.Options.{Options}
use Rattle.kr_defs.specs.declared.record.Record.{Record}
use Rattle.kr_defs.specs.Map as entries
use Rattle.kr_defs.specs.declared.record.Record.TheVariants as kinds
use Rattle.kr_defs.specs.Guard.{refuse◌when◌else◌}
use Rattle.kr_defs.specs.Heartbeats.{Heartbeats, valid}
use Rattle.kr_defs.specs.Image.{Image}
use Rattle.kr_calls.specs.declared.errors.TheConstants.{DUPLICATE_BROKER_REGISTRATION, INCONSISTENT_CLUSTER_ID, INVALID_REQUEST}
use Rattle.kr_calls.specs.declared.broker_registration.BrokerRegistration.{BrokerRegistration}
use Rattle.kr_calls.specs.declared.broker_registration.BrokerRegistrationReply.{BrokerRegistrationReply}
use Rattle.kr_calls.specs.declared.calls.Reply.{Reply}
use Rattle.kr_calls.specs.declared.deciding.Draft.{Draft}
use Rattle.kr_calls.specs.declared.calls.Reply.TheVariants as replies
use Rattle.kr_calls.specs.Deciding.{Work, nothing_decided, one}
use Rattle.kr_calls.specs.TakingOut.{taken_out}

-- a refused registration has no epoch
abbrev pub refused : ℤ → BrokerRegistration → BrokerRegistrationReply
refused error request = record { error = error; epoch = negsuc 0 }

-- the registration that is asked for: fenced, not stopping, with its place as its epoch
abbrev pub registration : BrokerRegistration → ℤ → Broker
registration request place = record {
  epoch = place;
  incarnation = request.incarnation;
  endpoints = request.listeners;
  features = request.features;
  rack = request.rack;
  fenced = true;
  stopping = false;
}

-- another incarnation of the broker stands
abbrev pub is_other : Image → BrokerRegistration → Bool
is_other image request =
    option_map_or (λ old. not (old.incarnation == request.incarnation)) (entries.get int_cmp image.brokers request.broker) false

-- another incarnation is in contact
abbrev pub is_taken : Options → ℤ → Heartbeats → Image → BrokerRegistration → Bool
is_taken options time heartbeats image request =
    valid heartbeats request.broker time options.session_ms && is_other image request

-- An earlier registration's broker is taken out, as restarted where it isn't the one that the broker was shut down from.
abbrev pub earlier_taken_out : ℤ → Image → BrokerRegistration → Option Broker → List Record
earlier_taken_out minimum image request None = []
earlier_taken_out minimum image request (Some old) =
    taken_out minimum image request.broker (not (int_eq request.previous_epoch old.epoch))

abbrev pub registered : Options → Image → ℤ → BrokerRegistration → Draft BrokerRegistrationReply
registered options image place request = record {
  records =
      kinds.RegisterBroker request.broker (registration request place)
      ∷ earlier_taken_out options.minimum image request (entries.get int_cmp image.brokers request.broker);
  answer = record { error = pos 0; epoch = place };
}

abbrev pub rule : Options → ℤ → Heartbeats → Image → ℤ → BrokerRegistration → Result (Draft BrokerRegistrationReply) ℤ
rule options time heartbeats image place request =
    refuse INCONSISTENT_CLUSTER_ID when not (bytes_eq request.cluster options.cluster) else
    refuse INVALID_REQUEST when int_lt request.broker (pos 0) || request.migrating || length request.listeners == 0 else
    refuse DUPLICATE_BROKER_REGISTRATION when is_taken options time heartbeats image request else
    Ok (registered options image place request)

unfoldable pub decided : Options → ℤ → Heartbeats → Image → ℤ → BrokerRegistration → Work × Reply
decided options time heartbeats image place request =
    let d = one refused (rule options time heartbeats) (nothing_decided place image) request in (d.0, replies.BrokerRegistration d.1)
