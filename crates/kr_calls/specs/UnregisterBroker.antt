-- Kafka's UnregisterBroker, version 0 (KIP-631).
use Rattle.std.specs.Prelude.{ℤ, pos, true, ◌∷◌, Result, Ok}
use Rattle.std.specs.Ordering.{int_cmp}
use Rattle.kr_defs.specs.declared.options.Options.{Options}
use Rattle.kr_defs.specs.Map as entries
use Rattle.kr_defs.specs.declared.record.Record.TheVariants as kinds
use Rattle.kr_defs.specs.Guard.{found}
use Rattle.kr_defs.specs.Image.{Image}
use Rattle.kr_calls.specs.declared.errors.TheConstants.{BROKER_ID_NOT_REGISTERED}
use Rattle.kr_calls.specs.declared.unregister_broker.UnregisterBroker.{UnregisterBroker}
use Rattle.kr_calls.specs.declared.unregister_broker.UnregisterBrokerReply.{UnregisterBrokerReply}
use Rattle.kr_calls.specs.declared.calls.Reply.{Reply}
use Rattle.kr_calls.specs.declared.deciding.Draft.{Draft}
use Rattle.kr_calls.specs.declared.calls.Reply.TheVariants as replies
use Rattle.kr_calls.specs.Deciding.{Work, nothing_decided, one}
use Rattle.kr_calls.specs.TakingOut.{taken_out}

abbrev pub refused : ℤ → UnregisterBroker → UnregisterBrokerReply
refused error request = record { error = error }

-- the registration goes, and then the broker is taken out as restarted
abbrev pub rule : Options → Image → ℤ → UnregisterBroker → Result (Draft UnregisterBrokerReply) ℤ
rule options image place request = found BROKER_ID_NOT_REGISTERED (entries.get int_cmp image.brokers request.broker) (λ old. Ok (record {
  records = kinds.UnregisterBroker request.broker old.epoch ∷ taken_out options.minimum image request.broker true;
  answer = record { error = pos 0 };
}))

unfoldable pub decided : Options → Image → ℤ → UnregisterBroker → Work × Reply
decided options image place request =
    let d = one refused (rule options) (nothing_decided place image) request in (d.0, replies.UnregisterBroker d.1)
