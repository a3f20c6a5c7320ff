-- UnregisterBroker, key 64, version 0, after Kafka's published schemas: what its bytes and those of its reply stand for, and their layouts.
use Rattle.std.specs.Prelude.{List, ℕ, pos, None, refl}
use Rattle.std.specs.Int.{w16, w32}
use Rattle.kr_wire.specs.Grammar.{◌⌢◌, IsSigned, IsNull, NoTags}
use Rattle.kr_wire.specs.Schema.{Schema, ◌▸◌, Int16, Int32, TextOrNull, Constant, Structure, End}
use Rattle.kr_calls.specs.declared.unregister_broker.UnregisterBroker.{UnregisterBroker}
use Rattle.kr_calls.specs.declared.unregister_broker.UnregisterBrokerReply.{UnregisterBrokerReply}

-- ---- what bytes stand for

abbrev pub IsUnregisterBroker : UnregisterBroker → List ℕ → Type 0
IsUnregisterBroker q = IsSigned w32 q.broker ⌢ NoTags

-- no throttling, error, no message
abbrev pub IsUnregisterBrokerReply : UnregisterBrokerReply → List ℕ → Type 0
IsUnregisterBrokerReply p = IsSigned w32 (pos 0) ⌢ IsSigned w16 p.error ⌢ IsNull ⌢ NoTags

-- ---- the order in which they are read and written

abbrev pub unregister_broker : Schema UnregisterBroker
unregister_broker = Structure (Int32 ▸ End)
    (λ (broker, end). record { broker = broker })
    (λ q. (q.broker, tt)) (λ v. refl) (λ q. refl)

-- no throttling, error, no message
abbrev pub unregister_broker_reply : Schema UnregisterBrokerReply
unregister_broker_reply = Structure (Constant (pos 0) Int32 ▸ Int16 ▸ Constant None TextOrNull ▸ End)
    (λ (_, (error, (_, end))). record { error = error })
    (λ p. (tt, (p.error, (tt, tt)))) (λ v. refl) (λ p. refl)
