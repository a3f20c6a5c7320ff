-- DeleteTopics, key 20, version 6, after Kafka's published schemas: what its bytes and those of its reply stand for, and their layouts.
use Rattle.std.specs.Prelude.{List, ℕ, pos, None, refl}
use Rattle.std.specs.Int.{w16, w32}
use Rattle.kr_wire.specs.Grammar.{◌⌢◌, IsSigned, IsId, IsTextOrNull, IsNull, IsList, IsDropped, NoTags}
use Rattle.kr_wire.specs.Schema.{Schema, ◌▸◌, Int16, Int32, Uuid, TextOrNull, Array, Dropped, Constant, Structure, End}
use Rattle.kr_calls.specs.declared.delete_topics.DeleteTopicState.{DeleteTopicState}
use Rattle.kr_calls.specs.declared.delete_topics.DeleteTopics.{DeleteTopics}
use Rattle.kr_calls.specs.declared.delete_topics.DeletableTopicResult.{DeletableTopicResult}
use Rattle.kr_calls.specs.declared.delete_topics.DeleteTopicsReply.{DeleteTopicsReply}

-- ---- what bytes stand for

abbrev pub IsDeleteTopicState : DeleteTopicState → List ℕ → Type 0
IsDeleteTopicState t = IsTextOrNull t.name ⌢ IsId t.topic ⌢ NoTags

-- the timeout is dropped
abbrev pub IsDeleteTopics : DeleteTopics → List ℕ → Type 0
IsDeleteTopics q = IsList IsDeleteTopicState q.topics ⌢ IsDropped (IsSigned w32) ⌢ NoTags

-- no message at the end
abbrev pub IsDeletableTopicResult : DeletableTopicResult → List ℕ → Type 0
IsDeletableTopicResult t = IsTextOrNull t.name ⌢ IsId t.topic ⌢ IsSigned w16 t.error ⌢ IsNull ⌢ NoTags

-- no throttling first
abbrev pub IsDeleteTopicsReply : DeleteTopicsReply → List ℕ → Type 0
IsDeleteTopicsReply p = IsSigned w32 (pos 0) ⌢ IsList IsDeletableTopicResult p.responses ⌢ NoTags

-- ---- the order in which they are read and written

abbrev pub delete_topic_state : Schema DeleteTopicState
delete_topic_state = Structure (TextOrNull ▸ Uuid ▸ End)
    (λ (name, (topic, end)). record { name = name; topic = topic })
    (λ t. (t.name, (t.topic, tt))) (λ v. refl) (λ t. refl)

-- the timeout is dropped
abbrev pub delete_topics : Schema DeleteTopics
delete_topics = Structure (Array delete_topic_state ▸ Dropped Int32 ▸ End)
    (λ (topics, (_, end)). record { topics = topics })
    (λ q. (q.topics, (tt, tt))) (λ v. refl) (λ q. refl)

-- no message at the end
abbrev pub deletable_topic_result : Schema DeletableTopicResult
deletable_topic_result = Structure (TextOrNull ▸ Uuid ▸ Int16 ▸ Constant None TextOrNull ▸ End)
    (λ (name, (topic, (error, (_, end)))). record { name = name; topic = topic; error = error })
    (λ t. (t.name, (t.topic, (t.error, (tt, tt))))) (λ v. refl) (λ t. refl)

-- no throttling first
abbrev pub delete_topics_reply : Schema DeleteTopicsReply
delete_topics_reply = Structure (Constant (pos 0) Int32 ▸ Array deletable_topic_result ▸ End)
    (λ (_, (responses, end)). record { responses = responses })
    (λ p. (tt, (p.responses, tt))) (λ v. refl) (λ p. refl)
