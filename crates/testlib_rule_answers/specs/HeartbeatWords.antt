-- The brokers that are heard of after one operation and the next, in plain words (this project's own).
use Rattle.std.specs.Prelude.{ℕ, List, [], ◌∷◌, ◌++◌, codes}
use Rattle.std.specs.Fmt.{signed_decimal}
use Rattle.kr_defs.specs.declared.basis.Contact.{Contact}
use Rattle.kr_defs.specs.declared.basis.Stopping.{Stopping}
use Rattle.kr_defs.specs.Heartbeats.{Heartbeats, begin, beat, leave, stop, end}
use Rattle.testlib_rule_answers.specs.declared.heartbeats.Operation.{Operation}
use Rattle.testlib_rule_answers.specs.declared.heartbeats.Operation.TheVariants as operations
use Rattle.testlib_words.specs.PlainWords.{◌␣◌}

-- the lists after one operation more
abbrev pub heartbeats_with : Heartbeats → Operation → Heartbeats
heartbeats_with h (operations.Begin unfenced stopping now led) = begin unfenced stopping now led
heartbeats_with h (operations.Beat broker now offset) = beat h broker now offset
heartbeats_with h (operations.Stop broker tip) = stop h broker tip
heartbeats_with h (operations.Leave broker) = leave h broker
heartbeats_with h operations.End = end

abbrev pub contact_words : Contact → List ℕ
contact_words c = signed_decimal c.broker ++ (codes "@" ++ (signed_decimal c.time ++ (codes ":" ++ signed_decimal c.offset)))

abbrev pub stopping_words : Stopping → List ℕ
stopping_words s = signed_decimal s.broker ++ (codes "@" ++ signed_decimal s.tip)

-- each behind a comma
abbrev pub other_contacts_words : List Contact → List ℕ
other_contacts_words [] = []
other_contacts_words (c ∷ contacts) = (codes "," ++ contact_words c) ++ other_contacts_words contacts

abbrev pub contacts_words : List Contact → List ℕ
contacts_words [] = codes "-"
contacts_words (c ∷ contacts) = contact_words c ++ other_contacts_words contacts

abbrev pub other_stops_words : List Stopping → List ℕ
other_stops_words [] = []
other_stops_words (s ∷ stopping) = (codes "," ++ stopping_words s) ++ other_stops_words stopping

abbrev pub stops_words : List Stopping → List ℕ
stops_words [] = codes "-"
stops_words (s ∷ stopping) = stopping_words s ++ other_stops_words stopping

-- the two lists, a space between them
abbrev pub heartbeat_words : Heartbeats → List ℕ
heartbeat_words h = contacts_words h.contacts ␣ stops_words h.stopping
