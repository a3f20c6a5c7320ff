-- What comes of a session, in six numbers.
use Rattle.std.specs.Prelude.{ℕ, ◌+◌, ℤ, List, [], ◌∷◌, ◌++◌, length, filter, codes, Bool, true, false, not}
use Rattle.std.specs.Fmt.{decimal}
use Rattle.std.specs.List.{flat_map}
use Rattle.kr_calls.specs.declared.calls.Reply.{Reply}
use Rattle.kr_calls.specs.declared.events.Entry.{Entry}
use Rattle.kr_calls.specs.declared.events.Entry.TheVariants as entries
use Rattle.kr_calls.specs.declared.events.Event.{Event}
use Rattle.kr_calls.specs.declared.events.Output.{Output}
use Rattle.kr_calls.specs.declared.events.Output.TheVariants as given
use Rattle.kr_defs.specs.declared.options.Options.{Options}
use Rattle.kr_defs.specs.declared.partition.Partition.{Partition}
use Rattle.kr_defs.specs.declared.record.Item.{Item}
use Rattle.kr_defs.specs.declared.record.Item.TheVariants as items
use Rattle.kr_defs.specs.Image.{Image}
use Rattle.kr_model.specs.Entries.{log_entries}
use Rattle.kr_model.specs.Events.{happens, state}
use Rattle.kr_model.specs.Outputs.{outputs}
use Rattle.kr_model.specs.World.{State, image_of_tip, start}
use Rattle.kr_workload.specs.declared.summary.Summary.{Summary}
use Rattle.kr_workload.specs.Replies.{is_ok}
use Rattle.kr_workload.specs.Requests.{has_leader}
use Rattle.kr_workload.specs.Session.{options}

-- ---- records: what the events add to the log

abbrev pub is_record_item : Item → Bool
is_record_item (items.Record r) = true
is_record_item items.Control = false

unfoldable pub is_record : Entry → Bool
is_record (entries.Item place item) = is_record_item item
is_record other = false

-- the events' records, behind a state
abbrev pub event_records : Options → State → List Event → ℕ
event_records options s [] = 0
event_records options s (event ∷ events) = length (filter is_record (log_entries options s event)) + event_records options (happens options s event) events

-- ---- replies

abbrev pub reply_of_output : Output → List Reply
reply_of_output (given.Reply client correlation reply) = reply ∷ []
reply_of_output other = []

abbrev pub replies_of : List Output → List Reply
replies_of outputs = flat_map reply_of_output outputs

abbrev pub replies : Options → List Event → List Reply
replies options events = replies_of (flat_map (λ outputs. outputs) (outputs options events))

-- ---- partitions with a leader

abbrev pub is_led_entry : (ℕ × ℤ) × Partition → Bool
is_led_entry e = has_leader e.1

abbrev pub led_of : Image → ℕ
led_of image = length (filter is_led_entry image.partitions)

-- ---- all of them

unfoldable pub summary : Options → List Event → Summary
summary options events = record {
  events = length events;
  records = event_records options start events;
  kept = (state options events).world.committed;
  ok = length (filter is_ok (replies options events));
  refused = length (filter (λ reply. not (is_ok reply)) (replies options events));
  led = led_of (image_of_tip (state options events));
}

-- a word, a space and a number
abbrev pub number_line : List ℕ → ℕ → List ℕ
number_line word number = word ++ codes " " ++ decimal number ++ codes "\n"

unfoldable pub summary_text : Summary → List ℕ
summary_text s =
    number_line (codes "events") s.events ++ number_line (codes "records") s.records ++ number_line (codes "kept") s.kept
    ++ number_line (codes "ok") s.ok ++ number_line (codes "refused") s.refused ++ number_line (codes "led") s.led
