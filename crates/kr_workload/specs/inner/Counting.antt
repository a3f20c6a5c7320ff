-- What is counted while events happen.
use Rattle.std.specs.Prelude.{ℕ, ◌+◌, ◌-◌, ◌^◌, min, List, length, filter, fold, if◌then◌else◌}
use Rattle.kr_calls.specs.declared.calls.Reply.{Reply}
use Rattle.kr_calls.specs.declared.events.Entry.{Entry}
use Rattle.kr_calls.specs.declared.events.Output.{Output}
use Rattle.kr_calls.specs.declared.events.Output.TheVariants as given
use Rattle.kr_defs.specs.declared.partition.Partition.{Partition}
use Rattle.kr_workload.specs.declared.tally.Tally.{Tally}
use Rattle.kr_workload.specs.Replies.{is_ok}
use Rattle.kr_workload.specs.Requests.{has_leader}
pub use Rattle.kr_workload.specs.Summary.{is_record}

-- a count of 64 bits stays at the greatest
abbrev pub capped_sum : ℕ → ℕ → ℕ
capped_sum count n = min (count + n) (2 ^ 64 - 1)

abbrev pub no_tally : Tally
no_tally = record { events = 0; records = 0; ok = 0; refused = 0 }

abbrev pub with_appended : Tally → List Entry → Tally
with_appended tally entries = record tally { events = capped_sum tally.events 1; records = capped_sum tally.records (length (filter is_record entries)) }

abbrev pub with_counted_reply : Tally → Reply → Tally
with_counted_reply tally reply = if is_ok reply then record tally { ok = capped_sum tally.ok 1 } else record tally { refused = capped_sum tally.refused 1 }

abbrev pub with_output : Tally → Output → Tally
with_output tally (given.Reply client correlation reply) = with_counted_reply tally reply
with_output tally other = tally

abbrev pub with_outputs : Tally → List Output → Tally
with_outputs tally outputs = fold with_output tally outputs

-- one more, where the partition has a leader
abbrev pub led_with : ℕ → Partition → ℕ
led_with led p = if has_leader p then led + 1 else led
