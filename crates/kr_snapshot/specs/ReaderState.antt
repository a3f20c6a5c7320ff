-- What a reader of an image holds: how far it is, and what it gives in the end.
use Rattle.std.specs.Prelude.{◌≡◌, ℕ, ℤ, pos, negsuc, ◌+◌, ◌^◌, ◌++◌, length, ◌<◌, ◌≤◌, ◌≤ℤ◌, ◌==◌, if◌then◌else◌, Bool, true, false, List, [], ◌∷◌, Option, Some, None, Result, Ok, Err}
use Rattle.std.specs.Option.{option_map, option_and_then}
use Rattle.kr_defs.specs.declared.record.Topic.{Topic}
use Rattle.kr_defs.specs.Image.{Image, empty}
use Rattle.kr_defs.specs.ImageOrder as ranks
use Rattle.kr_defs.specs.ImageOrder.{ReadSoFar}
use Rattle.kr_store.specs.Images.{Images, kept_once, no_images}
use Rattle.kr_wire.specs.Answers as answers
use Rattle.kr_batch.specs.declared.fault.BatchFault.{BatchFault}
use Rattle.kr_batch.specs.declared.fault.BatchFault.TheVariants as refusals
use Rattle.kr_snapshot.specs.declared.fault.BatchCause.TheVariants as causes
use Rattle.kr_snapshot.specs.Reading.{batch_fault_behind, Progress, Taken, extent, judged, size_at, so_far, waits}
use Rattle.kr_snapshot.specs.declared.fault.ImageFault.{ImageFault}
use Rattle.kr_snapshot.specs.declared.fault.ImageFault.TheVariants as faults
use Rattle.kr_snapshot.specs.declared.order.Section.{Section}
use Rattle.kr_snapshot.specs.declared.order.Section.TheVariants as sections
use Rattle.kr_snapshot.specs.declared.order.Rank.{Rank}
use Rattle.kr_snapshot.specs.declared.order.Order.{Order}
use Rattle.kr_snapshot.specs.declared.records.Tally.{Tally}
use Rattle.kr_snapshot.specs.declared.pieces.Body.{Body}
use Rattle.kr_snapshot.specs.declared.pieces.Pieces.{Pieces}

-- ---- answers; want of memory is free

abbrev pub is_free : ImageFault → Bool
is_free faults.NoMemory = true
is_free _ = false

abbrev pub IsFault : {Y : Type 0} → ImageFault → Result Y ImageFault → Type 0
IsFault = answers.IsFault is_free

abbrev pub Gives : {Y : Type 0} → Result Y ImageFault → Result Y ImageFault → Type 0
Gives = answers.Gives is_free

-- the call answered Ok, and what is read leads there; or it answered the fault that is read
abbrev pub LeadsTo : {Y : Type 0} → Result (Unit {0}) ImageFault → Y → Result Y ImageFault → Type 0
LeadsTo (Ok done) there read = read ≡ Ok there
LeadsTo (Err fault) there read = IsFault fault read

-- the fault of the batch behind so many records
abbrev pub fault_of_batch : ℕ → BatchFault → ImageFault
fault_of_batch found refusals.NoMemory = faults.NoMemory
fault_of_batch found fault = batch_fault_behind found (causes.Refused fault)

-- ---- the order

abbrev pub section_number : Section → ℕ
section_number sections.Features = 0
section_number sections.Brokers = 1
section_number sections.Topics = 2
section_number sections.Settings = 3

abbrev pub rank_in : Rank → ranks.Rank
rank_in r = record { section = section_number r.section; kind = r.kind; name = r.name; key = r.key; number = r.number }

abbrev pub topic_in : Option Topic → Option (List ℕ × ℕ)
topic_in topic = option_map (λ (t : Topic). (t.name, t.id)) topic

-- a partition stands with the last topic, if it is that topic's
abbrev pub partition_rank : Option (List ℕ × ℕ) → ℕ → ℤ → Option ranks.Rank
partition_rank last topic index = option_and_then (λ t. if t.1 == topic then Some (ranks.named 2 t.0 (Some index)) else None) last

abbrev pub setting_rank : ℤ → List ℕ → List ℕ → ranks.Rank
setting_rank kind name key = record { section = 3; kind = kind; name = name; key = key; number = None }

abbrev pub seen_in : Order → ReadSoFar
seen_in o = record { rank = option_map rank_in o.rank; topic = topic_in o.topic }

-- ---- records

abbrev pub progress_in : Tally → Image → Progress
progress_in r image = record { expected = r.expected; found = r.found; seen = seen_in r.order; image = image }

-- the numbers of records stay within their types
pub record HasRoom (r : Tally) : Type 0 where
  pub within : r.found ≤ r.expected
  pub fits : r.expected < 2 ^ 63

-- ---- the bytes

abbrev pub body_in : Option Body → Image → Option (ℤ × Progress)
body_in body image = option_map (λ (b : Body). (b.offset, progress_in b.tally image)) body

-- behind the head: the offset and how far the records are, with the image so far
abbrev pub standing_in : Body → Images → ℤ × Progress
standing_in b images = (b.offset, progress_in b.tally images.tip)

-- what was taken behind the head, with the bytes of the batch that isn't whole yet
abbrev pub taken_behind : Body → Images → List ℕ → Taken
taken_behind b images held = record { body = Some (standing_in b images); held = held }

-- what was taken, as the reader holds it
abbrev pub taken_in : Pieces → Taken
taken_in p = record { body = body_in p.body p.store.tip; held = p.held.items }

-- Until the head is there nothing is kept. From then on the empty image is kept below every offset, so that records can
-- be applied.
abbrev pub IsBegun : Option Body → Images → Type 0
IsBegun None images = images ≡ no_images
IsBegun (Some b) images = (images.kept ≡ (negsuc 0, empty) ∷ []) × (pos 0 ≤ℤ b.offset) × HasRoom b.tally × (images.begun ≡ None) × (images.kept_begun ≡ (negsuc 0, None) ∷ [])

-- what is true of every reader that has seen no fault: there is nothing to judge until more bytes come
pub record IsWaiting (p : Pieces) : Type 0 where
  pub begun : IsBegun p.body p.store
  pub waiting : judged (body_in p.body p.store.tip) p.held.items ≡ waits (body_in p.body p.store.tip) p.held.items

-- nothing more is judged until there are so many bytes
abbrev pub Waits : Option (ℤ × Progress) → List ℕ → ℕ → Type 0
Waits body held most = (more : List ℕ) → length held + length more < most → judged body (held ++ more) ≡ waits body (held ++ more)

-- the bytes of a batch that isn't whole
abbrev pub IsUnfinished : List ℕ → Type 0
IsUnfinished held = 12 ≤ length held → (size : ℕ) × (size_at held ≡ Ok size) × (length held < extent size)

-- the offset and the store of the image that is read, or the fault that is
abbrev pub Restores : Result (ℤ × Images) ImageFault → Result (ℤ × Image) ImageFault → Type 0
Restores (Ok x) read = (read ≡ Ok (x.0, x.1.tip)) × (x.1 ≡ kept_once x.0 x.1.tip)
Restores (Err fault) read = IsFault fault read

-- ---- a reader

-- it stands for what these bytes show, or memory has run out
abbrev pub StandsFor : Result Taken ImageFault → List ℕ → Type 0
StandsFor (Ok taken) fed = so_far fed ≡ Ok taken
StandsFor (Err fault) fed = IsFault fault (so_far fed)

abbrev pub feed_answer : Result Taken ImageFault → Result (Unit {0}) ImageFault
feed_answer (Ok taken) = Ok tt
feed_answer (Err fault) = Err fault

-- without a fault it waits for more bytes
abbrev pub IsWithoutFault : Option ImageFault → Pieces → Type 0
IsWithoutFault None p = IsWaiting p
IsWithoutFault (Some fault) p = Unit {0}

abbrev pub state_of : Option ImageFault → Taken → Result Taken ImageFault
state_of None taken = Ok taken
state_of (Some fault) taken = Err fault
