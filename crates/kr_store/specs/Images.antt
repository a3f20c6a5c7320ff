-- An image with kept epochs, and where it is looked at. This project's own.
use Rattle.std.specs.Prelude.{◌≡◌, ◌≤◌, ◌+◌, ◌*◌, ℕ, ℤ, List, length, filter, find, not, int_lt, slice_get, sum_by, take, All, IsTrue, ◌-◌, ◌++◌, [], ◌∷◌, map, Option, Some, None, IfSome, IsSome, pos, negsuc}
use Rattle.std.specs.Option.{option_map, option_map_or}
use Rattle.std.specs.Ordering.{int_cmp, int_eq}
use Rattle.std.specs.List.Sorted.{IsStrictlySortedBy}
use Rattle.kr_defs.specs.declared.broker.Broker.{Broker}
use Rattle.kr_defs.specs.declared.partition.Partition.{Partition}
use Rattle.kr_defs.specs.declared.record.ConfigKey.{ConfigKey}
use Rattle.kr_defs.specs.declared.record.Topic.{Topic}
use Rattle.kr_defs.specs.Image.{Image, IsValid, empty, config_text, topic_name}
use Rattle.kr_defs.specs.LogStates.{LogState, Opened}
use Rattle.kr_defs.specs.Map as entries
use Rattle.kr_defs.specs.Map.{text_order}
use Rattle.kr_store.specs.declared.places.At.{At}
use Rattle.kr_store.specs.declared.places.At.TheVariants as places
use Rattle.kr_store.specs.declared.places.Counts.{Counts}

pub record Images : Type 0 where
  -- each kept epoch with the image as it stood then
  pub kept : List (ℤ × Image)
  -- the present image
  pub tip : Image
  -- the calls of insert and remove since the last kept epoch
  pub made : ℕ
  -- each kept epoch with the calls between the epoch before and it; of the oldest left none count
  pub kept_made : List (ℤ × ℕ)
  -- the epoch at which the transaction began that is open at the tip
  pub begun : Option ℤ
  -- each kept epoch with that of the transaction that was open then
  pub kept_begun : List (ℤ × Option ℤ)

-- the image that is kept under the epoch
abbrev pub kept_at : Images → ℤ → Option Image
kept_at images epoch = option_map (λ (k : ℤ × Image). k.1) (find (λ (k : ℤ × Image). int_eq k.0 epoch) images.kept)

-- every open transaction began at a kept epoch, which isn't above the one where it is open
pub record AreBegun (images : Images) : Type 0 where
  pub beside : map (λ (b : ℤ × Option ℤ). b.0) images.kept_begun ≡ map (λ (k : ℤ × Image). k.0) images.kept
  pub tip : IfSome images.begun (λ begin. IsSome (kept_at images begin))
  pub kept : All (λ (b : ℤ × Option ℤ). IfSome b.1 (λ begin. IsSome (kept_at images begin) × IsTrue (not (int_lt b.0 begin)))) images.kept_begun

-- epochs rise, and every image is valid
pub record AreValid (images : Images) : Type 0 where
  pub rising : IsStrictlySortedBy int_cmp (map (λ (k : ℤ × Image). k.0) images.kept)
  pub kept : All (λ (k : ℤ × Image). IsValid k.1) images.kept
  pub tip : IsValid images.tip
  pub beside : map (λ (m : ℤ × ℕ). m.0) images.kept_made ≡ map (λ (k : ℤ × Image). k.0) images.kept
  pub begun : AreBegun images

-- the image at a place
abbrev pub image_of_place : Images → At → Option Image
image_of_place images places.Tip = Some images.tip
image_of_place images (places.Epoch epoch) = kept_at images epoch

-- ---- the transaction that is open at a place

abbrev pub begun_under : Option (ℤ × Option ℤ) → Option ℤ
begun_under kept = option_map_or (λ (b : ℤ × Option ℤ). b.1) kept None

-- the epoch at which the transaction began that was open at the kept epoch
abbrev pub begun_at : Images → ℤ → Option ℤ
begun_at images epoch = begun_under (find (λ (b : ℤ × Option ℤ). int_eq b.0 epoch) images.kept_begun)

abbrev pub begun_of_place : Images → At → Option ℤ
begun_of_place images places.Tip = images.begun
begun_of_place images (places.Epoch epoch) = begun_at images epoch

-- an epoch as a place of a log, which is never below 0
abbrev pub log_place : ℤ → ℕ
log_place (pos place) = place
log_place (negsuc n) = 0

-- the transaction that began at this epoch, with the image that is kept there
abbrev pub opened_under : Images → ℤ → Option Opened
opened_under images begin = option_map (λ (i : Image). record { place = log_place begin; image = i }) (kept_at images begin)

abbrev pub opened_at : Images → Option ℤ → Option Opened
opened_at images begun = option_map_or (opened_under images) begun None

-- the present state
abbrev pub tip_state : Images → LogState
tip_state images = record { image = images.tip; opened = opened_at images images.begun }

-- the state at a place
abbrev pub state_of_place : Images → At → Option LogState
state_of_place images place = option_map (λ (i : Image). record { image = i; opened = opened_at images (begun_of_place images place) }) (image_of_place images place)

-- ---- the maps at a place

abbrev pub brokers_at : Images → At → Option (List (ℤ × Broker))
brokers_at images place = option_map (λ (i : Image). i.brokers) (image_of_place images place)

abbrev pub topics_at : Images → At → Option (List (List ℕ × ℕ))
topics_at images place = option_map (λ (i : Image). i.topics) (image_of_place images place)

abbrev pub partitions_at : Images → At → Option (List ((ℕ × ℤ) × Partition))
partitions_at images place = option_map (λ (i : Image). i.partitions) (image_of_place images place)

abbrev pub configs_at : Images → At → Option (List (ConfigKey × List ℕ))
configs_at images place = option_map (λ (i : Image). i.configs) (image_of_place images place)

abbrev pub features_at : Images → At → Option (List (List ℕ × ℤ))
features_at images place = option_map (λ (i : Image). i.features) (image_of_place images place)

-- a topic, of which an image has the name and the id
abbrev pub topic_of : List ℕ → ℕ → Topic
topic_of name id = record { name = name; id = id }

-- the topic of this name
abbrev pub topic_under : List (List ℕ × ℕ) → List ℕ → Option Topic
topic_under topics name = option_map (λ id. topic_of name id) (entries.get text_order topics name)

-- the topic of this id
abbrev pub topic_with : List (List ℕ × ℕ) → ℕ → Option Topic
topic_with topics id = option_map (λ name. topic_of name id) (topic_name topics id)

-- a topic under its name
abbrev pub topic_entry : List ℕ × ℕ → List ℕ × Topic
topic_entry e = (e.0, topic_of e.0 e.1)

-- the topic with the least name above the given one, or the first of all
abbrev pub next_topic : List (List ℕ × ℕ) → Option (List ℕ) → Option (List ℕ × Topic)
next_topic topics after = option_map topic_entry (entries.next text_order topics after)

-- the last kept epoch with its image, if an epoch is kept
abbrev pub last_kept : Images → Option (ℤ × Image)
last_kept images = slice_get images.kept (length images.kept - 1)

abbrev pub last_image : Images → Option Image
last_image images = option_map (λ (k : ℤ × Image). k.1) (last_kept images)

-- the epoch at which the transaction began that was open at the last kept epoch
abbrev pub last_begun : Images → Option ℤ
last_begun images = begun_under (slice_get images.kept_begun (length images.kept_begun - 1))

-- how much an image has
abbrev pub counts_of : Image → Counts
counts_of image = record {
  brokers = length image.brokers;
  topics = length image.topics;
  partitions = length image.partitions;
  config_bytes = config_text image.configs;
  features = length image.features;
}

-- no epoch is kept, and the present image is empty
abbrev pub no_images : Images
no_images = record { kept = []; tip = empty; made = 0; kept_made = []; begun = None; kept_begun = [] }

-- the store of an image at an offset: it is the present image, and the one that is kept. No transaction is open in it
abbrev pub kept_once : ℤ → Image → Images
kept_once offset image = record { kept = (offset, image) ∷ []; tip = image; made = 0; kept_made = (offset, 0) ∷ []; begun = None; kept_begun = (offset, None) ∷ [] }

-- the present state is kept under the epoch
abbrev pub marked : Images → ℤ → Images
marked images epoch = record { kept = images.kept ++ (epoch, images.tip) ∷ []; tip = images.tip; made = 0; kept_made = images.kept_made ++ (epoch, images.made) ∷ []; begun = images.begun; kept_begun = images.kept_begun ++ (epoch, images.begun) ∷ [] }

-- the kept epochs above this one are dropped, and its state is the present one
abbrev pub reverted : Images → ℤ → Option Images
reverted images epoch =
    option_map (λ (tip : Image). record {
      kept = filter (λ (k : ℤ × Image). not (int_lt epoch k.0)) images.kept;
      tip = tip;
      made = 0;
      kept_made = filter (λ (m : ℤ × ℕ). not (int_lt epoch m.0)) images.kept_made;
      begun = begun_at images epoch;
      kept_begun = filter (λ (b : ℤ × Option ℤ). not (int_lt epoch b.0)) images.kept_begun;
    }) (kept_at images epoch)

-- no call counts for the oldest
abbrev pub oldest_unmade : List (ℤ × ℕ) → List (ℤ × ℕ)
oldest_unmade [] = []
oldest_unmade (oldest ∷ kept_made) = (oldest.0, 0) ∷ kept_made

-- the kept epochs below this one are dropped
abbrev pub forgotten : Images → ℤ → Images
forgotten images epoch = record images {
  kept = filter (λ (k : ℤ × Image). not (int_lt k.0 epoch)) images.kept;
  kept_made = oldest_unmade (filter (λ (m : ℤ × ℕ). not (int_lt m.0 epoch)) images.kept_made);
  kept_begun = filter (λ (b : ℤ × Option ℤ). not (int_lt b.0 epoch)) images.kept_begun;
}

-- no transaction that is open at the tip, or was at an epoch that stays, began below the epoch
pub record AreBegunFrom (images : Images) (epoch : ℤ) : Type 0 where
  pub tip : IfSome images.begun (λ begin. IsTrue (not (int_lt begin epoch)))
  pub kept : All (λ (b : ℤ × Option ℤ). IfSome b.1 (λ begin. IsTrue (not (int_lt begin epoch)))) (filter (λ (b : ℤ × Option ℤ). not (int_lt b.0 epoch)) images.kept_begun)

-- no transaction is open at the tip, nor was at the last kept epoch
pub record IsSettled (images : Images) : Type 0 where
  pub tip : images.begun ≡ None
  pub last : last_begun images ≡ None

-- the epoch is above each kept one
abbrev pub IsAbove : List (ℤ × Image) → ℤ → Type 0
IsAbove kept epoch = All (λ (k : ℤ × Image). IsTrue (int_lt k.0 epoch)) kept

-- ---- what it takes to go back to an epoch, and to drop those below one

-- the calls of these epochs
abbrev pub calls_of : List (ℤ × ℕ) → ℕ
calls_of kept_made = sum_by (λ (m : ℤ × ℕ). m.1) kept_made

-- the kept epochs above this one
abbrev pub above : Images → ℤ → List (ℤ × ℕ)
above images epoch = filter (λ (m : ℤ × ℕ). int_lt epoch m.0) images.kept_made

-- the kept epochs below this one
abbrev pub below : Images → ℤ → List (ℤ × ℕ)
below images epoch = filter (λ (m : ℤ × ℕ). int_lt m.0 epoch) images.kept_made

-- the oldest kept epoch that isn't below this one, if there is one
abbrev pub oldest_from : Images → ℤ → List (ℤ × ℕ)
oldest_from images epoch = take 1 (filter (λ (m : ℤ × ℕ). not (int_lt m.0 epoch)) images.kept_made)

-- going back counts at most this: a call that is undone is a step, and an epoch seven
abbrev pub RevertsWithin : Images → ℤ → ℕ → ℕ → Type 0
RevertsWithin images epoch before after =
    after ≤ before + calls_of (above images epoch) + images.made + 7 * length (above images epoch) + 6

-- dropping counts at most this
abbrev pub ForgetsWithin : Images → ℤ → ℕ → ℕ → Type 0
ForgetsWithin images epoch before after =
    after ≤ before + calls_of (below images epoch) + calls_of (oldest_from images epoch) + 7 * length (below images epoch) + 6
