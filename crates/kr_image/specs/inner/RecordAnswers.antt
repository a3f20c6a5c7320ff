-- What a call answers that applies a record to the timelines.
use Rattle.std.specs.Prelude.{◌≡◌, ℕ, ◌+◌, ◌≤◌, ◌==◌, List, Result, Ok, Err, count_by, filter, not}
use Rattle.kr_defs.specs.declared.ill.Ill.{Ill}
use Rattle.kr_defs.specs.Apply.{is_setting_of}
use Rattle.kr_defs.specs.Image.{Image}
use Rattle.kr_defs.specs.Weight.{partitions_removed}
use Rattle.kr_image.specs.declared.timelines.ChangeFault.{ChangeFault}
use Rattle.kr_image.specs.declared.timelines.ChangeFault.TheVariants as faults
use Rattle.kr_image.specs.declared.timelines.Timelines.{Timelines}
use Rattle.kr_image.specs.Timelines.{present_image}

abbrev pub IsFault : Timelines → Timelines → ChangeFault → Result Image Ill → Type 0
IsFault before after (faults.IllFormed cause) meaning = (meaning ≡ Err cause) × (after ≡ before)
IsFault before after faults.NoMemory meaning = Unit {0}

-- the present image is the record's meaning, or it has none and nothing has changed
abbrev pub Changes : Timelines → Timelines → Result (Unit {0}) ChangeFault → Result Image Ill → Type 0
Changes before after (Ok done) meaning = meaning ≡ Ok (present_image after)
Changes before after (Err fault) meaning = IsFault before after fault meaning

-- the image without what a topic has: its partitions and its settings
abbrev pub without_parts : Image → List ℕ → ℕ → Image
without_parts image name id = record image {
  partitions = filter (λ e. not (e.0.0 == id)) image.partitions;
  configs = filter (λ e. not (is_setting_of name e.0)) image.configs;
}

-- so many calls more at most, one for each of its partitions and settings
abbrev pub PartsGo : Image → List ℕ → ℕ → ℕ → ℕ → Type 0
PartsGo image name id made made' = made' ≤ made + partitions_removed image id + count_by (λ e. is_setting_of name e.0) image.configs
