-- How a write is decided: its entries are taken in order, and each sees the image after the records of the earlier ones (this project's own).
use Rattle.std.specs.Prelude.{◌≡◌, ◌+◌, ◌+ℤ◌, ℕ, ℤ, pos, Bool, true, ◌&&◌, nat_le, cond, List, [], ◌∷◌, ◌++◌, length, sum_by, Option, Some, None, Result, Ok, Err, if◌then◌else◌}
use Rattle.std.specs.List.{list_all}
use Rattle.kr_defs.specs.declared.ill.Ill.{Ill}
use Rattle.kr_defs.specs.declared.limits.TheConstants.{MOST_REQUEST_BYTES, MOST_REQUEST_RECORDS, MOST_TARGETS}
use Rattle.kr_defs.specs.declared.record.Record.{Record}
use Rattle.kr_defs.specs.declared.record.Item.TheVariants as items
use Rattle.kr_defs.specs.declared.record.Record.TheVariants as kinds
use Rattle.kr_defs.specs.Apply.{apply_record}
use Rattle.kr_defs.specs.Guard.{and_then}
use Rattle.kr_defs.specs.Image.{Image}
use Rattle.kr_defs.specs.Partition.{target}
use Rattle.kr_defs.specs.Sizes.{value_bytes}
use Rattle.kr_defs.specs.Weight.{weight}
use Rattle.kr_calls.specs.declared.errors.TheConstants.{POLICY_VIOLATION}
use Rattle.kr_calls.specs.declared.deciding.Draft.{Draft}

-- the image after the records, one after the other
abbrev pub apply_records : Image → List Record → Result Image Ill
apply_records image [] = Ok image
apply_records image (r ∷ records) = and_then (apply_record image r) (λ after. apply_records after records)

-- the place of the next record, the image there, and the records of the request so far
pub record Work : Type 0 where
  pub place : ℤ
  pub image : Image
  pub records : List Record

-- nothing is done yet
abbrev pub nothing_decided : ℤ → Image → Work
nothing_decided place image = record { place = place; image = image; records = [] }

-- each record has a meaning on the image after the ones before it, and the last one leaves the image of the work
abbrev pub HaveMeanings : Image → Work → Type 0
HaveMeanings start work = apply_records start work.records ≡ Ok work.image

-- records of one request
abbrev pub is_request : List Record → Bool
is_request records = nat_le (length records) MOST_REQUEST_RECORDS && nat_le (sum_by value_bytes records) MOST_REQUEST_BYTES

-- a new partition leads to few replicas
abbrev pub has_few_targets : Record → Bool
has_few_targets (kinds.Partition index topic state) = nat_le (length (target state)) MOST_TARGETS
has_few_targets other = true

-- no limit of requests is passed
abbrev pub is_within_limits : List Record → List Record → Bool
is_within_limits before records = list_all has_few_targets records && is_request (before ++ records)

-- the work with the records, where each has a meaning
abbrev pub work_with : Work → List Record → Result Image Ill → Option Work
work_with work records (Ok image) = Some (record { place = work.place +ℤ pos (length records); image = image; records = work.records ++ records })
work_with work records (Err cause) = None

-- the work with the records, where no limit is passed
unfoldable pub taken : Work → List Record → Option Work
taken work records = cond (is_within_limits work.records records) (work_with work records (apply_records work.image records)) None

-- Kafka's POLICY_VIOLATION, where a limit is passed
abbrev pub over_a_limit : ℤ
over_a_limit = POLICY_VIOLATION

-- A rule says of an entry, on one image at one place, Kafka's error number, or its records and its answer. `refused` is
-- the answer to an entry with an error number.
module _ {E A : Type 0} (refused : ℤ → E → A) where
  abbrev pub settled : Work → E → A → Option Work → Work × A
  settled work entry answer None = (work, refused over_a_limit entry)
  settled work entry answer (Some after) = (after, answer)

  -- what a rule says of an entry is done: its records are taken, all or none
  unfoldable pub done : Work → E → Result (Draft A) ℤ → Work × A
  done work entry (Err error) = (work, refused error entry)
  done work entry (Ok draft) = settled work entry draft.answer (taken work draft.records)

  module _ (rule : Image → ℤ → E → Result (Draft A) ℤ) where
    -- an entry by its rule
    abbrev pub one : Work → E → Work × A
    one work entry = done work entry (rule work.image work.place entry)

    -- the work after all entries, in order
    abbrev pub after_all : Work → List E → Work
    after_all work [] = work
    after_all work (entry ∷ entries) = after_all (one work entry).0 entries

    -- the answer to each entry
    abbrev pub answers : Work → List E → List A
    answers work [] = []
    answers work (entry ∷ entries) = (one work entry).1 ∷ answers (one work entry).0 entries

    -- entries in groups, as the partitions of topics
    module _ {G B : Type 0} (entries_of : G → List E) (answer_of : G → List A → B) where
      -- the work after all groups, in order
      abbrev pub after_groups : Work → List G → Work
      after_groups work [] = work
      after_groups work (group ∷ groups) = after_groups (after_all work (entries_of group)) groups

      -- the answer to each group
      abbrev pub group_answers : Work → List G → List B
      group_answers work [] = []
      group_answers work (group ∷ groups) =
          answer_of group (answers work (entries_of group)) ∷ group_answers (after_all work (entries_of group)) groups

-- with validate-only nothing stands
abbrev pub unless_validating : Bool → Work → Work → Work
unless_validating validate_only before after = if validate_only then before else after

-- the sum of the weights of records, one after the other
abbrev pub weight_then : (Image → ℕ) → Result Image Ill → ℕ
weight_then rest (Ok after) = rest after
weight_then rest (Err cause) = 0

abbrev pub weights : Image → List Record → ℕ
weights image [] = 0
weights image (r ∷ records) = weight image (items.Record r) + weight_then (λ after. weights after records) (apply_record image r)
