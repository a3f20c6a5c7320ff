-- What the entries of a request cost: how many records are applied for them. This project's own.
use Rattle.std.specs.Prelude.{◌+◌, ℕ, ℤ, Bool, not, ◌&&◌, List, [], ◌∷◌, length, Option, Some, None, Result, Ok, Err, is_err, if◌then◌else◌}
use Rattle.std.specs.List.{list_all}
use Rattle.kr_defs.specs.declared.record.Record.{Record}
use Rattle.kr_defs.specs.Image.{Image}
use Rattle.kr_calls.specs.declared.deciding.Draft.{Draft}
use Rattle.kr_calls.specs.Deciding.{Work, apply_records, after_all, one}
use Rattle.kr_rules.specs.Progress.{begins}
use Rattle.kr_rules.specs.Room.{takes_room, lacks_room}

-- plain records for which there is no room: it is told before any of them is applied
abbrev pub is_told : Image → List Record → Bool
is_told image records = list_all takes_room records && lacks_room (apply_records image records)

-- a record that isn't the first has no meaning, and it isn't told before: those ahead of it are applied and then undone,
-- for which all records of the request are applied again
abbrev pub is_undone : Image → List Record → Bool
is_undone image records = begins image records && is_err (apply_records image records) && not (is_told image records)

-- the records of a draft, where none are applied and then undone
abbrev pub draft_cost : {A : Type 0} → Image → Result (Draft A) ℤ → Option ℕ
draft_cost image (Err error) = Some 0
draft_cost image (Ok draft) = if is_undone image draft.records then None else Some (length draft.records)

abbrev pub plus : Option ℕ → Option ℕ → Option ℕ
plus (Some x) (Some y) = Some (x + y)
plus (Some x) None = None
plus None y = None

module _ {E A : Type 0} (refused : ℤ → E → A) (rule : Image → ℤ → E → Result (Draft A) ℤ) where
  -- the records of all drafts of entries, the refused ones too
  abbrev pub cost : Work → List E → Option ℕ
  cost work [] = Some 0
  cost work (entry ∷ entries) = plus (draft_cost work.image (rule work.image work.place entry)) (cost (one refused rule work entry).0 entries)

  -- the same for entries in groups
  abbrev pub group_cost : {G : Type 0} → (G → List E) → Work → List G → Option ℕ
  group_cost entries_of work [] = Some 0
  group_cost entries_of work (group ∷ groups) = plus (cost work (entries_of group)) (group_cost entries_of (after_all refused rule work (entries_of group)) groups)
