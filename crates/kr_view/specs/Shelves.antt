-- What a clause sees of the publisher. This project's own.
use Rattle.std.specs.Prelude.{◌≡◌, ℤ, List, [], ◌∷◌, ◌++◌, if◌then◌else◌}
use Rattle.kr_defs.specs.declared.options.Options.{Options}
use Rattle.kr_calls.specs.declared.events.Entry.{Entry}
use Rattle.kr_view.specs.Showing.{MayShow, Showing}
use Rattle.kr_view.specs.Staged.{staged_above, staged_below, is_logged}

-- the options, the published list, what an earlier publish chose that found no memory, and what is staged: of the log, and
-- the pins, unpins, answers and stops
pub record Shelf : Type 0 where
  pub options : Options
  pub list : List Entry
  pub waiting : List Entry
  pub items : List Entry
  pub notes : List Entry

-- nothing is staged
abbrev pub bare_shelf : Showing → List Entry → Shelf
bare_shelf shown waiting = record { options = shown.options; list = shown.list; waiting = waiting; items = []; notes = [] }

abbrev pub with_staged : Shelf → Entry → Shelf
with_staged s e = if is_logged e then record s { items = s.items ++ e ∷ [] } else record s { notes = s.notes ++ e ∷ [] }

-- what a publish at this end shows, and what it leaves staged
abbrev pub next_at : ℤ → Shelf → List Entry
next_at end s = s.waiting ++ staged_below end s.items ++ s.notes

abbrev pub left_at : ℤ → Shelf → List Entry
left_at end s = staged_above end s.items

-- a publish at this end may come
abbrev pub MayPublish : ℤ → Shelf → Type 0
MayPublish end s = MayShow s.options s.list (next_at end s)

-- after a publish at this end
abbrev pub shown_at : ℤ → Shelf → Shelf
shown_at end s = record { options = s.options; list = s.list ++ next_at end s; waiting = []; items = left_at end s; notes = [] }

-- after one that found no memory: what is visible is as before, and a publish at this end shows the same
pub record IsDelayed (end : ℤ) (old new : Shelf) : Type 0 where
  pub options : new.options ≡ old.options
  pub list : new.list ≡ old.list
  pub next : next_at end new ≡ next_at end old
  pub left : left_at end new ≡ left_at end old
