-- States of logs with transactions, computed.
use Rattle.std.proofs.Common.{◌≡◌, List, [], ◌∷◌, refl}
use Rattle.std.specs.Prelude.{pos, codes, Some, None, Ok, Err}
use Rattle.kr_defs.specs.declared.record.Record.TheVariants as kinds
use Rattle.kr_defs.specs.declared.record.Item.{Item}
use Rattle.kr_defs.specs.declared.record.Item.TheVariants as items
use Rattle.kr_defs.specs.declared.ill.Ill.TheVariants.{BadTransaction, NoTopic}
use Rattle.kr_defs.specs.Apply.{apply, apply_record}
use Rattle.kr_defs.specs.Image.{Image, empty}
use Rattle.kr_defs.specs.Log.{Log, closed_end_at, open_at, state_at}
use Rattle.kr_defs.specs.LogStates.{LogState, closed, apply_at, closed_end, first_ill_at}

abbrev begin : Item
begin = items.Record (kinds.BeginTransaction None)

abbrev end : Item
end = items.Record kinds.EndTransaction

abbrev abort : Item
abort = items.Record (kinds.AbortTransaction None)

-- the minimum of replicas in sync of all brokers
abbrev minimum : Item
minimum = items.Record (kinds.Config (pos 4) [] (codes "min.insync.replicas") (Some (codes "2")))

abbrev with_minimum : Image
with_minimum = record empty { configs = (record { kind = pos 4; name = []; key = codes "min.insync.replicas" }, codes "2") ∷ [] }

abbrev new : List Item → Log
new items = record { offset = 0; image = empty; items = items }

abbrev inside : LogState
inside = record { image = with_minimum; opened = Some (record { place = 0; image = empty }) }

-- ---- given up by a new leader: begin, the setting, the leader's control record, abort

abbrev given_up : Log
given_up = new (begin ∷ minimum ∷ items.Control ∷ abort ∷ minimum ∷ [])

open_at_two : state_at given_up 2 ≡ Ok inside
unfolding state_at apply_at apply apply_record
open_at_two = refl

closed_end_inside : closed_end inside 2 ≡ 0
closed_end_inside = refl

open_at_three : state_at given_up 3 ≡ Ok inside
unfolding state_at apply_at apply apply_record
open_at_three = refl

aborted_at_four : state_at given_up 4 ≡ Ok (closed empty)
unfolding state_at apply_at apply apply_record
aborted_at_four = refl

set_after : state_at given_up 5 ≡ Ok (closed with_minimum)
unfolding state_at apply_at apply apply_record
set_after = refl

closed_end_after : closed_end (closed with_minimum) 5 ≡ 5
closed_end_after = refl

-- the same is told by the items alone
open_told : open_at given_up 3 ≡ Some 0
unfolding open_at
open_told = refl

closed_told : closed_end_at given_up 3 ≡ 0
unfolding open_at
closed_told = refl

closed_told_after : closed_end_at given_up 5 ≡ 5
unfolding open_at
closed_told_after = refl

-- ---- closed later

ended : state_at (new (begin ∷ minimum ∷ items.Control ∷ end ∷ [])) 4 ≡ Ok (closed with_minimum)
unfolding state_at apply_at apply apply_record
ended = refl

-- an end and a begin side by side: the second is open from its own place
end_and_begin : state_at (new (begin ∷ minimum ∷ end ∷ begin ∷ [])) 4 ≡ Ok (record { image = with_minimum; opened = Some (record { place = 3; image = with_minimum }) })
unfolding state_at apply_at apply apply_record
end_and_begin = refl

-- a log that starts from an image has no transaction open, whatever stood before
started : state_at (record { offset = 7; image = with_minimum; items = end ∷ [] }) 7 ≡ Ok (closed with_minimum)
unfolding state_at apply_at apply apply_record
started = refl

end_at_start : state_at (record { offset = 7; image = with_minimum; items = end ∷ [] }) 8 ≡ Err BadTransaction
unfolding state_at apply_at apply apply_record
end_at_start = refl

-- ---- bad transactions

second_begin : first_ill_at (closed empty) 0 (begin ∷ begin ∷ []) ≡ Some (pos 1, BadTransaction)
unfolding apply_at apply apply_record
second_begin = refl

end_alone : first_ill_at (closed empty) 0 (end ∷ []) ≡ Some (pos 0, BadTransaction)
unfolding apply_at apply apply_record
end_alone = refl

abort_alone : first_ill_at (closed empty) 5 (items.Control ∷ abort ∷ []) ≡ Some (pos 6, BadTransaction)
unfolding apply_at apply apply_record
abort_alone = refl

abort_twice : first_ill_at inside 2 (abort ∷ abort ∷ []) ≡ Some (pos 3, BadTransaction)
unfolding apply_at apply apply_record
abort_twice = refl

-- an item without a meaning has none inside a transaction
ill_inside : first_ill_at inside 2 (minimum ∷ items.Record (kinds.RemoveTopic 7) ∷ end ∷ []) ≡ Some (pos 3, NoTopic)
unfolding apply_at apply apply_record
ill_inside = refl
