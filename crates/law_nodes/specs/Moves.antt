-- The table of moves: what refuses each, in order, and what it makes of all nodes, of the list and of what was told.
use Rattle.std.specs.Prelude.{ℕ, ℤ, pos, ◌==◌, nat_lt, int_lt, not, is_some, if◌then◌else◌, List, [], ◌∷◌, ◌++◌, length, set, fold, Option, Some, None, Result, Ok, Err, ◌+◌}
use Rattle.std.specs.List.{slice_get}
use Rattle.std.specs.Ordering.{int_eq}
use Rattle.std.specs.Result.{result_unwrap_or}
use Rattle.kr_batch.specs.declared.Batch.{Batch}
use Rattle.kr_calls.specs.declared.calls.Ask.TheVariants as asks
use Rattle.kr_calls.specs.declared.events.Event.{Event}
use Rattle.kr_calls.specs.declared.events.Event.TheVariants as events
use Rattle.kr_calls.specs.declared.events.Reason.{Reason}
use Rattle.kr_defs.specs.declared.options.Options.{Options}
use Rattle.kr_defs.specs.Guard.{refuse◌when◌else◌}
use Rattle.kr_defs.specs.Image.{Image}
use Rattle.kr_model.specs.Batch.{take_batch}
use Rattle.kr_model.specs.Events.{with_next_number}
use Rattle.kr_model.specs.Load.{take_image}
use Rattle.kr_model.specs.World.{State, closed_of, image_of_closed}
use Rattle.law_nodes.specs.declared.moves.Move.{Move}
use Rattle.law_nodes.specs.declared.moves.Move.TheVariants as moves
use Rattle.law_nodes.specs.declared.moves.MoveFault.{MoveFault}
use Rattle.law_nodes.specs.declared.moves.MoveFault.TheVariants as faults
use Rattle.law_nodes.specs.Nodes.{RunNode, Run, after_event, at_own_end, first_run, told_of}
use Rattle.law_nodes.specs.OneList.{batch_from, list_items}

-- ---- what a move asks of its node

abbrev pub if_node : Run → ℕ → Option RunNode → (RunNode → Result Run MoveFault) → Result Run MoveFault
if_node r k None next = Err (faults.NoNode k (length r.nodes))
if_node r k (Some n) next = next n

-- where there is such a node
abbrev pub on_node : Run → ℕ → (RunNode → Result Run MoveFault) → Result Run MoveFault
on_node r k next = if_node r k (slice_get r.nodes k) next

abbrev pub on_standby : ℕ → Option ℤ → Result Run MoveFault → Result Run MoveFault
on_standby k None next = next
on_standby k (Some epoch) next = Err (faults.NotStandby k)

abbrev pub while_leading : ℕ → Option ℤ → (ℤ → Result Run MoveFault) → Result Run MoveFault
while_leading k None next = Err (faults.NotLeading k)
while_leading k (Some epoch) next = next epoch

-- ---- what it changes

abbrev pub committed_end : RunNode → ℕ
committed_end n = n.state.world.committed

abbrev pub length_of : Run → ℕ
length_of r = length (list_items r.list)

abbrev pub put_node : Run → ℕ → RunNode → Run
put_node r k n = record r { nodes = set r.nodes k n }

-- the node takes the event, and tells what is due
abbrev pub with_event : Options → Run → ℕ → RunNode → Event → Run
with_event options r k n event = record r { nodes = set r.nodes k (after_event options n event); told = r.told ++ told_of options k n event }

-- ---- Feed: the list's batch at its end

-- a batch or an image that comes, or that is refused, and then it is as before but for the number of its events
abbrev pub after_arrival : RunNode → Result State Reason → RunNode
after_arrival n after = at_own_end (record n { state = with_next_number (result_unwrap_or after n.state) })

abbrev pub feed_next : Run → ℕ → RunNode → Option Batch → Result Run MoveFault
feed_next r k n None = Err (faults.NothingNew (pos (committed_end n)))
feed_next r k n (Some b) = Ok (put_node r k (after_arrival n (take_batch n.state b)))

abbrev pub feed : Run → ℕ → RunNode → Result Run MoveFault
feed r k n =
    on_standby k n.state.world.leading (
    refuse faults.NothingNew (pos (committed_end n)) when committed_end n == length_of r else
    feed_next r k n (batch_from (committed_end n) r.list))

-- ---- Elect: Lead at its end, where it has the whole list; nobody is elected where the node refuses

abbrev pub after_election : Options → Run → ℕ → RunNode → ℤ → Event → Run
after_election options r k n epoch event =
    let after = after_event options n event in record r {
      nodes = set r.nodes k after;
      told = r.told ++ told_of options k n event;
      elected = if is_some after.state.world.leading then epoch else r.elected;
    }

abbrev pub elect : Options → Run → ℕ → RunNode → ℤ → ℤ → Result Run MoveFault
elect options r k n epoch now =
    on_standby k n.state.world.leading (
    refuse faults.OldEpoch epoch r.elected when not (int_lt r.elected epoch) else
    refuse faults.Behind (pos (committed_end n)) (pos (length_of r)) when not (committed_end n == length_of r) else
    Ok (after_election options r k (at_own_end n) epoch (events.Lead epoch (pos (committed_end n)) now)))

-- ---- Settle: the first unsettled batch of the latest leader joins the list; the node isn't told

abbrev pub settle_first : Run → ℕ → RunNode → List Batch → Result Run MoveFault
settle_first r k n [] = Err (faults.NothingNew (pos (length_of r)))
settle_first r k n (b ∷ bs) =
    Ok (record (put_node r k (record n { settled = n.settled + length b.items; unsettled = bs })) { list = r.list ++ b ∷ [] })

abbrev pub settle : Run → ℕ → RunNode → Result Run MoveFault
settle r k n = while_leading k n.state.world.leading (λ epoch.
    refuse faults.NotLatest epoch r.elected when not (int_eq epoch r.elected) else
    settle_first r k n n.unsettled)

-- ---- Tell: Commit at the end of what it settled

abbrev pub tell : Options → Run → ℕ → RunNode → Result Run MoveFault
tell options r k n = while_leading k n.state.world.leading (λ epoch.
    refuse faults.NothingNew (pos (committed_end n)) when not (nat_lt (committed_end n) n.settled) else
    Ok (with_event options r k n (events.Commit epoch (pos n.settled))))

-- ---- Depose: Lost

abbrev pub deposed : Options → Run → ℕ → RunNode → Event → Run
deposed options r k n event =
    record r { nodes = set r.nodes k (at_own_end (after_event options n event)); told = r.told ++ told_of options k n event }

abbrev pub depose : Options → Run → ℕ → RunNode → Result Run MoveFault
depose options r k n = while_leading k n.state.world.leading (λ epoch. Ok (deposed options r k n (events.Lost epoch)))

-- ---- Copy: the image of one node's closed end, which another one loads

abbrev pub closed_end_of : RunNode → ℕ
closed_end_of n = closed_of n.state.world

abbrev pub load_on : Run → ℕ → ℤ × Image → Result Run MoveFault
load_on r k image = on_node r k (λ n. Ok (put_node r k (after_arrival n (take_image n.state image))))

abbrev pub copy : Options → Run → ℕ → ℕ → RunNode → RunNode → Result Run MoveFault
copy options r from to f t =
    on_standby to t.state.world.leading (
    refuse faults.OlderImage (pos (closed_end_of f)) (pos (committed_end t)) when nat_lt (closed_end_of f) (committed_end t) else
    load_on (with_event options r from f events.Image) to (pos (closed_end_of f), image_of_closed f.state))

-- ---- all

abbrev pub move_outcome : Options → Run → Move → Result Run MoveFault
move_outcome options r (moves.Feed k) = on_node r k (λ n. feed r k n)
move_outcome options r (moves.Elect k epoch now) = on_node r k (λ n. elect options r k n epoch now)
move_outcome options r (moves.Ask k client now call) = on_node r k (λ n. Ok (with_event options r k n (events.Request client now (asks.Call call))))
move_outcome options r (moves.Tick k now) = on_node r k (λ n. Ok (with_event options r k n (events.Tick now)))
move_outcome options r (moves.Settle k) = on_node r k (λ n. settle r k n)
move_outcome options r (moves.Tell k) = on_node r k (λ n. tell options r k n)
move_outcome options r (moves.Depose k) = on_node r k (λ n. depose options r k n)
move_outcome options r (moves.Copy from to) = on_node r from (λ f. on_node r to (λ t. copy options r from to f t))

-- a refused move changes nothing
abbrev pub after_move : Options → Run → Move → Run
after_move options r m = result_unwrap_or (move_outcome options r m) r

abbrev pub run : Options → ℕ → List Move → Run
run options nodes ms = fold (after_move options) (first_run nodes) ms
