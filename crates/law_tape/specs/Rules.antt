-- What is kept of a tape, and which fault a line has.
use Rattle.std.specs.Prelude.{ℕ, ◌+◌, ◌-◌, Bool, true, false, cond, not, ◌&&◌, ◌||◌, List, [], ◌∷◌, ◌++◌, length, drop, Option, None, Some, is_some, find, nat_eq, nat_le, nat_lt, replicate, reverse, slice_get, slice_index_or, slice_set, take}
use Rattle.std.specs.List.{list_any}
use Rattle.std.specs.Option.{option_map_or}
use Rattle.law_quorum.specs.Batches.{Batch, StoredImage, offset_of_image, behind}
use Rattle.law_quorum.specs.Changes.{Leader, base_of_first, is_leaderless, leads_by}
use Rattle.law_quorum.specs.Nodes.{Node, after_loss, loaded, new_node, told_to_lead}
use Rattle.law_link.specs.Links.{Call, Held, Keep, Link, idle}
use Rattle.law_tape.specs.Equality.{begins_with, same_batch, same_bytes, same_call, same_held, same_keep}
use Rattle.law_tape.specs.declared.fault.Fault.{Fault}
use Rattle.law_tape.specs.declared.fault.Fault.TheVariants as faults
use Rattle.law_tape.specs.declared.line.SeenKeys.{SeenKeys}
use Rattle.law_tape.specs.declared.line.StoreChange.{StoreChange}
use Rattle.law_tape.specs.declared.line.StoreChange.TheVariants as changes
use Rattle.law_tape.specs.declared.line.LinkAct.{LinkAct}
use Rattle.law_tape.specs.declared.line.LinkAct.TheVariants as acts
use Rattle.law_tape.specs.declared.line.Line.{Line}
use Rattle.law_tape.specs.declared.line.Line.TheVariants as lines

-- a leadership: its node, its epoch, the revision of its key, and the log's end when it began
pub record TakenLeadership : Type 0 where
  pub node : ℕ
  pub epoch : ℕ
  pub made : ℕ
  pub start : ℕ

-- the store's keys, its log, and the leaderships in the order in which they began
pub record StoreState : Type 0 where
  pub revision : ℕ
  pub end : ℕ
  pub epoch : ℕ
  pub leader : Option Leader
  pub image : Option StoredImage
  pub log : List Batch
  pub taken : List TakenLeadership

-- a node's daemon and its link, whose lists of what happened have the latest last
pub record Side : Type 0 where
  pub node : Node
  pub link : Link

infix 5 fault◌when◌else◌
abbrev pub fault◌when◌else◌ : Fault → Bool → Option Fault → Option Fault
fault cause when test else rest = cond test (Some cause) rest

-- ---- tests

-- what the folds of the log have behind their places, which they begin with; nothing where there is none of a place
abbrev pub digest_at : List StoredImage → ℕ → List ℕ
digest_at [] place = []
digest_at (fold ∷ folds) place = cond (nat_eq fold.offset place) (drop 1 fold.bytes) (digest_at folds place)

abbrev pub is_fold : List StoredImage → StoredImage → Bool
is_fold folds image = same_bytes image.bytes (image.offset ∷ digest_at folds image.offset)

-- a batch of the log ends at the place, or the log begins there
abbrev pub is_boundary : List Batch → ℕ → Bool
is_boundary log place = nat_eq 0 place || list_any (λ b. nat_eq (b.base + b.count) place) log

abbrev pub has_at : StoreState → Batch → ℕ → Bool
has_at t b place = nat_eq b.base place && list_any (same_batch b) t.log

abbrev pub has_first_at : StoreState → List Batch → ℕ → Bool
has_first_at t list place = option_map_or (λ b. has_at t b place) (slice_get list 0) false

-- the place behind batches that begin at a place, where they meet and none is empty
abbrev pub end_behind : ℕ → List Batch → Option ℕ
end_behind from [] = Some from
end_behind from (b ∷ bs) = cond (nat_eq b.base from && nat_lt 0 b.count) (end_behind (b.base + b.count) bs) None

abbrev pub is_number : Option ℕ → ℕ → Bool
is_number None n = false
is_number (Some m) n = nat_eq m n

abbrev pub is_first : List Batch → Batch → Bool
is_first list b = option_map_or (λ first. same_batch first b) (slice_get list 0) false

abbrev pub is_empty : List Batch → Bool
is_empty list = nat_eq (length list) 0

abbrev pub holds_leadership : Option Held → Held → Bool
holds_leadership None h = false
holds_leadership (Some held) h = same_held held h

abbrev pub holds_epoch : Option Held → ℕ → Bool
holds_epoch None epoch = false
holds_epoch (Some held) epoch = nat_eq held.epoch epoch

abbrev pub is_taken_by : ℕ → Held → TakenLeadership → Bool
is_taken_by k h l = nat_eq l.node k && nat_eq l.made h.made && nat_eq l.start h.start

abbrev pub took : List TakenLeadership → ℕ → Held → Bool
took ls k h = option_map_or (is_taken_by k h) (find (λ l. nat_eq l.epoch h.epoch) ls) false

-- ---- changes of the store

abbrev pub node_of_change : StoreChange → ℕ
node_of_change (changes.Append node call) = node
node_of_change (changes.Drop node keep) = node
node_of_change _ = 0

abbrev pub node_told : Line → ℕ
node_told (lines.Store seen change) = node_of_change change
node_told (lines.Link k act) = k

-- a change that leaves the log's end and the least place under which a batch stands so
abbrev pub seen_fault : StoreState → SeenKeys → Option ℕ → ℕ → Option Fault
seen_fault t seen end first =
    fault faults.OtherRevision when not (nat_eq (t.revision + 1) seen.revision) else
    fault faults.OtherEnd when not (is_number end seen.end) else
    fault faults.OtherFirst when not (nat_eq first seen.first) else None

abbrev pub change_fault : StoreState → Link → SeenKeys → StoreChange → Option Fault
change_fault t link seen (changes.Append node call) =
    fault faults.NoCall when not (list_any (same_call call) (reverse link.calls)) else
    fault faults.OtherKeys when not (leads_by t.leader call.made && nat_eq t.end (base_of_first call.group)) else
    seen_fault t seen (end_behind t.end call.group) (offset_of_image t.image)
change_fault t link seen (changes.Drop node keep) =
    fault faults.NoKeep when not (list_any (same_keep keep) (reverse link.keeps)) else
    fault faults.OtherKeys when not (nat_eq (offset_of_image t.image) keep.before) else
    seen_fault t seen (Some t.end) keep.image.offset
change_fault t link seen (changes.Campaign node token epoch) =
    fault faults.OtherKeys when not (is_leaderless t.leader && nat_eq (t.epoch + 1) epoch) else
    seen_fault t seen (Some t.end) (offset_of_image t.image)
change_fault t link seen changes.Expire = seen_fault t seen (Some t.end) (offset_of_image t.image)
change_fault t link seen changes.Other = seen_fault t seen (Some t.end) (offset_of_image t.image)

abbrev pub store_state_after : StoreState → SeenKeys → StoreChange → StoreState
store_state_after t seen (changes.Append node call) = record t { revision = seen.revision; end = seen.end; log = t.log ++ call.group }
store_state_after t seen (changes.Drop node keep) = record t { revision = seen.revision; image = Some keep.image }
store_state_after t seen (changes.Campaign node token epoch) = record t {
  revision = seen.revision;
  leader = Some (record { node = node; token = token; made = seen.revision });
  epoch = epoch;
  taken = t.taken ++ record { node = node; epoch = epoch; made = seen.revision; start = t.end } ∷ [];
}
store_state_after t seen changes.Expire = record t { revision = seen.revision; leader = None }
store_state_after t seen changes.Other = record t { revision = seen.revision }

-- ---- what links and daemons do

abbrev pub act_fault : List StoredImage → StoreState → ℕ → Side → LinkAct → Option Fault
act_fault folds t k s (acts.Win h) =
    fault faults.Holds when is_some s.link.held else
    fault faults.ToldBefore when list_any (λ epoch. nat_eq epoch h.epoch) (reverse s.link.won) else
    fault faults.NotTaken when not (took (reverse t.taken) k h) else None
act_fault folds t k s (acts.Read b) =
    fault faults.Leads when is_some s.node.leads else
    fault faults.NotInLog when not (has_at t b s.node.end) else None
act_fault folds t k s (acts.Take image) =
    fault faults.Leads when is_some s.node.leads else
    fault faults.OlderImage when not (nat_le s.node.end image.offset) else
    fault faults.NoBoundary when not (is_boundary t.log image.offset) else
    fault faults.OtherImage when not (is_fold folds image) else None
act_fault folds t k s (acts.Begin h) =
    fault faults.NotHeld when not (holds_leadership s.link.held h) else
    fault faults.Leads when is_some s.node.leads else
    fault faults.OtherPlace when not (nat_eq s.node.end h.start) else None
act_fault folds t k s (acts.Write b) =
    fault faults.NotLeading when not (is_number s.node.leads b.epoch) else
    fault faults.OtherPlace when not (is_number (end_behind s.node.end s.node.own) b.base) else
    fault faults.Empty when not (nat_lt 0 b.count) else None
act_fault folds t k s (acts.Stray b) =
    fault faults.NeverLed when not (list_any (λ epoch. nat_eq epoch b.epoch) (reverse s.link.won)) else
    fault faults.StillHeld when holds_epoch s.link.held b.epoch else None
act_fault folds t k s (acts.Hear b) =
    fault faults.NotNext when not (is_first s.link.pipe b) else
    fault faults.NotLeading when not (is_number s.node.leads b.epoch) else None
act_fault folds t k s (acts.Pass b) =
    fault faults.NotNext when not (is_first s.link.pipe b) else
    fault faults.OfTheEpoch when is_number s.node.leads b.epoch else None
act_fault folds t k s (acts.Ask h group) =
    fault faults.NotHeld when not (holds_leadership s.link.held h) else
    fault faults.NotLeading when not (is_number s.node.leads h.epoch) else
    fault faults.UnderWay when not (is_empty s.link.asked) else
    fault faults.Empty when is_empty group else
    fault faults.NotNext when not (begins_with s.link.waits group) else None
act_fault folds t k s (acts.Settle h end) =
    fault faults.NotHeld when not (holds_leadership s.link.held h) else
    fault faults.NotLeading when not (is_number s.node.leads h.epoch) else
    fault faults.NoneAsked when is_empty s.link.asked else
    fault faults.NotInLog when not (has_first_at t s.link.asked s.node.end) else
    fault faults.OtherEnd when not (is_number (end_behind s.node.end s.link.asked) end) else None
act_fault folds t k s (acts.Give keep) =
    fault faults.OlderImage when not (nat_lt keep.before keep.image.offset) else
    fault faults.NoBoundary when not (is_boundary t.log keep.image.offset) else
    fault faults.OtherImage when not (is_fold folds keep.image) else None
act_fault folds t k s (acts.GiveUp epoch) = fault faults.NotLeading when not (is_number s.node.leads epoch) else None
act_fault folds t k s acts.LetGo = fault faults.Leads when is_some s.node.leads else None
act_fault folds t k s acts.Renew = None

abbrev pub node_after : Node → Link → LinkAct → Node
node_after n link (acts.Read b) = record n { batches = n.batches ++ b ∷ []; end = b.base + b.count }
node_after n link (acts.Take image) = loaded n image
node_after n link (acts.Begin h) = told_to_lead n h.epoch
node_after n link (acts.Write b) = record n { own = n.own ++ b ∷ [] }
node_after n link (acts.Settle h end) = record n {
  batches = n.batches ++ take (length link.asked) n.own;
  end = end;
  settled = n.settled ++ take (length link.asked) n.own;
  own = drop (length link.asked) n.own;
}
node_after n link (acts.GiveUp epoch) = after_loss n
node_after n link acts.Renew = new_node
node_after n link _ = n

abbrev pub link_state_after : Link → LinkAct → Link
link_state_after l (acts.Win h) = record l { held = Some h; asked = []; waits = []; won = l.won ++ h.epoch ∷ [] }
link_state_after l (acts.Begin h) = record l { asked = []; waits = [] }
link_state_after l (acts.Write b) = record l { pipe = l.pipe ++ b ∷ [] }
link_state_after l (acts.Stray b) = record l { pipe = l.pipe ++ b ∷ [] }
link_state_after l (acts.Hear b) = record l { pipe = drop 1 l.pipe; waits = l.waits ++ b ∷ [] }
link_state_after l (acts.Pass b) = record l { pipe = drop 1 l.pipe }
link_state_after l (acts.Ask h group) = record l { asked = group; waits = drop (length group) l.waits; calls = l.calls ++ record { epoch = h.epoch; made = h.made; group = group } ∷ [] }
link_state_after l (acts.Settle h end) = record l { asked = [] }
link_state_after l (acts.Give keep) = record l { keeps = l.keeps ++ keep ∷ [] }
link_state_after l (acts.GiveUp epoch) = idle l
link_state_after l acts.LetGo = idle l
link_state_after l acts.Renew = record (idle l) { pipe = [] }
link_state_after l _ = l

abbrev pub side_after : Side → LinkAct → Side
side_after s act = record { node = node_after s.node s.link act; link = link_state_after s.link act }

-- ---- a tape

pub record TapeState : Type 0 where
  pub store : StoreState
  -- by the numbers of the nodes
  pub sides : List Side

abbrev pub new_link : Link
new_link = record { held = None; asked = []; waits = []; pipe = []; won = []; calls = []; keeps = [] }

abbrev pub new_side : Side
new_side = record { node = new_node; link = new_link }

abbrev pub nothing_stored : StoreState
nothing_stored = record { revision = 0; end = 0; epoch = 0; leader = None; image = None; log = []; taken = [] }

-- a store without keys, and nodes of which nothing is known
abbrev pub tape_begins : TapeState
tape_begins = record { store = nothing_stored; sides = replicate 256 new_side }

abbrev pub side_of : List Side → ℕ → Side
side_of sides k = slice_index_or sides k new_side

abbrev pub known_fault : List StoredImage → TapeState → Line → Option Fault
known_fault folds s (lines.Store seen change) = change_fault s.store (side_of s.sides (node_of_change change)).link seen change
known_fault folds s (lines.Link k act) = act_fault folds s.store k (side_of s.sides k) act

abbrev pub line_fault : List StoredImage → TapeState → Line → Option Fault
line_fault folds s line = fault faults.NoNode when not (nat_lt (node_told line) 256) else known_fault folds s line

abbrev pub state_after : TapeState → Line → TapeState
state_after s (lines.Store seen change) = record s { store = store_state_after s.store seen change }
state_after s (lines.Link k act) = record s { sides = slice_set s.sides k (side_after (side_of s.sides k) act) }

abbrev pub refusal_or : Option Fault → ℕ → Option (ℕ × Fault) → Option (ℕ × Fault)
refusal_or None at rest = rest
refusal_or (Some cause) at rest = Some (at, cause)

-- the number of the first line that isn't allowed, from 0 on, and why
abbrev pub first_refused : List StoredImage → ℕ → TapeState → List Line → Option (ℕ × Fault)
first_refused folds at s [] = None
first_refused folds at s (line ∷ lines') = refusal_or (line_fault folds s line) at (first_refused folds (at + 1) (state_after s line) lines')
