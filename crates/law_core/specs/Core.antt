-- The core of a link: what it makes of what comes from its daemon and from the store.
use Rattle.std.specs.Prelude.{ℕ, zero, suc, ◌+◌, ◌-◌, cond, ◌&&◌, List, [], ◌∷◌, ◌++◌, length, nat_eq, nat_le, nat_lt}
use Rattle.law_quorum.specs.Batches.{Batch, StoredImage}
use Rattle.law_link.specs.Frames.{Commit, Feed, Frame, Lead, Load, Lost}
use Rattle.law_link.specs.Links.{Held}

pub data Role : Type 0 where
  Standby : Role
  -- it took a leadership of which its daemon wasn't told
  Elected : Held → Role
  -- its daemon leads: the batches of the append under way, and those that wait behind them
  Leading : Held → List Batch → List Batch → Role

-- It has no clock: when something is asked is left to who drives it, what may be handed in isn't.
pub record LinkCore : Type 0 where
  -- the end up to which the daemon was handed the log
  pub fed : ℕ
  pub role : Role

pub data Came : Type 0 where
  -- of the daemon: a new one takes the place of the old; a batch; an image, beside the offset of the one that stood when it was looked last
  Joined : Came
  Appended : Batch → Came
  Imaged : ℕ → StoredImage → Came
  -- of the store: a batch and an image that were read; a campaign that took effect, told once; the append for the leadership whose key
  -- was made at a revision, from a place on, that stands
  Found : Batch → Came
  FoundImage : StoredImage → Came
  Won : Held → Came
  Stood : ℕ → ℕ → Came
  -- the leadership is over, or may be: an append was refused or stays unknown, the lease may have run out, the daemon is silent
  Over : Came

pub data Deed : Type 0 where
  -- it serves a new daemon; the next batch of its daemon waits, or is passed over
  Serve : Deed
  Hear : Batch → Deed
  Pass : Batch → Deed
  -- it hands its daemon a batch, an image, the leadership that it holds, a commit up to an end, the loss of the leadership
  HandBatch : Batch → Deed
  HandImage : StoredImage → Deed
  HandLead : Held → Deed
  HandCommit : Held → ℕ → Deed
  HandLost : Held → Deed
  -- it calls for an append of batches, behind which others wait, and for an image to take the place of batches
  CallAppend : Held → List Batch → List Batch → Deed
  CallDrop : ℕ → StoredImage → Deed
  -- it holds a leadership from now on, and gives one back
  Hold : Held → Deed
  Resign : Held → Deed

-- what is under way to its daemon behind that
abbrev pub frames_with : List Frame → Deed → List Frame
frames_with frames Serve = []
frames_with frames (HandBatch b) = frames ++ Feed b ∷ []
frames_with frames (HandImage image) = frames ++ Load image ∷ []
frames_with frames (HandLead h) = frames ++ Lead h.epoch h.start ∷ []
frames_with frames (HandCommit h end) = frames ++ Commit h.epoch end ∷ []
frames_with frames (HandLost h) = frames ++ Lost h.epoch ∷ []
frames_with frames other = frames

-- ---- the batches that go together in an append: at least one, at most a hundred, of a mebibyte together

abbrev pub MOST : ℕ
MOST = 100

abbrev pub ROOM : ℕ
ROOM = 1048576

-- the group, and what stays behind it
abbrev pub AppendGroup : Type 0
AppendGroup = List Batch × List Batch

abbrev pub with_first : Batch → AppendGroup → AppendGroup
with_first b g = (b ∷ g.0, g.1)

abbrev pub append_group_behind : ℕ → ℕ → List Batch → AppendGroup
append_group_behind most room [] = ([], [])
append_group_behind zero room (b ∷ bs) = ([], b ∷ bs)
append_group_behind (suc most) room (b ∷ bs) =
    cond (nat_le (length b.bytes) room) (with_first b (append_group_behind most (room - length b.bytes) bs)) ([], b ∷ bs)

abbrev pub append_group : Batch → List Batch → AppendGroup
append_group b bs = with_first b (append_group_behind (MOST - 1) (ROOM - length b.bytes) bs)

-- where the last of them ends
abbrev pub end_of : ℕ → List Batch → ℕ
end_of from [] = from
end_of from (b ∷ bs) = end_of (b.base + b.count) bs

-- ---- what it becomes, and what it does

abbrev pub Outcome : Type 0
Outcome = LinkCore × List Deed

abbrev pub becomes : ℕ → Role → List Deed → Outcome
becomes fed role deeds = (record { fed = fed; role = role }, deeds)

-- it calls for an append of what waits, where something does
abbrev pub after_asking : Held → List Batch → Role
after_asking h [] = Leading h [] []
after_asking h (b ∷ bs) = Leading h (append_group b bs).0 (append_group b bs).1

abbrev pub asking : Held → List Batch → List Deed
asking h [] = []
asking h (b ∷ bs) = CallAppend h (append_group b bs).0 (append_group b bs).1 ∷ []

-- it makes its daemon lead, where that was handed the log that the leadership began with
abbrev pub after_lead_when_fed : ℕ → Held → Role
after_lead_when_fed fed h = cond (nat_eq fed h.start) (Leading h [] []) (Elected h)

abbrev pub leading : ℕ → Held → List Deed
leading fed h = cond (nat_eq fed h.start) (HandLead h ∷ []) []

abbrev pub resigning : Role → List Deed
resigning Standby = []
resigning (Elected h) = Resign h ∷ []
resigning (Leading h asked waits) = Resign h ∷ []

-- a batch of the leadership waits, and is called for where no append is under way
abbrev pub on_batch : ℕ → Held → List Batch → List Batch → Batch → Outcome
on_batch fed h [] waits b = becomes fed (after_asking h waits) (Hear b ∷ asking h waits)
on_batch fed h (first ∷ asked) waits b = becomes fed (Leading h (first ∷ asked) waits) (Hear b ∷ [])

abbrev pub on_appended : ℕ → Role → Batch → Outcome
on_appended fed (Leading h asked waits) b =
    cond (nat_eq b.epoch h.epoch) (on_batch fed h asked (waits ++ b ∷ []) b) (becomes fed (Leading h asked waits) (Pass b ∷ []))
on_appended fed other b = becomes fed other (Pass b ∷ [])

abbrev pub on_found : ℕ → Role → Batch → Outcome
on_found fed Standby b = cond (nat_eq b.base fed) (becomes (fed + b.count) Standby (HandBatch b ∷ [])) (becomes fed Standby [])
on_found fed (Elected h) b =
    cond (nat_eq b.base fed) (becomes (fed + b.count) (after_lead_when_fed (fed + b.count) h) (HandBatch b ∷ leading (fed + b.count) h)) (becomes fed (Elected h) [])
on_found fed (Leading h asked waits) b = becomes fed (Leading h asked waits) []

abbrev pub on_found_image : ℕ → Role → StoredImage → Outcome
on_found_image fed Standby image = cond (nat_lt fed image.offset) (becomes image.offset Standby (HandImage image ∷ [])) (becomes fed Standby [])
on_found_image fed (Elected h) image =
    cond (nat_lt fed image.offset) (becomes image.offset (after_lead_when_fed image.offset h) (HandImage image ∷ leading image.offset h)) (becomes fed (Elected h) [])
on_found_image fed (Leading h asked waits) image = becomes fed (Leading h asked waits) []

-- one that it holds isn't given up for another
abbrev pub on_won : ℕ → Role → Held → Outcome
on_won fed Standby h = becomes fed (after_lead_when_fed fed h) (Hold h ∷ leading fed h)
on_won fed other h = becomes fed other []

-- the append under way stands; an answer to an earlier one is passed over
abbrev pub on_stood : ℕ → Role → ℕ → ℕ → Outcome
on_stood fed (Leading h (first ∷ asked) waits) made base =
    cond (nat_eq h.made made && nat_eq first.base base)
    (becomes (end_of fed (first ∷ asked)) (after_asking h waits) (HandCommit h (end_of fed (first ∷ asked)) ∷ asking h waits))
    (becomes fed (Leading h (first ∷ asked) waits) [])
on_stood fed other made base = becomes fed other []

abbrev pub on_over : ℕ → Role → Outcome
on_over fed (Leading h asked waits) = becomes fed Standby (HandLost h ∷ Resign h ∷ [])
on_over fed (Elected h) = becomes fed Standby (Resign h ∷ [])
on_over fed Standby = becomes fed Standby []

abbrev pub core_step : LinkCore → Came → Outcome
core_step c Joined = becomes 0 Standby (Serve ∷ resigning c.role)
core_step c (Appended b) = on_appended c.fed c.role b
core_step c (Imaged before image) = becomes c.fed c.role (cond (nat_lt before image.offset) (CallDrop before image ∷ []) [])
core_step c (Found b) = on_found c.fed c.role b
core_step c (FoundImage image) = on_found_image c.fed c.role image
core_step c (Won h) = on_won c.fed c.role h
core_step c (Stood made base) = on_stood c.fed c.role made base
core_step c Over = on_over c.fed c.role

abbrev pub first_core : LinkCore
first_core = record { fed = 0; role = Standby }
