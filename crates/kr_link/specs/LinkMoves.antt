-- What the calls of a link by its clock do to its core: it is told what came, once or not at all; besides come moves that are always
-- allowed.
use Rattle.std.specs.Prelude.{◌≡◌, ℕ, ◌+◌, Bool, true, false, cond, List, [], ◌∷◌, ◌++◌, filter, flat_map, fold, None, Option, Some}
use Rattle.law_quorum.specs.Batches.{Batch, StoredImage}
use Rattle.law_core.specs.Core.{Appended, Came, Found, FoundImage, Imaged, Joined, Leading, LinkCore as AnyCore, Over, Role as AnyRole, Stood, Won, core_step}
use Rattle.kr_link.specs.declared.actions.Action.{Action}
use Rattle.kr_link.specs.declared.actions.Action.TheVariants as actions
use Rattle.kr_link.specs.declared.actions.DaemonFrame.TheVariants as frames
use Rattle.kr_link.specs.declared.campaigns.Campaign.{Campaign}
use Rattle.kr_link.specs.declared.imaging.ImageAnswer.{ImageAnswer}
use Rattle.kr_link.specs.declared.link.SeenLog.{SeenLog}
use Rattle.kr_link.specs.declared.roles.Held.{Held}
use Rattle.kr_link.specs.Outgoing.{actions_of, append_action}
use Rattle.kr_link.specs.Roles.{held_of}
use Rattle.kr_link.specs.TimedLinks.{TimedLink, campaign_of, on_fail, on_find, on_find_image, on_finish, on_give, on_join, on_lapse, on_miss, on_part, on_refuse, on_renewal, on_see, on_settle_image, on_stand, on_wake, on_win, on_write, settles_campaign}

-- a core, what is to be done for it, and the token of the next campaign
pub record CoreWork : Type 0 where
  pub core : AnyCore
  pub actions : List Action
  pub next : ℕ

abbrev pub core_work : TimedLink → CoreWork
core_work l = record { core = l.core; actions = l.out.actions; next = l.campaigns.next }

-- it is told what came, and its deeds are to be done
abbrev pub work_told : CoreWork → Came → CoreWork
work_told w came = record w { core = (core_step w.core came).0; actions = w.actions ++ flat_map actions_of (core_step w.core came).1 }

-- an action that hands a daemon nothing of the log, and changes none of its batches
abbrev pub is_beside : Action → Bool
is_beside (actions.Send frames.Ping) = true
is_beside (actions.Send frames.Tick) = true
is_beside (actions.Send frame) = false
is_beside (actions.Append guard batches) = false
is_beside (actions.DropBatches before below image) = false
is_beside (actions.Campaign token) = false
is_beside other = true

-- the call for the append under way
abbrev pub again_actions : AnyRole → List Action
again_actions (Leading h (b ∷ bs) waits) = append_action h (b ∷ bs) ∷ []
again_actions other = []

pub data LinkMove : Type 0 where
  -- the leadership is over, or may be
  GiveUp : LinkMove
  -- the append under way is called for again
  CallAgain : LinkMove
  -- it campaigns with a token of its own
  Campaigns : LinkMove
  -- an action that is beside the log; another one isn't done
  Do : Action → LinkMove

abbrev pub work_after : CoreWork → LinkMove → CoreWork
work_after w GiveUp = work_told w Over
work_after w CallAgain = record w { actions = w.actions ++ again_actions w.core.role }
work_after w Campaigns = record w { actions = w.actions ++ actions.Campaign w.next ∷ []; next = w.next + 1 }
work_after w (Do action) = record w { actions = w.actions ++ filter is_beside (action ∷ []) }

abbrev pub AreLinkMoves : CoreWork → CoreWork → Type 0
AreLinkMoves before after = (moves : List LinkMove) × (fold work_after before moves ≡ after)

-- what came is told first, or passed over
abbrev pub TakesWhatCame : Came → CoreWork → CoreWork → Type 0
TakesWhatCame came before after = (is_told : Bool) × AreLinkMoves (cond is_told (work_told before came) before) after

-- ---- the calls

pub data LinkCall : Type 0 where
  Join : ℕ → LinkCall
  Part : LinkCall
  Write : Batch → LinkCall
  Refuse : ℕ → Option ℕ → ℕ → LinkCall
  Win : ℕ → Held → LinkCall
  Lose : ℕ → LinkCall
  Stand : ℕ → ℕ → LinkCall
  Fail : ℕ → ℕ → LinkCall
  Miss : ℕ → ℕ → LinkCall
  Renewal : ℕ → Bool → LinkCall
  Lapse : ℕ → LinkCall
  See : SeenLog → ℕ → LinkCall
  Find : Batch → ℕ → LinkCall
  FindImage : StoredImage → ℕ → LinkCall
  Finish : Bool → LinkCall
  Give : StoredImage → LinkCall
  SettleImage : ImageAnswer → LinkCall
  Wake : ℕ → LinkCall

abbrev pub link_after : TimedLink → LinkCall → TimedLink
link_after l (Join now) = on_join l now
link_after l Part = on_part l
link_after l (Write b) = on_write l b
link_after l (Refuse event led now) = on_refuse l event led now
link_after l (Win token held) = on_win l token held
link_after l (Lose token) = settles_campaign l token
link_after l (Stand made base) = on_stand l made base
link_after l (Fail made base) = on_fail l made base
link_after l (Miss made base) = on_miss l made base
link_after l (Renewal made is_granted) = on_renewal l made is_granted
link_after l (Lapse made) = on_lapse l made
link_after l (See seen now) = on_see l seen now
link_after l (Find b now) = on_find l b now
link_after l (FindImage image now) = on_find_image l image now
link_after l (Finish is_known) = on_finish l is_known
link_after l (Give image) = on_give l image
link_after l (SettleImage answer) = on_settle_image l answer
link_after l (Wake now) = on_wake l now

-- of a campaign whose answer is awaited
abbrev pub won_came : Held → Option Campaign → Came
won_came held None = Over
won_came held (Some campaign) = Won (held_of held)

-- where none of it is for the core: that the leadership is over, which may come at any time
abbrev pub came_with : TimedLink → LinkCall → Came
came_with l (Join now) = Joined
came_with l (Write b) = Appended b
came_with l (Win token held) = won_came held (campaign_of l token)
came_with l (Stand made base) = Stood made base
came_with l (Find b now) = Found b
came_with l (FindImage image now) = FoundImage image
came_with l (Give image) = Imaged l.seen.image image
came_with l other = Over

-- Each call tells the core what came with it, once or not at all, and besides does such moves alone.
abbrev pub CallsAreMoves : Type 0
CallsAreMoves = (l : TimedLink) (call : LinkCall) → TakesWhatCame (came_with l call) (core_work l) (core_work (link_after l call))
