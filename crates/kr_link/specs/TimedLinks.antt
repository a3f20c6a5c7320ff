-- A link by its clock: when it asks and renews, pings and feeds, and what of what comes its core is told.
use Rattle.std.specs.Prelude.{ℕ, ◌+◌, ◌-◌, ◌*◌, ◌^◌, Bool, true, false, cond, not, ◌&&◌, ◌||◌, [], ◌∷◌, ◌++◌, length, min, option_map, option_to_list, Option, Some, None, nat_le, nat_lt}
use Rattle.std.specs.Option.{is_some, option_map_or}
use Rattle.law_quorum.specs.Batches.{Batch, StoredImage}
use Rattle.law_core.specs.Core.{Appended, Came, Found, FoundImage, Imaged, Joined, LinkCore as AnyCore, Over, Stood, Won, core_step}
use Rattle.law_core.specs.Core as laws
use Rattle.kr_link.specs.declared.actions.Action.{Action}
use Rattle.kr_link.specs.declared.actions.Action.TheVariants as actions
use Rattle.kr_link.specs.declared.actions.DaemonFrame.TheVariants as frames
use Rattle.kr_link.specs.declared.campaigns.Campaign.{Campaign}
use Rattle.kr_link.specs.declared.campaigns.Campaigns.{Campaigns}
use Rattle.kr_link.specs.declared.imaging.Imaging.{Imaging}
use Rattle.kr_link.specs.declared.imaging.ImageAnswer.{ImageAnswer}
use Rattle.kr_link.specs.declared.imaging.ImageAnswer.TheVariants as answers
use Rattle.kr_link.specs.declared.leases.Lease.{Lease}
use Rattle.kr_link.specs.declared.link.Link.{Link}
use Rattle.kr_link.specs.declared.link.StoreQuestion.{StoreQuestion}
use Rattle.kr_link.specs.declared.link.StoreQuestion.TheVariants as questions
use Rattle.kr_link.specs.declared.link.SeenLog.{SeenLog}
use Rattle.kr_link.specs.declared.link.LinkSettings.{LinkSettings}
use Rattle.kr_link.specs.declared.roles.Held.{Held}
use Rattle.kr_link.specs.Clocks.{begun_with, granted, image_settled, is_image_wanted, is_renewal_due, may_be_over, next_campaign, settled_with, tried_at, won_with}
use Rattle.kr_link.specs.Cores.{core_of}
use Rattle.kr_link.specs.Outgoing.{Outgoing, put_again, put_all, put_one}
use Rattle.kr_link.specs.Pings.{Pinged, after_answer, fed_more, is_answer, is_far_ahead, is_fresh, is_pinged, silence}
use Rattle.kr_link.specs.Roles.{awaits_append, epoch_led, has_leadership, held_of, is_leading, is_made_at, is_misplaced, revision_held}

pub record TimedLink : Type 0 where
  pub settings : LinkSettings
  pub core : AnyCore
  pub out : Outgoing
  -- of the daemon that is connected
  pub pings : Option Pinged
  -- what of the store has no answer yet
  pub question : StoreQuestion
  pub campaigns : Campaigns
  -- of the leadership that is held
  pub lease : Option Lease
  -- what was seen when it was looked last
  pub seen : SeenLog
  pub imaging : Imaging
  -- the append under way stays without an answer
  pub is_unanswered : Bool
  -- when the next beat is
  pub beat : ℕ

unfoldable pub timed_of : Link → TimedLink
timed_of l = record {
  settings = l.settings;
  core = core_of l.core;
  out = l.out;
  pings = l.pings;
  question = l.question;
  campaigns = l.campaigns;
  lease = l.lease;
  seen = l.seen;
  imaging = l.imaging;
  is_unanswered = l.is_unanswered;
  beat = l.beat;
}

unfoldable pub first_link : LinkSettings → TimedLink
first_link settings = record {
  settings = settings;
  core = laws.first_core;
  out = record { actions = []; events = 0 };
  pings = None;
  question = questions.Nothing;
  campaigns = record { next = 0; under_way = None };
  lease = None;
  seen = record { end = 0; is_led = false; image = 0 };
  imaging = record { is_asked = false; at = 0; vain = 0 };
  is_unanswered = false;
  beat = 0;
}

-- with an action before the others
unfoldable pub with_taken : Option Action → TimedLink → TimedLink
with_taken action l = record l { out = record l.out { actions = option_to_list action ++ l.out.actions } }

-- ---- what it does

-- its core is told, and what that does goes out
abbrev pub tells : TimedLink → Came → TimedLink
tells l came = record l { core = (core_step l.core came).0; out = put_all l.out (core_step l.core came).1 }

abbrev pub puts : TimedLink → Action → TimedLink
puts l action = record l { out = put_one l.out action }

-- the leadership is over, or may be
unfoldable pub gives_up : TimedLink → TimedLink
gives_up l = record (tells l Over) { lease = None; is_unanswered = false }

-- the daemon's connection is closed
unfoldable pub closes : TimedLink → TimedLink
closes l = record (puts l actions.Close) { pings = None }

unfoldable pub let_go : TimedLink → TimedLink
let_go l = closes (gives_up l)

abbrev pub is_idle : StoreQuestion → Bool
is_idle questions.Nothing = true
is_idle other = false

-- it looks, unless it asks something already
unfoldable pub looks : TimedLink → TimedLink
looks l = cond (is_idle l.question) (record (puts l actions.Look) { question = questions.Look }) l

-- ---- the daemon

abbrev pub pinged_of : TimedLink → ℕ → Option Pinged → TimedLink
pinged_of l now None = l
pinged_of l now (Some p) = record (puts l (actions.Send frames.Ping)) {
  pings = Some (record p {
    sent = p.sent ++ record { event = (put_one l.out (actions.Send frames.Ping)).events; at = now; led = epoch_led l.core.role } ∷ [];
    unpinged = 0;
  });
}

unfoldable pub pinged : TimedLink → ℕ → TimedLink
pinged l now = pinged_of l now l.pings

-- a new one connected
unfoldable pub serves : TimedLink → TimedLink
serves l = record (tells l Joined) {
  out = record (put_all l.out (core_step l.core Joined).1) { events = 0 };
  pings = Some (record { sent = []; unpinged = 0; heard = None });
  lease = None;
  is_unanswered = false;
  imaging = record { is_asked = false; at = 0; vain = 0 };
}

unfoldable pub on_join : TimedLink → ℕ → TimedLink
on_join l now = pinged (serves l) now

unfoldable pub serves_none : TimedLink → TimedLink
serves_none l = record l { pings = None }

unfoldable pub on_part : TimedLink → TimedLink
on_part l = serves_none (gives_up l)

unfoldable pub hears : TimedLink → Batch → TimedLink
hears l b = tells l (Appended b)

unfoldable pub is_stray : TimedLink → Batch → Bool
is_stray l b = is_misplaced l.core.fed l.core.role b

-- a daemon whose batches don't meet is let go
unfoldable pub on_write : TimedLink → Batch → TimedLink
on_write l b = cond (is_stray l b) (let_go l) (hears l b)

unfoldable pub is_served : TimedLink → Bool
is_served l = is_some l.pings

unfoldable pub is_ping_answer : TimedLink → ℕ → Option ℕ → Bool
is_ping_answer l event led = option_map_or (λ (p : Pinged). is_answer p.sent event led) l.pings false

unfoldable pub with_ping_answer : TimedLink → ℕ → Option ℕ → ℕ → TimedLink
with_ping_answer l event led now = record l { pings = option_map (λ (p : Pinged). after_answer p event led now) l.pings }

abbrev pub refuses : Bool → TimedLink → TimedLink
refuses is_known l = cond is_known (looks l) (let_go l)

-- it refused an event while it led an epoch: the answer to a ping, or it is let go
unfoldable pub on_refuse : TimedLink → ℕ → Option ℕ → ℕ → TimedLink
on_refuse l event led now = cond (is_served l) (refuses (is_ping_answer l event led) (with_ping_answer l event led now)) l

-- ---- campaigns and appends

unfoldable pub settles_campaign : TimedLink → ℕ → TimedLink
settles_campaign l token = record l { campaigns = settled_with l.campaigns token }

unfoldable pub campaign_of : TimedLink → ℕ → Option Campaign
campaign_of l token = won_with l.campaigns token

unfoldable pub resigns : TimedLink → Held → TimedLink
resigns l held = puts l (actions.Resign held.made)

-- a leadership whose lease was asked for at a time
unfoldable pub holds : TimedLink → Held → ℕ → TimedLink
holds l held asked = record (tells l (Won (held_of held))) {
  lease = Some (record { term = l.settings.term; asked = asked; tried = asked; is_renewing = false });
}

unfoldable pub holds_any : TimedLink → Bool
holds_any l = has_leadership l.core.role

-- one that no call of this link awaits is given back
unfoldable pub admits : TimedLink → Held → Option Campaign → TimedLink
admits l held None = resigns l held
admits l held (Some campaign) = cond (holds_any l) (resigns l held) (holds l held campaign.asked)

-- a campaign is answered once
unfoldable pub on_win : TimedLink → ℕ → Held → TimedLink
on_win l token held = admits (settles_campaign l token) held (campaign_of l token)

unfoldable pub is_awaited : TimedLink → ℕ → ℕ → Bool
is_awaited l made base = awaits_append made base l.core.role

unfoldable pub commits : TimedLink → ℕ → ℕ → TimedLink
commits l made base = record (tells l (Stood made base)) { is_unanswered = false }

unfoldable pub on_stand : TimedLink → ℕ → ℕ → TimedLink
on_stand l made base = cond (is_awaited l made base) (commits l made base) l

unfoldable pub on_fail : TimedLink → ℕ → ℕ → TimedLink
on_fail l made base = cond (is_awaited l made base) (gives_up l) l

unfoldable pub on_miss : TimedLink → ℕ → ℕ → TimedLink
on_miss l made base = record l { is_unanswered = l.is_unanswered || awaits_append made base l.core.role }

-- an append without an answer is called for again: it does no harm
unfoldable pub asks_again : TimedLink → TimedLink
asks_again l = record l { out = put_again l.out l.core.role; is_unanswered = false }

unfoldable pub calls_again : TimedLink → TimedLink
calls_again l = cond l.is_unanswered (asks_again l) l

-- ---- leases

unfoldable pub is_held_at : TimedLink → ℕ → Bool
is_held_at l made = is_made_at made l.core.role

unfoldable pub grants : TimedLink → Bool → TimedLink
grants l is_granted = record l { lease = option_map (λ (lease : Lease). granted lease is_granted) l.lease }

-- a renewal was granted, or stays without an answer
unfoldable pub on_renewal : TimedLink → ℕ → Bool → TimedLink
on_renewal l made is_granted = cond (is_held_at l made) (grants l is_granted) l

-- the lease isn't there any more
unfoldable pub on_lapse : TimedLink → ℕ → TimedLink
on_lapse l made = cond (is_held_at l made) (gives_up l) l

unfoldable pub is_to_renew : TimedLink → ℕ → Bool
is_to_renew l now = option_map_or (λ (lease : Lease). is_renewal_due lease now) l.lease false

unfoldable pub tries : TimedLink → ℕ → TimedLink
tries l now = record l { lease = option_map (λ (lease : Lease). tried_at lease now) l.lease }

abbrev pub renewal_of : TimedLink → Option ℕ → TimedLink
renewal_of l None = l
renewal_of l (Some made) = puts l (actions.Renew made)

unfoldable pub asks_renewal : TimedLink → TimedLink
asks_renewal l = renewal_of l (revision_held l.core.role)

unfoldable pub renews : TimedLink → ℕ → TimedLink
renews l now = cond (is_to_renew l now) (asks_renewal (tries l now)) (tries l now)

-- ---- what is read

abbrev pub is_ahead_of : Option Pinged → Bool
is_ahead_of None = true
is_ahead_of (Some p) = is_far_ahead p.sent

abbrev pub is_fresh_of : Option Pinged → ℕ → Bool
is_fresh_of None now = false
is_fresh_of (Some p) now = is_fresh p now

-- who leads follows nobody, and a daemon that doesn't answer isn't fed
unfoldable pub is_follower : TimedLink → Bool
is_follower l = not (is_leading l.core.role || is_ahead_of l.pings)

unfoldable pub is_below_image : TimedLink → Bool
is_below_image l = nat_lt l.core.fed l.seen.image

unfoldable pub is_below_end : TimedLink → Bool
is_below_end l = nat_lt l.core.fed l.seen.end

unfoldable pub reads_image : TimedLink → TimedLink
reads_image l = record (puts l actions.ReadImage) { question = questions.Image }

unfoldable pub reads_batches : TimedLink → TimedLink
reads_batches l = record (puts l (actions.Read l.core.fed l.seen.end)) { question = questions.Batches }

abbrev pub calls_campaign : TimedLink → Option Campaign → TimedLink
calls_campaign l None = l
calls_campaign l (Some campaign) = puts l (actions.Campaign campaign.token)

-- it campaigns, where a token is left
unfoldable pub campaigning : TimedLink → ℕ → TimedLink
campaigning l now = calls_campaign (record l { campaigns = begun_with l.campaigns now }) (next_campaign l.campaigns now)

-- on standby, of a daemon that answers, where nobody leads and no campaign is under way
unfoldable pub may_campaign : TimedLink → ℕ → Bool
may_campaign l now = not (has_leadership l.core.role) && not l.seen.is_led && not (is_some l.campaigns.under_way) && is_fresh_of l.pings now

unfoldable pub stands_for : TimedLink → ℕ → TimedLink
stands_for l now = cond (may_campaign l now) (campaigning l now) l

-- it reads on what its daemon wasn't fed; at the end of the log it campaigns
unfoldable pub follows : TimedLink → ℕ → TimedLink
follows l now =
    cond (is_follower l) (cond (is_below_image l) (reads_image l) (cond (is_below_end l) (reads_batches l) (stands_for l now))) l

-- who leads asks for an image only where nobody else gave one
unfoldable pub places_of : TimedLink → ℕ
places_of l = cond (is_leading l.core.role) (min (l.settings.images * 2) (2 ^ 64 - 1)) l.settings.images

unfoldable pub wants_image : TimedLink → Bool
wants_image l = is_some l.pings && is_image_wanted l.imaging l.core.fed l.seen.image (places_of l)

unfoldable pub asks_image : TimedLink → TimedLink
asks_image l = record (puts l actions.AskImage) { imaging = record l.imaging { is_asked = true; at = l.core.fed } }

unfoldable pub considers : TimedLink → TimedLink
considers l = cond (wants_image l) (asks_image l) l

abbrev pub is_look : StoreQuestion → Bool
is_look questions.Look = true
is_look other = false

unfoldable pub is_looking : TimedLink → Bool
is_looking l = is_look l.question

unfoldable pub notes : TimedLink → SeenLog → TimedLink
notes l seen = record l { question = questions.Nothing; seen = seen }

unfoldable pub on_see : TimedLink → SeenLog → ℕ → TimedLink
on_see l seen now = cond (is_looking l) (follows (considers (notes l seen)) now) l

abbrev pub is_batches : StoreQuestion → Bool
is_batches questions.Batches = true
is_batches other = false

-- no more is fed to a daemon that doesn't answer
unfoldable pub is_reading : TimedLink → Bool
is_reading l = is_batches l.question && not (is_ahead_of l.pings)

unfoldable pub is_ahead_now : TimedLink → Bool
is_ahead_now l = is_ahead_of l.pings

unfoldable pub feeds : TimedLink → Batch → TimedLink
feeds l b = tells l (Found b)

unfoldable pub loads : TimedLink → StoredImage → TimedLink
loads l image = tells l (FoundImage image)

unfoldable pub is_ping_due : TimedLink → ℕ → Bool
is_ping_due l bytes = option_map_or (λ (p : Pinged). is_pinged p bytes) l.pings false

unfoldable pub with_bytes : TimedLink → ℕ → TimedLink
with_bytes l bytes = record l { pings = option_map (λ (p : Pinged). record p { unpinged = fed_more p.unpinged bytes }) l.pings }

unfoldable pub counts : TimedLink → ℕ → ℕ → TimedLink
counts l bytes now = cond (is_ping_due l bytes) (pinged (with_bytes l bytes) now) (with_bytes l bytes)

unfoldable pub on_find : TimedLink → Batch → ℕ → TimedLink
on_find l b now = cond (is_reading l) (counts (feeds l b) (length b.bytes) now) l

unfoldable pub on_find_image : TimedLink → StoredImage → ℕ → TimedLink
on_find_image l image now = cond (is_ahead_now l) l (counts (loads l image) (length image.bytes) now)

unfoldable pub done_asking : TimedLink → TimedLink
done_asking l = record l { question = questions.Nothing }

-- a read is over, or stays without an answer: where it is over, it looks again
unfoldable pub on_finish : TimedLink → Bool → TimedLink
on_finish l is_known = cond (is_known && not (is_ahead_now (done_asking l))) (looks (done_asking l)) (done_asking l)

-- ---- images

unfoldable pub is_later_image : TimedLink → StoredImage → Bool
is_later_image l image = nat_lt l.seen.image image.offset

unfoldable pub on_settle_image : TimedLink → ImageAnswer → TimedLink
on_settle_image l answer = record l { imaging = image_settled l.imaging answer }

unfoldable pub keeps_image : TimedLink → StoredImage → TimedLink
keeps_image l image = tells l (Imaged l.seen.image image)

unfoldable pub on_give : TimedLink → StoredImage → TimedLink
on_give l image = cond (is_later_image l image) (keeps_image l image) (on_settle_image l answers.Vain)

-- ---- time

abbrev pub is_lapsed_of : Option Lease → ℕ → Bool
is_lapsed_of None now = false
is_lapsed_of (Some lease) now = may_be_over lease now

abbrev pub silence_of : Option Pinged → ℕ → ℕ
silence_of None now = 0
silence_of (Some p) now = silence p.sent now

-- the lease may have run out, or the daemon that leads doesn't answer for as long as one
unfoldable pub is_due_to_end : TimedLink → ℕ → Bool
is_due_to_end l now = is_lapsed_of l.lease now || (is_leading l.core.role && nat_lt l.settings.term (silence_of l.pings now))

unfoldable pub ends_when_due : TimedLink → ℕ → TimedLink
ends_when_due l now = cond (is_due_to_end l now) (gives_up l) l

-- who leads is told the time
unfoldable pub ticks : TimedLink → TimedLink
ticks l = cond (is_leading l.core.role) (puts l (actions.Send frames.Tick)) l

-- for four terms
unfoldable pub is_silent : TimedLink → ℕ → Bool
is_silent l now = nat_lt (min (l.settings.term * 4) (2 ^ 64 - 1)) (silence_of l.pings now)

-- a daemon that doesn't answer is let go; else who leads is told the time, and each is pinged, and the log looked at
unfoldable pub beats : TimedLink → ℕ → TimedLink
beats l now = cond (is_silent l now) (let_go l) (looks (pinged (ticks l) now))

unfoldable pub is_beat : TimedLink → ℕ → Bool
is_beat l now = is_some l.pings && nat_le l.beat now

unfoldable pub with_beat : TimedLink → ℕ → TimedLink
with_beat l now = record l { beat = min (now + 1000) (2 ^ 64 - 1) }

unfoldable pub beats_when_due : TimedLink → ℕ → TimedLink
beats_when_due l now = cond (is_beat l now) (beats (with_beat l now) now) l

-- it is later
unfoldable pub on_wake : TimedLink → ℕ → TimedLink
on_wake l now = beats_when_due (renews (calls_again (ends_when_due l now)) now) now
