-- Each call of a link is moves of its core.
use Rattle.std.proofs.Common.{◌≡◌, ◌∙◌, sym, ℕ, ◌+◌, Bool, true, false, cond, List, [], ◌∷◌, ◌++◌, refl, ap}
use Rattle.std.proofs.lemmas.List.{append_assoc, append-nil}
use Rattle.std.proofs.lemmas.List.Sums.{fold-append}
use Rattle.std.specs.Prelude.{Option, None, Some, flat_map, fold, length}
use Rattle.law_quorum.specs.Batches.{Batch, StoredImage}
use Rattle.law_core.specs.Core as laws
use Rattle.law_core.specs.Core.{Came, Elected, Leading, LinkCore as AnyCore, Over, Role as AnyRole, Standby, core_step}
use Rattle.kr_link.specs.declared.actions.Action.{Action}
use Rattle.kr_link.specs.declared.actions.Action.TheVariants as actions
use Rattle.kr_link.specs.declared.actions.DaemonFrame.TheVariants as frames
use Rattle.kr_link.specs.declared.campaigns.Campaign.{Campaign}
use Rattle.kr_link.specs.declared.imaging.ImageAnswer.TheVariants as answers
use Rattle.kr_link.specs.declared.link.SeenLog.{SeenLog}
use Rattle.kr_link.specs.declared.roles.Held.{Held}
use Rattle.kr_link.specs.Clocks.{campaign_at, has_token}
use Rattle.kr_link.specs.Outgoing.{Outgoing, actions_of, put_again, put_one}
use Rattle.kr_link.specs.Pings.{Pinged}
use Rattle.kr_link.specs.Roles.{held_of, revision_held}
use Rattle.kr_link.specs.TimedLinks.{TimedLink, admits, asks_again, asks_image, asks_renewal, beats, beats_when_due, calls_again, calls_campaign, campaign_of, campaigning, closes, commits, considers, counts, done_asking, ends_when_due, feeds, follows, gives_up, hears, holds, holds_any, is_ahead_now, is_awaited, is_beat, is_below_end, is_below_image, is_due_to_end, is_follower, is_held_at, is_later_image, is_looking, is_ping_answer, is_ping_due, is_reading, is_served, is_silent, is_stray, is_to_renew, keeps_image, let_go, loads, looks, may_campaign, notes, on_fail, on_find, on_find_image, on_finish, on_give, on_join, on_lapse, on_miss, on_part, on_refuse, on_renewal, on_see, on_settle_image, on_stand, on_wake, on_win, on_write, pinged, pinged_of, reads_batches, reads_image, refuses, renewal_of, renews, resigns, serves, serves_none, settles_campaign, stands_for, tells, ticks, tries, wants_image, with_beat, with_bytes, with_ping_answer, grants, is_idle}
use Rattle.kr_link.specs.LinkMoves.{AreLinkMoves, CallAgain, CallsAreMoves, Campaigns, CoreWork, Do, Fail, Find, FindImage, Finish, Give, GiveUp, Join, Lapse, LinkMove, Lose, Miss, Part, Refuse, Renewal, See, SettleImage, Stand, TakesWhatCame, Wake, Win, Write, again_actions, work_after, core_work, work_told, won_came}

-- ---- moves one after the other

none : (w : CoreWork) → AreLinkMoves w w
none w = ([], refl)

one : (w : CoreWork) (move : LinkMove) → AreLinkMoves w (work_after w move)
one w move = (move ∷ [], refl)

then : (a b c : CoreWork) → AreLinkMoves a b → AreLinkMoves b c → AreLinkMoves a c
then a b c x y = (x.0 ++ y.0, fold-append work_after a x.0 y.0 ∙ (ap (λ (w : CoreWork). fold work_after w y.0) x.1 ∙ y.1))

ends_at : (a b c : CoreWork) → AreLinkMoves a b → b ≡ c → AreLinkMoves a c
ends_at a b c x e = (x.0, x.1 ∙ e)

either : (a : CoreWork) (t : Bool) (x y : TimedLink) → AreLinkMoves a (core_work x) → AreLinkMoves a (core_work y) → AreLinkMoves a (core_work (cond t x y))
either a true x y p q = p
either a false x y p q = q

-- ---- what goes out

all_put : (more : List Action) (out : Outgoing) → (fold put_one out more).actions ≡ out.actions ++ more
all_put [] out = sym (append-nil out.actions)
all_put (action ∷ more) out = all_put more (put_one out action) ∙ append_assoc out.actions (action ∷ []) more

abbrev work_with : TimedLink → AnyCore → List Action → CoreWork
work_with l core done = record { core = core; actions = done; next = l.campaigns.next }

told : (l : TimedLink) (came : Came) → work_told (core_work l) came ≡ core_work (tells l came)
told l came = sym (ap (λ (done : List Action). work_with l (core_step l.core came).0 done) (all_put (flat_map actions_of (core_step l.core came).1) l.out))

over : (l : TimedLink) → AreLinkMoves (core_work l) (core_work (gives_up l))
unfolding gives_up
over l = ends_at (core_work l) (work_told (core_work l) Over) (core_work (tells l Over)) (one (core_work l) GiveUp) (told l Over)

closed : (l : TimedLink) → AreLinkMoves (core_work l) (core_work (closes l))
unfolding closes
closed l = one (core_work l) (Do actions.Close)

gone : (l : TimedLink) → AreLinkMoves (core_work l) (core_work (let_go l))
unfolding let_go
gone l = then (core_work l) (core_work (gives_up l)) (core_work (closes (gives_up l))) (over l) (closed (gives_up l))

looked : (l : TimedLink) → AreLinkMoves (core_work l) (core_work (looks l))
unfolding looks
looked l = either (core_work l) (is_idle l.question) _ l (one (core_work l) (Do actions.Look)) (none (core_work l))

ping_sent : (l : TimedLink) (now : ℕ) (pings : Option Pinged) → AreLinkMoves (core_work l) (core_work (pinged_of l now pings))
ping_sent l now None = none (core_work l)
ping_sent l now (Some p) = one (core_work l) (Do (actions.Send frames.Ping))

ping : (l : TimedLink) (now : ℕ) → AreLinkMoves (core_work l) (core_work (pinged l now))
unfolding pinged
ping l now = ping_sent l now l.pings

-- ---- time

again : (l : TimedLink) (role : AnyRole) → l.core.role ≡ role → l.out.actions ++ again_actions role ≡ (put_again l.out role).actions
again l Standby e = append-nil l.out.actions
again l (Elected h) e = append-nil l.out.actions
again l (Leading h [] waits) e = append-nil l.out.actions
again l (Leading h (b ∷ bs) waits) e = refl

called : (l : TimedLink) → AreLinkMoves (core_work l) (core_work (calls_again l))
unfolding calls_again asks_again
called l =
    either (core_work l) l.is_unanswered (asks_again l) l
    (ends_at (core_work l) (work_after (core_work l) CallAgain) (core_work (asks_again l)) (one (core_work l) CallAgain) (ap (λ (done : List Action). work_with l l.core done) (again l l.core.role refl)))
    (none (core_work l))

renewal : (l : TimedLink) (made : Option ℕ) → AreLinkMoves (core_work l) (core_work (renewal_of l made))
renewal l None = none (core_work l)
renewal l (Some made) = one (core_work l) (Do (actions.Renew made))

renewed : (l : TimedLink) (now : ℕ) → AreLinkMoves (core_work l) (core_work (renews l now))
unfolding renews asks_renewal tries
renewed l now = either (core_work l) (is_to_renew l now) (asks_renewal (tries l now)) (tries l now) (renewal (tries l now) (revision_held l.core.role)) (none (core_work l))

ended : (l : TimedLink) (now : ℕ) → AreLinkMoves (core_work l) (core_work (ends_when_due l now))
unfolding ends_when_due
ended l now = either (core_work l) (is_due_to_end l now) (gives_up l) l (over l) (none (core_work l))

ticked : (l : TimedLink) → AreLinkMoves (core_work l) (core_work (ticks l))
unfolding ticks
ticked l = either (core_work l) _ _ l (one (core_work l) (Do (actions.Send frames.Tick))) (none (core_work l))

beat : (l : TimedLink) (now : ℕ) → AreLinkMoves (core_work l) (core_work (beats l now))
unfolding beats
beat l now =
    either (core_work l) (is_silent l now) (let_go l) (looks (pinged (ticks l) now)) (gone l)
    (then (core_work l) (core_work (pinged (ticks l) now)) (core_work (looks (pinged (ticks l) now)))
    (then (core_work l) (core_work (ticks l)) (core_work (pinged (ticks l) now)) (ticked l) (ping (ticks l) now)) (looked (pinged (ticks l) now)))

beat_due : (l : TimedLink) (now : ℕ) → AreLinkMoves (core_work l) (core_work (beats_when_due l now))
unfolding beats_when_due with_beat
beat_due l now = either (core_work l) (is_beat l now) (beats (with_beat l now) now) l (beat (with_beat l now) now) (none (core_work l))

woken : (l : TimedLink) (now : ℕ) → AreLinkMoves (core_work l) (core_work (on_wake l now))
unfolding on_wake
woken l now =
    let first : TimedLink = ends_when_due l now in
    let second : TimedLink = calls_again first in
    let third : TimedLink = renews second now in
    then (core_work l) (core_work third) (core_work (beats_when_due third now))
    (then (core_work l) (core_work second) (core_work third) (then (core_work l) (core_work first) (core_work second) (ended l now) (called first)) (renewed second now))
    (beat_due third now)

-- ---- what is read

stood_for : (l : TimedLink) (now : ℕ) (t : Bool)
    → AreLinkMoves (core_work l) (core_work (calls_campaign (record l { campaigns = cond t (record { next = l.campaigns.next + 1; under_way = Some (campaign_at l.campaigns now) }) l.campaigns }) (cond t (Some (campaign_at l.campaigns now)) None)))
stood_for l now false = none (core_work l)
stood_for l now true = one (core_work l) Campaigns

campaigned : (l : TimedLink) (now : ℕ) → AreLinkMoves (core_work l) (core_work (stands_for l now))
unfolding stands_for campaigning
campaigned l now = either (core_work l) (may_campaign l now) (campaigning l now) l (stood_for l now (has_token l.campaigns)) (none (core_work l))

followed : (l : TimedLink) (now : ℕ) → AreLinkMoves (core_work l) (core_work (follows l now))
unfolding follows reads_image reads_batches
followed l now =
    either (core_work l) (is_follower l) _ l
    (either (core_work l) (is_below_image l) (reads_image l) _ (one (core_work l) (Do actions.ReadImage))
    (either (core_work l) (is_below_end l) (reads_batches l) (stands_for l now) (one (core_work l) (Do (actions.Read l.core.fed l.seen.end))) (campaigned l now)))
    (none (core_work l))

considered : (l : TimedLink) → AreLinkMoves (core_work l) (core_work (considers l))
unfolding considers asks_image
considered l = either (core_work l) (wants_image l) (asks_image l) l (one (core_work l) (Do actions.AskImage)) (none (core_work l))

seen : (l : TimedLink) (s : SeenLog) (now : ℕ) → AreLinkMoves (core_work l) (core_work (on_see l s now))
unfolding on_see notes
seen l s now =
    either (core_work l) (is_looking l) (follows (considers (notes l s)) now) l
    (then (core_work l) (core_work (considers (notes l s))) (core_work (follows (considers (notes l s)) now)) (considered (notes l s)) (followed (considers (notes l s)) now))
    (none (core_work l))

counted : (l : TimedLink) (bytes now : ℕ) → AreLinkMoves (core_work l) (core_work (counts l bytes now))
unfolding counts with_bytes
counted l bytes now = either (core_work l) (is_ping_due l bytes) (pinged (with_bytes l bytes) now) (with_bytes l bytes) (ping (with_bytes l bytes) now) (none (core_work l))

finished : (l : TimedLink) (is_known : Bool) → AreLinkMoves (core_work l) (core_work (on_finish l is_known))
unfolding on_finish done_asking
finished l is_known = either (core_work l) _ (looks (done_asking l)) (done_asking l) (looked (done_asking l)) (none (core_work l))

-- ---- where something comes for the core

-- it is told, and what follows are moves
comes : (came : Came) (l x : TimedLink) → AreLinkMoves (core_work (tells l came)) (core_work x) → TakesWhatCame came (core_work l) (core_work x)
comes came l x p = (true, then (work_told (core_work l) came) (core_work (tells l came)) (core_work x) ([], told l came) p)

passes : (came : Came) (l x : TimedLink) → AreLinkMoves (core_work l) (core_work x) → TakesWhatCame came (core_work l) (core_work x)
passes came l x p = (false, p)

branch : (came : Came) (w : CoreWork) (t : Bool) (x y : TimedLink) → TakesWhatCame came w (core_work x) → TakesWhatCame came w (core_work y) → TakesWhatCame came w (core_work (cond t x y))
branch came w true x y p q = p
branch came w false x y p q = q

refused : (l : TimedLink) (is_known : Bool) → AreLinkMoves (core_work l) (core_work (refuses is_known l))
refused l true = looked l
refused l false = gone l

module _ (l : TimedLink) where
  joined : (now : ℕ) → TakesWhatCame laws.Joined (core_work l) (core_work (on_join l now))
  unfolding on_join serves
  joined now = comes laws.Joined l (on_join l now) (ping (serves l) now)

  parted : AreLinkMoves (core_work l) (core_work (on_part l))
  unfolding on_part serves_none
  parted = over l

  wrote : (b : Batch) → TakesWhatCame (laws.Appended b) (core_work l) (core_work (on_write l b))
  unfolding on_write hears
  wrote b =
      branch (laws.Appended b) (core_work l) (is_stray l b) (let_go l) (hears l b)
      (passes (laws.Appended b) l (let_go l) (gone l)) (comes (laws.Appended b) l (hears l b) (none (core_work (tells l (laws.Appended b)))))

  refusal : (event : ℕ) (led : Option ℕ) (now : ℕ) → AreLinkMoves (core_work l) (core_work (on_refuse l event led now))
  unfolding on_refuse with_ping_answer
  refusal event led now = either (core_work l) (is_served l) _ l (refused (with_ping_answer l event led now) (is_ping_answer l event led)) (none (core_work l))

  resigned : (held : Held) → AreLinkMoves (core_work l) (core_work (resigns l held))
  unfolding resigns
  resigned held = one (core_work l) (Do (actions.Resign held.made))

  held_so : (held : Held) (asked : ℕ) → TakesWhatCame (laws.Won (held_of held)) (core_work l) (core_work (holds l held asked))
  unfolding holds
  held_so held asked = comes (laws.Won (held_of held)) l (holds l held asked) (none (core_work (tells l (laws.Won (held_of held)))))

  admitted : (held : Held) (campaign : Option Campaign) → TakesWhatCame (won_came held campaign) (core_work l) (core_work (admits l held campaign))
  unfolding admits
  admitted held None = passes Over l (resigns l held) (resigned held)
  admitted held (Some campaign) =
      branch (laws.Won (held_of held)) (core_work l) (holds_any l) (resigns l held) (holds l held campaign.asked)
      (passes (laws.Won (held_of held)) l (resigns l held) (resigned held)) (held_so held campaign.asked)

won : (l : TimedLink) (token : ℕ) (held : Held) → TakesWhatCame (won_came held (campaign_of l token)) (core_work l) (core_work (on_win l token held))
unfolding on_win settles_campaign
won l token held = admitted (settles_campaign l token) held (campaign_of l token)

module _ (l : TimedLink) where
  stood : (made base : ℕ) → TakesWhatCame (laws.Stood made base) (core_work l) (core_work (on_stand l made base))
  unfolding on_stand commits
  stood made base =
      branch (laws.Stood made base) (core_work l) (is_awaited l made base) (commits l made base) l
      (comes (laws.Stood made base) l (commits l made base) (none (core_work (tells l (laws.Stood made base))))) (passes (laws.Stood made base) l l (none (core_work l)))

  failed : (made base : ℕ) → AreLinkMoves (core_work l) (core_work (on_fail l made base))
  unfolding on_fail
  failed made base = either (core_work l) (is_awaited l made base) (gives_up l) l (over l) (none (core_work l))

  granted : (made : ℕ) (is_granted : Bool) → AreLinkMoves (core_work l) (core_work (on_renewal l made is_granted))
  unfolding on_renewal grants
  granted made is_granted = either (core_work l) (is_held_at l made) (grants l is_granted) l (none (core_work l)) (none (core_work l))

  lapsed : (made : ℕ) → AreLinkMoves (core_work l) (core_work (on_lapse l made))
  unfolding on_lapse
  lapsed made = either (core_work l) (is_held_at l made) (gives_up l) l (over l) (none (core_work l))

  found : (b : Batch) (now : ℕ) → TakesWhatCame (laws.Found b) (core_work l) (core_work (on_find l b now))
  unfolding on_find feeds
  found b now =
      branch (laws.Found b) (core_work l) (is_reading l) (counts (feeds l b) (length b.bytes) now) l
      (comes (laws.Found b) l (counts (feeds l b) (length b.bytes) now) (counted (feeds l b) (length b.bytes) now)) (passes (laws.Found b) l l (none (core_work l)))

  image_found : (image : StoredImage) (now : ℕ) → TakesWhatCame (laws.FoundImage image) (core_work l) (core_work (on_find_image l image now))
  unfolding on_find_image loads
  image_found image now =
      branch (laws.FoundImage image) (core_work l) (is_ahead_now l) l (counts (loads l image) (length image.bytes) now)
      (passes (laws.FoundImage image) l l (none (core_work l)))
      (comes (laws.FoundImage image) l (counts (loads l image) (length image.bytes) now) (counted (loads l image) (length image.bytes) now))

  gave : (image : StoredImage) → TakesWhatCame (laws.Imaged l.seen.image image) (core_work l) (core_work (on_give l image))
  unfolding on_give keeps_image on_settle_image
  gave image =
      branch (laws.Imaged l.seen.image image) (core_work l) (is_later_image l image) (keeps_image l image) (on_settle_image l answers.Vain)
      (comes (laws.Imaged l.seen.image image) l (keeps_image l image) (none (core_work (tells l (laws.Imaged l.seen.image image)))))
      (passes (laws.Imaged l.seen.image image) l (on_settle_image l answers.Vain) (none (core_work l)))

pub calls_are_moves : CallsAreMoves
unfolding settles_campaign on_miss on_settle_image
calls_are_moves l (Join now) = joined l now
calls_are_moves l Part = passes Over l (on_part l) (parted l)
calls_are_moves l (Write b) = wrote l b
calls_are_moves l (Refuse event led now) = passes Over l (on_refuse l event led now) (refusal l event led now)
calls_are_moves l (Win token held) = won l token held
calls_are_moves l (Lose token) = passes Over l (settles_campaign l token) (none (core_work l))
calls_are_moves l (Stand made base) = stood l made base
calls_are_moves l (Fail made base) = passes Over l (on_fail l made base) (failed l made base)
calls_are_moves l (Miss made base) = passes Over l (on_miss l made base) (none (core_work l))
calls_are_moves l (Renewal made is_granted) = passes Over l (on_renewal l made is_granted) (granted l made is_granted)
calls_are_moves l (Lapse made) = passes Over l (on_lapse l made) (lapsed l made)
calls_are_moves l (See s now) = passes Over l (on_see l s now) (seen l s now)
calls_are_moves l (Find b now) = found l b now
calls_are_moves l (FindImage image now) = image_found l image now
calls_are_moves l (Finish is_known) = passes Over l (on_finish l is_known) (finished l is_known)
calls_are_moves l (Give image) = gave l image
calls_are_moves l (SettleImage answer) = passes Over l (on_settle_image l answer) (none (core_work l))
calls_are_moves l (Wake now) = passes Over l (on_wake l now) (woken l now)
