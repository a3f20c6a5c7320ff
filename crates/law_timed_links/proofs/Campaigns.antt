-- What calls of a link make of its campaigns: each begins with the next token, and one whose answer came isn't awaited any more.
use Rattle.std.proofs.Common.{◌≡◌, ◌∙◌, sym, ℕ, ◌+◌, ◌<◌, ◌≤◌, Bool, true, false, cond, List, [], ◌∷◌, refl, ap, subst, arith, inl, inr, ◌⊎◌}
use Rattle.std.proofs.lemmas.Bool.{eqb-true}
use Rattle.std.specs.Option.{unwrap_or}
use Rattle.std.specs.Prelude.{None, Option, Some, filter, flat_map, fold, length, nat_eq}
use Rattle.std.specs.List.{AllByRecursion}
use Rattle.law_quorum.specs.Batches.{Batch, StoredImage}
use Rattle.law_core.specs.Core.{CallAppend, CallDrop, Came, Deed, Elected, HandBatch, HandCommit, HandImage, HandLead, HandLost, Leading, Over, Resign, Role, Standby, core_step}
use Rattle.law_link.proofs.LinkSteps.{all_map}
use Rattle.kr_link.specs.declared.actions.Action.{Action}
use Rattle.kr_link.specs.declared.actions.Action.TheVariants as actions
use Rattle.kr_link.specs.declared.actions.DaemonFrame.TheVariants as frames
use Rattle.kr_link.specs.declared.campaigns.Campaign.{Campaign}
use Rattle.kr_link.specs.declared.campaigns.Campaigns.{Campaigns as Counted}
use Rattle.kr_link.specs.declared.link.SeenLog.{SeenLog}
use Rattle.kr_link.specs.declared.roles.Held.{Held}
use Rattle.kr_link.specs.Clocks.{campaign_at, has_token, left_under_way, settled_with, with_token}
use Rattle.kr_link.specs.LinkMoves.{AreLinkMoves, CallAgain, Campaigns, CoreWork, Do, Fail, Find, FindImage, Finish, Give, GiveUp, Join, Lapse, LinkCall, LinkMove, Lose, Miss, Part, Refuse, Renewal, See, SettleImage, Stand, TakesWhatCame, Wake, Win, Write, again_actions, is_beside, link_after, work_after, work_told}
use Rattle.kr_link.specs.Outgoing.{actions_of}
use Rattle.kr_link.specs.Pings.{Pinged}
use Rattle.kr_link.specs.Roles.{revision_held}
use Rattle.kr_link.specs.TimedLinks.{TimedLink, admits, asks_again, asks_image, asks_renewal, beats, beats_when_due, calls_again, calls_campaign, campaign_of, campaigning, closes, commits, considers, counts, done_asking, ends_when_due, feeds, follows, gives_up, grants, hears, holds, holds_any, is_ahead_now, is_awaited, is_beat, is_below_end, is_below_image, is_due_to_end, is_follower, is_held_at, is_idle, is_later_image, is_looking, is_ping_answer, is_ping_due, is_reading, is_served, is_silent, is_stray, is_to_renew, keeps_image, let_go, loads, looks, may_campaign, notes, on_fail, on_find, on_find_image, on_finish, on_give, on_join, on_lapse, on_miss, on_part, on_refuse, on_renewal, on_see, on_settle_image, on_stand, on_wake, on_win, on_write, pinged, pinged_of, reads_batches, reads_image, refuses, renewal_of, renews, resigns, serves, serves_none, settles_campaign, stands_for, ticks, tries, wants_image, with_beat, with_bytes, with_ping_answer}
use Rattle.law_timed_links.proofs.DeedEffects.{all_both, either}

-- ---- tokens that were put out are below the next one

abbrev pub IsBelow : ℕ → Action → Type 0
IsBelow next (actions.Campaign token) = token < next
IsBelow next other = Unit {0}

below_later : (low high : ℕ) → low ≤ high → (action : Action) → IsBelow low action → IsBelow high action
below_later low high le (actions.Campaign token) b = omega (arith, le, b)
below_later low high le other b = tt

all_below_later : (low high : ℕ) → low ≤ high → (done : List Action) → AllByRecursion (IsBelow low) done → AllByRecursion (IsBelow high) done
all_below_later low high le done a = all_map (IsBelow low) (IsBelow high) (below_later low high le) done a

deed_below : (next : ℕ) (deed : Deed) → AllByRecursion (IsBelow next) (actions_of deed)
deed_below next (HandBatch b) = (tt, tt)
deed_below next (HandImage image) = (tt, tt)
deed_below next (HandLead h) = (tt, tt)
deed_below next (HandCommit h end) = (tt, tt)
deed_below next (HandLost h) = (tt, tt)
deed_below next (CallAppend h group waits) = (tt, tt)
deed_below next (CallDrop before image) = (tt, tt)
deed_below next (Resign h) = (tt, tt)
deed_below next other = tt

deeds_below : (next : ℕ) (deeds : List Deed) → AllByRecursion (IsBelow next) (flat_map actions_of deeds)
deeds_below next [] = tt
deeds_below next (deed ∷ deeds) = all_both (IsBelow next) (actions_of deed) (flat_map actions_of deeds) (deed_below next deed) (deeds_below next deeds)

again_below : (next : ℕ) (role : Role) → AllByRecursion (IsBelow next) (again_actions role)
again_below next Standby = tt
again_below next (Elected h) = tt
again_below next (Leading h [] waits) = tt
again_below next (Leading h (b ∷ bs) waits) = (tt, tt)

beside_below : (next : ℕ) (action : Action) → AllByRecursion (IsBelow next) (filter is_beside (action ∷ []))
beside_below next (actions.Send frames.Ping) = (tt, tt)
beside_below next (actions.Send frames.Tick) = (tt, tt)
beside_below next (actions.Send frame) = tt
beside_below next (actions.Append guard batches) = tt
beside_below next (actions.DropBatches before below image) = tt
beside_below next (actions.Campaign token) = tt
beside_below next other = (tt, tt)

pub record Goes (before after : CoreWork) : Type 0 where
  pub next : before.next ≤ after.next
  pub below : AllByRecursion (IsBelow before.next) before.actions → AllByRecursion (IsBelow after.next) after.actions

goes_told : (w : CoreWork) (came : Came) → Goes w (work_told w came)
goes_told w came = record {
  next = omega arith;
  below = λ b. all_both (IsBelow w.next) w.actions (flat_map actions_of (core_step w.core came).1) b (deeds_below w.next (core_step w.core came).1);
}

goes_one : (w : CoreWork) (move : LinkMove) → Goes w (work_after w move)
goes_one w GiveUp = goes_told w Over
goes_one w CallAgain = record {
  next = omega arith;
  below = λ b. all_both (IsBelow w.next) w.actions (again_actions w.core.role) b (again_below w.next w.core.role);
}
goes_one w Campaigns = record {
  next = omega arith;
  below = λ b.
      all_both (IsBelow (w.next + 1)) w.actions (actions.Campaign w.next ∷ [])
      (all_below_later w.next (w.next + 1) (omega arith) w.actions b) (omega arith, tt);
}
goes_one w (Do action) = record {
  next = omega arith;
  below = λ b. all_both (IsBelow w.next) w.actions (filter is_beside (action ∷ [])) b (beside_below w.next action);
}

goes_both : (a b c : CoreWork) → Goes a b → Goes b c → Goes a c
goes_both a b c x y = record { next = (let one : a.next ≤ b.next = x.next in let two : b.next ≤ c.next = y.next in omega arith); below = λ z. y.below (x.below z) }

goes_all : (w : CoreWork) (moves : List LinkMove) → Goes w (fold work_after w moves)
goes_all w [] = record { next = omega arith; below = λ b. b }
goes_all w (move ∷ moves) = goes_both w (work_after w move) (fold work_after (work_after w move) moves) (goes_one w move) (goes_all (work_after w move) moves)

goes_moves : (before after : CoreWork) → AreLinkMoves before after → Goes before after
goes_moves before after m = subst (λ (w : CoreWork). Goes before w) m.1 (goes_all before m.0)

goes_by : (came : Came) (before after : CoreWork) (told : Bool) → AreLinkMoves (cond told (work_told before came) before) after → Goes before after
goes_by came before after true m = goes_both before (work_told before came) after (goes_told before came) (goes_moves (work_told before came) after m)
goes_by came before after false m = goes_moves before after m

pub goes : (came : Came) (before after : CoreWork) → TakesWhatCame came before after → Goes before after
goes came before after t = goes_by came before after t.0 t.1

-- ---- which campaign is awaited

abbrev pub Same : TimedLink → TimedLink → Type 0
Same l x = x.campaigns ≡ l.campaigns

-- none, the one that was, or one with the next token
abbrev pub AwaitsAfter : TimedLink → TimedLink → Type 0
AwaitsAfter l x =
    (x.campaigns.under_way ≡ None) ⊎ ((x.campaigns.under_way ≡ l.campaigns.under_way)
    ⊎ ((it : Campaign) × ((x.campaigns.under_way ≡ Some it) × (it.token ≡ l.campaigns.next))))

as_before : (l x : TimedLink) → Same l x → AwaitsAfter l x
as_before l x e = inr (inl (ap (λ (c : Counted). c.under_way) e))

same_over : (l : TimedLink) → Same l (gives_up l)
unfolding gives_up
same_over l = refl

same_gone : (l : TimedLink) → Same l (let_go l)
unfolding let_go closes gives_up
same_gone l = refl

same_looked : (l : TimedLink) → Same l (looks l)
unfolding looks
same_looked l = either (Same l) (is_idle l.question) _ l refl refl

same_ping_of : (l : TimedLink) (now : ℕ) (pings : Option Pinged) → Same l (pinged_of l now pings)
same_ping_of l now None = refl
same_ping_of l now (Some p) = refl

same_ping : (l : TimedLink) (now : ℕ) → Same l (pinged l now)
unfolding pinged
same_ping l now = same_ping_of l now l.pings

same_refuses : (l : TimedLink) (is_known : Bool) → Same l (refuses is_known l)
same_refuses l true = same_looked l
same_refuses l false = same_gone l

same_renewal : (l : TimedLink) (made : Option ℕ) → Same l (renewal_of l made)
same_renewal l None = refl
same_renewal l (Some made) = refl

module _ (l : TimedLink) where
  same_ended : (now : ℕ) → Same l (ends_when_due l now)
  unfolding ends_when_due
  same_ended now = either (Same l) (is_due_to_end l now) (gives_up l) l (same_over l) refl

  same_again : Same l (calls_again l)
  unfolding calls_again asks_again
  same_again = either (Same l) l.is_unanswered (asks_again l) l refl refl

  same_renewed : (now : ℕ) → Same l (renews l now)
  unfolding renews asks_renewal tries
  same_renewed now = either (Same l) (is_to_renew l now) (asks_renewal (tries l now)) (tries l now) (same_renewal (tries l now) (revision_held l.core.role)) refl

  same_ticked : Same l (ticks l)
  unfolding ticks
  same_ticked = either (Same l) _ _ l refl refl

same_beats : (l : TimedLink) (now : ℕ) → Same l (beats l now)
unfolding beats
same_beats l now =
    either (Same l) (is_silent l now) (let_go l) (looks (pinged (ticks l) now)) (same_gone l)
    (same_looked (pinged (ticks l) now) ∙ (same_ping (ticks l) now ∙ same_ticked l))

same_due : (l : TimedLink) (now : ℕ) → Same l (beats_when_due l now)
unfolding beats_when_due with_beat
same_due l now = either (Same l) (is_beat l now) (beats (with_beat l now) now) l (same_beats (with_beat l now) now) refl

same_wake : (l : TimedLink) (now : ℕ) → Same l (on_wake l now)
unfolding on_wake
same_wake l now =
    let first : TimedLink = ends_when_due l now in
    let second : TimedLink = calls_again first in
    let third : TimedLink = renews second now in
    same_due third now ∙ (same_renewed second now ∙ (same_again first ∙ same_ended l now))

same_counts : (l : TimedLink) (bytes now : ℕ) → Same l (counts l bytes now)
unfolding counts with_bytes
same_counts l bytes now = either (Same l) (is_ping_due l bytes) (pinged (with_bytes l bytes) now) (with_bytes l bytes) (same_ping (with_bytes l bytes) now) refl

module _ (l : TimedLink) where
  same_join : (now : ℕ) → Same l (on_join l now)
  unfolding on_join serves
  same_join now = same_ping (serves l) now

  same_part : Same l (on_part l)
  unfolding on_part serves_none gives_up
  same_part = refl

  same_write : (b : Batch) → Same l (on_write l b)
  unfolding on_write hears
  same_write b = either (Same l) (is_stray l b) (let_go l) (hears l b) (same_gone l) refl

  same_refuse : (event : ℕ) (led : Option ℕ) (now : ℕ) → Same l (on_refuse l event led now)
  unfolding on_refuse with_ping_answer
  same_refuse event led now =
      either (Same l) (is_served l) (refuses (is_ping_answer l event led) (with_ping_answer l event led now)) l
      (same_refuses (with_ping_answer l event led now) (is_ping_answer l event led)) refl

  same_stand : (made base : ℕ) → Same l (on_stand l made base)
  unfolding on_stand commits
  same_stand made base = either (Same l) (is_awaited l made base) (commits l made base) l refl refl

  same_fail : (made base : ℕ) → Same l (on_fail l made base)
  unfolding on_fail
  same_fail made base = either (Same l) (is_awaited l made base) (gives_up l) l (same_over l) refl

  same_miss : (made base : ℕ) → Same l (on_miss l made base)
  unfolding on_miss
  same_miss made base = refl

  same_renewal_call : (made : ℕ) (is_granted : Bool) → Same l (on_renewal l made is_granted)
  unfolding on_renewal grants
  same_renewal_call made is_granted = either (Same l) (is_held_at l made) (grants l is_granted) l refl refl

  same_lapse : (made : ℕ) → Same l (on_lapse l made)
  unfolding on_lapse
  same_lapse made = either (Same l) (is_held_at l made) (gives_up l) l (same_over l) refl

  same_find : (b : Batch) (now : ℕ) → Same l (on_find l b now)
  unfolding on_find feeds
  same_find b now = either (Same l) (is_reading l) (counts (feeds l b) (length b.bytes) now) l (same_counts (feeds l b) (length b.bytes) now) refl

  same_find_image : (image : StoredImage) (now : ℕ) → Same l (on_find_image l image now)
  unfolding on_find_image loads
  same_find_image image now =
      either (Same l) (is_ahead_now l) l (counts (loads l image) (length image.bytes) now) refl (same_counts (loads l image) (length image.bytes) now)

  same_finish : (is_known : Bool) → Same l (on_finish l is_known)
  unfolding on_finish done_asking
  same_finish is_known = either (Same l) _ (looks (done_asking l)) (done_asking l) (same_looked (done_asking l)) refl

  same_give : (image : StoredImage) → Same l (on_give l image)
  unfolding on_give keeps_image on_settle_image
  same_give image = either (Same l) (is_later_image l image) (keeps_image l image) _ refl refl

  same_considered : Same l (considers l)
  unfolding considers asks_image
  same_considered = either (Same l) (wants_image l) (asks_image l) l refl refl

-- ---- a campaign begins

begun : (l : TimedLink) (now : ℕ) (t : Bool)
    → AwaitsAfter l (calls_campaign (record l { campaigns = cond t (record { next = l.campaigns.next + 1; under_way = Some (campaign_at l.campaigns now) }) l.campaigns }) (cond t (Some (campaign_at l.campaigns now)) None))
begun l now false = inr (inl refl)
begun l now true = inr (inr (campaign_at l.campaigns now, (refl, refl)))

campaigned : (l : TimedLink) (now : ℕ) → AwaitsAfter l (stands_for l now)
unfolding stands_for campaigning
campaigned l now = either (AwaitsAfter l) (may_campaign l now) (campaigning l now) l (begun l now (has_token l.campaigns)) (inr (inl refl))

followed : (l : TimedLink) (now : ℕ) → AwaitsAfter l (follows l now)
unfolding follows reads_image reads_batches
followed l now =
    either (AwaitsAfter l) (is_follower l) (cond (is_below_image l) (reads_image l) (cond (is_below_end l) (reads_batches l) (stands_for l now))) l
    (either (AwaitsAfter l) (is_below_image l) (reads_image l) (cond (is_below_end l) (reads_batches l) (stands_for l now)) (inr (inl refl))
    (either (AwaitsAfter l) (is_below_end l) (reads_batches l) (stands_for l now) (inr (inl refl)) (campaigned l now))) (inr (inl refl))

awaits_from : (l m x : TimedLink) → Same l m → AwaitsAfter m x → AwaitsAfter l x
awaits_from l m x e a = elim a [
  | inl none ↦ inl none
  | inr more ↦ elim more [
    | inl same ↦ inr (inl (same ∙ ap (λ (c : Counted). c.under_way) e))
    | inr fresh ↦ inr (inr (fresh.0, (fresh.1.0, fresh.1.1 ∙ ap (λ (c : Counted). c.next) e)))
  ]
]

saw : (l : TimedLink) (seen : SeenLog) (now : ℕ) → AwaitsAfter l (on_see l seen now)
unfolding on_see notes
saw l seen now =
    either (AwaitsAfter l) (is_looking l) (follows (considers (notes l seen)) now) l
    (awaits_from l (considers (notes l seen)) (follows (considers (notes l seen)) now) (same_considered (notes l seen)) (followed (considers (notes l seen)) now))
    (inr (inl refl))

lost_by : (l : TimedLink) (o : Option Campaign) (token : ℕ) → l.campaigns.under_way ≡ o
    → (left_under_way o token ≡ None) ⊎ (left_under_way o token ≡ l.campaigns.under_way)
lost_by l None token e = inl refl
lost_by l (Some it) token e = either (λ (o : Option Campaign). (o ≡ None) ⊎ (o ≡ l.campaigns.under_way)) (nat_eq it.token token) None (Some it) (inl refl) (inr (sym e))

lost : (l : TimedLink) (token : ℕ) → AwaitsAfter l (settles_campaign l token)
unfolding settles_campaign
lost l token = elim (lost_by l l.campaigns.under_way token refl) [
  | inl none ↦ inl none
  | inr same ↦ inr (inl same)
]

abbrev pub IsNoWin : LinkCall → Type 0
IsNoWin (Win token held) = ⊥
IsNoWin other = Unit {0}

pub awaits_after : (l : TimedLink) (call : LinkCall) → IsNoWin call → AwaitsAfter l (link_after l call)
unfolding on_settle_image
awaits_after l (Win token held) free = absurd free
awaits_after l (Lose token) free = lost l token
awaits_after l (See seen now) free = saw l seen now
awaits_after l (Join now) free = as_before l (on_join l now) (same_join l now)
awaits_after l Part free = as_before l (on_part l) (same_part l)
awaits_after l (Write b) free = as_before l (on_write l b) (same_write l b)
awaits_after l (Refuse event led now) free = as_before l (on_refuse l event led now) (same_refuse l event led now)
awaits_after l (Stand made base) free = as_before l (on_stand l made base) (same_stand l made base)
awaits_after l (Fail made base) free = as_before l (on_fail l made base) (same_fail l made base)
awaits_after l (Miss made base) free = as_before l (on_miss l made base) (same_miss l made base)
awaits_after l (Renewal made is_granted) free = as_before l (on_renewal l made is_granted) (same_renewal_call l made is_granted)
awaits_after l (Lapse made) free = as_before l (on_lapse l made) (same_lapse l made)
awaits_after l (Find b now) free = as_before l (on_find l b now) (same_find l b now)
awaits_after l (FindImage image now) free = as_before l (on_find_image l image now) (same_find_image l image now)
awaits_after l (Finish is_known) free = as_before l (on_finish l is_known) (same_finish l is_known)
awaits_after l (Give image) free = as_before l (on_give l image) (same_give l image)
awaits_after l (SettleImage answer) free = inr (inl refl)
awaits_after l (Wake now) free = as_before l (on_wake l now) (same_wake l now)

-- ---- an answer

admitted : (l : TimedLink) (held : Held) (campaign : Option Campaign) → Same l (admits l held campaign)
unfolding admits resigns holds
admitted l held None = refl
admitted l held (Some campaign) = either (Same l) (holds_any l) (resigns l held) (holds l held campaign.asked) refl refl

won : (l : TimedLink) (token : ℕ) (held : Held) → (on_win l token held).campaigns ≡ settled_with l.campaigns token
unfolding on_win settles_campaign
won l token held = admitted (settles_campaign l token) held (campaign_of l token)

settled_none : (o : Option Campaign) (token : ℕ) → (with_token o token ≡ None → ⊥) → left_under_way o token ≡ None
settled_none None token f = refl
settled_none (Some it) token f = by (nat_eq it.token token) f
  where
    by : (t : Bool) → (cond t (Some it) None ≡ None → ⊥) → cond t None (Some it) ≡ None
    by true g = refl
    by false g = absurd (g refl)

-- a campaign whose answer came isn't awaited any more
pub answered : (l : TimedLink) (token : ℕ) (held : Held) → (campaign_of l token ≡ None → ⊥) → (on_win l token held).campaigns.under_way ≡ None
unfolding campaign_of
answered l token held f = ap (λ (c : Counted). c.under_way) (won l token held) ∙ settled_none l.campaigns.under_way token f

pub unanswered : (l : TimedLink) (token : ℕ) (held : Held) → AwaitsAfter l (on_win l token held)
unanswered l token held = elim (lost_by l l.campaigns.under_way token refl) [
  | inl none ↦ inl (ap (λ (c : Counted). c.under_way) (won l token held) ∙ none)
  | inr same ↦ inr (inl (ap (λ (c : Counted). c.under_way) (won l token held) ∙ same))
]

-- the one that is answered was awaited, under this token
pub was_awaited : (l : TimedLink) (token : ℕ) (it : Campaign) → campaign_of l token ≡ Some it → (l.campaigns.under_way ≡ Some it) × (it.token ≡ token)
unfolding campaign_of
was_awaited l token it e = by l.campaigns.under_way e
  where
    by : (o : Option Campaign) → with_token o token ≡ Some it → (o ≡ Some it) × (it.token ≡ token)
    by None x = absurd cc
    by (Some c) x = at (nat_eq c.token token) refl x
      where
        at : (t : Bool) → nat_eq c.token token ≡ t → cond t (Some c) None ≡ Some it → (Some c ≡ Some it) × (it.token ≡ token)
        at true y x = (x, ap (λ (o : Option Campaign). (unwrap_or o it).token) (sym x) ∙ eqb-true c.token token y)
        at false y x = absurd cc
