-- Leases, campaigns and images, by the link's clock, in milliseconds. This project's own.
use Rattle.std.specs.Prelude.{ℕ, ◌+◌, ◌-◌, ◌/◌, ◌^◌, Bool, true, false, cond, max, not, ◌&&◌, Option, Some, None, nat_eq, nat_le, nat_lt}
use Rattle.kr_link.specs.declared.leases.Lease.{Lease}
use Rattle.kr_link.specs.declared.imaging.Imaging.{Imaging}
use Rattle.kr_link.specs.declared.imaging.ImageAnswer.{ImageAnswer}
use Rattle.kr_link.specs.declared.imaging.ImageAnswer.TheVariants as answers
use Rattle.kr_link.specs.declared.campaigns.Campaign.{Campaign}
use Rattle.kr_link.specs.declared.campaigns.Campaigns.{Campaigns}

-- as much time went by since it was asked for as it is granted for
abbrev pub may_be_over : Lease → ℕ → Bool
may_be_over lease now = nat_le lease.term (now - lease.asked)

-- a quarter of the term after the last one
abbrev pub is_renewal_due : Lease → ℕ → Bool
is_renewal_due lease now = not lease.is_renewing && nat_le (lease.term / 4) (now - lease.tried)

abbrev pub tried_at : Lease → ℕ → Lease
tried_at lease now = cond (is_renewal_due lease now) (record lease { tried = now; is_renewing = true }) lease

-- a renewal that was granted counts from when it was asked for
abbrev pub granted : Lease → Bool → Lease
granted lease is_granted = record lease { asked = cond (lease.is_renewing && is_granted) lease.tried lease.asked; is_renewing = false }

-- ---- campaigns: their tokens count up, and each is answered once

abbrev pub has_token : Campaigns → Bool
has_token c = nat_lt c.next (2 ^ 64 - 1)

abbrev pub campaign_at : Campaigns → ℕ → Campaign
campaign_at c now = record { token = c.next; asked = now }

abbrev pub next_campaign : Campaigns → ℕ → Option Campaign
next_campaign c now = cond (has_token c) (Some (campaign_at c now)) None

abbrev pub begun_with : Campaigns → ℕ → Campaigns
begun_with c now = cond (has_token c) (record { next = c.next + 1; under_way = Some (campaign_at c now) }) c

abbrev pub with_token : Option Campaign → ℕ → Option Campaign
with_token None token = None
with_token (Some campaign) token = cond (nat_eq campaign.token token) (Some campaign) None

abbrev pub left_under_way : Option Campaign → ℕ → Option Campaign
left_under_way None token = None
left_under_way (Some campaign) token = cond (nat_eq campaign.token token) None (Some campaign)

abbrev pub won_with : Campaigns → ℕ → Option Campaign
won_with c token = with_token c.under_way token

abbrev pub settled_with : Campaigns → ℕ → Campaigns
settled_with c token = record c { under_way = left_under_way c.under_way token }

-- ---- images

-- none is under way, and so many places are behind the one that stands and the last one in vain; of 0 places: never
abbrev pub is_image_wanted : Imaging → ℕ → ℕ → ℕ → Bool
is_image_wanted imaging fed image places = not imaging.is_asked && nat_lt 0 places && nat_le places (fed - max image imaging.vain)

abbrev pub image_settled : Imaging → ImageAnswer → Imaging
image_settled imaging answers.Vain = record imaging { is_asked = false; vain = imaging.at }
image_settled imaging other = record imaging { is_asked = false }
