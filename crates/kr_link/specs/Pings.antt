-- Pings of a daemon: frames that it always refuses, and whose refusal tells how far it is. This project's own.
use Rattle.std.specs.Prelude.{ℕ, ◌+◌, ◌-◌, ◌^◌, Bool, true, false, cond, ◌&&◌, List, drop, length, min, slice_get, Option, Some, None, nat_eq, nat_le, nat_lt}
use Rattle.std.specs.Option.{option_map_or}
use Rattle.kr_link.specs.declared.pings.Ping.{Ping}

pub record Pinged : Type 0 where
  -- those that have no answer, the oldest first
  pub sent : List Ping
  -- the bytes fed behind the last one
  pub unpinged : ℕ
  -- when it last answered
  pub heard : Option ℕ

abbrev pub leads_as : Option ℕ → Option ℕ → Bool
leads_as (Some one) (Some other) = nat_eq one other
leads_as None None = true
leads_as one other = false

-- a refusal of this event, of a daemon that leads this epoch, answers the oldest
abbrev pub is_answer : List Ping → ℕ → Option ℕ → Bool
is_answer sent event led = option_map_or (λ (ping : Ping). nat_eq ping.event event && leads_as ping.led led) (slice_get sent 0) false

abbrev pub after_answer : Pinged → ℕ → Option ℕ → ℕ → Pinged
after_answer p event led now = cond (is_answer p.sent event led) (record p { sent = drop 1 p.sent; heard = Some now }) p

abbrev pub is_far_ahead : List Ping → Bool
is_far_ahead sent = nat_lt 2 (length sent)

abbrev pub silence : List Ping → ℕ → ℕ
silence sent now = option_map_or (λ (ping : Ping). now - ping.at) (slice_get sent 0) 0

-- it answered within two seconds, and no ping is older
abbrev pub is_fresh_since : Option ℕ → List Ping → ℕ → Bool
is_fresh_since None sent now = false
is_fresh_since (Some heard) sent now = nat_lt (now - heard) 2000 && nat_lt (silence sent now) 2000

abbrev pub is_fresh : Pinged → ℕ → Bool
is_fresh p now = is_fresh_since p.heard p.sent now

-- up to the greatest u64
abbrev pub fed_more : ℕ → ℕ → ℕ
fed_more unpinged bytes = min (min (unpinged + bytes) (2 ^ 64 - 1) + 1024) (2 ^ 64 - 1)

-- a mebibyte was fed behind the last one
abbrev pub is_pinged : Pinged → ℕ → Bool
is_pinged p bytes = nat_le 1048576 (fed_more p.unpinged bytes)
