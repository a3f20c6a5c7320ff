-- A stopping broker is fenced once the others have read what it led (KIP-841's controlled shutdown).
use Rattle.std.specs.Prelude.{ℤ, Bool, true, false, ◌&&◌, int_lt, int_le}
use Rattle.std.specs.Option.{option_map_or}
use Rattle.kr_defs.specs.declared.broker.Broker.{Broker}
use Rattle.kr_defs.specs.Brokers.{active, is_active}
use Rattle.kr_defs.specs.Heartbeats.{Heartbeats, lowest_offset, offset_of}
use Rattle.kr_defs.specs.Image.{Image}

-- active, and told of an offset below this one
abbrev pub lags : Heartbeats → ℤ → ℤ × Broker → Bool
lags h since e = is_active e.1 && option_map_or (λ offset. int_lt offset since) (offset_of h e.0) false

-- the least offset that active brokers told of isn't below this one
abbrev pub have_read : Heartbeats → Image → ℤ → Bool
have_read h image since = option_map_or (λ offset. int_le since offset) (lowest_offset h (active image)) true
