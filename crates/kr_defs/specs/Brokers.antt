-- The brokers of an image by what they may do (KIP-631; KIP-841 for stopping brokers).
use Rattle.std.specs.Prelude.{ℤ, Bool, not, ◌&&◌, List, map, filter}
use Rattle.kr_defs.specs.declared.broker.Broker.{Broker}
use Rattle.kr_defs.specs.Image.{Image}

-- neither fenced nor stopping
abbrev pub is_active : Broker → Bool
is_active state = not state.fenced && not state.stopping

-- unfenced, and told to stop
abbrev pub is_stopping : Broker → Bool
is_stopping state = not state.fenced && state.stopping

-- of these brokers the active ones
abbrev pub active_of : List (ℤ × Broker) → List ℤ
active_of brokers = map (λ e. e.0) (filter (λ e. is_active e.1) brokers)

-- the active brokers, by id
abbrev pub active : Image → List ℤ
active image = active_of image.brokers

-- the unfenced brokers, by id
abbrev pub unfenced : Image → List ℤ
unfenced image = map (λ e. e.0) (filter (λ e. not e.1.fenced) image.brokers)

-- the stopping brokers, by id
abbrev pub stopping : Image → List ℤ
stopping image = map (λ e. e.0) (filter (λ e. is_stopping e.1) image.brokers)
