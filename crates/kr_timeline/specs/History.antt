-- What a contract sees of a timeline.
use Rattle.std.specs.Prelude.{ℕ, ℤ, Bool, List, refl}
use Rattle.std.specs.Coded.{Coded, code_by, coded×, coded_bool, coded_ℕ, coded_ℤ, coded_list}
use Rattle.kr_defs.specs.KeptMaps.{Kept, KeptMaps}

pub record History (K V : Type 0) : Type 0 where
  pub maps : KeptMaps K V
  -- the next mark is sure to find memory
  pub has_room : Bool

abbrev pub kept_code : {K V : Type 0} → Coded K → Coded V → Coded (Kept K V)
kept_code {K} {V} k v = code_by (ℤ × (List (K × V) × ℕ)) (coded× coded_ℤ (coded× (coded_list (coded× k v)) coded_ℕ)) (λ e. (e.epoch, (e.map, e.made))) (λ p. record { epoch = p.0; map = p.1.0; made = p.1.1 }) (λ _. refl)

abbrev pub kept_maps_code : {K V : Type 0} → Coded K → Coded V → Coded (KeptMaps K V)
kept_maps_code {K} {V} k v = code_by (List (Kept K V) × (List (K × V) × ℕ)) (coded× (coded_list (kept_code k v)) (coded× (coded_list (coded× k v)) coded_ℕ)) (λ m. (m.kept, (m.present, m.made))) (λ p. record { kept = p.0; present = p.1.0; made = p.1.1 }) (λ _. refl)

abbrev pub history_code : {K V : Type 0} → Coded K → Coded V → Coded (History K V)
history_code {K} {V} k v = code_by (KeptMaps K V × Bool) (coded× (kept_maps_code k v) coded_bool) (λ h. (h.maps, h.has_room)) (λ p. record { maps = p.0; has_room = p.1 }) (λ _. refl)
