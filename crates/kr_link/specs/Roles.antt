-- What a link holds of the leadership, as `law_core` has it.
use Rattle.std.specs.Prelude.{ℕ, Bool, true, false, not, ◌&&◌, nat_eq, nat_lt, Option, Some, None}
use Rattle.std.specs.Option.{option_map_or}
use Rattle.law_quorum.specs.Batches.{Batch, StoredImage}
use Rattle.law_link.specs.Links.{Held as AnyHeld}
use Rattle.law_core.specs.Core.{Role as AnyRole, end_of}
use Rattle.law_core.specs.Core as laws
use Rattle.kr_link.specs.Groups.{first_base_of}
use Rattle.kr_link.specs.declared.roles.Held.{Held}
use Rattle.kr_link.specs.declared.roles.LinkRole.{LinkRole}
use Rattle.kr_link.specs.declared.roles.LinkRole.TheVariants as variants

abbrev pub held_of : Held → AnyHeld
held_of h = record { epoch = h.epoch; made = h.made; start = h.start }

abbrev pub law_role : LinkRole → AnyRole
law_role variants.Standby = laws.Standby
law_role (variants.Elected h) = laws.Elected (held_of h)
law_role (variants.Leading l) = laws.Leading (held_of l.held) l.asked l.waits

abbrev pub is_leading : AnyRole → Bool
is_leading (laws.Leading h asked waits) = true
is_leading other = false

abbrev pub has_leadership : AnyRole → Bool
has_leadership laws.Standby = false
has_leadership other = true

abbrev pub held_in : LinkRole → Option Held
held_in variants.Standby = None
held_in (variants.Elected h) = Some h
held_in (variants.Leading l) = Some l.held

-- the append under way is of the leadership whose key was made at a revision, from the place on
abbrev pub awaits_append : ℕ → ℕ → AnyRole → Bool
awaits_append made base (laws.Leading h asked waits) = option_map_or (λ (first : ℕ). nat_eq h.made made && nat_eq first base) (first_base_of asked) false
awaits_append made base other = false

-- the revision at which the key of the leadership that is held was made
abbrev pub revision_held : AnyRole → Option ℕ
revision_held laws.Standby = None
revision_held (laws.Elected h) = Some h.made
revision_held (laws.Leading h asked waits) = Some h.made

abbrev pub is_made_at : ℕ → AnyRole → Bool
is_made_at made laws.Standby = false
is_made_at made (laws.Elected h) = nat_eq h.made made
is_made_at made (laws.Leading h asked waits) = nat_eq h.made made

-- that its daemon leads
abbrev pub epoch_led : AnyRole → Option ℕ
epoch_led (laws.Leading h asked waits) = Some h.epoch
epoch_led other = None

-- a batch of the leadership doesn't begin where the last of them ends
abbrev pub is_misplaced : ℕ → AnyRole → Batch → Bool
is_misplaced fed (laws.Leading h asked waits) b = nat_eq b.epoch h.epoch && not (nat_eq b.base (end_of (end_of fed asked) waits))
is_misplaced fed other b = false

-- its daemon doesn't lead, and was handed the log up to where the batch begins; or less of it than the image stands for
abbrev pub is_batch_next : ℕ → AnyRole → Batch → Bool
is_batch_next fed role b = not (is_leading role) && nat_eq b.base fed

abbrev pub is_image_next : ℕ → AnyRole → StoredImage → Bool
is_image_next fed role image = not (is_leading role) && nat_lt fed image.offset
