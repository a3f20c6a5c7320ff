-- For which states a controller stands that balances an image.
use Rattle.std.specs.Prelude.{◌≡◌, ◌≤ℤ◌, ℤ, pos, unsigned_abs, false, List, [], Some}
use Rattle.kr_calls.specs.declared.events.Event.{Event}
use Rattle.kr_defs.specs.Image.{Image}
use Rattle.kr_store.specs.Images.{kept_at}
use Rattle.kr_model.specs.declared.writes.Write.{Write}
use Rattle.kr_model.specs.Engine.{Core, IsEngine, IsSound, outputs_left}
use Rattle.kr_model.specs.Events.{happens}
use Rattle.kr_model.specs.Outputs.{waiting_after}
use Rattle.kr_model.specs.World.{State, is_far}
use Rattle.kr_leaders.specs.Balance as balance

-- ready for the next event
pub record IsAtRest (e : Core) : Type 0 where
  pub sound : IsSound e
  pub drained : outputs_left e ≡ []

-- All outputs were handed out.
pub record IsDrained (before after : Core) : Type 0 where
  pub idle : IsAtRest after
  pub options : after.options ≡ before.options
  pub stands : (s : State) (writes : List Write) → IsEngine before s writes → IsEngine after s writes

-- The event happened, and its outputs were handed out.
pub record IsAfterEvent (before after : Core) (event : Event) : Type 0 where
  pub idle : IsAtRest after
  pub options : after.options ≡ before.options
  pub stands : (s : State) (writes : List Write) → IsEngine before s writes → IsEngine after (happens before.options s event) (waiting_after before.options s writes event)

-- a leader of the first epoch that began at this offset, on this image
abbrev pub leader : ℤ → Image → State
leader offset image = record {
  world = record {
    log = record { offset = unsigned_abs offset; image = image; items = [] };
    committed = unsigned_abs offset;
    covered = [];
    batch_ends = [];
    leading = Some (pos 1);
    greatest = pos 1;
    count = 2;
  };
  basis = balance.first_basis offset image;
}

-- the controller of a balance that stands for this leader
pub record LeadsOn (e : Core) (offset : ℤ) (image : Image) : Type 0 where
  pub idle : IsAtRest e
  pub options : e.options ≡ balance.balance_options
  pub natural : pos 0 ≤ℤ offset
  pub near : is_far offset ≡ false
  pub writes : List Write
  pub stands : IsEngine e (leader offset image) writes

-- for some
pub record IsLeader (e : Core) : Type 0 where
  pub offset : ℤ
  pub image : Image
  pub leads : LeadsOn e offset image

-- the log is committed up to this place, no transaction is open there, and the image is this one
pub record Commits (e : Core) (end : ℤ) (image : Image) : Type 0 where
  pub closed : e.closed ≡ end
  pub kept : kept_at e.images end ≡ Some image
