-- One round of the balancer on an image that stands alone (this project's own): a controller that begins to lead at the image's
-- offset, at time 0, elects what is planned.
use Rattle.std.specs.Prelude.{ℕ, ℤ, pos, ◌+ℤ◌, List, length, codes}
use Rattle.kr_calls.specs.declared.calls.Request.TheVariants as requests
use Rattle.kr_calls.specs.Decide.{Decision, decide}
use Rattle.kr_defs.specs.declared.basis.Basis.{Basis}
use Rattle.kr_defs.specs.declared.options.Options.{Options}
use Rattle.kr_defs.specs.Brokers.{stopping, unfenced}
use Rattle.kr_defs.specs.Heartbeats.{begin}
use Rattle.kr_defs.specs.Image.{Image}
use Rattle.kr_snapshot.specs.ImageText.{image_text}
use Rattle.kr_model.specs.World.{start, with_heartbeats}
use Rattle.kr_balance.specs.Plan.{plan}
use Rattle.law_balance.specs.Election.{preferred_election}

-- The greatest minimum of in-sync replicas: where no setting says otherwise, an election keeps eligible and last known lists.
abbrev pub balance_options : Options
balance_options = record {
  node = pos 1;
  salt = 0;
  session_ms = 9000;
  partitions = pos 1;
  factor = pos 3;
  minimum = pos 2147483647;
  cluster = codes "make";
}

-- what a leader rests on that begins at this place: the unfenced brokers count as heard of
abbrev pub first_basis : ℤ → Image → Basis
first_basis place image = record (with_heartbeats start.basis (begin (unfenced image) (stopping image) (pos 0) place)) { led = place }

-- what the election of all that is planned gives
abbrev pub round : ℕ → ℤ → Image → Decision
round percent offset image =
    decide balance_options image (first_basis offset image) offset (requests.ElectLeaders (preferred_election (plan image percent)))

-- the bytes of the image behind it, at the offset behind its records
abbrev pub balanced_text : ℕ → ℤ → Image → List ℕ
balanced_text percent offset image = image_text (offset +ℤ pos (length (round percent offset image).records)) (round percent offset image).image
