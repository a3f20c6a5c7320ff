-- What an election in mode Preferred makes of an imbalanced partition (KIP-460).
use Rattle.std.specs.Prelude.{◌≡◌, true, IsSomeAnd}
use Rattle.kr_defs.specs.declared.partition.Partition.{Partition}
use Rattle.kr_defs.specs.declared.changing.Facts.{Facts}
use Rattle.kr_defs.specs.declared.changing.Mode.TheVariants as modes
use Rattle.kr_defs.specs.Brokers.{active}
use Rattle.kr_defs.specs.Build.{built}
use Rattle.kr_defs.specs.Image.{Image}
use Rattle.kr_defs.specs.Merge.{merged}
use Rattle.kr_defs.specs.Partition.{is_well_formed}
use Rattle.kr_calls.specs.ElectLeaders.{in_mode}
use Rattle.kr_balance.specs.Plan.{is_imbalanced, preferred_leader}

-- its preferred leader leads, and its replicas are as before, so that this is still the first of them
pub record GoesBack (p after : Partition) : Type 0 where
  pub led : after.leader ≡ preferred_leader p
  pub replicas : after.replicas ≡ p.replicas

-- There is a change, and the partition goes back by it.
abbrev pub ImbalancedGoBack : Type 0
ImbalancedGoBack =
    (image : Image) (p : Partition) (facts : Facts) → facts.active ≡ active image → is_well_formed p ≡ true → is_imbalanced image p ≡ true →
    IsSomeAnd (built p (in_mode p modes.Preferred) facts) (λ change. GoesBack p (merged p change))
