-- For which rounds a driver stands.
use Rattle.std.specs.Prelude.{◌≡◌, ◌+◌, ◌≤◌, ℕ, negsuc, List, [], ◌∷◌, ◌++◌, Bool, false, true, not, is_ok, if◌then◌else◌}
use Rattle.std.specs.Ordering.{int_eq}
use Rattle.kr_defs.specs.declared.options.Options.{Options}
use Rattle.kr_drive.specs.declared.driving.Driver.{Driver}
use Rattle.kr_drive.specs.Driving.{Driven}
use Rattle.kr_nodes.specs.declared.told.ToldReply.{ToldReply}
use Rattle.kr_nodes.specs.Standing.{IsReadyCluster, StandsForMoves}
use Rattle.kr_workload.specs.Session.{options}
use Rattle.law_nodes.specs.declared.moves.Move.{Move}
use Rattle.law_nodes.specs.Moves.{move_outcome, run}

abbrev pub stands : ToldReply → Bool
stands t = not (int_eq t.place (negsuc 0))

abbrev pub counted : ℕ → ToldReply → ℕ
counted count t = if stands t then count + 1 else count

pub record HasDriven (seed rounds : ℕ) (d : Driven) (driver : Driver) : Type 0 where
  pub cluster : StandsForMoves (options seed) 3 d.past driver.cluster
  pub made : driver.made ≡ d.made
  pub drawn : driver.drawn ≡ d.drawn

-- a round more may come
pub record MayDrive (rounds : ℕ) (driver : Driver) : Type 0 where
  pub ready : IsReadyCluster driver.cluster
  pub running : driver.cluster.spent ≡ false
  pub few : driver.made ≤ rounds

pub record DrivesMove (turn : Move) (before after : Driver) : Type 0 where
  pub stands : (options : Options) (nodes : ℕ) (past : List Move) → StandsForMoves options nodes past before.cluster
      → StandsForMoves options nodes (past ++ turn ∷ []) after.cluster
      × (after.made ≡ before.made + (if is_ok (move_outcome options (run options nodes past) turn) then 1 else 0))
  pub ready : IsReadyCluster after.cluster
  pub running : after.cluster.spent ≡ false
  pub few : after.made ≤ before.made + 1
  pub drawn : after.drawn ≡ before.drawn
