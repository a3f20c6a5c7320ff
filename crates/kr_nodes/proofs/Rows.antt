-- Rows of the table of moves whose event is always taken.
use Rattle.std.proofs.Common.{◌≡◌, ℕ, ℤ, false, List, [], refl}
use Rattle.std.specs.Prelude.{FitsSigned, Ok, Err, Result, Some}
use Rattle.std.specs.Int.{w64}
use Rattle.std.specs.List.{slice_get}
use Rattle.kr_calls.specs.declared.events.Event.TheVariants as events
use Rattle.kr_calls.specs.declared.events.Reason.{Reason}
use Rattle.kr_defs.specs.declared.options.Options.{Options}
use Rattle.kr_defs.specs.declared.record.Item.{Item}
use Rattle.kr_model.specs.Events.{at_time_of, outcome}
use Rattle.kr_model.specs.Outputs.{if_accepted}
use Rattle.kr_model.specs.World.{State}
use Rattle.law_nodes.specs.Moves.{with_event}
use Rattle.law_nodes.specs.Nodes.{Run, RunNode}
use Rattle.law_nodes.proofs.Steady.{max_fits}
use Rattle.kr_nodes.specs.declared.node.Node.{Node}
use Rattle.kr_nodes.specs.declared.shared.Shared.{Shared}
use Rattle.kr_nodes.specs.inner.Acting.{IsReached, LeavesRun, tick_outcome}
use Rattle.kr_nodes.specs.inner.Taking.{NodeTakes}
use Rattle.kr_nodes.specs.Standing.{StandsForNode, StandsForShared}
use Rattle.kr_nodes.proofs.Moved.{event_leaves}
use Rattle.kr_nodes.proofs.ReadMoves.{reads_back}
use Rattle.kr_nodes.proofs.Takings.{taken_of}

none_new : (q : Result State Reason) → [] ≡ if_accepted {X = List Item} q []
none_new (Ok after) = refl
none_new (Err reason) = refl

module _ (options : Options) (r : Run) (k : ℕ) (n : RunNode) (before after : Node) (shared shared' : Shared) (is : slice_get r.nodes k ≡ Some n) (s : StandsForNode options r.list n before) (g : StandsForShared r shared)
    (same : shared' ≡ record shared { told = shared'.told }) where
  pub tick_row : (now : ℤ) → IsReached options r → FitsSigned w64 now → NodeTakes k before after false shared.told.items shared'.told.items (events.Tick now)
      → (next : Run) × (tick_outcome options r k n now ≡ Ok next) × LeavesRun options r next k after shared'
  tick_row now reached fits t =
      let event = events.Tick now in
      let late = max_fits n.state.basis.time now s.time fits in
      let q = outcome options (at_time_of n.state event) event in (
        with_event options r k n event,
        refl,
        event_leaves options r k n event before after false shared shared' t s g (none_new q)
            (reads_back options r k n event before after false shared.told.items shared'.told.items t (taken_of options r.list n before s) reached is late q refl) late tt same,
      )

  pub image_row : NodeTakes k before after false shared.told.items shared'.told.items events.Image → LeavesRun options r (with_event options r k n events.Image) k after shared'
  image_row t = event_leaves options r k n events.Image before after false shared shared' t s g refl tt s.time tt same
