use Rattle.std.proofs.Common.{◌≡◌, drop, fold}
use Rattle.kr_store.specs.Images.{tip_state}
use Rattle.kr_calls.specs.SeatList.{Reached}
use Rattle.kr_view.specs.Standing.{ComesTo, KeepsMore, run_with}
use Rattle.kr_view.proofs.standing.apply_run.Given as goal

abbrev pub invariant-loop-entry : goal.invariant-loop-entry
invariant-loop-entry g l =
    let now : Reached = record { state = tip_state l.store; end = l.at } in
    let first : Reached = record { state = tip_state l.fn.store; end = l.end } in
    record {
      left : fold run_with now (drop l.entry-index l.entries) ≡ fold run_with first l.entries;
      comes : ComesTo l.fn.store l.store l.end l.at;
      kept : KeepsMore l.fn.store l.store;
    }
