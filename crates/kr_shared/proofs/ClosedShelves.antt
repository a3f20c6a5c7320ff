-- No transaction is open in what is published.
use Rattle.kr_calls.specs.SeatList.{IsClosedList}
use Rattle.kr_model.specs.World.{World, closed_of, seen_state}
use Rattle.kr_model.proofs.KeptImages.{state_below}
use Rattle.kr_model.proofs.Logs.{closed_end_closed}
use Rattle.law_published_log.proofs.Shown.{shown_lists_are_closed}
use Rattle.kr_shared.specs.Standing.{StandsForSome}
use Rattle.kr_shared.specs.Works.{DeskView}

pub list_closed : (w : DeskView) → StandsForSome w → IsClosedList w.shelf.list
list_closed w k =
    let world : World = k.state.world in
    shown_lists_are_closed world.log (closed_of world) w.shelf.list
    (closed_end_closed world.log world.committed (seen_state world.log world.committed) (state_below world.log world.committed w.engine.images.tip k.stands.engine.present)) k.stands.shows
