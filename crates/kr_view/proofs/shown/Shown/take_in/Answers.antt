use Rattle.std.proofs.Common.{List, fold, ap, ◌∙◌}
use Rattle.kr_calls.specs.declared.seat_entry.SeatEntry.{SeatEntry}
use Rattle.kr_view.specs.Tables.{noted}
use Rattle.kr_view.proofs.Holds.{held_more}
use Rattle.kr_view.proofs.shown.Shown.take_in.Goals as goal

pub invariant_of-self-2 : goal.invariant_of-self-2
invariant_of-self-2 c =
    let table = c.note_all.ensures ∙ ap (λ (told : List SeatEntry). fold noted c.self.inside.table told) c.in_ok-told.ensures in
    held_more _ _ _ _ _ _ _ _ _ _ _ c.self.invariant c.in_ok-take_in.ensures.ok table c.stop_behind-self-inside.ensures c.loads_behind-self-inside.ensures c.and.ensures
