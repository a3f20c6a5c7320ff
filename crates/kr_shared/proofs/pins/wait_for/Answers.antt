use Rattle.std.proofs.Common.{ℕ, subst}
use Rattle.kr_calls.specs.declared.seat_entry.SeatEntry.{SeatEntry}
use Rattle.kr_view.specs.declared.looks.Look.TheVariants as looks
use Rattle.kr_view.specs.declared.rule.ThreadView.{ThreadView}
use Rattle.kr_view.specs.Looks.{LookTells}
use Rattle.kr_shared.proofs.PinnedPlaces.{place_ok}
use Rattle.kr_shared.proofs.pins.wait_for.Goals as goal

pub returns-in-Some-end_of_place-clause-ok : goal.returns-in-Some-end_of_place-clause-ok
returns-in-Some-end_of_place-clause-ok g c =
    let seen : ThreadView = c.look.new.self.seen in
    let entry : SeatEntry = c.in-Ok-Found.entry in
    let found = rw c.in-Ok-Found.field-0-is at c.in-Ok-Found.ensures.found in
    let told : LookTells seen.options c.args.reader.now.number c.args.ticket seen.list (looks.Found entry) =
    subst (λ (n : ℕ). LookTells seen.options n c.args.ticket seen.list (looks.Found entry)) c.loop.invariant.same found.1 in
    place_ok seen c.args.reader.now.number c.args.ticket c.args.floor.now entry c.args.wanted.now c.in-Some-end_of_place.end told c.in-Some-end_of_place.ensures
