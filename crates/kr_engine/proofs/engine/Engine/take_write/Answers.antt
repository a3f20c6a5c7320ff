use Rattle.std.proofs.Common.{length, refl, ap}
use Rattle.kr_image.proofs.StoreStates.{on_ok_then}
use Rattle.kr_engine.proofs.RequestDecisions.{append_breaks, decided_there, image_there, stopping_below, takes_write, write_few, write_fits}
use Rattle.kr_model.specs.Engine.{Core}
use Rattle.kr_engine.proofs.Undoing.{same_breaks, whatever}
use Rattle.kr_engine.proofs.engine.Engine.take_write.Goals as goal

pub append-requires-clause-fits : goal.append-requires-clause-fits
append-requires-clause-fits g c = write_fits c.args.self.now c.decide.new.self c.args.call.now.request c.in_ok-records.field-0 c.in_ok-records.ensures.decided

pub decided_at-decided-requires : goal.decided_at-decided-requires
decided_at-decided-requires g c = record { few = write_few c.args.self.now c.decide.new.self c.args.call.now.request c.in_ok-records.field-0 c.in_ok-records.ensures.decided }

pub returns-in_err-refusal-clause-broken : goal.returns-in_err-refusal-clause-broken
returns-in_err-refusal-clause-broken g c = whatever c.from_residual.result (same_breaks c.args.self.now c.args.self.now refl)

pub returns-in_err-append-clause-broken : goal.returns-in_err-append-clause-broken
returns-in_err-append-clause-broken g c =
    whatever c.from_residual-in_err-append.result
    (append_breaks c.args.self.now c.decide.new.self c.append.new.self c.args.call.now.request c.in_ok-records.field-0 c.in_ok-records.ensures.decided c.in_err-append.ensures.begun)

pub hold_reply-requires-clause-kept : goal.hold_reply-requires-clause-kept
hold_reply-requires-clause-kept g c =
    image_there c.args.self.now c.decide.new.self c.append.new.self c.args.call.now c.in_ok-records.field-0 c.requires.ready c.look_at_images.ensures c.in_ok-records.ensures.decided c.in_ok-append.ensures.appended
    c.decided_at-decided.result c.past_basis-basis.result
    (decided_there c.decided_at-decided.result c.self-2.inside.tip c.decide.new.self.tip (length c.in_ok-records.field-0.records) c.past_basis-basis.result c.decided_at-decided.ensures (ap (λ (e : Core). e.tip) c.self-2.view_is))

pub hold_reply-requires-clause-among : goal.hold_reply-requires-clause-among
hold_reply-requires-clause-among g c =
    stopping_below c.args.self.now c.decide.new.self c.append.new.self c.args.call.now c.in_ok-records.field-0 c.requires.ready c.look_at_images.ensures c.in_ok-records.ensures.decided c.in_ok-append.ensures.appended
    c.decided_at-decided.result c.past_basis-basis.result
    (decided_there c.decided_at-decided.result c.self-2.inside.tip c.decide.new.self.tip (length c.in_ok-records.field-0.records) c.past_basis-basis.result c.decided_at-decided.ensures (ap (λ (e : Core). e.tip) c.self-2.view_is))

pub returns-clause-taken : goal.returns-clause-taken
returns-clause-taken g c =
    on_ok_then _ _ c.hold_reply.result
    (takes_write c.args.self.now c.decide.new.self c.append.new.self c.hold_reply.new.self c.args.client.now c.args.call.now c.in_ok-records.field-0 c.in_ok-refusal.refusal c.requires.ready c.look_at_images.ensures c.in_ok-records.ensures.decided
    c.in_ok-append.ensures.appended c.decided_at-decided.result c.past_basis-basis.result c.in_ok-refusal.ensures c.past_basis-basis.ensures
    (decided_there c.decided_at-decided.result c.self-2.inside.tip c.decide.new.self.tip (length c.in_ok-records.field-0.records) c.past_basis-basis.result c.decided_at-decided.ensures (ap (λ (e : Core). e.tip) c.self-2.view_is)))
    c.hold_reply.ensures.held
